-- Tickets, key exchanges and next protocol negotiation.
use Rattle.std.specs.Prelude.{ℕ, ◌-◌, nat_le}
use Rattle.layouts.specs.Bytes.{Bytes}
use Rattle.layouts.specs.Layout.{Layout, done, number, block, ◌>>=◌, ◌>>◌, test, counted}
use Rattle.layouts.specs.declared.result.ErrorKind.TheVariants.{Verify}
use Rattle.tls_hs.specs.declared.session.TlsNewSessionTicketContent.{TlsNewSessionTicketContent}
use Rattle.tls_hs.specs.declared.session.TlsClientKeyExchangeContents.{TlsClientKeyExchangeContents}
use Rattle.tls_hs.specs.declared.session.TlsClientKeyExchangeContents.TheVariants as client_key_exchange_contents
use Rattle.tls_hs.specs.declared.session.TlsNextProtocolContent.{TlsNextProtocolContent}

-- The value of a NewSessionTicket (RFC 5077, section 3.3). Its ticket is all bytes after the hint,
-- and begins with its own 2 bytes of length.
pub record NewSessionTicket : Type 0 where
  pub ticket_lifetime_hint : ℕ
  pub ticket : Bytes

abbrev pub view_new_session_ticket : TlsNewSessionTicketContent → NewSessionTicket
view_new_session_ticket t =
    record { ticket_lifetime_hint = t.ticket_lifetime_hint; ticket = t.ticket.now }

-- The body of a NewSessionTicket of this length in bytes.
unfoldable pub new_session_ticket : ℕ → Layout NewSessionTicket
new_session_ticket length = do
  test (nat_le 4 length) Verify
  hint ← number 4
  ticket ← block (length - 4)
  done (record { ticket_lifetime_hint = hint; ticket = ticket })

-- The value of a ClientKeyExchange (RFC 5246, section 7.4.7). Its bytes don't reveal its form, so
-- the parser returns `Unknown`.
pub data ClientKeyExchange : Type 0 where
  Dh : Bytes → ClientKeyExchange
  Ecdh : Bytes → ClientKeyExchange
  Unknown : Bytes → ClientKeyExchange

abbrev pub view_client_key_exchange : TlsClientKeyExchangeContents → ClientKeyExchange
view_client_key_exchange (client_key_exchange_contents.Dh b) = Dh b.now
view_client_key_exchange (client_key_exchange_contents.Ecdh p) = Ecdh p.point.now
view_client_key_exchange (client_key_exchange_contents.Unknown b) = Unknown b.now

-- The value of a NextProtocol (draft-agl-tls-nextprotoneg-04, section 3).
pub record NextProtocol : Type 0 where
  pub selected_protocol : Bytes
  pub padding : Bytes

abbrev pub view_next_protocol : TlsNextProtocolContent → NextProtocol
view_next_protocol p =
    record { selected_protocol = p.selected_protocol.now; padding = p.padding.now }

-- The body of a NextProtocol.
unfoldable pub next_protocol : Layout NextProtocol
next_protocol = do
  selected_protocol ← counted 1
  padding ← counted 1
  done (record { selected_protocol = selected_protocol; padding = padding })
