-- A message leaves both sides' hellos as they are.
use Rattle.std.proofs.Common.{◌≡◌, ℕ, ◌==◌, ◌&&◌, ◌||◌, not, List, Bool, true, false, Option, Some, None, Ok, Err, refl, sym, ◌∙◌, ap}
use Rattle.std.specs.Prelude.{if◌then◌else◌, is_some}
use Rattle.layouts.specs.Bytes.{Bytes}
use Rattle.layouts.specs.Meaning.{Answer}
use Rattle.layouts.specs.Reading.{reading}
use Rattle.tls_hs.specs.Certificate.{CertificateStatus, certificate, certificate_status}
use Rattle.tls_hs.specs.Handshake as handshakes
use Rattle.tls_hs.specs.Hello as client
use Rattle.tls_hs.specs.ServerHello as server
use Rattle.ssl2_hello.specs.ClientHello as ssl2
use Rattle.dtls_records.specs.DtlsHello as datagram
use Rattle.tls_flow.specs.Bytes.{HandshakeMessage, datagram_message, message_of}
use Rattle.tls_flow.specs.declared.symbol.Direction.{Direction as Side}
use Rattle.tls_flow.specs.declared.symbol.Direction.TheVariants.{ToServer, FromServer}
use Rattle.tls_summary.specs.Hellos.{share_group_in}
use Rattle.layouts.specs.Text.{held}
use Rattle.tls_summary.specs.HandshakeSummary.{
  HandshakeSummary,
  KeepsHellos,
  asked,
  asked_in_ssl2,
  certified,
  chosen,
  exchanged,
  exchanged_by,
  has_asked,
  has_encrypted,
  is_behind_first,
  of_alert,
  of_bytes,
  of_client_hello,
  of_datagram_client_hello,
  of_datagram_message,
  of_datagrams,
  of_draft,
  of_message,
  of_message_if,
  of_other,
  of_server_hello,
  of_ssl2,
  retried,
  stapled,
  ticketed,
  verified,
}

-- Other fields change.
beside : (s : Side) (f g : HandshakeSummary) → g.client ≡ f.client → g.server ≡ f.server
    → g.is_asked_again ≡ f.is_asked_again
    → KeepsHellos s f g
beside ToServer f g client server again = (server, λ e. (client, again))
beside FromServer f g client server again = (client, λ e. server)

pub stays : (s : Side) (f : HandshakeSummary) → KeepsHellos s f f
stays s f = beside s f f refl refl refl

if_keeps : (s : Side) (f : HandshakeSummary) (c : Bool) (x y : HandshakeSummary) → KeepsHellos s f x
    → KeepsHellos s f y
    → KeepsHellos s f (if c then x else y)
if_keeps s f true x y p q = p
if_keeps s f false x y p q = q

not_so : {b : Bool} → b ≡ false → b ≡ true → ⊥
not_so is e = let bad : false ≡ true = sym is ∙ e in cc

asked_keeps : (s : Side) (h : client.ClientHello) (f : HandshakeSummary)
    → KeepsHellos s f (asked s h f)
asked_keeps FromServer h f = stays FromServer f
asked_keeps ToServer h f = go (has_asked f) refl
  where
    next : HandshakeSummary
    next = record f {
      client = Some h;
      is_asked_again = not (is_some f.client) && f.is_asked_again;
      had_encrypted_hello = f.had_encrypted_hello || has_encrypted f.client;
      ssl2_cipher_specs = None;
    }

    go : (b : Bool) → has_asked f ≡ b → KeepsHellos ToServer f (if b then f else next)
    go true is = stays ToServer f
    go false is = (refl, λ e. absurd (not_so is e))

pub ssl2_keeps : (s : Side) (h : ssl2.ClientHello) (f : HandshakeSummary)
    → KeepsHellos s f (asked_in_ssl2 s h f)
ssl2_keeps FromServer h f = stays FromServer f
ssl2_keeps ToServer h f = go (has_asked f) refl
  where
    next : HandshakeSummary
    next = record (asked ToServer (of_ssl2 h) f) { ssl2_cipher_specs = Some h.cipher_specs }

    go : (b : Bool) → has_asked f ≡ b → KeepsHellos ToServer f (if b then f else next)
    go true is = stays ToServer f
    go false is = ((asked_keeps ToServer (of_ssl2 h) f).0, λ e. absurd (not_so is e))

retried_keeps : (s : Side) (f : HandshakeSummary) → KeepsHellos s f (retried s f)
retried_keeps ToServer f = stays ToServer f
retried_keeps FromServer f =
    if_keeps FromServer f (is_some f.server || f.is_retried) f
    (record f { is_asked_again = true; is_retried = true })
    (stays FromServer f) (refl, λ e. refl)

verified_keeps : (s : Side) (f : HandshakeSummary) → KeepsHellos s f (verified s f)
verified_keeps ToServer f = stays ToServer f
verified_keeps FromServer f =
    if_keeps FromServer f (is_some f.server) f (record f { is_asked_again = true })
    (stays FromServer f) (
      refl,
      λ e.
          refl,
    )

chosen_keeps : (s : Side) (h : server.ServerHello) (f : HandshakeSummary)
    → KeepsHellos s f (chosen s h f)
chosen_keeps ToServer h f = stays ToServer f
chosen_keeps FromServer h f = go (server.is_retry_request h) (chosen_by (is_some f.server) refl)
  where
    next : HandshakeSummary
    next = record f { server = Some h; curve = share_group_in (held h.extensions) }

    chosen_by : (b : Bool) → is_some f.server ≡ b → KeepsHellos FromServer f (if b then f else next)
    chosen_by true is = stays FromServer f
    chosen_by false is = (refl, λ e. absurd (not_so is e))

    go : (b : Bool) → KeepsHellos FromServer f (if is_some f.server then f else next)
        → KeepsHellos FromServer f
        (if b then retried FromServer f else if is_some f.server then f else next)
    go true rest = retried_keeps FromServer f
    go false rest = rest

certified_keeps : (s : Side) (a : Answer (List Bytes)) (f : HandshakeSummary)
    → KeepsHellos s f (certified s a f)
certified_keeps ToServer (Ok x) f = (refl, λ e. (refl, refl))
certified_keeps FromServer (Ok x) f = (refl, λ e. refl)
certified_keeps ToServer (Err e) f = stays ToServer f
certified_keeps FromServer (Err e) f = stays FromServer f

exchanged_keeps : (s : Side) (b : Bytes) (f : HandshakeSummary) → KeepsHellos s f (exchanged b f)
exchanged_keeps s b f = go f.server
  where
    go : (h : Option server.ServerHello) → KeepsHellos s f (exchanged_by h b f)
    go None = stays s f
    go (Some h) = beside s f (exchanged_by (Some h) b f) refl refl refl

ticketed_keeps : (s : Side) (b : Bytes) (f : HandshakeSummary) → KeepsHellos s f (ticketed s b f)
ticketed_keeps ToServer b f = beside ToServer f (ticketed ToServer b f) refl refl refl
ticketed_keeps FromServer b f = beside FromServer f (ticketed FromServer b f) refl refl refl

stapled_keeps : (s : Side) (a : Answer CertificateStatus) (f : HandshakeSummary)
    → KeepsHellos s f (stapled s a f)
stapled_keeps ToServer a f = beside ToServer f (stapled ToServer a f) refl refl refl
stapled_keeps FromServer a f = beside FromServer f (stapled FromServer a f) refl refl refl

other_keeps : (s : Side) (n : ℕ) (b : Bytes) (f : HandshakeSummary)
    → KeepsHellos s f (of_other s n b f)
other_keeps s n b f =
    if_keeps s f (n == 4) _ _ (ticketed_keeps s b f)
    (if_keeps s f (n == 6) _ _ (retried_keeps s f)
    (if_keeps s f (n == 11) _ _ (certified_keeps s (reading certificate b) f)
    (if_keeps s f (n == 12) _ _ (exchanged_keeps s b f)
    (if_keeps s f (n == 13) _ _
    (beside s f (record f { requests_certificate = true }) refl refl refl)
    (if_keeps s f (n == 22) _ _ (stapled_keeps s (reading certificate_status b) f)
    (stays s f))))))

client_hello_keeps : (s : Side) (a : Answer client.ClientHello) (f : HandshakeSummary)
    → KeepsHellos s f (of_client_hello s a f)
client_hello_keeps s (Ok x) f = asked_keeps s x.0 f
client_hello_keeps s (Err e) f = stays s f

server_hello_keeps : (s : Side) (h : Option handshakes.Handshake) (f : HandshakeSummary)
    → KeepsHellos s f (of_server_hello s h f)
server_hello_keeps s (Some (handshakes.ServerHello h)) f = chosen_keeps s h f
server_hello_keeps s (Some (handshakes.ServerHelloV13Draft18 h)) f = chosen_keeps s (of_draft h) f
server_hello_keeps s _ f = stays s f

message_keeps : (s : Side) (m : HandshakeMessage) (f : HandshakeSummary)
    → KeepsHellos s f (of_message s m f)
message_keeps s m f =
    if_keeps s f (m.msg_type == 1) _ _ (client_hello_keeps s (reading client.client_hello m.body) f)
    (if_keeps s f (m.msg_type == 2) _ _ (server_hello_keeps s m.server_hello f)
    (other_keeps s m.msg_type m.body f))

pub bytes_keep : (s : Side) (b : Bytes) (f : HandshakeSummary) → KeepsHellos s f (of_bytes s b f)
bytes_keep s b f = go (message_of b)
  where
    go : (m : Option HandshakeMessage) → KeepsHellos s f (of_message_if s m f)
    go (Some m) = message_keeps s m f
    go None = stays s f

datagram_client_hello_keeps : (s : Side) (a : Answer datagram.ClientHello) (f : HandshakeSummary)
    → KeepsHellos s f (of_datagram_client_hello s a f)
datagram_client_hello_keeps s (Ok x) f =
    if_keeps s f (is_behind_first x.1 f) f (asked s x.0.hello f) (stays s f)
    (asked_keeps s x.0.hello f)
datagram_client_hello_keeps s (Err e) f = stays s f

datagrams_keep : (s : Side) (m : HandshakeMessage) (f : HandshakeSummary)
    → KeepsHellos s f (of_datagrams s m f)
datagrams_keep s m f =
    if_keeps s f (m.msg_type == 1) _ _
    (datagram_client_hello_keeps s (reading datagram.client_hello m.body) f)
    (if_keeps s f (m.msg_type == 2) _ _ (server_hello_keeps s m.server_hello f)
    (if_keeps s f (m.msg_type == 3) _ _ (verified_keeps s f) (other_keeps s m.msg_type m.body f)))

pub datagram_message_keeps : (s : Side) (n : ℕ) (b : Bytes) (f : HandshakeSummary)
    → KeepsHellos s f (of_datagram_message s n b f)
datagram_message_keeps s n b f = datagrams_keep s (datagram_message n b) f

pub alert_keeps : (s : Side) (n : ℕ) (f : HandshakeSummary) → KeepsHellos s f (of_alert n f)
alert_keeps s n f = beside s f (of_alert n f) refl refl refl

-- Two steps in a row.
pub keeps_on : (s : Side) (f g h : HandshakeSummary) → KeepsHellos s f g → KeepsHellos s g h
    → KeepsHellos s f h
keeps_on ToServer f g h first last = (
  last.0 ∙ first.0,
  λ e.
      let one = first.1 e in
      let still : has_asked g ≡ true = ap (λ c. is_some c && not g.is_asked_again) one.0
      ∙ ap (λ b. is_some f.client && not b) one.1 ∙ e in
      let two = last.1 still in
      (two.0 ∙ one.0, two.1 ∙ one.1),
)
keeps_on FromServer f g h first last = (
  last.0 ∙ first.0,
  λ e. let one = first.1 e in
      last.1 (ap is_some one ∙ e) ∙ one,
)
