-- How a handshake ended.
use Rattle.std.specs.Prelude.{ℕ, ◌+◌, ◌==◌, ◌||◌, ◌&&◌, not, nat_le, Bool, true, false, if◌then◌else◌, Option, Some, None}
use Rattle.tls_flow.specs.Table.{is_waiting}
use Rattle.tls_flow.specs.declared.state.Outcome.{Outcome}
use Rattle.tls_flow.specs.declared.state.Outcome.TheVariants as outcome
use Rattle.tls_flow.specs.declared.symbol.Direction.{Direction as Side}
use Rattle.tls_flow.specs.declared.symbol.Direction.TheVariants.{ToServer, FromServer}
use Rattle.tls_summary.specs.HandshakeSummary.{HandshakeSummary}
use Rattle.tls_summary.specs.Fields.{cipher, has_session}

-- The visible part of the handshake is complete: in TLS 1.3 it ends with the ServerHello.
abbrev pub is_complete : Outcome → Bool
is_complete outcome.Full = true
is_complete outcome.Resumed = true
is_complete (outcome.Tls13 retried early) = true
is_complete _ = false

-- TLS 1.3 or DTLS 1.3 was negotiated.
abbrev pub is_13 : Outcome → Bool
is_13 (outcome.Tls13 retried early) = true
is_13 _ = false

-- The bytes of a suite's hash (RFC 8446, appendix B.4): SHA-384, or one of 32 bytes.
abbrev pub hash_length : ℕ → ℕ
hash_length n = if n == 0x1302 || n == 0xc0b5 then 48 else 32

-- The bytes that a suite's AEAD adds: CCM_8 (RFC 6655, section 4) and MAGMA_MGM (RFC 9367, section
-- 4.1) add 8, the suites without encryption their whole HMAC (RFC 9150, section 5), others 16.
abbrev pub tag_length : ℕ → ℕ
tag_length n =
    if n == 0x1305 || n == 0xc104 || n == 0xc106 then 8
    else if n == 0xc0b4 then 32
    else if n == 0xc0b5 then 48
    else 16

-- The bytes of the shortest encrypted record with a whole Finished (RFC 8446, sections 4.4.4 and
-- 5.2): the message's header, of 4 bytes or in DTLS of 12, verify_data, which has the length of the
-- hash, the content type and the tag.
abbrev pub finished_length : ℕ → ℕ → ℕ
finished_length header n = header + hash_length n + 1 + tag_length n

abbrev pub can_be_finished : ℕ → Option ℕ → ℕ → Bool
can_be_finished header None longest = false
can_be_finished header (Some n) longest = nat_le (finished_length header n) longest

-- The longest encrypted record that the client sent in answer to the ServerHello can hold its
-- Finished. An alert or an empty Certificate can't: without padding they have 19 and 25 bytes.
abbrev pub has_finished : ℕ → HandshakeSummary → ℕ → Bool
has_finished header f longest = can_be_finished header (cipher f) longest

-- The handshake is complete. In TLS 1.3 the client's Finished ends it, which is encrypted: so there
-- the client has sent a record that can hold it.
abbrev pub is_established : Outcome → Bool → Bool
is_established outcome.Full finished = true
is_established outcome.Resumed finished = true
is_established (outcome.Tls13 retried early) finished = finished
is_established _ finished = false

-- A side's further records matter: the handshake goes on, or the client's Finished is to come.
abbrev pub awaits : Side → Outcome → Bool → Bool
awaits ToServer o finished = is_waiting o || (is_13 o && not finished)
awaits FromServer o finished = is_waiting o

-- A session was resumed by an abbreviated handshake (RFC 5246, section 7.3), or in TLS 1.3 the
-- ServerHello's pre_shared_key accepted a key (RFC 8446, section 4.2.11).
abbrev pub is_resumed : Outcome → HandshakeSummary → Bool
is_resumed outcome.Resumed f = true
is_resumed (outcome.Tls13 retried early) f = has_session f
is_resumed _ f = false
