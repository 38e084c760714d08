-- A ClientHello in the form of SSL 2.0, with which a client may also begin SSL 3.0 and TLS:
-- V2ClientHello (RFC 5246, appendix E.2; RFC 6101, appendix E), CLIENT-HELLO (Hickman, The SSL
-- Protocol, 1995).
use Rattle.std.specs.Prelude.{ℕ, ◌+◌, ◌*◌, ◌<◌, ◌≤◌, List, length}
use Rattle.layouts.specs.Bytes.{Bytes}
use Rattle.layouts.specs.Layout.{Layout, done, number, block, window, list, complete, ◌>>=◌}
use Rattle.layouts.specs.Items.{items_in}
use Rattle.ssl2_hello.specs.Front.{record_length, fixed_fields}
use Rattle.ssl2_hello.specs.declared.client_hello.Ssl2ClientHello.{Ssl2ClientHello}

-- A hello, wherever it lies in memory.
pub record ClientHello : Type 0 where
  pub version : ℕ
  pub cipher_specs : List ℕ
  pub session_id : Bytes
  pub challenge : Bytes

abbrev pub view_client_hello : Ssl2ClientHello → ClientHello
view_client_hello h = record {
  version = h.version.0;
  cipher_specs = items_in (number 3) h.cipher_specs.bytes.now;
  session_id = h.session_id.now;
  challenge = h.challenge.now;
}

-- The message, in a record of n bytes.
unfoldable pub message : ℕ → Layout ClientHello
message n = do
  f ← fixed_fields n
  specs ← window f.cipher_spec_length (list (number 3))
  id ← block f.session_id_length
  challenge ← block f.challenge_length
  done (record {
    version = f.version;
    cipher_specs = specs;
    session_id = id;
    challenge =
        challenge;
  })

-- The message in its record, which it must fill; a shorter record is refused, not Incomplete.
unfoldable pub client_hello : Layout ClientHello
client_hello = do
  n ← record_length
  window n (complete (message n))

-- Its length: 2 bytes of header, 9 of the other fixed-size fields, and its parts.
abbrev pub hello_length : ClientHello → ℕ
hello_length h = 11 + 3 * length h.cipher_specs + length h.session_id + length h.challenge

-- The allowed lengths of the parts.
pub record HasAllowedLengths (h : ClientHello) : Type 0 where
  pub cipher_specs : 0 < length h.cipher_specs
  pub session_id : length h.session_id ≤ 32
  pub challenge_least : 16 ≤ length h.challenge
  pub challenge_most : length h.challenge ≤ 32
