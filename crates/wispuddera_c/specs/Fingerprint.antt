-- Fingerprints in a buffer of the caller's.
use Rattle.std.specs.Prelude.{◌≡◌, ℕ, ◌≤◌, ◌<◌, ◌++◌, length, drop, Ok, Err}
use Rattle.layouts.specs.Bytes.{Bytes}
use Rattle.layouts.specs.Meaning.{Answer}
use Rattle.layouts.specs.Text.{held}
use Rattle.tls_fingerprints.specs.Hellos.{Client, Server}
use Rattle.tls_hs.specs.Hello.{ClientHello}
use Rattle.tls_hs.specs.ServerHello.{ServerHello}
use Rattle.wispuddera_c.specs.Status.{IsRefused, no_room}

-- The fields that fingerprints use.
abbrev pub client_of : ClientHello → Client
client_of h =
    record { version = h.client_version; suites = h.cipher_suites; extensions = held h.extensions }

abbrev pub server_of : ServerHello → Server
server_of h =
    record { version = h.server_version; suite = h.cipher_suite; extensions = held h.extensions }

-- The buffer begins with the text, which has this size, and its other bytes don't change.
abbrev pub BeginsWith : Bytes → ℕ → Bytes → Bytes → Type 0
BeginsWith text size old new = new ≡ text ++ drop size old

-- The buffer begins with the text of the answer; or a refusal is returned, and the buffer doesn't
-- change.
abbrev pub IsWritten : {A : Type 0} → (A → Bytes) → ℕ → Answer A → Bytes → Bytes → ℕ → ℕ → Type 0
IsWritten text size (Ok x) old new status missing = (status ≡ 0) × (missing ≡ 0)
    × BeginsWith (text x.0) size old new
IsWritten text size (Err e) old new status missing = IsRefused e status missing × (new ≡ old)

-- This holds if the buffer has room for the text. A shorter one is refused, and doesn't change.
pub record IsAnswered {A : Type 0} (text : A → Bytes) (size : ℕ) (answer : Answer A)
    (old new : Bytes)
    (status missing : ℕ) : Type 0 where
  pub room : size ≤ length old → IsWritten text size answer old new status missing
  pub short : length old < size → (status ≡ no_room) × (missing ≡ 0) × (new ≡ old)
