-- What the writers of handshake messages promise. `HandshakeText` defines the encoding.
use Rattle.std.specs.Prelude.{ℕ, ◌≡◌, ◌++◌, Option, Result, Ok}
use Rattle.layouts.specs.Bytes.{Bytes}
use Rattle.layouts.specs.Meaning.{Allows}
use Rattle.layouts.specs.Writer.{Judges, Builds, Writes}
use Rattle.layouts.specs.declared.writer.GenError.{GenError}
use Rattle.layouts.specs.declared.writer.GenError.TheVariants.{BadLength}
use Rattle.tls_hs.specs.Handshake.{Handshake}
use Rattle.tls_hs.specs.HandshakeText.{body_text, FitsBody, handshake_text, FitsHandshake, InRangeHandshake}
use Rattle.tls_hs.specs.HandshakeText.{refusal_of_handshake, IsReadableHandshake, normal_handshake}
use Rattle.tls_hs.specs.Message as message

-- Computes the length of the body of a message of a known kind. Whether it fits the message's
-- length field isn't checked.
abbrev pub JudgesBody : Handshake → Result ℕ GenError → Type 0
JudgesBody m r = Judges (FitsBody m) (λ e. e ≡ BadLength) (body_text m) r

-- Computes the length of the body, which must fit the 3 bytes of its length field.
abbrev pub JudgesCountedBody : Handshake → Result ℕ GenError → Type 0
JudgesCountedBody m r = Judges (FitsHandshake m) (λ e. e ≡ BadLength) (body_text m) r

-- Computes the length of the encoding of a message of any kind.
abbrev pub JudgesHandshake : Handshake → Result ℕ GenError → Type 0
JudgesHandshake m r =
    Judges (FitsHandshake m) (λ e. e ≡ refusal_of_handshake m) (handshake_text m) r

-- Returns the encoding of a message of any kind in newly allocated memory.
abbrev pub BuildsHandshake : Handshake → Result Bytes GenError → Type 0
BuildsHandshake m r =
    Builds (FitsHandshake m) (λ e. e ≡ refusal_of_handshake m) (handshake_text m) r

-- Appends the encoding of a message of any kind to what a `Write` holds.
abbrev pub WritesHandshake : {W : Type 0} → Handshake → (W → Option Bytes) → W → W
    → Result Unit GenError → Type 0
WritesHandshake m contents old new r =
    Writes (FitsHandshake m) (λ e. e ≡ refusal_of_handshake m) (handshake_text m) contents old new r

-- The encoding reads back as the message's normal form, whatever bytes follow, if it can be written
-- and read back.
abbrev pub IsReadBack : Handshake → Bytes → Type 0
IsReadBack m r =
    FitsHandshake m → InRangeHandshake m → IsReadableHandshake m
    → Allows message.handshake (handshake_text m ++ r)
    (Ok (message.Handshake (normal_handshake m), r))

-- The message can be written, and b is its encoding followed by r.
pub record HasText (m : Handshake) (b r : Bytes) : Type 0 where
  pub fits : FitsHandshake m
  pub range : InRangeHandshake m
  pub text : b ≡ handshake_text m ++ r
