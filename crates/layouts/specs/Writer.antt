-- What a writer promises. `Fits` means that the value can be written, `Refused e` that it can't and
-- that e is the reason. `text` is its encoding.
use Rattle.std.specs.Prelude.{◌≡◌, ◌⊎◌, ℕ, List, [], ◌∷◌, length, Option, Result, Ok, Err, ⊤}
use Rattle.std.specs.Io.KnownBytes.{Appends}
use Rattle.layouts.specs.Bytes.{Bytes}
use Rattle.layouts.specs.declared.writer.GenError.{GenError}
use Rattle.layouts.specs.declared.writer.GenError.TheVariants.{NotYetImplemented, BadLength, Io, OutOfMemory}

-- The error refuses the value: neither the memory nor the `Write` is at fault.
abbrev pub IsRefusal : GenError → Type 0
IsRefusal NotYetImplemented = ⊤
IsRefusal BadLength = ⊤
IsRefusal Io = ⊥
IsRefusal OutOfMemory = ⊥

-- The first value that doesn't fit is refused, with its own reason. If all fit, they are too long
-- together.
abbrev pub RefusesFirst : {A : Type 0} → (A → Type 0) → (A → GenError → Type 0) → List A
    → GenError → Type 0
RefusesFirst Fits Refused [] e = e ≡ BadLength
RefusesFirst Fits Refused (v ∷ vs) e = Refused v e ⊎ (Fits v × RefusesFirst Fits Refused vs e)

-- Computes the length of the encoding without allocating.
abbrev pub Judges : Type 0 → (GenError → Type 0) → Bytes → Result ℕ GenError → Type 0
Judges Fits Refused text (Ok n) = Fits × (n ≡ length text)
Judges Fits Refused text (Err e) = IsRefusal e × (Fits → ⊥) × Refused e

-- Returns the encoding in newly allocated memory.
abbrev pub Builds : Type 0 → (GenError → Type 0) → Bytes → Result Bytes GenError → Type 0
Builds Fits Refused text (Ok b) = Fits × (b ≡ text)
Builds Fits Refused text (Err OutOfMemory) = Fits
Builds Fits Refused text (Err e) = IsRefusal e × (Fits → ⊥) × Refused e

-- Appends the encoding to what the `Write` holds, which is `contents` of it if that is known.
--
-- A refusal, or running out of memory, leaves the `Write` unchanged: it wasn't called. After `Io`
-- it is unknown how much was written.
abbrev pub Writes : {W : Type 0} → Type 0 → (GenError → Type 0) → Bytes → (W → Option Bytes) → W → W
    → Result Unit GenError → Type 0
Writes Fits Refused text contents old new (Ok u) = Fits × Appends (contents old) (contents new) text
Writes Fits Refused text contents old new (Err OutOfMemory) = Fits × (new ≡ old)
Writes Fits Refused text contents old new (Err Io) = Fits
Writes Fits Refused text contents old new (Err e) = IsRefusal e × (Fits → ⊥) × Refused e
    × (new ≡ old)
