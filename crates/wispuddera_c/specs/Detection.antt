-- Whether bytes are TLS, as a status.
use Rattle.std.specs.Prelude.{◌≡◌, ℕ, Bool, true, false, Option, Some, None}
use Rattle.wispuddera_c.specs.Status.{none}

-- The bytes are TLS; they aren't; there are too few to decide.
abbrev pub IsDetected : Option Bool → ℕ → Type 0
IsDetected (Some true) status = status ≡ 0
IsDetected (Some false) status = status ≡ none
IsDetected None status = status ≡ 1
