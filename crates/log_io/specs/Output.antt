-- Whether a write failed, by a call's result, and what was written.
use Rattle.std.specs.Prelude.{◌≡◌, ◌++◌, ⊤, ℕ, Bool, true, false, List, [], ◌∷◌, Option, Result, Ok, Err, Vec}
use Rattle.std.specs.declared.alloc.AllocError.{AllocError}
use Rattle.std.specs.declared.alloc.Global.{Global}
use Rattle.std.specs.Io.KnownBytes.{Appends, Keeps}
use Rattle.log_io.specs.declared.output.LineError.{LineError}
use Rattle.log_io.specs.declared.output.LineError.TheVariants.{OutOfMemory, Closed, Writing}

-- The write failed, rather than an allocation.
abbrev pub IsOfWriting : LineError → Type 0
IsOfWriting OutOfMemory = ⊥
IsOfWriting Closed = ⊤
IsOfWriting (Writing e) = ⊤

-- The flag after a call is set if the call failed to write, and unchanged otherwise.
abbrev pub TracksFailure : {A : Type 0} → Bool → Bool → Result A LineError → Type 0
TracksFailure old new (Ok a) = new ≡ old
TracksFailure old new (Err OutOfMemory) = new ≡ old
TracksFailure old new (Err e) = new ≡ true

-- The line was formatted, and then written with a line break.
abbrev pub AppendsFormatted : Option (List ℕ) → Option (List ℕ)
    → Result (Vec ℕ Global) AllocError → Type 0
AppendsFormatted old new (Ok line) = Appends old new (line.items ++ 10 ∷ [])
AppendsFormatted old new (Err e) = ⊥

-- One line was written.
abbrev pub AppendsLine : Option (List ℕ) → Option (List ℕ) → Type 0
AppendsLine old new = (line : List ℕ) × Appends old new (line ++ 10 ∷ [])

-- One line was written, or nothing.
abbrev pub AppendsLineIf : Bool → Option (List ℕ) → Option (List ℕ) → Type 0
AppendsLineIf true old new = AppendsLine old new
AppendsLineIf false old new = Keeps old new
