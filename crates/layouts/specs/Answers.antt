-- How the result of a call relates to the answers of a layout.
use Rattle.std.specs.Prelude.{◌≡◌, ℕ, ◌<◌, List, Result, Ok, Err, ⊤}
use Rattle.std.specs.Borrow.{Bor}
use Rattle.layouts.specs.Bytes.{Bytes}
use Rattle.layouts.specs.Layout.{Layout}
use Rattle.layouts.specs.Meaning.{Refusal, Broken, Lacks, Answer, Allows}
use Rattle.layouts.specs.Reading.{reading}
use Rattle.layouts.specs.declared.result.Error.{Error}
use Rattle.layouts.specs.declared.result.Err.{Err as Failed}
use Rattle.layouts.specs.declared.result.Err.TheVariants as failed
use Rattle.layouts.specs.declared.result.Needed.TheVariants as needed
use Rattle.layouts.specs.declared.result.ErrorKind.TheVariants.{Complete}

-- The result of a call that reads bytes: an `IResult<&[u8], X>`.
abbrev pub Returned : Type 0 → Type 0
Returned X = Result (Bor (List ℕ) × X) (Failed (Error (Bor (List ℕ))))

-- The error is a refusal: an `Error`, or `Incomplete` with a count of at least 1.
abbrev pub IsRefusal : Failed (Error (Bor (List ℕ))) → Type 0
IsRefusal (failed.Incomplete needed.Unknown) = ⊥
IsRefusal (failed.Incomplete (needed.Size n)) = 0 < n
IsRefusal (failed.Error e) = ⊤
IsRefusal (failed.Failure e) = ⊥
IsRefusal failed.OutOfMemory = ⊥

-- The error isn't `OutOfMemory`.
abbrev pub IsNotOutOfMemory : Failed (Error (Bor (List ℕ))) → Type 0
IsNotOutOfMemory failed.OutOfMemory = ⊥
IsNotOutOfMemory e = ⊤

-- The refusal that the error is. Used only for an error with `IsRefusal`.
abbrev pub refusal_of : Failed (Error (Bor (List ℕ))) → Refusal
refusal_of (failed.Incomplete (needed.Size n)) = Lacks n
refusal_of (failed.Error e) = Broken e.code
refusal_of e = Broken Complete

-- The result is a value or a refusal.
abbrev pub IsAnswer : {X : Type 0} → Returned X → Type 0
IsAnswer (Ok x) = ⊤
IsAnswer (Err e) = IsRefusal e

-- The call didn't run out of memory.
abbrev pub MemorySufficed : {X : Type 0} → Returned X → Type 0
MemorySufficed (Ok x) = ⊤
MemorySufficed (Err e) = IsNotOutOfMemory e

-- The result as an answer. `view` forgets where the value lies in memory.
abbrev pub answer_of : {X Y : Type 0} → (X → Y) → Returned X → Answer Y
answer_of view (Ok x) = Ok (view x.1, x.0.now)
answer_of view (Err e) = Err (refusal_of e)

-- The call returns the answer of the layout l on b: the one that reading gives, and that l allows.
pub record Gives {X Y : Type 0} (view : X → Y) (l : Layout Y) (b : Bytes)
    (result : Returned X) : Type 0 where
  pub answers : IsAnswer result
  pub read : reading l b ≡ answer_of view result
  pub allowed : Allows l b (answer_of view result)

-- The call returns the answer of the layout l on b, unless it ran out of memory.
pub record GivesOrMemory {X Y : Type 0} (view : X → Y) (l : Layout Y) (b : Bytes)
    (result : Returned X) : Type 0 where
  pub answers : MemorySufficed result → IsAnswer result
  pub read : MemorySufficed result → reading l b ≡ answer_of view result
  pub allowed : MemorySufficed result → Allows l b (answer_of view result)
