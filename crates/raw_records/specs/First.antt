-- The first item of a fragment, which is complete.
use Rattle.std.specs.Prelude.{Result, Ok, Err}
use Rattle.layouts.specs.Bytes.{Bytes}
use Rattle.layouts.specs.Layout.{Layout}
use Rattle.layouts.specs.Meaning.{Refusal, Broken, Lacks, Answer}
use Rattle.layouts.specs.declared.result.ErrorKind.TheVariants.{Complete}
use Rattle.layouts.specs.Reading.{reading, completed}

-- Whether an item is read, if no further bytes follow.
abbrev pub judged : {A : Type 0} → Answer A → Result Unit Refusal
judged (Ok x) = Ok tt
judged (Err e) = Err e

abbrev pub first_judged : {A : Type 0} → Layout A → Bytes → Result Unit Refusal
first_judged l b = judged (completed (reading l b))

-- The refusal of a part that is complete: no further bytes can follow.
abbrev pub as_complete : Refusal → Refusal
as_complete (Broken k) = Broken k
as_complete (Lacks n) = Broken Complete
