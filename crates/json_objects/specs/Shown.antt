-- What was written of an object so far, with a comma behind each member.
use Rattle.std.specs.Prelude.{ℕ, List, [], ◌∷◌, ◌++◌, cond, Option, Some, None, Vec}
use Rattle.std.specs.declared.alloc.Global.{Global}
use Rattle.json.specs.Print.{print, ends_value}
use Rattle.json.specs.Written.{Written}

abbrev pub shown : Option (Vec ℕ Global) → Written → List ℕ
shown None w = w.before ++ (print w.tokens ++ cond (ends_value w.tokens) (44 ∷ []) [])
shown (Some front) w = front.items
