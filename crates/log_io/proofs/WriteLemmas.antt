-- What was written.
use Rattle.std.proofs.Common.{◌≡◌, ◌∙◌, ◌++◌, ◌∷◌, [], List, ℕ, Bool, true, false, Option, Some, None, Result, refl, ap, subst}
use Rattle.std.proofs.lemmas.Result.{on_ok_weaker}
use Rattle.std.specs.Prelude.{OnOk}
use Rattle.std.specs.Io.KnownBytes.{Appends, Keeps}
use Rattle.log_io.specs.Output.{AppendsLine, AppendsLineIf}
use Rattle.log_io.specs.declared.output.LineError.{LineError}

pub keeps_itself : (known : Option (List ℕ)) → Keeps known known
keeps_itself None = tt
keeps_itself (Some xs) = refl

pub one_line : (old new : Option (List ℕ)) (r : Result Unit LineError) (line : List ℕ)
    → OnOk r (Appends old new (line ++ 10 ∷ [])) → OnOk r (AppendsLine old new)
one_line old new r line h = on_ok_weaker r (λ added. (line, added)) h

-- A line is written where there is one, and nothing where there is none.
pub line_if : (b : Bool) (old new : Option (List ℕ)) (r : Result Unit LineError) (line : List ℕ)
    → true ≡ b → OnOk r (Appends old new (line ++ 10 ∷ [])) → OnOk r (AppendsLineIf b old new)
line_if b old new r line e h =
    on_ok_weaker r (λ added. subst (λ x. AppendsLineIf x old new) e (line, added)) h

pub no_line : (b : Bool) (known : Option (List ℕ)) → false ≡ b → AppendsLineIf b known known
no_line b known e = subst (λ x. AppendsLineIf x known known) e (keeps_itself known)
