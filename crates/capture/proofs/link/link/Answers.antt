use Rattle.std.proofs.Common.{ℕ, arith, subst, sym}
use Rattle.layouts.specs.Answers.{Gives}
use Rattle.layouts.specs.Layout.{Layout}
use Rattle.capture.proofs.LinkLemmas.{no_row}
use Rattle.capture.proofs.link.link.Goals as goal

pub returns-in_default : goal.returns-in_default
returns-in_default c =
    subst (λ (l : Layout ℕ). Gives {X = ℕ} {Y = ℕ} (λ v. v) l c.args.i.now c.no_link.result)
    (sym (no_row c.args.link_type (omega arith) (omega arith) (omega arith) (omega arith)
    (omega arith) (omega arith) (omega arith) (omega arith) (omega arith) (omega arith)
    (omega arith)))
    c.no_link.ensures
