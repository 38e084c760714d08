-- A collector whose pieces were taken.
use Rattle.std.proofs.Common.{◌≡◌, Option, Some, None, subst}
use Rattle.std.specs.Option.{option_map}
use Rattle.std.specs.Global.{Box}
use Rattle.std.specs.Box.{with_value}
use Rattle.log_summaries.specs.Pieces.{Gives}
use Rattle.log_summaries.specs.declared.analysis.CollectedPieces.{CollectedPieces}

-- The pieces in a box, if there is one; and the box after these were written into it.
abbrev pub inside : Option (Box CollectedPieces) → Option CollectedPieces
inside o = option_map (λ b. b.value) o

abbrev pub given_back : CollectedPieces → Option (Box CollectedPieces)
    → Option (Box CollectedPieces)
given_back p o = option_map (λ b. with_value b p) o

pub gives : (R : CollectedPieces → CollectedPieces → Type 0) (o : Option (Box CollectedPieces))
    (p q : CollectedPieces) → Some p ≡ inside o → R p q
    → Gives R (inside o) (inside (given_back q o))
gives R None p q e r = absurd cc
gives R (Some b) p q e r = subst (λ x. Gives R x (Some q)) e r
