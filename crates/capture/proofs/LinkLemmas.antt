-- Link types that aren't in the table.
use Rattle.std.proofs.Common.{◌≡◌, ◌∙◌, ap, ℕ, ◌==◌}
use Rattle.layouts.specs.Layout.{Layout, choose, done, refuse}
use Rattle.layouts.specs.declared.result.ErrorKind.TheVariants.{Switch}
use Rattle.layouts.proofs.OneAnswerLemmas.{eqb_other}
use Rattle.capture.specs.Link.{IPV4, IPV6, PPPOE, behind, link, loopback, ppp_link, raw_ip, sll2}

skipped : (n k : ℕ) (l m : Layout ℕ) → (n ≡ k → ⊥) → choose (n == k) l m ≡ m
skipped n k l m other = ap (λ t. choose t l m) (eqb_other n k other)

pub no_row : (n : ℕ) → (n ≡ 0 → ⊥) → (n ≡ 1 → ⊥) → (n ≡ 9 → ⊥) → (n ≡ 50 → ⊥) → (n ≡ 51 → ⊥)
    → (n ≡ 101 → ⊥) → (n ≡ 108 → ⊥) → (n ≡ 113 → ⊥) → (n ≡ 228 → ⊥) → (n ≡ 229 → ⊥) → (n ≡ 276 → ⊥)
    → link n ≡ refuse Switch
unfolding link
no_row n a b c d e f g h i j k =
    skipped n 0 loopback _ a
    ∙ skipped n 1 (behind 12) _ b
    ∙ skipped n 9 ppp_link _ c
    ∙ skipped n 50 ppp_link _ d
    ∙ skipped n 51 (done PPPOE) _ e
    ∙ skipped n 101 raw_ip _ f
    ∙ skipped n 108 loopback _ g
    ∙ skipped n 113 (behind 14) _ h
    ∙ skipped n 228 (done IPV4) _ i
    ∙ skipped n 229 (done IPV6) _ j
    ∙ skipped n 276 sll2 _ k
