-- The latest version, found one by one.
use Rattle.std.proofs.Common.{
  ◌≡◌,
  ℕ,
  ◌<◌,
  ◌≤◌,
  List,
  [],
  ◌∷◌,
  Option,
  Some,
  None,
  Bool,
  true,
  false,
  cond,
  ltb,
  refl,
  sym,
  ◌∙◌,
  ap,
  arith,
}
use Rattle.std.proofs.lemmas.Bool.{ltb-true, ltb-false}
use Rattle.std.specs.Option.{option_map}
use Rattle.layouts.proofs.OneAnswerLemmas.{ltb_yes, ltb_no}
use Rattle.tls_ext.specs.Dispatch.{is_grease}
use Rattle.tls_ext.specs.InPlace.{lateness, later, latest}

-- the later of the best version so far and that of the others
abbrev pub with_known : Option ℕ → Option ℕ → Option ℕ
with_known None best = best
with_known (Some v) best = Some (later v best)

pub latest_end : (known : Option ℕ) → with_known known None ≡ known
latest_end None = refl
latest_end (Some v) = refl

-- a GREASE number is skipped
pub latest_grease : (v : ℕ) (vs : List ℕ) → is_grease v ≡ true → latest (v ∷ vs) ≡ latest vs
latest_grease v vs e = ap (λ t. cond t (latest vs) (Some (later v (latest vs)))) e

pub latest_other : (v : ℕ) (vs : List ℕ) → is_grease v ≡ false
    → latest (v ∷ vs) ≡ Some (later v (latest vs))
latest_other v vs e = ap (λ t. cond t (latest vs) (Some (later v (latest vs)))) e

stays : (v w : ℕ) (best : Option ℕ) → lateness v < lateness w
    → later w (Some (later v best)) ≡ later w best
stays v w None low = ap (λ t. cond t w v) (ltb_yes (lateness v) (lateness w) low)
stays v w (Some x) low = go (ltb (lateness x) (lateness v)) refl
  where
    go : (t : Bool) → ltb (lateness x) (lateness v) ≡ t
        → cond (ltb (lateness (cond t v x)) (lateness w)) w (cond t v x) ≡ cond
        (ltb (lateness x) (lateness w)) w x
    go true e = ap (λ t. cond t w v) (ltb_yes (lateness v) (lateness w) low)
        ∙ sym (ap (λ t. cond t w x)
        (ltb_yes (lateness x) (lateness w)
        (omega (arith, low, ltb-true (lateness x) (lateness v) e))))
    go false e = refl

better : (v w : ℕ) (best : Option ℕ) → lateness w ≤ lateness v
    → later w (Some (later v best)) ≡ later v best
better v w None high = ap (λ t. cond t w v) (ltb_no (lateness v) (lateness w) (omega (arith, high)))
better v w (Some x) high = go (ltb (lateness x) (lateness v)) refl
  where
    go : (t : Bool) → ltb (lateness x) (lateness v) ≡ t
        → cond (ltb (lateness (cond t v x)) (lateness w)) w (cond t v x) ≡ cond t v x
    go true e = ap (λ t. cond t w v) (ltb_no (lateness v) (lateness w) (omega (arith, high)))
    go false e = ap (λ t. cond t w x)
        (ltb_no (lateness x) (lateness w)
        (omega (arith, high, ltb-false (lateness x) (lateness v) e)))

-- the best version so far stays, or the next is later
pub known_stays : (v w : ℕ) (best : Option ℕ) → lateness v < lateness w
    → with_known (Some w) (Some (later v best)) ≡ with_known (Some w) best
known_stays v w best low = ap Some (stays v w best low)

pub next_is_better : (v w : ℕ) (best : Option ℕ) → lateness w ≤ lateness v
    → with_known (Some w) (Some (later v best)) ≡ with_known (Some v) best
next_is_better v w best high = ap Some (better v w best high)
