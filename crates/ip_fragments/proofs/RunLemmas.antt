-- Runs with further bytes.
use Rattle.std.proofs.Common.{◌≡◌, ℕ, zero, suc, ◌+◌, ◌-◌, ◌*◌, ◌<◌, ◌≤◌, ◌&&◌, nat_le, true, false}
use Rattle.std.proofs.Common.{List, [], ◌∷◌, ◌++◌, length, take, drop, get_or, refl, sym, ap, ◌∙◌, arith, append_assoc, append-nil, length-append}
use Rattle.segments.specs.Cells.{Bytes}
use Rattle.ip_fragments.specs.Runs.{Run, Fits, Repeats, Overlaps, IsGap, cost_of, end_of_run, filled, index_of, joined, landing_at, run_at, runs_with, unlike, weight_in}
use Rattle.ip_fragments.specs.declared.runs.Gap.{Gap}
use Rattle.ip_fragments.specs.declared.runs.Gap.TheVariants as gap

-- Both parts of runs.
filled_split : (k : ℕ) (rs : List Run) → filled (take k rs) + filled (drop k rs) ≡ filled rs
filled_split zero rs = omega arith
filled_split (suc k) [] = refl
filled_split (suc k) (r ∷ rs) = let n = filled_split k rs in omega (arith, n)

filled_append : (xs ys : List Run) → filled (xs ++ ys) ≡ filled xs + filled ys
filled_append [] ys = omega arith
filled_append (x ∷ xs) ys = let n = filled_append xs ys in omega (arith, n)

pub filled_with : (g : Gap) (o : ℕ) (b : Bytes) (rs : List Run) → IsGap g rs
    → filled (runs_with g o b rs) ≡ filled rs + length b
filled_with gap.End o b [] is = absurd (omega (arith, is))
filled_with gap.End o b (r ∷ rs) is = let n = length-append r.bytes b in omega (arith, n)
filled_with (gap.At k) o b rs is =
    let all = filled_append (take k rs) (run_at o b ∷ drop k rs) in
    let parts = filled_split k rs in
    omega (arith, all, parts)

weight_split : (k : ℕ) (rs : List Run)
    → weight_in (take k rs) + weight_in (drop k rs) ≡ weight_in rs
weight_split zero rs = omega arith
weight_split (suc k) [] = refl
weight_split (suc k) (r ∷ rs) = let n = weight_split k rs in omega (arith, n)

weight_append : (xs ys : List Run) → weight_in (xs ++ ys) ≡ weight_in xs + weight_in ys
weight_append [] ys = omega arith
weight_append (x ∷ xs) ys = let n = weight_append xs ys in omega (arith, n)

pub weight_with_run : (g : Gap) (o : ℕ) (b : Bytes) (rs : List Run) → IsGap g rs
    → weight_in (runs_with g o b rs) ≡ weight_in rs + (length b * 2 + cost_of g)
weight_with_run gap.End o b [] is = absurd (omega (arith, is))
weight_with_run gap.End o b (r ∷ rs) is = let n = length-append r.bytes b in omega (arith, n)
weight_with_run (gap.At k) o b rs is =
    let all = weight_append (take k rs) (run_at o b ∷ drop k rs) in
    let parts = weight_split k rs in
    omega (arith, all, parts)

pub filled_low : (rs : List Run) → filled rs ≤ weight_in rs
filled_low [] = omega arith
filled_low (r ∷ rs) = let n = filled_low rs in omega (arith, n)

-- The run with this index comes next.
pub drop_there : (rs : List Run) (k : ℕ) (r : Run) → k < length rs → r ≡ get_or rs k r
    → drop k rs ≡ r ∷ drop (suc k) rs
drop_there [] k r low h = absurd (omega (arith, low))
drop_there (x ∷ rs) zero r low h = ap (λ y. y ∷ rs) (sym h)
drop_there (x ∷ rs) (suc k) r low h = drop_there rs k r (omega (arith, low)) h

pub drop_none : (rs : List Run) (k : ℕ) → k ≡ length rs → drop k rs ≡ []
drop_none [] k h = rw h refl
drop_none (x ∷ rs) zero h = absurd (omega (arith, h))
drop_none (x ∷ rs) (suc k) h = drop_none rs k (omega (arith, h))

-- Where bytes land.
module _ (o : ℕ) (b : Bytes) (rs : List Run) (k : ℕ) where
  pub lands_last : k ≡ length rs
      → Fits (take k rs ++ run_at o b ∷ drop k rs) ≡ landing_at k o b rs
  lands_last h = rw (drop_none rs k h) refl

  module _ (r : Run) where
    pub lands_behind : k < length rs → r ≡ get_or rs k r → nat_le (end_of_run r) o ≡ true
        → Fits (take k rs ++ run_at o b ∷ drop k rs) ≡ landing_at k o b rs
    lands_behind low h e = rw (drop_there rs k r low h) (rw e refl)

    pub lands_in : k < length rs → r ≡ get_or rs k r → nat_le (end_of_run r) o ≡ false
        → (nat_le r.start o && nat_le (o + length b) (end_of_run r)) ≡ true
        → Repeats (unlike (drop (o - r.start) r.bytes) b) ≡ landing_at k o b rs
    lands_in low h e i = rw (drop_there rs k r low h) (rw (e, i) refl)

    pub lands_over : k < length rs → r ≡ get_or rs k r → nat_le (end_of_run r) o ≡ false
        → (nat_le r.start o && nat_le (o + length b) (end_of_run r)) ≡ false
        → Overlaps ≡ landing_at k o b rs
    lands_over low h e i = rw (drop_there rs k r low h) (rw (e, i) refl)

-- All bytes in order.
joined_append : (xs ys : List Run) → joined (xs ++ ys) ≡ joined ys ++ joined xs
joined_append [] ys = sym (append-nil (joined ys))
joined_append (x ∷ xs) ys =
    ap (λ l. l ++ x.bytes) (joined_append xs ys) ∙ append_assoc (joined ys) (joined xs) x.bytes

pub joined_with : (g : Gap) (o : ℕ) (b : Bytes) (rs : List Run) → IsGap g rs
    → joined (runs_with g o b rs)
    ≡ (joined (drop (index_of g) rs) ++ b) ++ joined (take (index_of g) rs)
joined_with gap.End o b [] is = absurd (omega (arith, is))
joined_with gap.End o b (r ∷ rs) is =
    sym (append-nil ((joined rs ++ r.bytes) ++ b) ∙ append_assoc (joined rs) r.bytes b)
joined_with (gap.At k) o b rs is = joined_append (take k rs) (run_at o b ∷ drop k rs)

pub index_low : (g : Gap) (rs : List Run) → IsGap g rs → index_of g ≤ length rs
index_low gap.End rs is = omega arith
index_low (gap.At k) rs is = is

-- One more run is appended.
pub joined_next : (out front : Bytes) (rs : List Run) (k : ℕ) (r : Run)
    → k < length rs → r ≡ get_or rs k r → out ≡ front ++ joined (drop (suc k) rs)
    → out ++ r.bytes ≡ front ++ joined (drop k rs)
joined_next out front rs k r low h is =
    ap (λ l. l ++ r.bytes) is ∙ append_assoc front (joined (drop (suc k) rs)) r.bytes
    ∙ ap (λ l. front ++ joined l) (sym (drop_there rs k r low h))
