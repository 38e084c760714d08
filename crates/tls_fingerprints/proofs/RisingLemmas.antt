-- A rising list with the same numbers is the list in rising order.
use Rattle.std.proofs.Common.{
  ◌≡◌,
  ℕ,
  suc,
  ◌+◌,
  ◌<◌,
  ◌≤◌,
  List,
  [],
  ◌∷◌,
  length,
  Bool,
  true,
  false,
  cond,
  eqb,
  leb,
  get_or,
  refl,
  sym,
  ◌∙◌,
  ap,
  subst,
  arith,
}
use Rattle.std.specs.Bool.{⊤}
use Rattle.std.specs.List.{filter, sum_by}
use Rattle.std.specs.List.Sorted.{IsPermutation, IsNonDecreasing}
use Rattle.std.proofs.lemmas.Bool.{leb-true, leb-false, eq-eqb, eqb-true, ne_eqb}
use Rattle.std.proofs.lemmas.List.Recursion.{is_sum_by}
use Rattle.std.proofs.lemmas.List.Sorted.{sum_by-IsPermutation}
use Rattle.tls_fingerprints.specs.Numbers.{placed, rising}

-- each number is at least a
abbrev From : ℕ → List ℕ → Type 0
From a [] = ⊤
From a (x ∷ xs) = (a ≤ x) × From a xs

abbrev Rises : List ℕ → Type 0
Rises [] = ⊤
Rises (x ∷ xs) = From x xs × Rises xs

From-lower : (a b : ℕ) (xs : List ℕ) → a ≤ b → From b xs → From a xs
From-lower a b [] le h = tt
From-lower a b (x ∷ xs) le h = let first : b ≤ x = h.0 in (omega arith, From-lower a b xs le h.1)

-- how often v occurs
abbrev one_at : ℕ → ℕ → ℕ
one_at v x = cond (eqb x v) 1 0

abbrev times_in : ℕ → List ℕ → ℕ
times_in v [] = 0
times_in v (x ∷ xs) = one_at v x + times_in v xs

one_at_self : (v : ℕ) → one_at v v ≡ 1
one_at_self v = ap (λ t. cond t 1 0) (eq-eqb v v refl)

one_at_other : (v x : ℕ) → v < x → one_at v x ≡ 0
one_at_other v x above = ap (λ t. cond t 1 0) (ne_eqb x v (λ e. omega arith))

none_below : (v : ℕ) (xs : List ℕ) → From (suc v) xs → times_in v xs ≡ 0
none_below v [] h = refl
none_below v (x ∷ xs) h =
    let first : suc v ≤ x = h.0 in
    let one : one_at v x ≡ 0 = one_at_other v x (omega arith) in
    omega (arith, one, none_below v xs h.1)

times-placed : (v n : ℕ) (ms : List ℕ) → times_in v (placed n ms) ≡ one_at v n + times_in v ms
unfolding placed
times-placed v n [] = refl
times-placed v n (m ∷ ms) = go (leb n m) (times-placed v n ms)
  where
    go : (t : Bool) → times_in v (placed n ms) ≡ one_at v n + times_in v ms
        → times_in v (cond t (n ∷ m ∷ ms) (m ∷ placed n ms)) ≡ one_at v n
        + (one_at v m + times_in v ms)
    go true others = refl
    go false others = omega arith

times-rising : (v : ℕ) (ns : List ℕ) → times_in v (rising ns) ≡ times_in v ns
unfolding rising
times-rising v [] = refl
times-rising v (n ∷ ns) = times-placed v n (rising ns)
    ∙ ap (λ k. one_at v n + k) (times-rising v ns)

From-placed : (a n : ℕ) (ms : List ℕ) → a ≤ n → From a ms → From a (placed n ms)
unfolding placed
From-placed a n [] le h = (le, tt)
From-placed a n (m ∷ ms) le h = go (leb n m) (From-placed a n ms le h.1)
  where
    go : (t : Bool) → From a (placed n ms) → From a (cond t (n ∷ m ∷ ms) (m ∷ placed n ms))
    go true others = (le, h)
    go false others = (h.0, others)

Rises-placed : (n : ℕ) (ms : List ℕ) → Rises ms → Rises (placed n ms)
unfolding placed
Rises-placed n [] h = (tt, tt)
Rises-placed n (m ∷ ms) h = go (leb n m) refl (Rises-placed n ms h.1)
  where
    go : (t : Bool) → leb n m ≡ t → Rises (placed n ms)
        → Rises (cond t (n ∷ m ∷ ms) (m ∷ placed n ms))
    go true e others = ((leb-true n m e, From-lower n m ms (leb-true n m e) h.0), h)
    go false e others = let low : m < n = leb-false n m e in
        (From-placed m n ms (omega arith) h.0, others)

Rises-rising : (ns : List ℕ) → Rises (rising ns)
unfolding rising
Rises-rising [] = tt
Rises-rising (n ∷ ns) = Rises-placed n (rising ns) (Rises-rising ns)

-- no member of a rising list is below its first
first_below : (a b : ℕ) (ms ns : List ℕ) → Rises (b ∷ ns)
    → times_in a (a ∷ ms) ≡ times_in a (b ∷ ns) → b ≤ a
first_below a b ms ns up e = go (leb b a) refl
  where
    go : (t : Bool) → leb b a ≡ t → b ≤ a
    go true le = leb-true b a le
    go false gt =
        let low : a < b = leb-false b a gt in
        let none : times_in a (b ∷ ns) ≡ 0 = none_below a (b ∷ ns)
        (omega arith, From-lower (suc a) b ns (omega arith) up.0) in
        absurd (omega (arith, e, none, one_at_self a))

same_rising : (ms ns : List ℕ) → Rises ms → Rises ns
    → ((v : ℕ) → times_in v ms ≡ times_in v ns) → ms ≡ ns
same_rising [] [] up down e = refl
same_rising [] (b ∷ ns) up down e = absurd (omega (arith, e b, one_at_self b))
same_rising (a ∷ ms) [] up down e = absurd (omega (arith, e a, one_at_self a))
same_rising (a ∷ ms) (b ∷ ns) up down e =
    let low : b ≤ a = first_below a b ms ns down (e a) in
    let high : a ≤ b = first_below b a ns ms up (sym (e b)) in
    let first : a ≡ b = omega arith in
    let others : ms ≡ ns = same_rising ms ns up.1 down.1
    (λ v. let one : one_at v a ≡ one_at v b = ap (one_at v) first in omega (arith, e v, one)) in
    ap (λ x. x ∷ ms) first ∙ ap (λ xs. b ∷ xs) others

from_places : (a : ℕ) (xs : List ℕ) → ((j : ℕ) → j < length xs → a ≤ get_or xs j 0) → From a xs
from_places a [] h = tt
from_places a (x ∷ xs) h =
    (h 0 (omega arith), from_places a xs (λ j short. h (suc j) (omega arith)))

Rises-sorted : (xs : List ℕ) → IsNonDecreasing xs → Rises xs
Rises-sorted [] h = tt
Rises-sorted (x ∷ xs) h = (
  from_places x xs (λ j short. h 0 (suc j) 0 (omega arith) (omega arith)),
  Rises-sorted xs (λ i j d le short. h (suc i) (suc j) d (omega arith) (omega arith)),
)

times_sum : (v : ℕ) (xs : List ℕ) → times_in v xs ≡ sum_by (one_at v) xs
times_sum v = is_sum_by (times_in v) (one_at v) refl (λ x xs. refl)

pub sorted_is_rising : (xs ys : List ℕ) → IsPermutation xs ys → IsNonDecreasing ys → ys ≡ rising xs
sorted_is_rising xs ys moved up = same_rising ys (rising xs) (Rises-sorted ys up) (Rises-rising xs)
    (λ v. times_sum v ys ∙ sum_by-IsPermutation (one_at v) xs ys moved ∙ sym (times_sum v xs)
    ∙ sym (times-rising v xs))

-- lists with the same numbers, each as often, have the same rising order
rising_same : (ms ns : List ℕ) → ((v : ℕ) → times_in v ms ≡ times_in v ns) → rising ms ≡ rising ns
rising_same ms ns e = same_rising (rising ms) (rising ns) (Rises-rising ms) (Rises-rising ns)
    (λ v. times-rising v ms ∙ e v ∙ sym (times-rising v ns))

times_moved : (v : ℕ) (ms ns : List ℕ) → IsPermutation ms ns → times_in v ms ≡ times_in v ns
times_moved v ms ns moved = times_sum v ms ∙ sym (sum_by-IsPermutation (one_at v) ms ns moved)
    ∙ sym (times_sum v ns)

times-filter : (v : ℕ) (p : ℕ → Bool) (xs : List ℕ)
    → times_in v (filter p xs) ≡ cond (p v) (times_in v xs) 0
times-filter v p [] = none (p v)
  where
    none : (b : Bool) → times_in v [] ≡ cond b 0 0
    none true = refl
    none false = refl
times-filter v p (x ∷ xs) = by_number (eqb x v) refl (times-filter v p xs)
  where
    Others : Bool → Type 0
    Others b = times_in v (filter p xs) ≡ cond b (times_in v xs) 0

    All : Bool → Bool → Type 0
    All a b = times_in v (cond a (x ∷ filter p xs) (filter p xs)) ≡ cond b
        (one_at v x + times_in v xs) 0

    it_is : (b : Bool) → Others b → All b b
    it_is true e = omega (arith, e)
    it_is false e = e

    it_is_other : (a b : Bool) → one_at v x ≡ 0 → Others b → All a b
    it_is_other true true z e = omega (arith, z, e)
    it_is_other true false z e = omega (arith, z, e)
    it_is_other false true z e = omega (arith, z, e)
    it_is_other false false z e = e

    by_number : (t : Bool) → eqb x v ≡ t → Others (p v) → All (p x) (p v)
    by_number true e others =
        let same : p v ≡ p x = ap p (sym (eqb-true x v e)) in
        subst (λ b. All (p x) b) (sym same) (it_is (p x) (subst Others same others))
    by_number false e others = it_is_other (p x) (p v) (ap (λ t. cond t 1 0) e) others

times_kept : (v : ℕ) (p : ℕ → Bool) (ms ns : List ℕ) → times_in v ms ≡ times_in v ns
    → times_in v (filter p ms) ≡ times_in v (filter p ns)
times_kept v p ms ns e = times-filter v p ms ∙ ap (λ n. cond (p v) n 0) e
    ∙ sym (times-filter v p ns)

-- filtering a permutation has the same rising order
pub rising_kept : (p : ℕ → Bool) (ms ns : List ℕ) → IsPermutation ms ns
    → rising (filter p ms) ≡ rising (filter p ns)
rising_kept p ms ns moved = rising_same (filter p ms) (filter p ns)
    (λ v. times_kept v p ms ns (times_moved v ms ns moved))

pub rising_kept_twice : (p q : ℕ → Bool) (ms ns : List ℕ) → IsPermutation ms ns
    → rising (filter q (filter p ms)) ≡ rising (filter q (filter p ns))
rising_kept_twice p q ms ns moved = rising_same (filter q (filter p ms)) (filter q (filter p ns))
    (λ v. times_kept v q (filter p ms) (filter p ns)
    (times_kept v p ms ns (times_moved v ms ns moved)))
