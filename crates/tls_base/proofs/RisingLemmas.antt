-- Look-ups in a table of increasing numbers, by the position of a number.
use Rattle.std.proofs.Common.{
  ◌≡◌,
  ◌≢◌,
  ◌↔◌,
  ◌∙◌,
  ap,
  sym,
  refl,
  ℕ,
  zero,
  suc,
  ◌+◌,
  ◌<◌,
  ◌≤◌,
  Bool,
  true,
  false,
  cond,
  eqb,
  List,
  [],
  ◌∷◌,
  length,
  Option,
  Some,
  None,
  slice_get,
  slice_index,
  arith,
}
use Rattle.std.specs.Prelude.{nat_lt, ◌==◌, find, MatchOption}
use Rattle.std.specs.Option.{option_map, option_copied}
use Rattle.std.specs.List.{zip, HoldsAt}
use Rattle.std.specs.Borrow.{Bor}
use Rattle.std.proofs.lemmas.Option.{slice_get_past, slice_get-get_or}
use Rattle.std.specs.List.Sorted.{IsStrictlyIncreasing}
use Rattle.std.proofs.lemmas.Bool.{ltb-true}
use Rattle.layouts.proofs.OneAnswerLemmas.{eqb_same, eqb_other}
use Rattle.tls_base.specs.Names.{look_up}

-- tests that the numbers increase, from x on
abbrev pub rise : ℕ → List ℕ → Bool
rise x [] = true
rise x (y ∷ ys) = cond (nat_lt x y) (rise y ys) false

both : (a b : Bool) → cond a b false ≡ true → (a ≡ true) × (b ≡ true)
both true b e = (refl, e)
both false b e = absurd cc

rises_from : (x : ℕ) (xs : List ℕ) → rise x xs ≡ true → IsStrictlyIncreasing (x ∷ xs)
rises_from x [] e k h = absurd (omega arith)
rises_from x (y ∷ ys) e zero h = ltb-true x y (both _ _ e).0
rises_from x (y ∷ ys) e (suc k) h =
    let bound : k + 1 < length (y ∷ ys) = omega arith in
    let next : suc k + 1 ≡ suc (k + 1) = omega arith in
    let below : slice_index (y ∷ ys) k < slice_index (y ∷ ys) (k + 1) =
    rises_from y ys (both (nat_lt x y) (rise y ys) e).1 k bound in
    rw next below

-- tests that all numbers increase, and what the test proves
abbrev pub rise_all : List ℕ → Bool
rise_all [] = true
rise_all (x ∷ xs) = rise x xs

pub rising : (xs : List ℕ) → rise_all xs ≡ true → IsStrictlyIncreasing xs
rising [] e = λ k h. absurd (omega arith)
rising (x ∷ xs) e = rises_from x xs e

-- a look-up at the first entry, if its number is n and if it isn't
here : {A : Type 0} (x n : ℕ) (v : A) (rest : List (ℕ × A)) → x ≡ n
    → look_up ((x, v) ∷ rest) n ≡ Some v
here x n v rest e =
    ap (λ b. option_map (λ y. y.1) (cond b (Some (x, v)) (find (λ y. y.0 == n) rest)))
    (ap (λ m. eqb x m) (sym e) ∙ eqb_same x)

later : {A : Type 0} (x n : ℕ) (v : A) (rest : List (ℕ × A)) → x ≢ n
    → look_up ((x, v) ∷ rest) n ≡ look_up rest n
later x n v rest ne =
    ap (λ b. option_map (λ y. y.1) (cond b (Some (x, v)) (find (λ y. y.0 == n) rest)))
    (eqb_other x n ne)

-- a number that is only at position k
pub look_up-zip : {A : Type 0} (ks : List ℕ) (vs : List A) (n k : ℕ) → slice_get ks k ≡ Some n
    → ((j : ℕ) → slice_get ks j ≡ Some n → j ≡ k) → look_up (zip ks vs) n ≡ slice_get vs k
look_up-zip [] vs n k at alone = absurd cc
look_up-zip (x ∷ ks) [] n k at alone = refl
look_up-zip (x ∷ ks) (w ∷ vs) n zero at alone = let same : x ≡ n = cc in here x n w (zip ks vs) same
look_up-zip (x ∷ ks) (w ∷ vs) n (suc k) at alone =
    let other : x ≢ n = λ e. let first : zero ≡ suc k = alone zero (ap Some e) in
    absurd (omega arith) in
    let rest : (j : ℕ) → slice_get ks j ≡ Some n → j ≡ k = λ j h. omega (arith, alone (suc j) h) in
    later x n w (zip ks vs) other ∙ look_up-zip ks vs n k at rest

-- a number that isn't in the table
pub look_up-nowhere : {A : Type 0} (ks : List ℕ) (vs : List A) (n : ℕ)
    → ((j : ℕ) → slice_get ks j ≡ Some n → ⊥)
    → look_up (zip ks vs) n ≡ None
look_up-nowhere [] vs n none = refl
look_up-nowhere (x ∷ ks) [] n none = refl
look_up-nowhere (x ∷ ks) (w ∷ vs) n none =
    later x n w (zip ks vs) (λ e. none zero (ap Some e))
    ∙ look_up-nowhere ks vs n (λ j h. none (suc j) h)

-- what the table has for n, by the position of n
pub found_beside : {A : Type 0} (ks : List ℕ) (vs : List A) (n k : ℕ)
    → ((j : ℕ) → (Some k ≡ Some j) ↔ (slice_get ks j ≡ Some n))
    → look_up (zip ks vs) n ≡ slice_get vs k
found_beside ks vs n k place =
    look_up-zip ks vs n k ((place k).0 refl)
    (λ j h. let same : Some k ≡ Some j = (place j).1 h in cc)

pub found_nowhere : {A : Type 0} (ks : List ℕ) (vs : List A) (n : ℕ)
    → ((j : ℕ) → (None ≡ Some j) ↔ (slice_get ks j ≡ Some n)) → look_up (zip ks vs) n ≡ None
found_nowhere ks vs n place =
    look_up-nowhere ks vs n (λ j h. let never : None ≡ Some j = (place j).1 h in absurd cc)

-- the result of `get` and `copied`
pub got : {A : Type 0} (xs : List A) (k : ℕ) (r : Option (Bor A))
    → MatchOption r (length xs ≤ k) (λ x. (k < length xs) × HoldsAt (λ y. x.now ≡ y) xs k)
    → option_copied r ≡ slice_get xs k
got xs k None h = sym (slice_get_past xs k h)
got xs k (Some x) h = sym (slice_get-get_or xs k x.now h.0 ∙ ap Some (sym (h.1 x.now)))
