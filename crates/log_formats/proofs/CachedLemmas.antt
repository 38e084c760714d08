-- Lists and sets after a push or a write, and what they have.
use Rattle.std.proofs.Common.{
  ◌≡◌,
  ◌⊎◌,
  inl,
  inr,
  ℕ,
  suc,
  zero,
  ◌<◌,
  ◌≤◌,
  List,
  [],
  ◌∷◌,
  ◌++◌,
  length,
  get_or,
  sym,
  subst,
  ap,
  arith,
  Any,
  Some,
  None,
  Option,
}
use Rattle.std.specs.Prelude.{
  slice_get,
  slice_set,
  IfNone,
  IfSome,
  IsSomeAnd,
  OnOk,
  Result,
  Ok,
  Err,
}
use Rattle.std.proofs.lemmas.List.Elements.{Contains-push_cases}
use Rattle.std.proofs.lemmas.List.Quantifiers.{Any-push}

-- No element of an empty list has a property.
pub none_in : {X : Type 0} (P : X → Type 0) (xs : List X) → xs ≡ [] → Any P xs → ⊥
none_in P xs e h =
    let lt : h.0 < length xs = h.2 in
    let none : length xs ≡ 0 = ap length e in
    omega (arith, lt, none)

-- An element of a list behind which one was pushed was there before, or is that one.
pub push_adds : {X : Type 0} (P : X → Type 0) (R : Type 0) (xs : List X) (y : X) → (P y → R)
    → Any P (xs ++ y ∷ [])
    → Any P xs ⊎ R
push_adds P R xs y f h = elim (Contains-push_cases xs y h.1 (h.0, h.2, h.3)) [
  | inl c ↦ inl (c.0, h.1, c.1, c.2, h.4)
  | inr e ↦ inr (f (subst P (sym e) h.4))
]

-- An item that has no property adds none to a list's items.
pub pushed_has : {X : Type 0} (Q : X → Type 0) (xs : List X) (y : X) (i : ℕ) → (Q y → ⊥)
    → IsSomeAnd (slice_get (xs ++ y ∷ []) i) Q
    → IsSomeAnd (slice_get xs i) Q
pushed_has Q [] y zero never h = absurd (never h)
pushed_has Q [] y (suc i) never h = h
pushed_has Q (x ∷ xs) y zero never h = h
pushed_has Q (x ∷ xs) y (suc i) never h = pushed_has Q xs y i never h

-- After a write at i an item's property was there before, or is what the write added.
pub set_adds : {X : Type 0} (Q : X → Type 0) (R : Type 0) (xs : List X) (i j : ℕ) (y d : X)
    → (Q y → Q (get_or xs i d) ⊎ R)
    → IsSomeAnd (slice_get (slice_set xs i y) j) Q
    → IsSomeAnd (slice_get xs j) Q ⊎ R
set_adds Q R [] i j y d f h = absurd h
set_adds Q R (x ∷ xs) zero zero y d f h = f h
set_adds Q R (x ∷ xs) zero (suc j) y d f h = inl h
set_adds Q R (x ∷ xs) (suc i) zero y d f h = inl h
set_adds Q R (x ∷ xs) (suc i) (suc j) y d f h = set_adds Q R xs i j y d f h

-- The item that was written at i is at i.
pub set_has : {X : Type 0} (Q : X → Type 0) (xs : List X) (i : ℕ) (y : X) → i < length xs → Q y
    → IsSomeAnd (slice_get (slice_set xs i y) i) Q
set_has Q [] i y lt q = absurd (omega (arith, lt))
set_has Q (x ∷ xs) zero y lt q = q
set_has Q (x ∷ xs) (suc i) y lt q =
    let less : i < length xs = omega (arith, lt) in set_has Q xs i y less q

-- An item's property, by its place.
pub get_has : {X : Type 0} (Q : X → Type 0) (xs : List X) (i : ℕ) (x : X) → i < length xs
    → x ≡ get_or xs i x
    → Q x
    → IsSomeAnd (slice_get xs i) Q
get_has Q [] i x lt e q = absurd (omega (arith, lt))
get_has Q (y ∷ ys) zero x lt e q = subst Q e q
get_has Q (y ∷ ys) (suc i) x lt e q =
    let less : i < length ys = omega (arith, lt) in get_has Q ys i x less e q

-- The property that the item at a place has.
pub has_get : {X : Type 0} (Q : X → Type 0) (xs : List X) (i : ℕ) (x : X)
    → x ≡ get_or xs i x
    → IsSomeAnd (slice_get xs i) Q
    → Q x
has_get Q [] i x e h = absurd h
has_get Q (y ∷ ys) zero x e h = subst Q (sym e) h
has_get Q (y ∷ ys) (suc i) x e h = has_get Q ys i x e h

-- Beyond the end there is no item.
pub past_has_none : {X : Type 0} (Q : X → Type 0) (xs : List X) (i : ℕ) → length xs ≤ i
    → IsSomeAnd (slice_get xs i) Q
    → ⊥
past_has_none Q [] i le h = h
past_has_none Q (y ∷ ys) zero le h = omega (arith, le)
past_has_none Q (y ∷ ys) (suc i) le h =
    let less : length ys ≤ i = omega (arith, le) in past_has_none Q ys i less h

-- A list that may have been emptied has what it had.
pub emptied_adds : {X : Type 0} (P : X → Type 0) (R : Type 0) (old new : List X)
    → (new ≡ old) ⊎ (new ≡ [])
    → Any P new
    → Any P old ⊎ R
emptied_adds P R old new either h = elim either [
  | inl e ↦ inl (subst (Any P) e h)
  | inr e ↦ absurd (none_in P new e h)
]

-- So does a list that may have been emptied before one was pushed, and it has that one.
pub pushed_adds : {X : Type 0} (P : X → Type 0) (R : Type 0) (old new made : List X) (y : X)
    → (new ≡ old) ⊎ (new ≡ [])
    → made ≡ new ++ y ∷ []
    → (P y → R)
    → Any P made
    → Any P old ⊎ R
pushed_adds P R old new made y either e f h =
    elim (push_adds P R new y f (subst (Any P) e h)) [
      | inl i ↦ emptied_adds P R old new either i
      | inr r ↦ inr r
    ]

-- A list behind which one was pushed has that one.
pub pushed_has_it : {X : Type 0} (P : X → Type 0) (new made : List X) (y : X)
    → made ≡ new ++ y ∷ []
    → P y
    → Any P made
pushed_has_it P new made y e p = subst (Any P) (sym e) (Any-push P new y p)

-- What a look-up found in the item at a place is in the list.
pub some_has : {A X : Type 0} (P : A → X → Type 0) (xs : List X) (i j : ℕ) (x : X) (r : Option A)
    → j ≡ i
    → j < length xs
    → x ≡ get_or xs j x
    → IfSome r (λ a. P a x)
    → IfSome r (λ a. IsSomeAnd (slice_get xs i) (P a))
some_has P xs i j x None e lt at h = tt
some_has P xs i j x (Some a) e lt at h =
    subst (λ k. IsSomeAnd (slice_get xs k) (P a)) e (get_has (P a) xs j x lt at h)

-- What a look-up didn't find in the item at a place isn't in the list.
pub none_has : {A T X : Type 0} (P : T → X → Type 0) (xs : List X) (i j : ℕ) (x : X) (r : Option A)
    → j ≡ i
    → x ≡ get_or xs j x
    → IfNone r ((t : T) → ¬ P t x)
    → IfNone r ((t : T) → ¬ IsSomeAnd (slice_get xs i) (P t))
none_has P xs i j x (Some a) e at h = tt
none_has P xs i j x None e at h = λ t has.
    h t (has_get (P t) xs j x at (subst (λ k. IsSomeAnd (slice_get xs k) (P t)) (sym e) has))

-- A weaker fact holds where a call succeeds.
pub ok_weaker : {A E P Q : Type 0} (r : Result A E) → (P → Q) → OnOk r P → OnOk r Q
ok_weaker (Ok x) f h = f h
ok_weaker (Err e) f h = tt
