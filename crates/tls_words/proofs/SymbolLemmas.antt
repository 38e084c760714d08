-- Symbols of a finite alphabet, with computed equality, and tests that all symbols pass.
use Rattle.std.proofs.Common.{
  ◌≡◌,
  ℕ,
  zero,
  suc,
  ◌<◌,
  length,
  List,
  [],
  ◌∷◌,
  Bool,
  true,
  false,
  ◌&&◌,
  ◌||◌,
  Contains,
  slice_index_or,
  arith,
  inl,
  inr,
  refl,
  subst,
}
use Rattle.std.specs.List.{list_all}
use Rattle.tls_words.proofs.PatternLemmas.{both_and, either_or, or_either}
use denote.Enum.Declared.{Declared}
use denote.Enum.Bare.{Bare, sameb, same_true, same_false}

-- Values of an enum without fields.
abbrev pub decided : (D : Declared) → Bare D.parts → (a b : D.D) (t : Bool) → sameb D a b ≡ t
    → Dec (a ≡ b)
decided D bare a b true e = yes (same_true D bare a b e)
decided D bare a b false e = no (same_false D a b e)

abbrev pub is_yes : {A : Type 0} → Dec A → Bool
is_yes (yes e) = true
is_yes (no n) = false

pub yes_is : {A : Type 0} (d : Dec A) → is_yes d ≡ true → A
yes_is (yes e) t = e
yes_is (no n) t = cc

module _ {L : Type 0} (same : (a b : L) → Dec (a ≡ b)) where
  abbrev pub is_in : List L → L → Bool
  is_in [] l = false
  is_in (x ∷ xs) l = is_yes (same x l) || is_in xs l

  -- Whether a symbol is in a list, by its position.
  pub in_contains : (xs : List L) (l : L) → is_in xs l ≡ true → Contains xs l
  in_contains [] l h = cc
  in_contains (x ∷ xs) l h = elim (either_or (is_yes (same x l)) (is_in xs l) h) [
    | inl e ↦ (0, omega arith, yes_is (same x l) e)
    | inr e ↦ let k : Contains xs l = in_contains xs l e in (suc k.0, omega (arith, k.1), k.2)
  ]

  same_is_yes : (x l : L) (d : Dec (x ≡ l)) → x ≡ l → is_yes d ≡ true
  same_is_yes x l (yes e) h = refl
  same_is_yes x l (no n) h = absurd (n h)

  at_place : (xs : List L) (l : L) (k : ℕ) → k < length xs → slice_index_or xs k l ≡ l
      → is_in xs l ≡ true
  at_place [] l k b e = absurd (omega (arith, b))
  at_place (x ∷ xs) l zero b e =
      or_either (is_yes (same x l)) (is_in xs l) (inl (same_is_yes x l (same x l) e))
  at_place (x ∷ xs) l (suc k) b e = or_either (is_yes (same x l)) (is_in xs l)
      (inr (at_place xs l k (omega (arith, b)) e))

  pub contains_in : (xs : List L) (l : L) → Contains xs l → is_in xs l ≡ true
  contains_in xs l h = at_place xs l h.0 h.1 h.2

  -- A symbol in a list passes a test that all in the list pass.
  pub passes_in : (f : L → Bool) (xs : List L) (l : L) → list_all f xs ≡ true → is_in xs l ≡ true
      → f l ≡ true
  passes_in f [] l t h = cc
  passes_in f (x ∷ xs) l t h =
      let k : (f x ≡ true) × (list_all f xs ≡ true) = both_and (f x) (list_all f xs) t in
      elim (either_or (is_yes (same x l)) (is_in xs l) h) [
        | inl e ↦ subst (λ y. f y ≡ true) (yes_is (same x l) e) k.0
        | inr e ↦ passes_in f xs l k.1 e
      ]
