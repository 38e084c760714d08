-- The first label of a name.
use Rattle.std.proofs.Common.{◌≡◌, ℕ, zero, suc, ◌<◌, Bool, true, false, cond, List, [], ◌∷◌, length, take, drop, get_or, eqb, refl, ap, ap₂, ◌∙◌, ◌&&◌, Option, Some, None, arith, eq-eqb}
use Rattle.std.specs.List.{onto_first}
use Rattle.std.proofs.lemmas.Bool.{ne_eqb}
use Rattle.layouts.specs.Bytes.{Bytes}
use Rattle.std.specs.Borrow.{Bor}
use Rattle.std.specs.Option.{is_some}
use Rattle.x509_text.specs.Host.{are_some, are_two, covers, labels, labels_left, same_labels, stands_for}

-- it ends before the first dot
pub first_ends : (name : Bytes) (i : ℕ) → ((k : ℕ) → k < i → get_or name k 0 ≡ 46 → ⊥)
    → i < length name → get_or name i 0 ≡ 46
    → labels name ≡ take i name ∷ labels (drop (suc i) name)
first_ends [] i h lt e = absurd (omega arith)
first_ends (c ∷ cs) zero h lt e =
    ap (λ t. cond t ([] ∷ labels cs) (onto_first c (labels cs))) (eq-eqb c 46 e)
first_ends (c ∷ cs) (suc i) h lt e =
    ap (λ t. cond t ([] ∷ labels cs) (onto_first c (labels cs))) (ne_eqb c 46 (h 0 (omega arith)))
    ∙ ap (onto_first c) (first_ends cs i (λ k low. h (suc k) (omega arith)) (omega arith) e)

-- without a dot it is the whole name
pub all_first : (name : Bytes) → ((k : ℕ) → k < length name → get_or name k 0 ≡ 46 → ⊥)
    → labels name ≡ name ∷ []
all_first [] h = refl
all_first (c ∷ cs) h =
    ap (λ t. cond t ([] ∷ labels cs) (onto_first c (labels cs))) (ne_eqb c 46 (h 0 (omega arith)))
    ∙ ap (onto_first c) (all_first cs (λ k low. h (suc k) (omega arith)))

onto_some : (c : ℕ) (parts : List Bytes) (t : Bool) (others : List Bytes)
    → are_some (cond t ([] ∷ others) (onto_first c parts)) ≡ true
onto_some c parts true others = refl
onto_some c [] false others = refl
onto_some c (part ∷ parts) false others = refl

-- a name has a label
pub some_label : (name : Bytes) → are_some (labels name) ≡ true
some_label [] = refl
some_label (c ∷ cs) = onto_some c (labels cs) (eqb c 46) (labels cs)

goes_on : (names : List Bytes) → are_some names ≡ true → same_labels names [] ≡ false
goes_on [] h = absurd (cc)
goes_on (name ∷ names) h = refl

goes_on_too : (names : List Bytes) → are_some names ≡ true → same_labels [] names ≡ false
goes_on_too [] h = absurd (cc)
goes_on_too (name ∷ names) h = refl

pub first_goes_on : (name : Bytes) → same_labels (labels name) [] ≡ false
first_goes_on name = goes_on (labels name) (some_label name)

pub second_goes_on : (name : Bytes) → same_labels [] (labels name) ≡ false
second_goes_on name = goes_on_too (labels name) (some_label name)

some_left : (rest : Option (Bor Bytes)) → are_some (labels_left rest) ≡ is_some rest
some_left None = refl
some_left (Some rest) = some_label rest.now

-- a second label is one that is left behind the first
pub two_left : (name first : Bytes) (rest : Option (Bor Bytes)) → labels name ≡ first ∷ labels_left rest
    → are_two (labels name) ≡ is_some rest
two_left name first rest e = ap are_two e ∙ some_left rest

-- first labels, and the rest after them
pub covers_split : (pattern host first label : Bytes) (others behind : Option (Bor Bytes))
    → labels pattern ≡ first ∷ labels_left others → labels host ≡ label ∷ labels_left behind
    → covers (labels pattern) (labels host)
    ≡ (stands_for first label (labels_left behind)
    && same_labels (labels_left others) (labels_left behind))
covers_split pattern host first label others behind p h = ap₂ covers p h
