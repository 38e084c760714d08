-- Lists in place, one step at a time.
use Rattle.std.proofs.Common.{
  ◌≡◌,
  ℕ,
  zero,
  suc,
  ◌<◌,
  ◌≤◌,
  List,
  [],
  ◌∷◌,
  length,
  Result,
  Ok,
  Err,
  Bool,
  true,
  false,
  cond,
  ltb,
  refl,
  sym,
  ◌∙◌,
  ap,
  arith,
}
use Rattle.std.proofs.lemmas.Bool.{ltb-true}
use Rattle.layouts.specs.Bytes.{Bytes}
use Rattle.layouts.specs.Layout.{Layout}
use Rattle.layouts.specs.Meaning.{Refusal, Answer}
use Rattle.layouts.specs.Reading.{with_items, items_at, reading, ◌and_then◌}
use Rattle.layouts.proofs.OneAnswerLemmas.{ltb_yes, ltb_no}
use Rattle.layouts.specs.Items.{items_in, left_in, decode_while, with_decoded, ReadsThenDecodes}

-- a higher limit on the number of items changes nothing, if the lower one is enough
with_same : {A : Type 0} (a : Answer A) (f g : Bytes → List A × Bytes) (b : Bytes)
    → ((m : Bytes) → length m < length b → f m ≡ g m) → with_items a f b ≡ with_items a g b
with_same {A} (Ok x) f g b h = go (ltb (length x.1) (length b)) refl
  where
    go : (t : Bool) → ltb (length x.1) (length b) ≡ t
        → ◌≡◌ {A = List A × Bytes} (cond t (x.0 ∷ (f x.1).0, (f x.1).1) ([], b))
        (cond t (x.0 ∷ (g x.1).0, (g x.1).1) ([], b))
    go true e = ap (λ y. (x.0 ∷ y.0, y.1)) (h x.1 (ltb-true (length x.1) (length b) e))
    go false e = refl
with_same (Err e) f g b h = refl

pub none_with : {A : Type 0} (a : Answer A) (f : Bytes → List A × Bytes) (b : Bytes) → length b ≤ 0
    → with_items a f b ≡ ([], b)
none_with (Ok x) f b h = ap (λ t. cond t (x.0 ∷ (f x.1).0, (f x.1).1) ([], b))
    (ltb_no (length x.1) (length b) (omega arith))
none_with (Err e) f b h = refl

items_same : {A : Type 0} (f : Bytes → Answer A) (n k : ℕ) (b : Bytes) → length b ≤ n → length b ≤ k
    → items_at f n b ≡ items_at f k b
unfolding items_at
items_same f zero zero b h g = refl
items_same f zero (suc k) b h g = sym (none_with (f b) (items_at f k) b h)
items_same f (suc n) zero b h g = none_with (f b) (items_at f n) b g
items_same f (suc n) (suc k) b h g = with_same (f b) (items_at f n) (items_at f k) b
    (λ m short. items_same f n k m (omega arith) (omega arith))

-- the items of b, with the first step unfolded
pub items_step : {A : Type 0} (f : Bytes → Answer A) (b : Bytes)
    → items_at f (length b) b ≡ with_items (f b) (λ m. items_at f (length m) m) b
unfolding items_at
items_step f [] = sym (none_with (f []) (λ m. items_at f (length m) m) [] (omega arith))
items_step f (x ∷ b) =
    with_same (f (x ∷ b)) (items_at f (length b)) (λ m. items_at f (length m) m) (x ∷ b)
    (λ m short. items_same f (length b) (length m) m (omega arith) (omega arith))

module _ {A : Type 0} (l : Layout A) (b : Bytes) where
  abbrev all_in : Bytes → List A × Bytes
  all_in m = items_at (reading l) (length m) m

  -- an item that is read and isn't empty is the first, and the others follow
  read_first : (x : A) (r : Bytes) → reading l b ≡ Ok (x, r) → length r < length b
      → ◌≡◌ {A = List A × Bytes} (all_in b) (x ∷ (all_in r).0, (all_in r).1)
  read_first x r e short =
      items_step (reading l) b ∙ ap (λ a. with_items a all_in b) e
      ∙ ap (λ t. cond t (x ∷ (all_in r).0, (all_in r).1) ([], b))
      (ltb_yes (length r) (length b) short)

  pub items_first : (x : A) (r : Bytes) → reading l b ≡ Ok (x, r) → length r < length b
      → items_in l b ≡ x ∷ items_in l r
  items_first x r e short = ap (λ y. y.0) (read_first x r e short)

  pub left_first : (x : A) (r : Bytes) → reading l b ≡ Ok (x, r) → length r < length b
      → left_in l b ≡ left_in l r
  left_first x r e short = ap (λ y. y.1) (read_first x r e short)

  -- if no item is read, or an empty one, the list is over
  read_none : (e : Refusal) → reading l b ≡ Err e → all_in b ≡ ([], b)
  read_none e f = items_step (reading l) b ∙ ap (λ a. with_items a all_in b) f

  read_still : (x : A) (r : Bytes) → reading l b ≡ Ok (x, r) → length b ≤ length r
      → all_in b ≡ ([], b)
  read_still x r e long =
      items_step (reading l) b ∙ ap (λ a. with_items a all_in b) e
      ∙ ap (λ t. cond t (x ∷ (all_in r).0, (all_in r).1) ([], b))
      (ltb_no (length r) (length b) long)

  pub items_none : (e : Refusal) → reading l b ≡ Err e → items_in l b ≡ []
  items_none e f = ap (λ y. y.0) (read_none e f)

  pub items_still : (x : A) (r : Bytes) → reading l b ≡ Ok (x, r) → length b ≤ length r
      → items_in l b ≡ []
  items_still x r e long = ap (λ y. y.0) (read_still x r e long)

  pub left_none : (e : Refusal) → reading l b ≡ Err e → left_in l b ≡ b
  left_none e f = ap (λ y. y.1) (read_none e f)

  pub left_still : (x : A) (r : Bytes) → reading l b ≡ Ok (x, r) → length b ≤ length r
      → left_in l b ≡ b
  left_still x r e long = ap (λ y. y.1) (read_still x r e long)

  pub items_shorter : (x : A) (r : Bytes) → reading l b ≡ Ok (x, r) → length r < length b
      → length (items_in l r) < length (items_in l b)
  items_shorter x r e short = let more : length (items_in l b) ≡ length (x ∷ items_in l r) =
      ap length (items_first x r e short) in omega (arith, more)

-- items that are read and then decoded, and the same items decoded as they are read
decoded_first : {X A : Type 0} (decode : X → Result A Refusal) (f : Bytes → List X × Bytes)
    (g : Bytes → List A × Bytes)
    (b : Bytes) (a : Answer X) → ((m : Bytes) → (g m).0 ≡ decode_while decode (f m).0)
    → (with_items (◌and_then◌ {Y = A × Bytes} a (λ x. decode x.0 and_then λ y. Ok (y, x.1))) g b).0
    ≡ decode_while decode (with_items a f b).0
decoded_first decode f g b (Err e) more = refl
decoded_first {X} {A} decode f g b (Ok x) more = by_decode (decode x.0) refl
  where
    -- an item that is decoded and one that isn't, empty or not
    taken : (y : A) (t : Bool) → decode x.0 ≡ Ok y
        → (cond {A = List A × Bytes} t (y ∷ (g x.1).0, (g x.1).1) ([], b)).0
        ≡ decode_while decode (cond {A = List X × Bytes} t (x.0 ∷ (f x.1).0, (f x.1).1) ([], b)).0
    taken y true e = ap (λ ys. y ∷ ys) (more x.1)
        ∙ ap (λ d. with_decoded d (decode_while decode (f x.1).0)) (sym e)
    taken y false e = refl

    ended : (k : Refusal) (t : Bool) → decode x.0 ≡ Err k
        → [] ≡ decode_while decode
        (cond {A = List X × Bytes} t (x.0 ∷ (f x.1).0, (f x.1).1) ([], b)).0
    ended k true e = ap (λ d. with_decoded d (decode_while decode (f x.1).0)) (sym e)
    ended k false e = refl

    by_decode : (d : Result A Refusal) → decode x.0 ≡ d
        → (with_items (◌and_then◌ {Y = A × Bytes} d (λ y. Ok (y, x.1))) g b).0
        ≡ decode_while decode (with_items (Ok x) f b).0
    by_decode (Ok y) e = taken y (ltb (length x.1) (length b)) e
    by_decode (Err k) e = ended k (ltb (length x.1) (length b)) e

decoded : {X A : Type 0} (f : Bytes → Answer X) (g : Bytes → Answer A)
    (decode : X → Result A Refusal)
    → ((b : Bytes) → g b ≡ (f b and_then λ x. decode x.0 and_then λ y. Ok (y, x.1)))
    → (n : ℕ) (b : Bytes)
    → (items_at g n b).0 ≡ decode_while decode (items_at f n b).0
unfolding items_at
decoded f g decode h zero b = refl
decoded f g decode h (suc n) b = ap (λ a. (with_items a (items_at g n) b).0) (h b)
    ∙ decoded_first decode (items_at f n) (items_at g n) b (f b) (λ m. decoded f g decode h n m)

pub items_decoded : {X A : Type 0} (l : Layout A) (raw : Layout X) (decode : X → Result A Refusal)
    → ReadsThenDecodes l raw decode → (b : Bytes)
    → items_in l b ≡ decode_while decode (items_in raw b)
items_decoded l raw decode h b = decoded (reading raw) (reading l) decode h (length b) b

-- no bytes hold no items
pub none_in : {A : Type 0} (l : Layout A) (b : Bytes) → length b ≤ 0 → items_in l b ≡ []
unfolding items_at
none_in l [] h = refl
none_in l (x ∷ b) h = absurd (omega arith)

pub left_over : {A : Type 0} (l : Layout A) (b : Bytes) → length b ≤ 0 → left_in l b ≡ b
unfolding items_at
left_over l [] h = refl
left_over l (x ∷ b) h = absurd (omega arith)
