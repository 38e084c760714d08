-- How many bytes a layout leaves: never more than there are, and fewer if it begins with a number.
use Rattle.std.proofs.Common.{
  ◌≡◌,
  ℕ,
  zero,
  suc,
  ◌-◌,
  ◌<◌,
  ◌≤◌,
  List,
  [],
  ◌∷◌,
  length,
  take,
  drop,
  Ok,
  Err,
  Bool,
  true,
  false,
  cond,
  ltb,
  eqb,
  refl,
  arith,
  le_refl,
}
use Rattle.std.proofs.lemmas.Bool.{ltb-false}
use Rattle.std.proofs.lemmas.List.{length-drop}
use Rattle.layouts.specs.Bytes.{Bytes, number_of}
use Rattle.layouts.specs.Layout.{
  Layout,
  done,
  refuse,
  number,
  ignored,
  block,
  left,
  tag,
  window,
  list,
  maybe,
  either,
  complete,
  look,
  chain,
}
use Rattle.layouts.specs.Meaning.{Answer, Broken, Lacks}
use Rattle.layouts.specs.Reading.{
  reading,
  split_at,
  number_at,
  ignored_at,
  tag_at,
  with_items,
  items_at,
  optional_at,
  completed,
  or_else,
  ◌and_then◌,
}
use Rattle.layouts.specs.declared.result.ErrorKind.TheVariants.{Tag}

-- the answer leaves at most n bytes
abbrev pub Leaves : {A : Type 0} → ℕ → Answer A → Type 0
Leaves n (Ok x) = length x.1 ≤ n
Leaves n (Err e) = Unit {0}

leaves_fewer : {A : Type 0} (m n : ℕ) (a : Answer A) → m ≤ n → Leaves m a → Leaves n a
leaves_fewer m n (Ok x) h l = omega arith
leaves_fewer m n (Err e) h l = tt

leaves_then : {A B : Type 0} (n : ℕ) (a : Answer A) (f : A × Bytes → Answer B) → Leaves n a
    → ((x : A × Bytes) → Leaves (length x.1) (f x)) → Leaves n (a and_then f)
leaves_then n (Ok x) f h g = leaves_fewer (length x.1) n (f x) h (g x)
leaves_then n (Err e) f h g = tt

-- a split leaves n bytes fewer, if there are as many
split_leaves : (n : ℕ) (b : Bytes) → Leaves (length b - n) (split_at n b)
unfolding split_at
split_leaves n b = go (ltb (length b) n)
  where
    go : (t : Bool)
        → Leaves (length b - n) (cond t (Err (Lacks (n - length b))) (Ok (take n b, drop n b)))
    go true = tt
    go false = omega (arith, length-drop n b)

tag_leaves : (t b : Bytes) → Leaves (length b) (tag_at t b)
unfolding tag_at
tag_leaves [] b = le_refl _
tag_leaves (x ∷ t) [] = tt
tag_leaves (x ∷ t) (y ∷ b) = go (eqb x y) (tag_leaves t b)
  where
    go : (s : Bool) → Leaves (length b) (tag_at t b)
        → Leaves (length (y ∷ b)) (cond s (tag_at t b) (Err (Broken Tag)))
    go true h = leaves_fewer (length b) (length (y ∷ b)) (tag_at t b) (omega arith) h
    go false h = tt

with_leaves : {A : Type 0} (a : Answer A) (more : Bytes → List A × Bytes) (b : Bytes)
    → Leaves (length b) a
    → ((c : Bytes) → length (more c).1 ≤ length c) → length (with_items a more b).1 ≤ length b
with_leaves (Err e) more b l h = le_refl _
with_leaves {A} (Ok x) more b l h = test (ltb (length x.1) (length b))
  where
    test : (t : Bool)
        → length (cond {A = List A × Bytes} t (x.0 ∷ (more x.1).0, (more x.1).1) ([], b)).1 ≤ length
        b
    test true = omega (arith, h x.1)
    test false = le_refl _

items_leave : {A : Type 0} (f : Bytes → Answer A) (n : ℕ) (b : Bytes)
    → ((c : Bytes) → Leaves (length c) (f c))
    → length (items_at f n b).1 ≤ length b
unfolding items_at
items_leave f zero b h = le_refl _
items_leave f (suc n) b h = with_leaves (f b) (items_at f n) b (h b) (λ c. items_leave f n c h)

optional_leaves : {A : Type 0} (a : Answer A) (b : Bytes) → Leaves (length b) a
    → Leaves (length b) (optional_at a b)
optional_leaves (Ok x) b h = h
optional_leaves (Err e) b h = le_refl _

either_leaves : {A : Type 0} (n : ℕ) (a c : Answer A) → Leaves n a → Leaves n c
    → Leaves n (or_else a c)
either_leaves n (Ok x) c h k = h
either_leaves n (Err e) (Ok x) h k = k
either_leaves n (Err e) (Err f) h k = tt

complete_leaves : {A : Type 0} (n : ℕ) (a : Answer A) → Leaves n a → Leaves n (completed a)
complete_leaves n (Ok x) h = h
complete_leaves n (Err (Broken k)) h = tt
complete_leaves n (Err (Lacks m)) h = tt

-- no layout leaves more bytes than there are
pub leaves : {A : Type 0} (l : Layout A) (b : Bytes) → Leaves (length b) (reading l b)
unfolding number_at ignored_at
leaves (done a) b = le_refl _
leaves (refuse k) b = tt
leaves (number k) b =
    leaves_then _ (split_at k b) (λ x. Ok (number_of x.0, x.1))
    (leaves_fewer _ _ (split_at k b) (omega arith) (split_leaves k b)) (λ x. le_refl _)
leaves (ignored k) b =
    leaves_then _ (split_at k b) (λ x. Ok (tt, x.1))
    (leaves_fewer _ _ (split_at k b) (omega arith) (split_leaves k b))
    (λ x. le_refl _)
leaves (block n) b = leaves_fewer _ _ (split_at n b) (omega arith) (split_leaves n b)
leaves left b = le_refl _
leaves (tag t) b = tag_leaves t b
leaves (window n l) b =
    leaves_then _ (split_at n b) (λ w. reading l w.0 and_then λ x. Ok (x.0, w.1))
    (leaves_fewer _ _ (split_at n b) (omega arith) (split_leaves n b))
    (λ w. keeps w (reading l w.0))
  where
    keeps : {A : Type 0} (w : Bytes × Bytes) (a : Answer A)
        → Leaves (length w.1) (a and_then λ x. Ok (x.0, w.1))
    keeps w (Ok x) = le_refl _
    keeps w (Err e) = tt
leaves (list l) b = items_leave (reading l) (length b) b (leaves l)
leaves (maybe l) b = optional_leaves (reading l b) b (leaves l b)
leaves (either l m) b = either_leaves _ (reading l b) (reading m b) (leaves l b) (leaves m b)
leaves (complete l) b = complete_leaves _ (reading l b) (leaves l b)
leaves (look l) b = looked (reading l b)
  where
    looked : {A : Type 0} (a : Answer A) → Leaves (length b) (a and_then λ x. Ok (x.0, b))
    looked (Ok x) = le_refl _
    looked (Err e) = tt
leaves (chain l f) b =
    leaves_then _ (reading l b) (λ x. reading (f x.0) x.1) (leaves l b) (λ x. leaves (f x.0) x.1)

-- the first part is a number of at least one byte
abbrev pub BeginsWithNumber : {A : Type 0} → Layout A → Type 0
BeginsWithNumber (number (suc k)) = Unit {0}
BeginsWithNumber (chain l f) = BeginsWithNumber l
BeginsWithNumber l = ⊥

-- the answer leaves fewer than n bytes
abbrev pub LeavesFewer : {A : Type 0} → ℕ → Answer A → Type 0
LeavesFewer n (Ok x) = length x.1 < n
LeavesFewer n (Err e) = Unit {0}

fewer_still : {A : Type 0} (m n : ℕ) (a : Answer A) → m < n → Leaves m a → LeavesFewer n a
fewer_still m n (Ok x) h l = omega arith
fewer_still m n (Err e) h l = tt

fewer_then : {A B : Type 0} (n : ℕ) (a : Answer A) (f : A × Bytes → Answer B) → LeavesFewer n a
    → ((x : A × Bytes) → Leaves (length x.1) (f x)) → LeavesFewer n (a and_then f)
fewer_then n (Ok x) f h g = fewer_still (length x.1) n (f x) h (g x)
fewer_then n (Err e) f h g = tt

split_fewer : (k : ℕ) (b : Bytes) → LeavesFewer (length b) (split_at (suc k) b)
unfolding split_at
split_fewer k b = go (ltb (length b) (suc k)) refl
  where
    go : (t : Bool) → ltb (length b) (suc k) ≡ t
        → LeavesFewer (length b)
        (cond t (Err (Lacks (suc k - length b))) (Ok (take (suc k) b, drop (suc k) b)))
    go true e = tt
    go false e = omega (arith, length-drop (suc k) b, ltb-false (length b) (suc k) e)

-- such a layout consumes a byte
pub takes_byte : {A : Type 0} (l : Layout A) (b : Bytes) → BeginsWithNumber l
    → LeavesFewer (length b) (reading l b)
unfolding number_at
takes_byte (number (suc k)) b h =
    fewer_then _ (split_at (suc k) b) (λ x. Ok (number_of x.0, x.1)) (split_fewer k b)
    (λ x. le_refl _)
takes_byte (chain l f) b h =
    fewer_then _ (reading l b) (λ x. reading (f x.0) x.1) (takes_byte l b h)
    (λ x. leaves (f x.0) x.1)
takes_byte (number zero) b h = absurd h
takes_byte (done a) b h = absurd h
takes_byte (refuse e) b h = absurd h
takes_byte (ignored k) b h = absurd h
takes_byte (block n) b h = absurd h
takes_byte left b h = absurd h
takes_byte (tag t) b h = absurd h
takes_byte (window n l) b h = absurd h
takes_byte (list l) b h = absurd h
takes_byte (maybe l) b h = absurd h
takes_byte (either l m) b h = absurd h
takes_byte (complete l) b h = absurd h
takes_byte (look l) b h = absurd h
