-- Computes the one answer of a layout, from left to right.
use Rattle.std.specs.Prelude.{
  ℕ,
  zero,
  suc,
  ◌-◌,
  List,
  [],
  ◌∷◌,
  length,
  take,
  drop,
  Option,
  Some,
  None,
  Result,
  Ok,
  Err,
  nat_lt,
  ◌==◌,
  if◌then◌else◌,
}
use Rattle.layouts.specs.Bytes.{Bytes, number_of}
use Rattle.layouts.specs.Layout.{
  Layout,
  done,
  refuse,
  number,
  ignored,
  block,
  left,
  tag,
  window,
  list,
  maybe,
  either,
  complete,
  look,
  chain,
}
use Rattle.layouts.specs.Meaning.{Refusal, Broken, Lacks, Answer}
use Rattle.layouts.specs.declared.result.ErrorKind.TheVariants.{Tag, Complete}

-- Continues after a value; passes a refusal on.
infixl 10 ◌and_then◌
abbrev pub ◌and_then◌ : {X Y : Type 0} → Result X Refusal → (X → Result Y Refusal)
    → Result Y Refusal
(Ok x) and_then f = f x
(Err e) and_then f = Err e

-- The first n bytes, and the rest.
unfoldable pub split_at : ℕ → Bytes → Answer Bytes
split_at n b = if nat_lt (length b) n then Err (Lacks (n - length b)) else Ok (take n b, drop n b)

-- The number in the first k bytes.
unfoldable pub number_at : ℕ → Bytes → Answer ℕ
number_at k b = split_at k b and_then λ x. Ok (number_of x.0, x.1)

-- Skips the first k bytes.
unfoldable pub ignored_at : ℕ → Bytes → Answer Unit
ignored_at k b = split_at k b and_then λ x. Ok (tt, x.1)

-- Skips a tag, which is compared byte by byte.
unfoldable pub tag_at : Bytes → Bytes → Answer Unit
tag_at [] b = Ok (tt, b)
tag_at (x ∷ t) [] = Err (Lacks (length (x ∷ t)))
tag_at (x ∷ t) (y ∷ b) = if x == y then tag_at t b else Err (Broken Tag)

-- The item and further items, if it was read and isn't empty; else no items.
abbrev pub with_items : {A : Type 0} → Answer A → (Bytes → List A × Bytes) → Bytes → List A × Bytes
with_items (Err e) more b = ([], b)
with_items (Ok x) more b = if nat_lt (length x.1) (length b) then
    (x.0 ∷ (more x.1).0, (more x.1).1) else ([], b)

-- The items of a list up to the first that can't be read, at most n.
unfoldable pub items_at : {A : Type 0} → (Bytes → Answer A) → ℕ → Bytes → List A × Bytes
items_at f zero b = ([], b)
items_at f (suc n) b = with_items (f b) (items_at f n) b

-- The value, or None if it is refused.
abbrev pub optional_at : {A : Type 0} → Answer A → Bytes → Answer (Option A)
optional_at (Ok x) b = Ok (Some x.0, x.1)
optional_at (Err e) b = Ok (None, b)

-- Turns missing bytes into `Complete`.
abbrev pub completed : {A : Type 0} → Answer A → Answer A
completed (Ok x) = Ok x
completed (Err (Broken k)) = Err (Broken k)
completed (Err (Lacks n)) = Err (Broken Complete)

-- The first answer that is a value, or `Complete` if neither is.
abbrev pub or_else : {A : Type 0} → Answer A → Answer A → Answer A
or_else (Ok x) y = Ok x
or_else (Err e) (Ok y) = Ok y
or_else (Err e) (Err f) = Err (Broken Complete)

-- The answer of each layout on the bytes b.
abbrev pub reading : {A : Type 0} → Layout A → Bytes → Answer A
reading (done a) b = Ok (a, b)
reading (refuse k) b = Err (Broken k)
reading (number k) b = number_at k b
reading (ignored k) b = ignored_at k b
reading (block n) b = split_at n b
reading left b = Ok (length b, b)
reading (tag t) b = tag_at t b
reading (window n l) b = split_at n b and_then λ w. reading l w.0 and_then λ x. Ok (x.0, w.1)
reading (list l) b = Ok (items_at (reading l) (length b) b)
reading (maybe l) b = optional_at (reading l b) b
reading (either l m) b = or_else (reading l b) (reading m b)
reading (complete l) b = completed (reading l b)
reading (look l) b = reading l b and_then λ x. Ok (x.0, b)
reading (chain l f) b = reading l b and_then λ x. reading (f x.0) x.1
