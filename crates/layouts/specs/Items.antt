-- Lists in place: the items in a slice of bytes, and the bytes left after them.
use Rattle.std.specs.Prelude.{
  ◌≡◌,
  ◌==◌,
  if◌then◌else◌,
  ℕ,
  List,
  [],
  ◌∷◌,
  length,
  Option,
  Some,
  None,
  Result,
  Ok,
  Err,
  ⊤,
}
use Rattle.std.specs.Borrow.{Bor}
use Rattle.layouts.specs.Bytes.{Bytes}
use Rattle.layouts.specs.Layout.{Layout}
use Rattle.layouts.specs.Meaning.{Refusal, Answer}
use Rattle.layouts.specs.Reading.{reading, items_at, ◌and_then◌}
use Rattle.layouts.specs.Answers.{IsRefusal, refusal_of}
use Rattle.layouts.specs.declared.result.Error.{Error}
use Rattle.layouts.specs.declared.result.Err.{Err as Failed}

-- The list that `reading (list l)` gives on b, and the rest that it leaves.
abbrev pub items_in : {A : Type 0} → Layout A → Bytes → List A
items_in l b = (items_at (reading l) (length b) b).0

abbrev pub left_in : {A : Type 0} → Layout A → Bytes → Bytes
left_in l b = (items_at (reading l) (length b) b).1

-- The list that was read; empty if the bytes are refused.
abbrev pub list_read : {A : Type 0} → Answer (List A) → List A
list_read (Ok x) = x.0
list_read (Err e) = []

-- The value that was read, without the rest.
abbrev pub value_of : {A : Type 0} → Answer A → Result A Refusal
value_of (Ok x) = Ok x.0
value_of (Err e) = Err e

abbrev pub with_decoded : {A : Type 0} → Result A Refusal → List A → List A
with_decoded (Ok y) ys = y ∷ ys
with_decoded (Err e) ys = []

-- The decoded items, up to the first that can't be decoded.
abbrev pub decode_while : {X A : Type 0} → (X → Result A Refusal) → List X → List A
decode_while decode [] = []
decode_while decode (x ∷ xs) = with_decoded (decode x) (decode_while decode xs)

-- l reads what `raw` reads, then decodes it without reading further bytes.
abbrev pub ReadsThenDecodes : {X A : Type 0} → Layout A → Layout X → (X → Result A Refusal) → Type 0
ReadsThenDecodes l raw decode =
    (b : Bytes) → reading l b ≡ (reading raw b and_then λ x. decode x.0 and_then λ y. Ok (y, x.1))

-- Why an item isn't read; None if it is.
abbrev pub refused_by : {A : Type 0} → Answer A → Option Refusal
refused_by (Ok x) = None
refused_by (Err e) = Some e

-- Why the items of b end: the refusal of the next item, or None if no bytes are left.
abbrev pub refusal_in : {A : Type 0} → Layout A → Bytes → Option Refusal
refusal_in l b = if length (left_in l b) == 0 then None else refused_by (reading l (left_in l b))

-- The result of a call that reads on demand and leaves no rest: a value, or a refusal.
abbrev pub returned : {X Y : Type 0} → (X → Y) → Result X (Failed (Error (Bor (List ℕ))))
    → Result Y Refusal
returned view (Ok x) = Ok (view x)
returned view (Err e) = Err (refusal_of e)

abbrev pub IsReturned : {X : Type 0} → Result X (Failed (Error (Bor (List ℕ)))) → Type 0
IsReturned (Ok x) = ⊤
IsReturned (Err e) = IsRefusal e

-- The call returns a: the value, or the refusal.
pub record Returns {X Y : Type 0} (view : X → Y) (a : Result Y Refusal)
    (result : Result X (Failed (Error (Bor (List ℕ))))) : Type 0 where
  pub answers : IsReturned result
  pub is : returned view result ≡ a
