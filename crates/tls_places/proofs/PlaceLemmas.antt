-- The places of parts.
use Rattle.std.proofs.Common.{
  ◌≡◌,
  ℕ,
  ◌+◌,
  ◌-◌,
  ◌≤◌,
  [],
  ◌∷◌,
  ◌++◌,
  length,
  take,
  drop,
  min,
  sym,
  ◌∙◌,
  ap,
  ap₂,
  subst,
  refl,
  arith,
  Option,
  Some,
  None,
  unwrap_or,
}
use Rattle.std.proofs.lemmas.List.{
  append_assoc,
  length-append,
  drop_at,
  length-drop,
  length-take-le,
  take-append-drop,
  take_min,
  drop_min,
}
use Rattle.layouts.specs.Bytes.{Bytes}
use Rattle.layouts.specs.Meaning.{EndsWith}
use Rattle.layouts.specs.Place.{bytes_at}
use Rattle.layouts.specs.Text.{held}
use Rattle.layouts.specs.declared.places.Place.{Place}
use Rattle.layouts.proofs.EndLemmas.{ends_after}
pub use Rattle.tls_hs.proofs.PlacesLemmas.{stands_behind}
use Rattle.tls_places.specs.Place.{Stands, IsEnd, Lies, MayStand}

-- the part right before the rest
pub stands_before : (b x r : Bytes) → EndsWith b (x ++ r)
    → Stands b (record { offset = length b - length r - length x; length = length x }) x
stands_before b x r (f, e) =
    let all : length b ≡ length f + (length x + length r) =
    ap length e ∙ length-append f (x ++ r) ∙ ap (λ n. length f + n) (length-append x r) in
    let front : length f ≡ length b - length r - length x = omega (arith, all) in
    stands_behind (length b - length r - length x) b f x r e front

-- the bytes before a part, and those after it
record Cut (b : Bytes) (o : ℕ) (x : Bytes) : Type 0 where
  front : Bytes
  behind : Bytes
  whole : b ≡ front ++ (x ++ behind)
  size : length front ≡ o

cut : (b x : Bytes) (p : Place) → Stands b p x → Cut b p.offset x
cut b x p s = record {
  front = take p.offset b;
  behind = drop p.length (drop p.offset b);
  whole = sym (ap (λ y. take p.offset b ++ y)
      (ap (λ y. y ++ drop p.length (drop p.offset b)) (sym s.is)
      ∙ take-append-drop p.length (drop p.offset b))
      ∙ take-append-drop p.offset b);
  size = length-take-le p.offset b (omega (arith, s.within));
}

pub size_of : (b x : Bytes) (p : Place) → Stands b p x → length x ≡ p.length
size_of b x p s = ap length (sym s.is) ∙ length-take-le p.length (drop p.offset b)
    (let left : length (drop p.offset b) ≡ length b - p.offset =
    length-drop p.offset b in omega (arith, s.within, left))

-- a place in a place
pub stands_within : (b x y : Bytes) (p q : Place) → Stands b p x → Stands x q y
    → Stands b (record { offset = p.offset + q.offset; length = q.length }) y
stands_within b x y p q outer inner =
    let out : Cut b p.offset x = cut b x p outer in
    let here : Cut x q.offset y = cut x y q inner in
    let whole : b ≡ (out.front ++ here.front) ++ (y ++ (here.behind ++ out.behind)) =
    out.whole ∙ ap (λ z. out.front ++ (z ++ out.behind)) here.whole
    ∙ ap (λ z. out.front ++ z) (append_assoc here.front (y ++ here.behind) out.behind
    ∙ ap (λ z. here.front ++ z) (append_assoc y here.behind out.behind))
    ∙ sym (append_assoc out.front here.front (y ++ (here.behind ++ out.behind))) in
    let at : Stands b (record { offset = p.offset + q.offset; length = length y }) y =
    stands_behind (p.offset + q.offset) b (out.front ++ here.front) y
    (here.behind ++ out.behind) whole
    (length-append out.front here.front ∙ ap₂ (λ i j. i + j) out.size here.size) in
    let P : ℕ → Type 0 = λ n. Stands b (record { offset = p.offset + q.offset; length = n }) y in
    subst P (size_of x y q inner) at

-- the end of an end
pub ends_in : (w b x r : Bytes) → EndsWith w b → EndsWith b (x ++ r) → EndsWith w (x ++ r)
ends_in w b x r = ends_after w b (x ++ r)

-- the bytes x that an item ends in, known as y
pub frame_stands : (w b x y r : Bytes) (p : Place) → y ≡ x → (EndsWith w (y ++ r) → Stands w p y)
    → EndsWith w b
    → EndsWith b (x ++ r) → Stands w p x
frame_stands w b x y r p same place at last =
    let there : EndsWith w (y ++ r) =
    subst (λ z. EndsWith w (z ++ r)) (sym same) (ends_in w b x r at last) in
    subst (λ z. Stands w p z) same (place there)

pub is_end : (b r : Bytes) → EndsWith b r → IsEnd b r
is_end b r (f, e) =
    let all : length b ≡ length f + length r = ap length e ∙ length-append f r in
    let front : length f ≡ length b - length r = omega (arith, all) in
    record {
      fits = omega (arith, all);
      is =
          ap (λ x. drop (length b - length r) x) e ∙ drop_at f r (length b - length r) front;
    }

pub ends_of : (b r : Bytes) → IsEnd b r → EndsWith b r
ends_of b r end = (
  take (length b - length r) b,
  sym (ap (λ x. take (length b - length r) b ++ x) (sym end.is)
      ∙ take-append-drop (length b - length r) b),
)

-- all bytes are their own end
pub whole_is_end : (b : Bytes) → IsEnd b b
whole_is_end b = is_end b b ([], refl)

-- nothing is at the front
pub none_stands : (b : Bytes) → length b ≤ 0 → Stands b (record { offset = 0; length = 0 }) b
none_stands [] h = record { is = refl; within = omega arith }
none_stands (x ∷ b) h = absurd (omega arith)

-- an optional part as bytes, which are empty if it is missing
pub held_there : (b : Bytes) (p : Option Place) (x : Option Bytes) → MayStand b p x
    → Stands b (unwrap_or p (record { offset = 0; length = 0 })) (held x)
held_there b (Some p) (Some x) s = s
held_there b None None s = record { is = refl; within = omega arith }
held_there b (Some p) None s = absurd s
held_there b None (Some x) s = absurd s

-- the bytes at a place that lies within
pub lies_stands : (b : Bytes) (p : Place) → Lies b p → Stands b p (bytes_at b p)
lies_stands b p h = record { is = refl; within = h }

pub cut_there : (b x : Bytes) (o n m k : ℕ) → m ≡ min o (length b) → k ≡ min n (length (drop m b))
    → x ≡ take k (drop m b) → x ≡ take n (drop o b)
cut_there b x o n m k em ek ex =
    ex ∙ ap (λ i. take i (drop m b)) ek ∙ take_min n (drop m b)
    ∙ ap (take n) (ap (λ i. drop i b) em ∙ drop_min o b)
