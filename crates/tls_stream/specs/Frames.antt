-- Frames: a header, and a body of the length that the header gives, up to a limit. Records and
-- handshake messages are frames.
use Rattle.std.specs.Prelude.{
  ◌≡◌,
  ℕ,
  zero,
  suc,
  ◌+◌,
  ◌<◌,
  ◌≤◌,
  ◌⊎◌,
  Bool,
  true,
  false,
  cond,
  nat_le,
  Option,
  Some,
  None,
  List,
  [],
  ◌∷◌,
  ◌++◌,
  length,
  take,
  drop,
  map,
}
use Rattle.std.specs.Borrow.{Bor}
use Rattle.std.specs.Global.{Vec}
use Rattle.std.specs.List.{flat_map}
use Rattle.layouts.specs.Bytes.{Bytes}

-- The layout of a kind of frame.
pub record Kind : Type 0 where
  -- length of a header
  pub header : ℕ
  -- length of the body, from the bytes of the header
  pub body_in : Bytes → ℕ

-- A layout with a limit for the body's length.
pub record Shape : Type 0 where
  pub header : ℕ
  pub body_in : Bytes → ℕ
  pub limit : ℕ

abbrev pub up_to : Kind → ℕ → Shape
up_to k limit = record { header = k.header; body_in = k.body_in; limit = limit }

-- The length of the body after the first header.
abbrev pub body_length : Shape → Bytes → ℕ
body_length f b = f.body_in (take f.header b)

-- The length of the first frame.
abbrev pub size : Shape → Bytes → ℕ
size f b = f.header + body_length f b

-- The first frame is whole: its header, and as many bytes as its length field gives.
abbrev pub IsWhole : Shape → Bytes → Type 0
IsWhole f b = size f b ≤ length b

-- The first header is whole, and its length is above the limit.
pub record IsTooLarge (f : Shape) (b : Bytes) : Type 0 where
  pub has_header : f.header ≤ length b
  pub above : f.limit < body_length f b

-- More bytes are needed: no frame is whole, and no length is too large.
abbrev pub NeedsMore : Shape → Bytes → Type 0
NeedsMore f b = (IsWhole f b → ⊥) × (IsTooLarge f b → ⊥)

-- The first frame and the bytes after it, if it is whole and not too large.
unfoldable pub front : Shape → Bytes → Option (Bytes × Bytes)
front f b = cond (nat_le (size f b) (length b))
    (cond (nat_le (body_length f b) f.limit) (Some (take (size f b) b, drop (size f b) b)) None)
    None

-- The frame alone.
abbrev pub frame_of : Option (Bytes × Bytes) → Option Bytes
frame_of (Some x) = Some x.0
frame_of None = None

-- A frame taken off b, and more after it; otherwise no frames, and all of b is left.
abbrev pub with_frame : Option (Bytes × Bytes) → (Bytes → List Bytes × Bytes) → Bytes
    → List Bytes × Bytes
with_frame None more b = ([], b)
with_frame (Some x) more b = (x.0 ∷ (more x.1).0, (more x.1).1)

-- At most n frames, and what is left after them.
unfoldable pub cut : Shape → ℕ → Bytes → List Bytes × Bytes
cut f zero b = ([], b)
cut f (suc n) b = with_frame (front f b) (cut f n) b

-- All frames. A frame has at least one byte, so there are no more frames than bytes.
unfoldable pub frames : Shape → Bytes → List Bytes
frames f b = (cut f (length b) b).0

-- What is left after all frames.
unfoldable pub left : Shape → Bytes → Bytes
left f b = (cut f (length b) b).1

-- The answer when a frame is taken: true and the bytes after it, or false and no change.
abbrev pub FrontTaken : Option (Bytes × Bytes) → Bytes → Bool → Bytes → Type 0
FrontTaken (Some x) old taken new = (taken ≡ true) × (new ≡ x.1) × (old ≡ x.0 ++ new)
FrontTaken None old taken new = (taken ≡ false) × (new ≡ old)

-- The elements of each vector.
abbrev pub elements : List (Vec ℕ) → List Bytes
elements vs = map (λ v. v.items) vs

-- The pieces, joined.
abbrev pub joined : List (Bor (List ℕ)) → Bytes
joined pieces = flat_map (λ p. p.now) pieces

-- The frames of x were taken, and what they leave is held. If the next header's length is too
-- large, a prefix of the rest may be held, since no frame can follow.
pub record IsSplit (f : Shape) (x : Bytes) (taken : List Bytes) (held : Bytes) : Type 0 where
  pub taken_are : taken ≡ frames f x
  pub held_is : (held ≡ left f x) ⊎ (IsTooLarge f held × ((s : Bytes) × (left f x ≡ held ++ s)))

-- Two ways to cut the same bytes give the same frames.
abbrev pub CuttingsTakeTheSame : Shape → Type 0
CuttingsTakeTheSame f = (p q : List (Bor (List ℕ))) (taken taken' : List Bytes) (held held' : Bytes)
    → joined p ≡ joined q → IsSplit f (joined p) taken held → IsSplit f (joined q) taken' held'
    → taken ≡ taken'

-- Two ways to cut the same bytes leave the same bytes, unless the next header's length is too
-- large.
abbrev pub CuttingsHoldTheSame : Shape → Type 0
CuttingsHoldTheSame f = (p q : List (Bor (List ℕ))) (taken taken' : List Bytes) (held held' : Bytes)
    → joined p ≡ joined q → IsSplit f (joined p) taken held → IsSplit f (joined q) taken' held'
    → (IsTooLarge f held → ⊥) → held ≡ held'
