-- Which answers a layout allows on given bytes. Nothing here reads. It states which bytes encode
-- ("spell") a value, and when the bytes are refused: by the leftmost part that lacks bytes or
-- breaks a rule.
use Rattle.std.specs.Prelude.{
  ◌≡◌,
  ◌≢◌,
  ℕ,
  ◌-◌,
  ◌^◌,
  ◌<◌,
  ◌⊎◌,
  List,
  [],
  ◌∷◌,
  ◌++◌,
  length,
  Option,
  Some,
  None,
  Result,
  Ok,
  Err,
}
use Rattle.layouts.specs.Bytes.{Bytes, bytes_of}
use Rattle.layouts.specs.Layout.{
  Layout,
  done,
  refuse,
  number,
  ignored,
  block,
  left,
  tag,
  window,
  list,
  maybe,
  either,
  complete,
  look,
  chain,
}
use Rattle.layouts.specs.declared.result.ErrorKind.{ErrorKind}
use Rattle.layouts.specs.declared.result.ErrorKind.TheVariants.{Tag, Complete}

-- A refusal: a rule of this kind is broken, or this many bytes are missing.
pub data Refusal : Type 0 where
  Broken : ErrorKind → Refusal
  Lacks : ℕ → Refusal

-- `S b v r d`: the bytes b begin with an encoding of the value v, r is the rest, and d are the
-- bytes dropped from windows and `ignored` parts, joined.
abbrev pub Spelling : Type 0 → Type 1
Spelling A = Bytes → A → Bytes → Bytes → Type 0

-- No prefix of b encodes a value.
abbrev pub SpellsNothing : {A : Type 0} → Spelling A → Bytes → Type 0
SpellsNothing {A} S b = (v : A) (r d : Bytes) → S b v r d → ⊥

-- An item of a list isn't empty.
abbrev pub SpellsItem : {A : Type 0} → Spelling A → Spelling A
SpellsItem S b v r d = S b v r d × (length r < length b)

-- A list is items, one after another, and then a rest that begins with no item.
abbrev pub SpellsItems : {A : Type 0} → Spelling A → Spelling (List A)
SpellsItems S b [] r d = (b ≡ r) × (d ≡ []) × SpellsNothing (SpellsItem S) b
SpellsItems S b (v ∷ vs) r d = (m d1 d2 : Bytes) × SpellsItem S b v m d1 × SpellsItems S m vs r d2
    × (d ≡ d1 ++ d2)

-- An optional part is Some if b begins with it. Else it is None and consumes nothing.
abbrev pub SpellsOption : {A : Type 0} → Spelling A → Spelling (Option A)
SpellsOption S b None r d = (b ≡ r) × (d ≡ []) × SpellsNothing S b
SpellsOption S b (Some v) r d = S b v r d

-- How b encodes v under each layout.
abbrev pub Spells : {A : Type 0} → Layout A → Spelling A
-- v is the constant, and all of b is the rest
Spells (done a) b v r d = (v ≡ a) × (b ≡ r) × (d ≡ [])
-- never
Spells (refuse e) b v r d = ⊥
-- v fits k bytes, and b begins with these
Spells (number k) b v r d = (v < 256 ^ k) × (b ≡ bytes_of k v ++ r) × (d ≡ [])
-- b begins with k bytes, which are dropped
Spells (ignored k) b v r d = (length d ≡ k) × (b ≡ d ++ r)
-- v is the first n bytes
Spells (block n) b v r d = (length v ≡ n) × (b ≡ v ++ r) × (d ≡ [])
-- v is the length of b, and all of b is the rest
Spells left b v r d = (v ≡ length b) × (b ≡ r) × (d ≡ [])
-- b begins with the bytes t
Spells (tag t) b v r d = (b ≡ t ++ r) × (d ≡ [])
-- b begins with n bytes w, which encode v with the rest e; the window drops f, what l drops in w,
-- and then e
Spells (window n l) b v r d = (w e f : Bytes) × (length w ≡ n) × (b ≡ w ++ r) × Spells l w v e f
    × (d ≡ f ++ e)
Spells (list l) b v r d = SpellsItems (Spells l) b v r d
Spells (maybe l) b v r d = SpellsOption (Spells l) b v r d
-- the first layout encodes v, or it encodes nothing and the second encodes v
Spells (either l m) b v r d = Spells l b v r d ⊎ (SpellsNothing (Spells l) b × Spells m b v r d)
Spells (complete l) b v r d = Spells l b v r d
-- b begins with v, and all of b is the rest
Spells (look l) b v r d = (b ≡ r) × (d ≡ []) × ((e f : Bytes) × Spells l b v e f)
-- b encodes a with the rest m, and m encodes v; dropped is what either part drops
Spells (chain l f) b v r d = (a : _) × (m d1 d2 : Bytes) × Spells l b a m d1 × Spells (f a) m v r d2
    × (d ≡ d1 ++ d2)

-- How b is refused under each layout: by the leftmost part that lacks bytes or breaks its rule.
abbrev pub Refuses : {A : Type 0} → Layout A → Bytes → Refusal → Type 0
Refuses (done a) b e = ⊥
-- always, with this kind
Refuses (refuse k) b e = e ≡ Broken k
-- b has fewer than k bytes; the others are missing
Refuses (number k) b e = (length b < k) × (e ≡ Lacks (k - length b))
Refuses (ignored k) b e = (length b < k) × (e ≡ Lacks (k - length b))
Refuses (block n) b e = (length b < n) × (e ≡ Lacks (n - length b))
Refuses left b e = ⊥
-- a byte differs, after a common prefix; or all of b agrees with t and the other bytes of t are
-- missing
Refuses (tag t) b e =
    ((same t' b' : Bytes) × (x y : ℕ) × (t ≡ same ++ x ∷ t') × (b ≡ same ++ y ∷ b') × (x ≢ y)
    × (e ≡ Broken Tag))
    ⊎ ((missing : Bytes) × (missing ≢ []) × (t ≡ b ++ missing) × (e ≡ Lacks (length missing)))
-- bytes of the window are missing, or the window is complete and its content is refused
Refuses (window n l) b e =
    ((length b < n) × (e ≡ Lacks (n - length b)))
    ⊎ ((w r : Bytes) × (length w ≡ n) × (b ≡ w ++ r) × Refuses l w e)
-- never
Refuses (list l) b e = ⊥
Refuses (maybe l) b e = ⊥
-- neither layout encodes anything
Refuses (either l m) b e = SpellsNothing (Spells l) b × SpellsNothing (Spells m) b
    × (e ≡ Broken Complete)
-- a broken rule is passed on; missing bytes become `Complete`
Refuses (complete l) b e =
    ((k : ErrorKind) × Refuses l b (Broken k) × (e ≡ Broken k))
    ⊎ ((n : ℕ) × Refuses l b (Lacks n) × (e ≡ Broken Complete))
Refuses (look l) b e = Refuses l b e
-- the first part is refused, or it is read and the second is refused
Refuses (chain l f) b e =
    Refuses l b e ⊎ ((a : _) × (m d : Bytes) × Spells l b a m d × Refuses (f a) m e)

-- A value and the rest, or a refusal.
abbrev pub Answer : Type 0 → Type 0
Answer A = Result (A × Bytes) Refusal

-- An answer is allowed on b if b encodes the value with that rest, whatever is dropped, or if b is
-- refused so.
unfoldable pub Allows : {A : Type 0} → Layout A → Bytes → Answer A → Type 0
Allows l b (Ok x) = (d : Bytes) × Spells l b x.0 x.1 d
Allows l b (Err e) = Refuses l b e

-- Exactly one answer is allowed on b.
abbrev pub AllowsOne : {A : Type 0} → Layout A → Bytes → Type 0
AllowsOne {A} l b = (x : Answer A) × Allows l b x × ((y : Answer A) → Allows l b y → y ≡ x)

-- r is a suffix of b.
abbrev pub EndsWith : Bytes → Bytes → Type 0
EndsWith b r = (front : Bytes) × (b ≡ front ++ r)
