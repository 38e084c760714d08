-- The language in which each structure is specified: a sequence of parts, read from left to right.
-- Later parts may depend on the values of earlier ones. It corresponds to the presentation language
-- of RFC 8446, section 3.
--
--     in an RFC                              here
--     uint8, uint16, uint24, uint32, uint64  number 1, number 2, number 3, number 4, number 8
--     opaque x[n]                            block n
--     opaque x<0..2^8-1>, x<0..2^16-1>       counted 1, counted 2
--     T x<0..2^16-1>, many T after a length  counted_window 2 (list T)
--     struct { T x; } S                      mapped S T
--     select (x) { case 1: S; case 2: T }    choose (x == 1) S (choose (x == 2) T (refuse Switch))
use Rattle.std.specs.Prelude.{ℕ, zero, suc, ◌/◌, ◌%◌, ◌==◌, List, [], ◌∷◌, ◌++◌, Option, Bool, true, false}
use Rattle.layouts.specs.Bytes.{Bytes}
use Rattle.layouts.specs.declared.result.ErrorKind.{ErrorKind}
use Rattle.layouts.specs.declared.result.ErrorKind.TheVariants.{LengthValue}

-- `Layout A` is a layout of values of type A.
pub data Layout : Type 0 → Type 1 where
  -- no bytes: a constant
  done : {A : Type 0} → A → Layout A
  -- no bytes: refuses, because a rule of this kind is broken
  refuse : {A : Type 0} → ErrorKind → Layout A
  -- a number of this many bytes, big-endian
  number : ℕ → Layout ℕ
  -- this many bytes, skipped
  ignored : ℕ → Layout Unit
  -- a block of this many bytes
  block : ℕ → Layout Bytes
  -- the number of remaining bytes; consumes none
  left : Layout ℕ
  -- exactly these bytes
  tag : Bytes → Layout Unit
  -- a window: a block of this many bytes, in which another layout is read; the bytes that it leaves
  -- are dropped
  window : {A : Type 0} → ℕ → Layout A → Layout A
  -- zero or more items, up to the first that can't be read
  list : {A : Type 0} → Layout A → Layout (List A)
  -- an optional part: None, and no bytes consumed, if it can't be read
  maybe : {A : Type 0} → Layout A → Layout (Option A)
  -- the first layout if it can be read, else the second
  either : {A : Type 0} → Layout A → Layout A → Layout A
  -- another layout, but missing bytes are refused as `Complete`: no further bytes could supply them
  complete : {A : Type 0} → Layout A → Layout A
  -- another layout, read without consuming its bytes
  look : {A : Type 0} → Layout A → Layout A
  -- a part, then another that may depend on its value
  chain : {A B : Type 0} → Layout A → (A → Layout B) → Layout B

-- `do` chains parts, one per line: `x ← l` binds the value of l to x.
infixl 10 ◌>>=◌
abbrev pub ◌>>=◌ : {A B : Type 0} → Layout A → (A → Layout B) → Layout B
l >>= f = chain l f

infixl 10 ◌>>◌
abbrev pub ◌>>◌ : {A B : Type 0} → Layout A → Layout B → Layout B
l >> m = chain l (λ _. m)

-- Applies f to the value; the bytes stay the same.
abbrev pub mapped : {A B : Type 0} → (A → B) → Layout A → Layout B
mapped f l = l >>= λ x. done (f x)

-- Checks a rule: consumes no bytes, and refuses with this kind if the rule is broken.
abbrev pub test : Bool → ErrorKind → Layout Unit
test true kind = done tt
test false kind = refuse kind

-- Chooses a layout: the first if the test is true, else the second.
abbrev pub choose : {A : Type 0} → Bool → Layout A → Layout A → Layout A
choose true l m = l
choose false l m = m

-- All remaining bytes.
abbrev pub rest : Layout Bytes
rest = do
  n ← left
  block n

-- A counted block: a length of k bytes, then that many bytes.
abbrev pub counted : ℕ → Layout Bytes
counted k = do
  n ← number k
  block n

-- A counted window: a length of k bytes, then a window of that many bytes.
abbrev pub counted_window : {A : Type 0} → ℕ → Layout A → Layout A
counted_window k l = do
  n ← number k
  window n l

-- A fixed number of items, one after another.
abbrev pub times : {A : Type 0} → ℕ → Layout A → Layout (List A)
times zero l = done []
times (suc n) l = do
  x ← l
  xs ← times n l
  done (x ∷ xs)

-- All remaining bytes as items of two bytes each. An odd number of bytes is refused as
-- `LengthValue`.
abbrev pub pairs_of : {A : Type 0} → Layout A → Layout (List A)
pairs_of l = do
  n ← left
  test (n % 2 == 0) LengthValue
  times (n / 2) l

-- All remaining bytes as 2-byte numbers.
abbrev pub pairs : Layout (List ℕ)
pairs = pairs_of (number 2)

-- Prepends xs to the list.
abbrev pub behind : {A : Type 0} → List A → Layout (List A) → Layout (List A)
behind xs l = do
  ys ← l
  done (xs ++ ys)

-- One or more items. The first must be complete: missing bytes in it are refused as `Complete`. The
-- others are a list.
abbrev pub list1 : {A : Type 0} → Layout A → Layout (List A)
list1 l = do
  x ← complete l
  behind (x ∷ []) (list l)
