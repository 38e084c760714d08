-- OBJECT IDENTIFIER (X.690, section 8.19): numbers in base 128, the first of which encodes two
-- arcs.
use Rattle.std.specs.Prelude.{
  ℕ,
  ◌+◌,
  ◌-◌,
  ◌*◌,
  ◌%◌,
  ◌^◌,
  ◌==◌,
  not,
  nat_le,
  nat_lt,
  List,
  [],
  ◌∷◌,
  ◌++◌,
  map,
  Option,
  Some,
  None,
  if◌then◌else◌,
}
use Rattle.layouts.specs.Bytes.{Bytes}
use Rattle.layouts.specs.Layout.{Layout, done, number, left, list, look, rest, test, ◌>>=◌, ◌>>◌}
use Rattle.layouts.specs.Items.{items_in}
use Rattle.layouts.specs.declared.result.ErrorKind.TheVariants.{LengthValue, Verify}
use Rattle.der.specs.Element.{tagged}
use Rattle.der.specs.declared.identifier.ObjectIdentifier.{ObjectIdentifier as LentObjectIdentifier}
use Rattle.der.specs.declared.identifier.ArcNumber.{ArcNumber}
use Rattle.der.specs.declared.identifier.ArcNumber.TheVariants.{Fits, TooLarge}
use Rattle.der.specs.declared.identifier.Next.{Next}
use Rattle.der.specs.declared.identifier.Next.TheVariants as next

-- A byte of a subidentifier that another byte follows: its highest bit is set.
unfoldable pub leading_byte : Layout ℕ
leading_byte = do
  n ← number 1
  test (nat_le 128 n) Verify
  done n

-- The bytes of a subidentifier. The first isn't 0x80, which would be a leading zero.
unfoldable pub subidentifier : Layout Bytes
subidentifier = do
  first ← look (number 1)
  test (not (first == 0x80)) Verify
  leading ← list leading_byte
  last ← number 1
  done (leading ++ last ∷ [])

-- The content of an OBJECT IDENTIFIER: one or more subidentifiers, and nothing after them.
unfoldable pub object_identifier_content : Layout Bytes
object_identifier_content = do
  n ← left
  test (nat_le 1 n) LengthValue
  behind ← look (list subidentifier >> left)
  test (behind == 0) Verify
  rest

unfoldable pub object_identifier : Layout Bytes
object_identifier = tagged 6 object_identifier_content

abbrev pub view_object_identifier : LentObjectIdentifier → Bytes
view_object_identifier o = o.content.now

-- The number of a subidentifier: 7 bits a byte, big-endian.
abbrev pub base128_from : ℕ → Bytes → ℕ
base128_from n [] = n
base128_from n (b ∷ bs) = base128_from (n * 128 + b % 128) bs

-- A number below 2^128, or None.
abbrev pub in_range : ℕ → Option ℕ
in_range n = if nat_lt n (2 ^ 128) then Some n else None

abbrev pub numbers_in : Bytes → List (Option ℕ)
numbers_in b = map (λ s. in_range (base128_from 0 s)) (items_in subidentifier b)

-- The first arc, 0, 1 or 2, from the first number, which is 40 times it plus the second arc. Under
-- 0 and 1 the second arc is below 40.
abbrev pub root_of : ℕ → ℕ
root_of n = if nat_lt n 40 then 0 else if nat_lt n 80 then 1 else 2

abbrev pub first_arc : Option ℕ → Option ℕ
first_arc (Some n) = Some (root_of n)
first_arc None = Some 2

abbrev pub second_arc : Option ℕ → Option ℕ
second_arc (Some n) = Some (n - 40 * root_of n)
second_arc None = None

abbrev pub arcs_by : List (Option ℕ) → List (Option ℕ)
arcs_by [] = []
arcs_by (n ∷ ns) = first_arc n ∷ second_arc n ∷ ns

-- The arcs of an object identifier; None for one of 2^128 or above.
abbrev pub arcs_of : Bytes → List (Option ℕ)
arcs_of b = arcs_by (numbers_in b)

abbrev pub view_arc : ArcNumber → Option ℕ
view_arc (Fits n) = Some n
view_arc TooLarge = None

-- The rest of an iterator over arcs.
abbrev pub arcs_left : Next → Bytes → List (Option ℕ)
arcs_left next.First b = arcs_of b
arcs_left (next.Second a) b = view_arc a ∷ numbers_in b
arcs_left next.Further b = numbers_in b
