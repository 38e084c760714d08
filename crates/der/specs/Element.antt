-- Elements: a tag, a length, and as many bytes of content (X.690, sections 8.1 and 10.1).
use Rattle.std.specs.Prelude.{ℕ, ◌-◌, ◌%◌, ◌==◌, not, nat_le, nat_lt, List, Option, Some, None}
use Rattle.layouts.specs.Bytes.{Bytes}
use Rattle.layouts.specs.Layout.{
  Layout,
  done,
  refuse,
  number,
  block,
  left,
  window,
  complete,
  list,
  look,
  rest,
  test,
  choose,
  mapped,
  ◌>>=◌,
  ◌>>◌,
}
use Rattle.layouts.specs.declared.result.ErrorKind.TheVariants.{TooLarge, LengthValue, Verify, Switch, Tag}
use Rattle.der.specs.declared.element.Element.{Element as LentElement}

-- A length in k bytes after the first. It is at least `least`, so no fewer bytes encode it.
unfoldable pub long_length : ℕ → ℕ → Layout ℕ
long_length k least = do
  n ← number k
  test (nat_le least n) Verify
  done n

-- 0x80 is the indefinite form, which DER forbids. At most 3 bytes follow the first.
unfoldable pub length_by : ℕ → Layout ℕ
length_by first =
    choose (nat_lt first 0x80) (done first) (
    choose (first == 0x80) (refuse Switch) (
    choose (first == 0x81) (long_length 1 0x80) (
    choose (first == 0x82) (long_length 2 0x100) (
    choose (first == 0x83) (long_length 3 0x10000) (
    refuse TooLarge)))))

unfoldable pub der_length : Layout ℕ
der_length = number 1 >>= length_by

-- The layout, which must consume all bytes.
unfoldable pub whole : {A : Type 0} → Layout A → Layout A
whole l = do
  x ← l
  n ← left
  test (n == 0) LengthValue
  done x

-- An element with this tag, whose whole content has this layout.
unfoldable pub tagged : {A : Type 0} → ℕ → Layout A → Layout A
tagged t l = do
  k ← number 1
  test (k == t) Tag
  n ← der_length
  window n (complete (whole l))

-- An element with this tag if it is next, else nothing is consumed: OPTIONAL.
unfoldable pub optional : {A : Type 0} → ℕ → Layout A → Layout (Option A)
optional t l = do
  n ← left
  choose (n == 0) (done None)
      (look (number 1) >>= λ k. choose (k == t) (mapped Some (tagged t l)) (done None))

-- An element with any tag of one byte.
pub record Element : Type 0 where
  pub tag : ℕ
  pub content : Bytes

abbrev pub view_element : LentElement → Element
view_element e = record { tag = e.tag; content = e.content.now }

-- Tags of more than one byte begin with 31 in the lower 5 bits; they are refused.
unfoldable pub element : Layout Element
element = do
  t ← number 1
  test (not (t % 32 == 31)) Switch
  n ← der_length
  content ← block n
  done (record { tag = t; content = content })

-- An element with any tag, if bytes are left.
unfoldable pub optional_element : Layout (Option Element)
optional_element = do
  n ← left
  choose (n == 0) (done None) (mapped Some element)

-- An element as its bytes, with its tag and its length.
unfoldable pub element_bytes : Layout Bytes
element_bytes = do
  n ← left
  behind ← look (element >> left)
  block (n - behind)

-- All bytes that are left, as items. After the last one, bytes may be left that are no item.
unfoldable pub items_of : {A : Type 0} → Layout A → Layout (List A)
items_of l = do
  xs ← look (list l)
  rest
  done xs
