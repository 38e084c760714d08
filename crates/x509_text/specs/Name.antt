-- Names as texts (RFC 4514, section 2), as OpenSSL prints them.
use Rattle.std.specs.Prelude.{Bool, true, false, List, [], ◌∷◌, ◌++◌, map, filter, reverse, Option, Some, None}
use Rattle.std.specs.List.{join_with_byte}
use Rattle.layouts.specs.Bytes.{Bytes}
use Rattle.x509.specs.Name.{AttributeTypeAndValue}
use Rattle.x509_text.specs.Hexadecimal.{dump_text}
use Rattle.x509_text.specs.ObjectText.{dotted_text, short_name_of}
use Rattle.x509_text.specs.Value.{value_text}

-- A type without a name is printed as its numbers, and its value in hexadecimal (section 2.4).
abbrev pub attribute_by : Option Bytes → AttributeTypeAndValue → Bytes
attribute_by (Some name) a = name ++ 61 ∷ value_text a.value
attribute_by None a = dotted_text a.attribute_type ++ 61 ∷ dump_text a.value

-- An attribute: its type, `=` and its value (section 2.3).
unfoldable pub attribute_text : AttributeTypeAndValue → Bytes
attribute_text a = attribute_by (short_name_of a.attribute_type) a

-- The attributes of a set (section 2.2). OpenSSL prints them from the last to the first, as it does
-- the sets.
abbrev pub set_text : List AttributeTypeAndValue → Bytes
set_text attributes = join_with_byte 43 (map attribute_text (reverse attributes))

abbrev pub is_some_set : List AttributeTypeAndValue → Bool
is_some_set [] = false
is_some_set (a ∷ others) = true

-- A set without attributes is left out.
abbrev pub with_attributes : List (List AttributeTypeAndValue) → List (List AttributeTypeAndValue)
with_attributes sets = filter is_some_set sets

-- The sets, from the last to the first (section 2.1).
abbrev pub name_text : List (List AttributeTypeAndValue) → Bytes
name_text sets = join_with_byte 44 (map set_text (reverse (with_attributes sets)))
