-- Names (RFC 5280, section 4.1.2.4): sets of attributes, usually of one, in order.
use Rattle.std.specs.Prelude.{List}
use Rattle.layouts.specs.Bytes.{Bytes}
use Rattle.layouts.specs.Layout.{Layout, done, list, ◌>>=◌}
use Rattle.der.specs.Element.{Element, element, items_of, tagged, view_element}
use Rattle.der.specs.ObjectIdentifier.{object_identifier}
use Rattle.x509.specs.declared.name.AttributeTypeAndValue.{AttributeTypeAndValue as LentAttribute}

-- An attribute: its type, and its value, usually a string.
pub record AttributeTypeAndValue : Type 0 where
  pub attribute_type : Bytes
  pub value : Element

abbrev pub view_attribute : LentAttribute → AttributeTypeAndValue
view_attribute a =
    record { attribute_type = a.attribute_type.content.now; value = view_element a.value }

-- AttributeType type; AttributeValue value.
unfoldable pub attribute_content : Layout AttributeTypeAndValue
attribute_content = do
  attribute_type ← object_identifier
  value ← element
  done (record { attribute_type = attribute_type; value = value })

-- AttributeTypeAndValue: a SEQUENCE.
unfoldable pub attribute : Layout AttributeTypeAndValue
attribute = tagged 0x30 attribute_content

-- RelativeDistinguishedName: a SET of attributes.
unfoldable pub relative_distinguished_name : Layout (List AttributeTypeAndValue)
relative_distinguished_name = tagged 0x31 (items_of attribute)

-- The same set, where it consists of attributes only (X.690, section 8.12).
unfoldable pub whole_set : Layout (List AttributeTypeAndValue)
whole_set = tagged 0x31 (list attribute)

-- Name, which is an RDNSequence: a SEQUENCE of sets.
unfoldable pub name : Layout (List (List AttributeTypeAndValue))
name = tagged 0x30 (items_of relative_distinguished_name)
