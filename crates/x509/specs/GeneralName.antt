-- Names in extensions (RFC 5280, section 4.2.1.6).
use Rattle.std.specs.Prelude.{List, ◌==◌, if◌then◌else◌}
use Rattle.layouts.specs.Bytes.{Bytes}
use Rattle.layouts.specs.Layout.{Layout, done, mapped, ◌>>=◌}
use Rattle.der.specs.Element.{Element, element, items_of, tagged, view_element}
use Rattle.der.specs.ObjectIdentifier.{object_identifier}
use Rattle.x509.specs.declared.general_name.OtherName.{OtherName as LentOtherName}
use Rattle.x509.specs.declared.general_name.GeneralName.{GeneralName as LentGeneralName}
use Rattle.x509.specs.declared.general_name.GeneralName.TheVariants as lent

-- GeneralName: a CHOICE by its tag; for other kinds the element is kept.
pub data GeneralName : Type 0 where
  Rfc822Name : Bytes → GeneralName
  DnsName : Bytes → GeneralName
  UniformResourceIdentifier : Bytes → GeneralName
  IpAddress : Bytes → GeneralName
  Other : Element → GeneralName

abbrev pub view_general_name : LentGeneralName → GeneralName
view_general_name (lent.Rfc822Name b) = Rfc822Name b.now
view_general_name (lent.DnsName b) = DnsName b.now
view_general_name (lent.UniformResourceIdentifier b) = UniformResourceIdentifier b.now
view_general_name (lent.IpAddress b) = IpAddress b.now
view_general_name (lent.Other e) = Other (view_element e)

-- rfc822Name [1], dNSName [2], uniformResourceIdentifier [6], iPAddress [7].
abbrev pub name_of : Element → GeneralName
name_of e =
    if e.tag == 0x81 then Rfc822Name e.content else
    if e.tag == 0x82 then DnsName e.content else
    if e.tag == 0x86 then UniformResourceIdentifier e.content else
    if e.tag == 0x87 then IpAddress e.content else Other e

unfoldable pub general_name : Layout GeneralName
general_name = mapped name_of element

-- GeneralNames: SEQUENCE OF GeneralName.
unfoldable pub general_names : Layout (List GeneralName)
general_names = tagged 0x30 (items_of general_name)

-- OtherName: OBJECT IDENTIFIER type-id; [0] EXPLICIT ANY value.
pub record OtherName : Type 0 where
  pub type_id : Bytes
  pub value : Element

abbrev pub view_other_name : LentOtherName → OtherName
view_other_name n = record { type_id = n.type_id.content.now; value = view_element n.value }

unfoldable pub other_name : Layout OtherName
other_name = do
  type_id ← object_identifier
  value ← tagged 0xa0 element
  done (record { type_id = type_id; value = value })
