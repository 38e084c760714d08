-- The places of an extension's parts, and the content of a subject's name.
use Rattle.layouts.specs.Bytes.{Bytes}
use Rattle.x509.specs.declared.extension.Extension.{Extension}
use Rattle.x509.specs.declared.general_name.GeneralName.{GeneralName}
use Rattle.x509.specs.declared.general_name.GeneralName.TheVariants as lent
use Rattle.x509_places.specs.Place.{Stands}
use Rattle.x509_places.specs.declared.extension.ExtensionPlaces.{ExtensionPlaces}

-- The type and the value are at their places.
pub record ExtensionStands (b : Bytes) (e : Extension) (p : ExtensionPlaces) : Type 0 where
  pub extn_id : Stands b p.extn_id e.extn_id.content.now
  pub extn_value : Stands b p.extn_value e.extn_value.now

-- The content of a name's element, without its tag and its length.
abbrev pub name_content : GeneralName → Bytes
name_content (lent.Rfc822Name b) = b.now
name_content (lent.DnsName b) = b.now
name_content (lent.UniformResourceIdentifier b) = b.now
name_content (lent.IpAddress b) = b.now
name_content (lent.Other e) = e.content.now
