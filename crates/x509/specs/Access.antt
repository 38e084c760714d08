-- Where to find information on a certificate's issuer, and the policies it was issued under (RFC
-- 5280, sections 4.2.2.1 and 4.2.1.4).
use Rattle.std.specs.Prelude.{List}
use Rattle.layouts.specs.Bytes.{Bytes}
use Rattle.layouts.specs.Layout.{Layout, done, rest, ◌>>=◌, ◌>>◌}
use Rattle.der.specs.Element.{items_of, optional, tagged}
use Rattle.der.specs.ObjectIdentifier.{object_identifier}
use Rattle.x509.specs.GeneralName.{GeneralName, general_name, view_general_name}
use Rattle.x509.specs.declared.access.AccessDescription.{AccessDescription as LentAccess}

-- AccessDescription: OBJECT IDENTIFIER accessMethod; GeneralName accessLocation.
pub record AccessDescription : Type 0 where
  pub access_method : Bytes
  pub access_location : GeneralName

abbrev pub view_access : LentAccess → AccessDescription
view_access a = record {
  access_method = a.access_method.content.now;
  access_location = view_general_name a.access_location;
}

unfoldable pub access_description_content : Layout AccessDescription
access_description_content = do
  access_method ← object_identifier
  access_location ← general_name
  done (record { access_method = access_method; access_location = access_location })

unfoldable pub access_description : Layout AccessDescription
access_description = tagged 0x30 access_description_content

-- AuthorityInfoAccessSyntax: SEQUENCE OF AccessDescription.
unfoldable pub authority_info_access : Layout (List AccessDescription)
authority_info_access = tagged 0x30 (items_of access_description)

-- PolicyInformation: OBJECT IDENTIFIER policyIdentifier; SEQUENCE OF PolicyQualifierInfo OPTIONAL,
-- which isn't read further.
unfoldable pub policy_content : Layout Bytes
policy_content = do
  id ← object_identifier
  optional 0x30 rest
  done id

unfoldable pub policy : Layout Bytes
policy = tagged 0x30 policy_content

-- certificatePolicies: SEQUENCE OF PolicyInformation.
unfoldable pub certificate_policies : Layout (List Bytes)
certificate_policies = tagged 0x30 (items_of policy)
