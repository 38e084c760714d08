-- Parsing a certificate's signed part, step by step.
use Rattle.std.specs.Option.{option_map}
use Rattle.layouts.specs.Bytes.{Bytes}
use Rattle.layouts.specs.Items.{items_in}
use Rattle.der.specs.Values.{view_bit_string}
use Rattle.x509.specs.Certificate.{FirstFields, NameFields, OptionalFields, extension, view_algorithm, view_key_info}
use Rattle.x509.specs.Name.{relative_distinguished_name}
use Rattle.x509_places.specs.Certificate.{KeyStands}
use Rattle.x509_places.specs.Place.{NameStands}
use Rattle.x509_places.specs.declared.tbs.FirstFields.{FirstFields as ReadFirst}
use Rattle.x509_places.specs.declared.tbs.NameFields.{NameFields as ReadNames}
use Rattle.x509_places.specs.declared.tbs.OptionalFields.{OptionalFields as ReadOptional}

abbrev pub view_first : ReadFirst → FirstFields
view_first f =
    record {
      version = f.version;
      serial_number = f.serial_number.now;
      signature =
          view_algorithm f.signature;
    }

abbrev pub view_names : ReadNames → NameFields
view_names f = record {
  issuer = items_in relative_distinguished_name f.issuer.bytes.now;
  validity = f.validity;
  subject = items_in relative_distinguished_name f.subject.bytes.now;
  subject_public_key_info = view_key_info f.key;
}

-- The names and the key are at their places.
pub record NamesStand (b : Bytes) (f : ReadNames) : Type 0 where
  pub issuer : NameStands b f.issuer_place (items_in relative_distinguished_name f.issuer.bytes.now)
  pub subject : NameStands b f.subject_place
      (items_in relative_distinguished_name f.subject.bytes.now)
  pub key : KeyStands b f.key f.key_places

abbrev pub view_optional : ReadOptional → OptionalFields
view_optional f = record {
  issuer_unique_id = option_map view_bit_string f.issuer_unique_id;
  subject_unique_id = option_map view_bit_string f.subject_unique_id;
  extensions = items_in extension f.extensions.bytes.now;
}
