-- What is noted of extensions that can be read, by RFC 5280's names of fields and the broken rule.
use Rattle.std.specs.Prelude.{◌≡◌, ◌++◌, List, [], ◌∷◌, decimal, codes, Option, Some, None, ⊤}
use Rattle.std.specs.Option.{option_and_then}
use Rattle.layouts.specs.Bytes.{Bytes}
use Rattle.layouts.specs.Items.{items_in}
use Rattle.layouts.specs.declared.result.ErrorKind.{ErrorKind}
use Rattle.json_objects.specs.Data.{Data}
use Rattle.x509.specs.Certificate.{Extension, extension}
use Rattle.x509.specs.Extensions.{first_of}
use Rattle.x509_text.specs.Exponent.{natural_fault}
use Rattle.x509_text.specs.Strict.{ca_fault_in, critical_fault_in}
use Rattle.x509_text.specs.declared.fault.ListFault.{ListFault}
use Rattle.log_formats.specs.Data.{some_texts}
use Rattle.log_certificates.specs.Names.{error_text}
use Rattle.log_certificates.specs.Values.{BASIC_CONSTRAINTS, constraints_in}
use Rattle.log_certificates.specs.declared.field.CertificateField.{CertificateField}
use Rattle.log_certificates.specs.declared.field.CertificateField.TheVariants as of

-- `name:kind`
abbrev pub fault_text : Bytes → ErrorKind → Bytes
fault_text name kind = name ++ codes ":" ++ error_text kind

abbrev pub fault_texts : Bytes → Option ErrorKind → List Bytes
fault_texts name None = []
fault_texts name (Some kind) = fault_text name kind ∷ []

-- `name@at:kind`
abbrev pub place_text : Bytes → ListFault → Bytes
place_text name fault =
    name ++ codes "@" ++ decimal fault.at ++ codes ":" ++ error_text fault.kind

abbrev pub place_texts : Bytes → Option ListFault → List Bytes
place_texts name None = []
place_texts name (Some fault) = place_text name fault ∷ []

abbrev pub ca_fault_of : List Extension → Option ErrorKind
ca_fault_of extensions =
    option_and_then (λ e. ca_fault_in e.extn_value) (first_of BASIC_CONSTRAINTS extensions)

abbrev pub path_length_fault_of : List Extension → Option ErrorKind
path_length_fault_of extensions =
    option_and_then natural_fault
    (option_and_then (λ c. c.path_len_constraint) (constraints_in extensions))

-- The first `critical` that is BER's TRUE, with the count of bytes before its extension; cA, if it
-- is so; a pathLenConstraint that isn't from 0 to 2^64 - 1.
abbrev pub noted : Bytes → List Bytes
noted extensions =
    place_texts (codes "critical") (critical_fault_in extensions)
    ++ fault_texts (codes "cA") (ca_fault_of (items_in extension extensions))
    ++ fault_texts (codes "pathLenConstraint")
    (path_length_fault_of (items_in extension extensions))

-- The value is a list that ends in these texts; if there are none, it may be left out.
abbrev pub EndsInTexts : List Bytes → Option Data → Type 0
EndsInTexts texts value = (front : List Bytes) × (value ≡ some_texts (front ++ texts))

-- Of what can't be read, the last texts are these.
abbrev pub NotesLast : CertificateField → List Bytes → Option Data → Type 0
NotesLast of.UnreadFields texts value = EndsInTexts texts value
NotesLast field texts value = ⊤
