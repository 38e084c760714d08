-- BER's TRUE: a BOOLEAN that is neither 0 nor 255 (X.690, sections 8.2.2 and 11.1). It is read, and
-- DER forbids it.
use Rattle.std.specs.Prelude.{◌==◌, Option, Some, None, Ok, Err, if◌then◌else◌}
use Rattle.layouts.specs.Bytes.{Bytes}
use Rattle.layouts.specs.Layout.{Layout, rest, ◌>>◌}
use Rattle.layouts.specs.Meaning.{Answer}
use Rattle.layouts.specs.Reading.{reading}
use Rattle.layouts.specs.declared.result.ErrorKind.{ErrorKind}
use Rattle.der.specs.Element.{optional, tagged}
use Rattle.der.specs.ObjectIdentifier.{object_identifier}
use Rattle.der.specs.Values.{boolean, integer}
use Rattle.x509.specs.Certificate.{extension}
use Rattle.x509.specs.Extensions.{BasicConstraints, basic_constraints}
use Rattle.x509_text.specs.Fault.{fault_in, kind_by}
use Rattle.x509_text.specs.declared.fault.ListFault.{ListFault}

-- An extension with DER's BOOLEAN (RFC 5280, section 4.2): its value.
unfoldable pub strict_extension_content : Layout Bytes
strict_extension_content = do
  object_identifier
  optional 1 boolean
  tagged 4 rest

unfoldable pub strict_extension : Layout Bytes
strict_extension = tagged 0x30 strict_extension_content

-- The first fault by DER, unless BER has it too.
abbrev pub unless_of_ber : Option ListFault → Option ListFault → Option ListFault
unless_of_ber None ber = None
unless_of_ber (Some der) None = Some der
unless_of_ber (Some der) (Some ber) = if der.at == ber.at then None else Some der

-- The first extension whose `critical` is BER's TRUE.
abbrev pub critical_fault_in : Bytes → Option ListFault
critical_fault_in b = unless_of_ber (fault_in strict_extension b) (fault_in extension b)

-- BasicConstraints with DER's BOOLEAN (section 4.2.1.9): the pathLenConstraint.
unfoldable pub strict_constraints_content : Layout (Option Bytes)
strict_constraints_content = do
  optional 1 boolean
  optional 2 integer

unfoldable pub strict_constraints : Layout (Option Bytes)
strict_constraints = tagged 0x30 strict_constraints_content

abbrev pub refused_only : Answer BasicConstraints → Answer (Option Bytes) → Option ErrorKind
refused_only (Ok ber) (Ok der) = None
refused_only (Ok ber) (Err refusal) = Some (kind_by refusal)
refused_only (Err refusal) der = None

-- BasicConstraints whose cA is BER's TRUE.
abbrev pub ca_fault_in : Bytes → Option ErrorKind
ca_fault_in b = refused_only (reading basic_constraints b) (reading strict_constraints b)
