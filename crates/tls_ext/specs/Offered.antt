-- What a hello offers by the first extension of a type; nothing if it is missing or refused.
use Rattle.std.specs.Prelude.{ℕ, List, [], Option, Some, None, Result, Ok, Err}
use Rattle.tls_base.specs.ExtensionNumbers as extension_number
use Rattle.layouts.specs.Bytes.{Bytes}
use Rattle.layouts.specs.Meaning.{Refusal}
use Rattle.tls_ext.specs.Content as content
use Rattle.tls_ext.specs.Extension as ext
use Rattle.tls_ext.specs.Extension.{Extension}
use Rattle.tls_ext.specs.InPlace.{content_of, in_content}

-- The value, or nothing if it is refused.
abbrev pub known : {A : Type 0} → Result (Option A) Refusal → Option A
known (Ok x) = x
known (Err e) = None

-- The content of the first extension of this type (RFC 8446, section 4.2).
abbrev pub content_in : ℕ → Bytes → Option Bytes
content_in kind b = known (content_of kind b)

-- The list in an extension, or no items.
abbrev pub listed : {A : Type 0} → Result (Option (List A)) Refusal → List A
listed (Ok (Some xs)) = xs
listed _ = []

abbrev pub listed_groups : Extension → Option (List ℕ)
listed_groups (ext.supported_groups groups) = Some groups
listed_groups _ = None

-- The groups in supported_groups (RFC 8446, section 4.2.7).
abbrev pub groups_in : Bytes → List ℕ
groups_in b =
    listed (in_content content.supported_groups listed_groups
    (content_of extension_number.supported_groups b))

abbrev pub listed_formats : Extension → Option (List ℕ)
listed_formats (ext.ec_point_formats formats) = Some formats
listed_formats _ = None

-- The formats in ec_point_formats (RFC 8422, section 5.1.2).
abbrev pub formats_in : Bytes → List ℕ
formats_in b =
    listed (in_content content.ec_point_formats listed_formats
    (content_of extension_number.ec_point_formats b))

abbrev pub listed_algorithms : Extension → Option (List ℕ)
listed_algorithms (ext.signature_algorithms algorithms) = Some algorithms
listed_algorithms _ = None

-- The algorithms in signature_algorithms (RFC 8446, section 4.2.3).
abbrev pub algorithms_in : Bytes → List ℕ
algorithms_in b =
    listed (in_content content.signature_algorithms listed_algorithms
    (content_of extension_number.signature_algorithms b))
