-- The encoding of extensions (RFC 8446, section 4.2), and which extensions can be written.
--
-- This states the order of fields a second time, independently of the layouts; that it reads back
-- ties the two together.
use Rattle.std.specs.Prelude.{◌≡◌, ℕ, ◌≤◌, ◌<◌, ◌^◌, min, List, [], ◌++◌, length, drop, Option, Result, Ok, Err, ⊤}
use Rattle.std.specs.List.{All, flat_map}
use Rattle.layouts.specs.Bytes.{Bytes, bytes_of}
use Rattle.layouts.specs.Text.{counted_text, numbers_text}
use Rattle.layouts.specs.Meaning.{Allows, Spells}
use Rattle.layouts.specs.Writer.{Judges, RefusesFirst, Writes}
use Rattle.layouts.specs.declared.writer.GenError.{GenError}
use Rattle.layouts.specs.declared.writer.GenError.TheVariants.{NotYetImplemented, BadLength}
use Rattle.tls_ext.specs.Dispatch.{general_extension, general_extensions}
use Rattle.tls_ext.specs.Extension.{Extension, ServerName, extension_type}
use Rattle.tls_ext.specs.Extension.{server_name, max_fragment_length, supported_groups}

-- NameType name_type; opaque HostName<1..2^16-1> (RFC 6066, section 3).
abbrev pub server_name_text : ServerName → Bytes
server_name_text n = bytes_of 1 n.name_type ++ counted_text 2 n.name

-- Server names, one after another.
abbrev pub names_text : List ServerName → Bytes
names_text names = flat_map server_name_text names

-- The content of an extension of a kind that is written. Other kinds have no encoding.
abbrev pub content_text : Extension → Bytes
content_text (server_name names) = counted_text 2 (names_text names)
content_text (max_fragment_length code) = bytes_of 1 code
content_text (supported_groups groups) = counted_text 2 (numbers_text 2 groups)
content_text e = []

-- ExtensionType extension_type; opaque extension_data<0..2^16-1>.
abbrev pub extension_text : Extension → Bytes
extension_text e = bytes_of 2 (extension_type e) ++ counted_text 2 (content_text e)

-- Extensions, one after another.
abbrev pub joined_text : List Extension → Bytes
joined_text es = flat_map extension_text es

-- Extension extensions<0..2^16-1>.
abbrev pub extensions_text : List Extension → Bytes
extensions_text es = counted_text 2 (joined_text es)

-- The kind is one that is written.
abbrev pub IsWritten : Extension → Type 0
IsWritten (server_name names) = ⊤
IsWritten (max_fragment_length code) = ⊤
IsWritten (supported_groups groups) = ⊤
IsWritten e = ⊥

-- The extension can be written: its kind is one that is written, and the content fits its length
-- field. The lists and names in the content are shorter, so they fit theirs too.
pub record FitsExtension (e : Extension) : Type 0 where
  pub kind : IsWritten e
  pub length : length (content_text e) ≤ 65535

-- Why an extension that doesn't fit is refused.
abbrev pub refusal : Extension → GenError
refusal (server_name names) = BadLength
refusal (max_fragment_length code) = BadLength
refusal (supported_groups groups) = BadLength
refusal e = NotYetImplemented

-- The extension doesn't fit, and this is why.
abbrev pub RefusedExtension : Extension → GenError → Type 0
RefusedExtension e why = (FitsExtension e → ⊥) × (why ≡ refusal e)

-- The extensions can be written: each can, and together they fit their length field.
pub record FitsExtensions (es : List Extension) : Type 0 where
  pub each : All FitsExtension es
  pub length : length (joined_text es) ≤ 65535

-- Why extensions that don't fit are refused: the reason of the first that doesn't fit, or else
-- their length together.
abbrev pub RefusedExtensions : List Extension → GenError → Type 0
RefusedExtensions es why = RefusesFirst FitsExtension RefusedExtension es why

-- What the judges of an extension, and of a list, return.
abbrev pub JudgesExtension : Extension → Result ℕ GenError → Type 0
JudgesExtension e = Judges (FitsExtension e) (RefusedExtension e) (extension_text e)

abbrev pub JudgesExtensions : List Extension → Result ℕ GenError → Type 0
JudgesExtensions es = Judges (FitsExtensions es) (RefusedExtensions es) (extensions_text es)

-- What the writers of an extension, and of a list, return, for a `Write` that holds `contents`.
abbrev pub WritesExtension : {W : Type 0} → Extension → (W → Option Bytes) → W → W
    → Result Unit GenError → Type 0
WritesExtension e contents old new =
    Writes (FitsExtension e) (RefusedExtension e) (extension_text e) contents old new

abbrev pub WritesExtensions : {W : Type 0} → List Extension → (W → Option Bytes) → W → W
    → Result Unit GenError → Type 0
WritesExtensions es contents old new =
    Writes (FitsExtensions es) (RefusedExtensions es) (extensions_text es) contents old new

-- The numbers of an extension of a kind that is written fit their fields, as those of every value
-- in memory do.
abbrev pub InRangeExtension : Extension → Type 0
InRangeExtension (server_name names) = All (λ n. n.name_type < 256 ^ 1) names
InRangeExtension (max_fragment_length code) = code < 256 ^ 1
InRangeExtension (supported_groups groups) = All (λ x. x < 256 ^ 2) groups
InRangeExtension e = ⊤

-- The encoding of the extension, followed by any bytes, reads back as it, as an extension of any
-- message. Those bytes are the rest.
abbrev pub IsReadBackBefore : Extension → Bytes → Type 0
IsReadBackBefore e rest = Spells general_extension (extension_text e ++ rest) e rest []

-- The encoding of the extensions, without its 2 bytes of length, reads back as they, as those of
-- any message. No bytes are left.
abbrev pub IsReadBack : List Extension → Type 0
IsReadBack es = Allows general_extensions (drop 2 (extensions_text es)) (Ok (es, []))

-- The length of the content of a kind that is written, exact as far as a length field can hold it.
-- Other kinds are refused.
abbrev pub Counts : Extension → Result ℕ GenError → Type 0
Counts e (Ok n) = IsWritten e × (min n 65536 ≡ min (length (content_text e)) 65536)
Counts e (Err why) = (IsWritten e → ⊥) × (why ≡ NotYetImplemented)
