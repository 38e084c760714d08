-- Names in extensions as texts (RFC 5280, section 4.2.1.6).
use Rattle.std.specs.Prelude.{ℕ, ◌/◌, ◌%◌, ◌==◌, ◌&&◌, nat_le, nat_lt, Option, Some, None, Result, Ok, Err, List, [], ◌∷◌, ◌++◌, length, codes, if◌then◌else◌}
use Rattle.std.specs.Char.{digit_char}
use Rattle.std.specs.List.{flat_map}
use Rattle.std.specs.Net.Addr.{segments_of}
use Rattle.std.specs.Net.Text.{ipv4_text, ipv6_text}
use Rattle.hex.specs.Hex.{encode_upper}
use Rattle.std.specs.Str.{bytes_eq}
use Rattle.layouts.specs.Bytes.{Bytes}
use Rattle.layouts.specs.Meaning.{Refusal}
use Rattle.layouts.specs.Reading.{reading}
use Rattle.layouts.specs.Items.{value_of}
use Rattle.der.specs.Element.{Element}
use Rattle.x509.specs.Name.{AttributeTypeAndValue, name}
use Rattle.x509_text.specs.Name.{name_text}
use Rattle.x509_text.specs.Object.{content_by}
use Rattle.x509.specs.GeneralName.{GeneralName, OtherName, other_name, Rfc822Name, DnsName, UniformResourceIdentifier, IpAddress, Other}

-- Printable ASCII as it is, but `\` twice; any other byte as two digits after `\x`.
abbrev pub ascii_byte : ℕ → Bytes
ascii_byte b =
    if b == 92 then 92 ∷ 92 ∷ [] else
    if nat_le 0x20 b && nat_lt b 0x7f then
    b ∷ [] else 92 ∷ 120 ∷ digit_char (b / 16) ∷ digit_char (b % 16) ∷ []

abbrev pub ascii_text : Bytes → Bytes
ascii_text bytes = flat_map ascii_byte bytes

abbrev pub address_text : Bytes → Bytes
address_text address =
    if length address == 4 then ipv4_text address else
    if length address == 16 then
    ipv6_text (segments_of address) else codes "iPAddress:" ++ encode_upper address

-- The kind by its tag.
abbrev pub kind_of : ℕ → Bytes
kind_of t =
    if t == 0xa0 then codes "otherName" else
    if t == 0xa3 then codes "x400Address" else
    if t == 0xa4 then codes "directoryName" else
    if t == 0xa5 then codes "ediPartyName" else
    if t == 0x88 then codes "registeredID" else codes "unknown"

abbrev pub general_name_text : GeneralName → Bytes
general_name_text (Rfc822Name bytes) = ascii_text bytes
general_name_text (DnsName bytes) = ascii_text bytes
general_name_text (UniformResourceIdentifier bytes) = ascii_text bytes
general_name_text (IpAddress bytes) = address_text bytes
general_name_text (Other e) = kind_of e.tag ++ 58 ∷ encode_upper e.content

-- userPrincipalName (MS-WCCE, section 2.2.2.7.7.4)
abbrev pub USER_PRINCIPAL_NAME : Bytes
USER_PRINCIPAL_NAME = content_by (1 ∷ 3 ∷ 6 ∷ 1 ∷ 4 ∷ 1 ∷ 311 ∷ 20 ∷ 2 ∷ 3 ∷ [])

abbrev pub principal_text : Element → Option Bytes
principal_text value = if value.tag == 0x0c then Some (ascii_text value.content) else None

abbrev pub principal_of : Result OtherName Refusal → Option Bytes
principal_of (Ok other) =
    if bytes_eq other.type_id USER_PRINCIPAL_NAME then principal_text other.value else None
principal_of (Err refusal) = None

-- The user of an otherName's content.
abbrev pub principal_name : Bytes → Option Bytes
principal_name content = principal_of (value_of (reading other_name content))

abbrev pub directory_of : Result (List (List AttributeTypeAndValue)) Refusal → Option Bytes
directory_of (Ok sets) = Some (name_text sets)
directory_of (Err refusal) = None

-- The Name in a directoryName's explicit tag.
abbrev pub directory_name : Bytes → Option Bytes
directory_name content = directory_of (value_of (reading name content))

-- otherName [0], directoryName [4].
abbrev pub decoded_by : Element → Option Bytes
decoded_by e =
    if e.tag == 0xa0 then principal_name e.content else
    if e.tag == 0xa4 then directory_name e.content else None

abbrev pub decoded_name : GeneralName → Option Bytes
decoded_name (Other e) = decoded_by e
decoded_name _ = None
