-- JA3 and JA3S, as Salesforce defined them in 2017.
use Rattle.std.specs.Prelude.{[], ◌∷◌, decimal}
use Rattle.std.specs.List.{join_with_byte}
use Rattle.md5.specs.Md5.{md5}
use Rattle.hex.specs.Hex.{encode_lower}
use Rattle.layouts.specs.Bytes.{Bytes}
use Rattle.tls_fingerprints.specs.Numbers.{dashed, without_grease}
use Rattle.tls_ext.specs.Offered.{groups_in, formats_in}
use Rattle.tls_fingerprints.specs.Hellos.{Client, Server, types_in}
use Rattle.tls_fingerprints.specs.declared.ja3_numbers.Ja3Numbers.{Ja3Numbers}

-- Five fields separated by `,`: the version, the cipher suites, the extension types, the groups,
-- the point formats.
abbrev pub ja3_text_of : Client → Bytes
ja3_text_of h = join_with_byte 44 (
    decimal h.version
    ∷ dashed (without_grease h.suites)
    ∷ dashed (without_grease (types_in h.extensions))
    ∷ dashed (without_grease (groups_in h.extensions))
    ∷ dashed (formats_in h.extensions)
    ∷ [])

-- These five fields for stored numbers of a hello.
abbrev pub text_of_numbers : Ja3Numbers → Bytes
text_of_numbers n = join_with_byte 44 (
    decimal n.version
    ∷ dashed n.suites.items
    ∷ dashed n.types.items
    ∷ dashed n.groups.items
    ∷ dashed n.formats.items
    ∷ [])

-- The MD5 of a text, in hexadecimal.
abbrev pub digest_of : Bytes → Bytes
digest_of text = encode_lower (md5 text)

abbrev pub ja3_of : Client → Bytes
ja3_of h = digest_of (ja3_text_of h)

-- Three fields: the version, the cipher suite, the extension types.
abbrev pub ja3s_text_of : Server → Bytes
ja3s_text_of h = join_with_byte 44 (
    decimal h.version
    ∷ decimal h.suite
    ∷ dashed (without_grease (types_in h.extensions))
    ∷ [])

abbrev pub ja3s_of : Server → Bytes
ja3s_of h = digest_of (ja3s_text_of h)
