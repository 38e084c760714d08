-- Texts in a line: our names, numbers in hexadecimal, and bytes that a peer sent.
use Rattle.std.specs.Prelude.{ℕ, ◌/◌, ◌%◌, List, [], ◌∷◌, ◌++◌, Option, Some, None, codes, decimal}
use Rattle.std.specs.BTreeMap.{get}
use Rattle.std.specs.Net.Text.{ip_text}
use Rattle.std.specs.Option.{option_map}
use Rattle.std.specs.Ordering.{nat_cmp}
use Rattle.std.specs.String.{string_bytes}
use Rattle.hex.specs.Hex.{encode_lower}
use Rattle.text_forms.specs.Escaped.{escaped_text}
use Rattle.text_forms.specs.Hexadecimal.{number_text}
use Rattle.tls_base.specs.Names.{look_up}
use Rattle.tls_base.specs.Registered.{registered_extension_types, registered_groups, registered_signature_schemes}
use Rattle.tls_base.specs.RegisteredSuites.{registered_suites}
use Rattle.ssl2_hello.specs.CipherSpec.{suite_of}
use Rattle.log_formats.specs.declared.suites.OtherSuites.{OtherSuites}
use Rattle.log_formats.specs.declared.suites.OtherSuites.TheVariants.{Named, Numbered}
use Rattle.log_formats.specs.declared.suites.Suites.{Suites}
use Rattle.log_formats.specs.declared.text.Text.{Text}
use Rattle.log_formats.specs.declared.text.Text.TheVariants.{
  Plain,
  Owned,
  Code,
  LongCode,
  Digits,
  Escaped,
  Placed,
  Scheme,
  Version,
  Address,
}

-- The lowest 3 bytes of a number as `0x` and six digits.
abbrev pub long_number_text : ℕ → List ℕ
long_number_text n =
    codes "0x" ++ encode_lower (n / 65536 % 256 ∷ n / 256 % 256 ∷ n % 256 ∷ [])

-- The name, or else the number in hexadecimal.
abbrev pub name_or_number : Option (List ℕ) → ℕ → List ℕ
name_or_number (Some name) n = name
name_or_number None n = number_text n

-- Versions by their names in Zeek's logs: DTLS 1.3 as 0xfefc (RFC 9147, section 5.3), a draft of
-- TLS 1.3 as 0x7f and its number (draft-ietf-tls-tls13-18, section 4.2.1.1), and the drafts that
-- Facebook and BoringSSL numbered by themselves.
unfoldable pub zeek_versions : List (ℕ × List ℕ)
zeek_versions =
    (0x0300, codes "SSLv3")
    ∷ (0x0301, codes "TLSv10")
    ∷ (0x0302, codes "TLSv11")
    ∷ (0x0303, codes "TLSv12")
    ∷ (0x0304, codes "TLSv13")
    ∷ (0xfeff, codes "DTLSv10")
    ∷ (0xfefd, codes "DTLSv12")
    ∷ (0xfefc, codes "DTLSv13")
    ∷ (0x7f0e, codes "TLSv13-draft14")
    ∷ (0x7f0f, codes "TLSv13-draft15")
    ∷ (0x7f10, codes "TLSv13-draft16")
    ∷ (0x7f11, codes "TLSv13-draft17")
    ∷ (0x7f12, codes "TLSv13-draft18")
    ∷ (0x7f13, codes "TLSv13-draft19")
    ∷ (0x7f14, codes "TLSv13-draft20")
    ∷ (0x7f15, codes "TLSv13-draft21")
    ∷ (0x7f16, codes "TLSv13-draft22")
    ∷ (0x7f17, codes "TLSv13-draft23")
    ∷ (0x7f18, codes "TLSv13-draft24")
    ∷ (0x7f19, codes "TLSv13-draft25")
    ∷ (0x7f1a, codes "TLSv13-draft26")
    ∷ (0x7f1b, codes "TLSv13-draft27")
    ∷ (0x7f1c, codes "TLSv13-draft28")
    ∷ (0xfb17, codes "TLSv13-facebook23")
    ∷ (0xfb1a, codes "TLSv13-facebook26")
    ∷ (0x7e01, codes "TLSv13-boringssl1")
    ∷ (0x7e02, codes "TLSv13-boringssl2")
    ∷ (0x7e03, codes "TLSv13-boringssl3")
    ∷ []

unfoldable pub version_text : ℕ → List ℕ
version_text n = name_or_number (look_up zeek_versions n) n

-- Groups, extension types and signature schemes by their names in IANA's registries.
unfoldable pub group_text : ℕ → List ℕ
group_text n = name_or_number (look_up registered_groups n) n

unfoldable pub extension_text : ℕ → List ℕ
extension_text n = name_or_number (look_up registered_extension_types n) n

unfoldable pub scheme_text : ℕ → List ℕ
scheme_text n = name_or_number (look_up registered_signature_schemes n) n

-- A suite without a name in the list: by its name in IANA's registry, if these are used, or else by
-- its number.
abbrev pub unlisted_suite_text : OtherSuites → ℕ → List ℕ
unlisted_suite_text Named n = name_or_number (look_up registered_suites n) n
unlisted_suite_text Numbered n = number_text n

abbrev pub listed_or : Option (List ℕ) → List ℕ → List ℕ
listed_or (Some name) other = name
listed_or None other = other

-- A cipher suite by its name in the list.
unfoldable pub suite_text : Suites → ℕ → List ℕ
suite_text s n =
    listed_or (option_map string_bytes (get nat_cmp s.names n)) (unlisted_suite_text s.others n)

abbrev pub suite_or_spec : Suites → Option ℕ → ℕ → List ℕ
suite_or_spec s (Some suite) n = suite_text s suite
suite_or_spec s None n = long_number_text n

-- A CipherSpec of SSL 2.0's hello (RFC 5246, appendix E.2): as its TLS suite, if it is one.
unfoldable pub spec_text : Suites → ℕ → List ℕ
spec_text s n = suite_or_spec s (suite_of n) n

-- What a peer sent, behind the number of its type.
abbrev pub typed_text : ℕ → List ℕ → List ℕ
typed_text kind name = decimal kind ++ codes ":" ++ escaped_text name

-- A name behind a position.
abbrev pub placed_text : ℕ → List ℕ → List ℕ
placed_text place name = decimal place ++ codes ":" ++ name

-- What is written of a text.
abbrev pub text_bytes : Text → List ℕ
text_bytes (Plain s) = s.now
text_bytes (Owned s) = string_bytes s
text_bytes (Code n) = number_text n
text_bytes (LongCode n) = long_number_text n
text_bytes (Digits b) = encode_lower b.now
text_bytes (Escaped b) = escaped_text b.now
text_bytes (Placed place name) = placed_text place name.now
text_bytes (Scheme n) = scheme_text n
text_bytes (Version v) = version_text v.0
text_bytes (Address a) = ip_text a
