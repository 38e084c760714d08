-- Whether a certificate is for a host (RFC 9525, section 6.3).
use Rattle.std.specs.Prelude.{ℕ, ◌-◌, ◌==◌, ◌&&◌, ◌||◌, not, Bool, true, false, List, [], ◌∷◌, length, map, slice_get, Option, Some, None, if◌then◌else◌}
use Rattle.std.specs.Borrow.{Bor}
use Rattle.std.specs.Char.{to_ascii_lowercase, is_ascii_alphanumeric, is_ascii_digit}
use Rattle.std.specs.List.{list_all, list_any, slice_split}
use Rattle.std.specs.Str.{bytes_eq}
use Rattle.layouts.specs.Bytes.{Bytes}
use Rattle.layouts.specs.Items.{list_read}
use Rattle.layouts.specs.Reading.{reading}
use Rattle.x509.specs.Certificate.{Certificate, Extension}
use Rattle.x509.specs.Extensions.{first_of}
use Rattle.x509.specs.GeneralName.{GeneralName, DnsName, general_names}

-- The labels of a name: the parts between its dots.
abbrev pub labels : Bytes → List Bytes
labels name = slice_split (λ b. b == 46) name

-- The labels of the rest of a name.
abbrev pub labels_left : Option (Bor Bytes) → List Bytes
labels_left None = []
labels_left (Some rest) = labels rest.now

-- Letters, digits, `-` and `_`.
abbrev pub is_name_byte : ℕ → Bool
is_name_byte b = is_ascii_alphanumeric b || (b == 45 || b == 95)

abbrev pub is_label : Bytes → Bool
is_label label = not (length label == 0) && list_all is_name_byte label

abbrev pub is_number : Bytes → Bool
is_number label = list_all is_ascii_digit label

-- The labels are those of a host; the Bool is whether the label before them is a number. The last
-- label of all isn't a number, or the name would be an address.
abbrev pub are_host_labels : Bool → List Bytes → Bool
are_host_labels number [] = not number
are_host_labels number (label ∷ others) = is_label label && are_host_labels (is_number label) others

abbrev pub is_host : List Bytes → Bool
is_host name = are_host_labels true name

-- Equal, ignoring case.
abbrev pub same_label : Bytes → Bytes → Bool
same_label a b = bytes_eq (map to_ascii_lowercase a) (map to_ascii_lowercase b)

abbrev pub same_labels : List Bytes → List Bytes → Bool
same_labels [] [] = true
same_labels (a ∷ others) (b ∷ behind) = same_label a b && same_labels others behind
same_labels _ _ = false

-- Letters, digits and `-`.
abbrev pub is_plain_byte : ℕ → Bool
is_plain_byte b = is_ascii_alphanumeric b || b == 45

abbrev pub is_plain : Bytes → Bool
is_plain label = list_all is_plain_byte label

abbrev pub is_hyphen : Option ℕ → Bool
is_hyphen (Some b) = b == 45
is_hyphen None = false

-- A label of a domain: without `-` at an end (RFC 1034, section 3.5).
abbrev pub is_domain_label : Bytes → Bool
is_domain_label label =
    is_plain label
    && not (is_hyphen (slice_get label 0) || is_hyphen (slice_get label (length label - 1)))

abbrev pub are_domain_labels : List Bytes → Bool
are_domain_labels [] = true
are_domain_labels (label ∷ others) = is_domain_label label && are_domain_labels others

abbrev pub are_some : List Bytes → Bool
are_some [] = false
are_some (label ∷ others) = true

abbrev pub are_two : List Bytes → Bool
are_two [] = false
are_two (label ∷ others) = are_some others

-- A wildcard may match a label: two or more labels of a domain follow it, so that it doesn't stand
-- for a whole top-level domain.
abbrev pub takes_wildcard : Bytes → List Bytes → Bool
takes_wildcard label behind = is_plain label && are_two behind && are_domain_labels behind

-- `*` as the whole first label is the wildcard.
abbrev pub stands_for : Bytes → Bytes → List Bytes → Bool
stands_for first label behind =
    if bytes_eq first (42 ∷ []) then takes_wildcard label behind else same_label first label

-- The labels of a dNSName match those of a host. Behind the first they are equal, so what a
-- wildcard asks of them is asked of the host's.
abbrev pub covers : List Bytes → List Bytes → Bool
covers (first ∷ others) (label ∷ behind) =
    stands_for first label behind && same_labels others behind
covers _ _ = false

abbrev pub name_covers : List Bytes → GeneralName → Bool
name_covers host (DnsName pattern) = covers (labels pattern) host
name_covers host _ = false

abbrev pub names_host : List Bytes → List GeneralName → Bool
names_host host names = list_any (name_covers host) names

-- id-ce-subjectAltName: 2.5.29.17
abbrev pub SUBJECT_ALT_NAME : Bytes
SUBJECT_ALT_NAME = 0x55 ∷ 0x1d ∷ 0x11 ∷ []

abbrev pub names_in : Option Extension → List GeneralName
names_in None = []
names_in (Some e) = list_read (reading general_names e.extn_value)

-- The names in the first subjectAltName.
abbrev pub alt_names : List Extension → List GeneralName
alt_names extensions = names_in (first_of SUBJECT_ALT_NAME extensions)

-- A host with a trailing dot has an empty label, so it is none.
abbrev pub matches_host : Certificate → Bytes → Bool
matches_host certificate host =
    is_host (labels host)
    && names_host (labels host) (alt_names certificate.tbs_certificate.others.extensions)
