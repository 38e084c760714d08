-- The fields of a hello's extensions; none if the extension is missing or refused.
use Rattle.std.specs.Prelude.{ℕ, ◌+◌, ◌-◌, ◌^◌, min, Bool, true, false, List, [], ◌∷◌, Option, Some, None, Ok, Err, ◌==◌, if◌then◌else◌}
use Rattle.tls_base.specs.ExtensionNumbers as extension_number
use Rattle.tls_key_exchange.specs.Timestamp.{SignedCertificateTimestamp, timestamp_list}
use Rattle.layouts.specs.Bytes.{Bytes}
use Rattle.layouts.specs.Framed.{Framed}
use Rattle.layouts.specs.Items.{list_read}
use Rattle.layouts.specs.Layout.{Layout, number}
use Rattle.layouts.specs.Meaning.{Answer}
use Rattle.layouts.specs.Reading.{reading}
use Rattle.tls_ext.specs.Content as content
use Rattle.tls_ext.specs.Extension as ext
use Rattle.tls_ext.specs.Extension.{Extension, ServerName}
use Rattle.tls_ext.specs.InPlace.{client_shares, content_of, in_content, listed_versions, protocol_names}
use Rattle.tls_ext.specs.Offered.{content_in, listed}

abbrev pub value_in : {A : Type 0} → Answer A → Option A
value_in (Ok x) = Some x.0
value_in (Err e) = None

abbrev pub is_there : Option Bytes → Bool
is_there (Some c) = true
is_there None = false

abbrev pub first_of : List Bytes → Option Bytes
first_of [] = None
first_of (x ∷ xs) = Some x

abbrev pub has : ℕ → Bytes → Bool
has kind b = is_there (content_in kind b)

-- The list in a content with this layout.
abbrev pub list_in : {A : Type 0} → Layout (List A) → Option Bytes → List A
list_in l (Some c) = list_read (reading l c)
list_in l None = []

abbrev pub listed_names : Extension → Option (List ServerName)
listed_names (ext.server_name names) = Some names
listed_names _ = None

-- The names in server_name (RFC 6066, section 3).
abbrev pub names_in : Bytes → List ServerName
names_in b =
    listed (in_content content.server_names listed_names
    (content_of extension_number.server_name b))

-- The first host name: its NameType is host_name, 0 (RFC 6066, section 3).
abbrev pub host_among : List ServerName → Option Bytes
host_among [] = None
host_among (n ∷ ns) = if n.name_type == 0 then Some n.name else host_among ns

-- The names of other types.
abbrev pub others_among : List ServerName → List ServerName
others_among [] = []
others_among (n ∷ ns) = if n.name_type == 0 then others_among ns else n ∷ others_among ns

-- The versions in supported_versions (RFC 8446, section 4.2.1).
abbrev pub versions_in : Bytes → List ℕ
versions_in b =
    listed (in_content content.supported_versions listed_versions
    (content_of extension_number.supported_versions b))

abbrev pub listed_modes : Extension → Option (List ℕ)
listed_modes (ext.psk_key_exchange_modes modes) = Some modes
listed_modes _ = None

-- The modes in psk_key_exchange_modes (RFC 8446, section 4.2.9).
abbrev pub modes_in : Bytes → List ℕ
modes_in b =
    listed (in_content content.psk_key_exchange_modes listed_modes
    (content_of extension_number.psk_key_exchange_modes b))

-- The protocols in application_layer_protocol_negotiation (RFC 7301, section 3.1).
abbrev pub protocols_in : Bytes → List Bytes
protocols_in b = listed (protocol_names b)

-- The key shares of a client (RFC 8446, section 4.2.8).
abbrev pub shares_in : Bytes → List Framed
shares_in b = list_in client_shares (content_in extension_number.key_share b)

-- The group at the beginning of a key share (RFC 8446, section 4.2.8). A server's share has no list
-- length.
abbrev pub group_of : Option Bytes → Option ℕ
group_of (Some c) = value_in (reading (number 2) c)
group_of None = None

-- The group of a server's key share.
abbrev pub share_group_in : Bytes → Option ℕ
share_group_in b = group_of (content_in extension_number.key_share b)

-- The timestamps of a server's certificate (RFC 6962, section 3.3.1).
abbrev pub timestamps_in : Bytes → List SignedCertificateTimestamp
timestamps_in b =
    list_in timestamp_list (content_in extension_number.signed_certificate_timestamp b)

abbrev pub has_bytes : Option Bytes → Bool
has_bytes (Some (x ∷ xs)) = true
has_bytes _ = false

-- A session_ticket offers a ticket if it isn't empty; an empty one asks for a ticket (RFC 5077,
-- section 3.2).
abbrev pub has_ticket_in : Bytes → Bool
has_ticket_in b = has_bytes (content_in extension_number.session_ticket b)

-- How many there are, besides n; 2^64 - 1 stands for more.
abbrev pub count_behind : {A : Type 0} → ℕ → List A → ℕ
count_behind n [] = n
count_behind n (x ∷ xs) = count_behind (min (n + 1) (2 ^ 64 - 1)) xs

abbrev pub count_of : {A : Type 0} → List A → ℕ
count_of xs = count_behind 0 xs
