-- Extensions in place.
use Rattle.std.specs.Prelude.{ℕ, List, [], ◌∷◌, Option, Some, None, Result, Ok, Err, ◌==◌, ◌+◌, ◌-◌, ◌&&◌, nat_le, nat_lt, if◌then◌else◌}
use Rattle.tls_base.specs.ExtensionNumbers as extension_number
use Rattle.layouts.specs.Bytes.{Bytes}
use Rattle.layouts.specs.Layout.{Layout, list, mapped, counted_window}
use Rattle.layouts.specs.Meaning.{Refusal, Answer}
use Rattle.layouts.specs.Reading.{reading}
use Rattle.layouts.specs.Items.{items_in, refusal_in, value_of}
use Rattle.layouts.specs.Framed.{Framed, framed}
use Rattle.tls_ext.specs.Content as content
use Rattle.tls_ext.specs.Dispatch.{is_grease}
use Rattle.tls_ext.specs.Extension as ext
use Rattle.tls_ext.specs.Extension.{Extension}
use Rattle.tls_ext.specs.declared.extension.KeyShareEntry.{KeyShareEntry}
use Rattle.tls_ext.specs.declared.extension_view.RawExtension.{RawExtension}

abbrev pub view_raw_extension : RawExtension → Framed
view_raw_extension e = record { kind = e.extension_type.0; content = e.content.now }

-- ExtensionType extension_type; opaque extension_data<0..2^16-1> (RFC 8446, section 4.2).
abbrev pub raw_extension : Layout Framed
raw_extension = framed 2 2

-- The value of the extension, if `content` gives the content of each type.
abbrev pub extension_of : (ℕ → Layout Extension) → Framed → Result Extension Refusal
extension_of content e = value_of (reading (content e.kind) e.content)

-- The types of extensions, in their order.
abbrev pub extension_type : Layout ℕ
extension_type = mapped (λ e. e.kind) raw_extension

-- NamedGroup group; opaque key_exchange<1..2^16-1> (RFC 8446, section 4.2.8).
abbrev pub key_share_entry : Layout Framed
key_share_entry = framed 2 2

abbrev pub view_key_share_entry : KeyShareEntry → Framed
view_key_share_entry e = record { kind = e.group.0; content = e.kx.now }

-- KeyShareEntry client_shares<0..2^16-1> (RFC 8446, section 4.2.8).
abbrev pub client_shares : Layout (List Framed)
client_shares = counted_window 2 (list key_share_entry)

-- The first part of this kind.
abbrev pub first_of : ℕ → List Framed → Option Framed
first_of kind [] = None
first_of kind (x ∷ xs) = if x.kind == kind then Some x else first_of kind xs

abbrev pub found : Option Framed → Option Refusal → Result (Option Bytes) Refusal
found (Some x) e = Ok (Some x.content)
found None None = Ok None
found None (Some e) = Err e

-- The content of the first extension of this type. If there is none, the refusal that ended the
-- extensions before the end of their bytes, if there was one.
abbrev pub content_of : ℕ → Bytes → Result (Option Bytes) Refusal
content_of kind b = found (first_of kind (items_in raw_extension b)) (refusal_in raw_extension b)

-- The part of a content that `pick` takes, if the content is read.
abbrev pub picked : {A : Type 0} → (Extension → Option A) → Answer Extension
    → Result (Option A) Refusal
picked pick (Ok x) = Ok (pick x.0)
picked pick (Err e) = Err e

abbrev pub in_content : {A : Type 0} → Layout Extension → (Extension → Option A)
    → Result (Option Bytes) Refusal
    → Result (Option A) Refusal
in_content l pick (Ok (Some c)) = picked pick (reading l c)
in_content l pick (Ok None) = Ok None
in_content l pick (Err e) = Err e

abbrev pub first_name : Extension → Option Bytes
first_name (ext.server_name (n ∷ ns)) = Some n.name
first_name e = None

-- The host name that a client requests (RFC 6066, section 3): the first name in its first
-- server_name.
abbrev pub host_name : Bytes → Result (Option Bytes) Refusal
host_name b = in_content content.server_names first_name (content_of extension_number.server_name b)

abbrev pub names_of_protocols : Extension → Option (List Bytes)
names_of_protocols (ext.application_layer_protocol_negotiation names) = Some names
names_of_protocols e = None

-- The protocol names in the first application_layer_protocol_negotiation (RFC 7301, section 3.1).
abbrev pub protocol_names : Bytes → Result (Option (List Bytes)) Refusal
protocol_names b =
    in_content content.application_layer_protocol_negotiation names_of_protocols
    (content_of extension_number.application_layer_protocol_negotiation b)

abbrev pub listed_versions : Extension → Option (List ℕ)
listed_versions (ext.supported_versions versions) = Some versions
listed_versions e = None

-- The rank of a version: later versions have higher ranks. It is the number, except for DTLS
-- (0xfe..), where lower numbers are later (RFC 6347, section 4.1; RFC 9147, section 5.3).
abbrev pub lateness : ℕ → ℕ
lateness v = if nat_le 0xfe00 v && nat_le v 0xfeff then 0xfe00 + (0xfeff - v) else v

abbrev pub later : ℕ → Option ℕ → ℕ
later v None = v
later v (Some w) = if nat_lt (lateness w) (lateness v) then v else w

-- The latest version that isn't a GREASE number.
abbrev pub latest : List ℕ → Option ℕ
latest [] = None
latest (v ∷ vs) = if is_grease v then latest vs else Some (later v (latest vs))

abbrev pub latest_of : ℕ → Result (Option (List ℕ)) Refusal → Result (Option ℕ) Refusal
latest_of version (Ok (Some versions)) = Ok (latest versions)
latest_of version (Ok None) = Ok (Some version)
latest_of version (Err e) = Err e

-- The latest version in the first supported_versions (RFC 8446, section 4.2.1), or the hello's own
-- if there is no such extension.
abbrev pub best_version : ℕ → Bytes → Result (Option ℕ) Refusal
best_version version b =
    latest_of version (in_content content.supported_versions listed_versions
    (content_of extension_number.supported_versions b))
