-- The content of an extension of each type, for each side (RFC 8446, section 4.2). This table is
-- written independently of the code's; the two are proved equal.
use Rattle.std.specs.Prelude.{ℕ, List, [], ◌∷◌, Bool, true, false, bit_and, ◌==◌, ◌&&◌}
use Rattle.tls_base.specs.ExtensionNumbers as extension_number
use Rattle.layouts.specs.Layout.{Layout, number, list, ◌>>=◌, choose, counted_window}
use Rattle.tls_ext.specs.Extension as ext
use Rattle.tls_ext.specs.Extension.{Extension}
use Rattle.tls_ext.specs.Content as content
use Rattle.tls_ext.specs.Content.{opaque_content}
use Rattle.tls_ext.specs.declared.kind.Side.{Side}
use Rattle.tls_ext.specs.declared.kind.Side.TheVariants.{General, Client, Server}

-- Which sides read a kind: `General` reads any message, `Client` a ClientHello, `Server` a
-- ServerHello.
abbrev pub all_sides : Side → Bool
all_sides side = true

abbrev pub not_server : Side → Bool
not_server General = true
not_server Client = true
not_server Server = false

abbrev pub general_only : Side → Bool
general_only General = true
general_only Client = false
general_only Server = false

-- A row of the table: the type's number, the layout of its content, and the sides that read it.
pub record Row : Type 1 where
  pub extension_type : ℕ
  pub layout : Layout Extension
  pub read_by : Side → Bool

abbrev pub row : ℕ → Layout Extension → (Side → Bool) → Row
row n l sides = record { extension_type = n; layout = l; read_by = sides }

-- The rows whose content isn't a list, by their numbers.
abbrev pub other_rows : List Row
other_rows =
    row extension_number.max_fragment_length content.max_fragment_length all_sides
    ∷ row extension_number.status_request content.status_request all_sides
    ∷ row extension_number.ec_point_formats content.ec_point_formats all_sides
    ∷ row extension_number.heartbeat content.heartbeat all_sides
    ∷ row extension_number.signed_certificate_timestamp
    content.signed_certificate_timestamp all_sides
    ∷ row extension_number.padding content.padding not_server
    ∷ row extension_number.encrypt_then_mac content.encrypt_then_mac all_sides
    ∷ row extension_number.extended_master_secret content.extended_master_secret all_sides
    ∷ row extension_number.record_size_limit content.record_size_limit all_sides
    ∷ row extension_number.session_ticket content.session_ticket all_sides
    ∷ row extension_number.key_share_old content.key_share_old general_only
    ∷ row extension_number.pre_shared_key content.pre_shared_key all_sides
    ∷ row extension_number.early_data content.early_data all_sides
    ∷ row extension_number.cookie content.cookie all_sides
    ∷ row extension_number.post_handshake_auth content.post_handshake_auth not_server
    ∷ row extension_number.key_share content.key_share all_sides
    ∷ row extension_number.next_protocol_negotiation content.next_protocol_negotiation all_sides
    ∷ row extension_number.renegotiation_info content.renegotiation_info all_sides
    ∷ row extension_number.encrypted_server_name content.encrypted_server_name not_server
    ∷ []

-- The rows whose content is a list, by their numbers.
abbrev pub list_rows : List Row
list_rows =
    row extension_number.server_name content.server_names all_sides
    ∷ row extension_number.supported_groups content.supported_groups not_server
    ∷ row extension_number.signature_algorithms content.signature_algorithms all_sides
    ∷ row extension_number.application_layer_protocol_negotiation
    content.application_layer_protocol_negotiation all_sides
    ∷ row extension_number.supported_versions content.supported_versions all_sides
    ∷ row extension_number.psk_key_exchange_modes content.psk_key_exchange_modes not_server
    ∷ row extension_number.oid_filters content.oid_filters not_server
    ∷ []

-- The content for each side and number.
abbrev pub Contents : Type 1
Contents = Side → ℕ → Layout Extension

-- The row's layout, for its number and its sides; else the layout of the others.
abbrev pub in_front : Row → Contents → Contents
in_front r others side n = choose (n == r.extension_type && r.read_by side) r.layout (others side n)

-- A number that has no row, or none for this side.
abbrev pub unknown_content : Contents
unknown_content side n = opaque_content (ext.unknown n)

-- The layouts of these rows; else those of the others.
abbrev pub contents : List Row → Contents → Contents
contents [] others = others
contents (r ∷ rs) others = in_front r (contents rs others)

-- The content of a number that none of the other rows has.
unfoldable pub registered_list : Contents
registered_list = contents list_rows unknown_content

-- The content of a number that isn't a GREASE number.
unfoldable pub registered : Contents
registered = contents other_rows registered_list

-- A GREASE number, reserved so that peers learn to ignore unknown ones: each of its bytes ends in
-- the hexadecimal digit a. These are 256 numbers; RFC 8701, section 2, reserves the sixteen whose
-- two bytes are equal.
abbrev pub is_grease : ℕ → Bool
is_grease n = bit_and n 0x0f0f == 0x0a0a

-- The content of an extension of type n.
unfoldable pub extension_content : Contents
extension_content side n = choose (is_grease n) (opaque_content (ext.grease n)) (registered side n)

-- ExtensionType extension_type; opaque extension_data<0..2^16-1> (RFC 8446, section 4.2). The
-- content is read within that length.
unfoldable pub extension : Side → Layout Extension
extension side = do
  n ← number 2
  counted_window 2 (extension_content side n)

-- Extensions, one after another, up to the first that can't be read.
abbrev pub extensions : Side → Layout (List Extension)
extensions side = list (extension side)

-- Extensions of any message, of a ClientHello and of a ServerHello. Outside this crate the sides
-- have no names.
abbrev pub general_extension : Layout Extension
general_extension = extension General

abbrev pub general_extensions : Layout (List Extension)
general_extensions = extensions General

abbrev pub client_extensions : Layout (List Extension)
client_extensions = extensions Client

abbrev pub server_extensions : Layout (List Extension)
server_extensions = extensions Server
