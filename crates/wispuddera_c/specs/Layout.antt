-- The sizes of the structs in bytes, and the offsets of their fields, for a size_t of 8 bytes.
use Rattle.std.specs.Prelude.{ℕ, List, [], ◌∷◌, slice_get}
use Rattle.std.specs.Option.{unwrap_or}

-- Place, Record, Part, ClientHello, ServerHello, Found, Number, DtlsRecord, DtlsMessage,
-- DtlsClientHello, Event, Flow, X509, X509Extension, EventContent, Stop, Side, Course,
-- Conversation.
abbrev pub struct_sizes : List ℕ
struct_sizes = 16 ∷ 40 ∷ 40 ∷ 104 ∷ 72 ∷ 24 ∷ 24 ∷ 48 ∷ 48 ∷ 120 ∷ 2 ∷ 4 ∷ 200 ∷ 56 ∷ 24 ∷ 16 ∷ 40
    ∷ 32 ∷ 128 ∷ []

abbrev pub size_of_struct : ℕ → ℕ
size_of_struct index = unwrap_or (slice_get struct_sizes index) 0

-- The field offsets of these structs, in the header's order.
abbrev pub field_offsets : List (List ℕ)
field_offsets =
    (0 ∷ 8 ∷ [])
    ∷ (0 ∷ 8 ∷ 24 ∷ 32 ∷ 34 ∷ 36 ∷ [])
    ∷ (0 ∷ 8 ∷ 24 ∷ 32 ∷ [])
    ∷ (0 ∷ 8 ∷ 24 ∷ 40 ∷ 56 ∷ 72 ∷ 88 ∷ 96 ∷ 98 ∷ [])
    ∷ (0 ∷ 8 ∷ 24 ∷ 40 ∷ 56 ∷ 64 ∷ 66 ∷ 68 ∷ 69 ∷ [])
    ∷ (0 ∷ 8 ∷ [])
    ∷ (0 ∷ 8 ∷ 16 ∷ [])
    ∷ (0 ∷ 8 ∷ 24 ∷ 32 ∷ 40 ∷ 42 ∷ 44 ∷ 46 ∷ [])
    ∷ (0 ∷ 8 ∷ 24 ∷ 32 ∷ 36 ∷ 40 ∷ 44 ∷ 46 ∷ 47 ∷ [])
    ∷ (0 ∷ 8 ∷ 24 ∷ 40 ∷ 56 ∷ 72 ∷ 88 ∷ 104 ∷ 112 ∷ 114 ∷ [])
    ∷ (0 ∷ 1 ∷ [])
    ∷ (0 ∷ [])
    ∷ (0 ∷ 8 ∷ 24 ∷ 40 ∷ 56 ∷ 72 ∷ 88 ∷ 104 ∷ 120 ∷ 136 ∷ 152 ∷ 168 ∷ 176 ∷ 184 ∷ 192 ∷ 196
    ∷ 197 ∷ [])
    ∷ (0 ∷ 8 ∷ 24 ∷ 40 ∷ 48 ∷ [])
    ∷ (0 ∷ 16 ∷ 20 ∷ 21 ∷ [])
    ∷ (0 ∷ 8 ∷ 10 ∷ 11 ∷ [])
    ∷ (0 ∷ 8 ∷ 16 ∷ 24 ∷ 32 ∷ 33 ∷ 34 ∷ [])
    ∷ (0 ∷ 8 ∷ 24 ∷ [])
    ∷ (0 ∷ 40 ∷ 80 ∷ 88 ∷ 120 ∷ 121 ∷ [])
    ∷ []

-- Past a struct's last field it is the struct's size.
abbrev pub offset_of_field : ℕ → ℕ → ℕ
offset_of_field index field =
    unwrap_or (slice_get (unwrap_or (slice_get field_offsets index) []) field)
    (size_of_struct index)
