-- Object identifiers that have names.
use Rattle.std.specs.Prelude.{ℕ, ◌+◌, ◌*◌, ◌/◌, ◌%◌, nat_lt, List, [], ◌∷◌, ◌++◌, flat_map, if◌then◌else◌}
use Rattle.layouts.specs.Bytes.{Bytes}
use Rattle.x509_text.specs.declared.tables.Object.{Object}
use Rattle.x509_text.specs.declared.tables.CurveSize.{CurveSize}

-- The content of its element, and OpenSSL's names for it.
pub record NamedObject : Type 0 where
  pub content : Bytes
  pub short_name : Bytes
  pub long_name : Bytes

abbrev pub view_object : Object → NamedObject
view_object o =
    record { content = o.content.now; short_name = o.short_name.now; long_name = o.long_name.now }

-- A number below 2^28 in base 128: the highest bit of each byte but the last is set (X.690, section
-- 8.19.2).
abbrev pub base128 : ℕ → Bytes
base128 n =
    if nat_lt n 0x80 then n ∷ [] else
    if nat_lt n 0x4000 then (0x80 + n / 0x80) ∷ (n % 0x80) ∷ [] else
    if nat_lt n 0x200000 then (0x80 + n / 0x4000) ∷ (0x80 + n / 0x80 % 0x80) ∷ (n % 0x80) ∷ [] else
    (0x80 + n / 0x200000) ∷ (0x80 + n / 0x4000 % 0x80) ∷ (0x80 + n / 0x80 % 0x80) ∷ (n % 0x80) ∷ []

-- The content from its numbers; the first two share a subidentifier (X.690, section 8.19.4).
abbrev pub content_by : List ℕ → Bytes
content_by (a ∷ b ∷ arcs) = base128 (40 * a + b) ++ flat_map base128 arcs
content_by _ = []

abbrev pub named : List ℕ → Bytes → Bytes → NamedObject
named arcs short_name long_name =
    record { content = content_by arcs; short_name = short_name; long_name = long_name }

-- The content of a curve's object identifier, and the bit length of the order of its base point.
pub record SizedCurve : Type 0 where
  pub content : Bytes
  pub bits : ℕ

abbrev pub view_size : CurveSize → SizedCurve
view_size c = record { content = c.content.now; bits = c.bits }

abbrev pub sized : List ℕ → ℕ → SizedCurve
sized arcs bits = record { content = content_by arcs; bits = bits }
