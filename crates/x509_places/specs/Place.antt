-- The places of a certificate's parts.
use Rattle.std.specs.Prelude.{◌≡◌, ℕ, ◌+◌, ◌-◌, ◌≤◌, length, take, [], List, Option, Some, None, Ok, ⊤}
use Rattle.layouts.specs.Bytes.{Bytes}
use Rattle.layouts.specs.Meaning.{Allows, EndsWith}
use Rattle.layouts.specs.Place.{bytes_at}
use Rattle.layouts.specs.declared.places.Place.{Place}
use Rattle.x509.specs.Name.{AttributeTypeAndValue, name}

-- x is at the place p, which lies within b.
pub record Stands (b : Bytes) (p : Place) (x : Bytes) : Type 0 where
  pub is : bytes_at b p ≡ x
  pub within : p.offset + p.length ≤ length b

-- An optional part is at its place, or both are missing.
abbrev pub MayStand : Bytes → Option Place → Option Bytes → Type 0
MayStand b (Some p) (Some x) = Stands b p x
MayStand b None None = ⊤
MayStand b p x = ⊥

-- The name is at the place, with its tag and its length: the bytes there encode it, without a rest.
pub record NameStands (b : Bytes) (p : Place) (n : List (List AttributeTypeAndValue)) : Type 0 where
  pub spelled : Allows name (bytes_at b p) (Ok (n, []))
  pub within : p.offset + p.length ≤ length b

-- i lies in b, and k bytes follow it.
abbrev pub IsBefore : Bytes → ℕ → Bytes → Type 0
IsBefore b k i = EndsWith (take (length b - k) b) i
