-- Places as C structs.
use Rattle.std.specs.Prelude.{◌≡◌, ℕ, List, ◌≤◌, length, drop}
use Rattle.layouts.specs.Bytes.{Bytes}
use Rattle.layouts.specs.Items.{items_in}
use Rattle.layouts.specs.Layout.{Layout}
use Rattle.layouts.specs.Place.{bytes_at}
use Rattle.layouts.specs.declared.places.Place.{Place}
use Rattle.tls_places.specs.Place.{Stands, Lies}
use Rattle.wispuddera_c.specs.declared.place.Place.{Place as CPlace}

-- The place of the struct.
abbrev pub place_of : CPlace → Place
place_of p = record { offset = p.offset; length = p.length }

-- x is at the place, which lies within b.
abbrev pub StandsAt : Bytes → CPlace → Bytes → Type 0
StandsAt b p x = Stands b (place_of p) x

-- The place lies within b, and these are the items of its bytes.
pub record ItemsStandAt {A : Type 0} (l : Layout A) (b : Bytes) (p : CPlace)
    (xs : List A) : Type 0 where
  pub are : items_in l (bytes_at b (place_of p)) ≡ xs
  pub within : Lies b (place_of p)

-- r is what follows in b from this offset on, which lies within b.
pub record Follows (b : Bytes) (offset : ℕ) (r : Bytes) : Type 0 where
  pub is : drop offset b ≡ r
  pub within : offset ≤ length b
