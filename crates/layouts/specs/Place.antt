-- The bytes at a place.
use Rattle.std.specs.Prelude.{◌≡◌, take, drop}
use Rattle.layouts.specs.Bytes.{Bytes}
use Rattle.layouts.specs.declared.places.Place.{Place}

-- The bytes of b at the place p.
abbrev pub bytes_at : Bytes → Place → Bytes
bytes_at b p = take p.length (drop p.offset b)
