-- The signs of the two directions.
use Rattle.std.specs.Prelude.{ℕ, ◌==◌, if◌then◌else◌, Option, Some, None}
use Rattle.tlsview.specs.declared.direction.LineDirection as rust
use Rattle.tlsview.specs.declared.direction.LineDirection.TheVariants.{ToServer, FromServer}

-- `>` and `<`
abbrev pub sign_of : rust.LineDirection → ℕ
sign_of ToServer = 62
sign_of FromServer = 60

-- the direction with this sign
abbrev pub direction_of : ℕ → Option rust.LineDirection
direction_of sign = if sign == 62 then Some ToServer else if sign == 60 then
    Some FromServer else None
