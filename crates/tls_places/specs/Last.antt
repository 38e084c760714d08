-- The last part of a structure: the content of an extension, the body of a message, the name after
-- its length.
use Rattle.std.specs.Prelude.{Option, Ok, ◌++◌}
use Rattle.layouts.specs.Bytes.{Bytes}
use Rattle.layouts.specs.Layout.{Layout}
use Rattle.layouts.specs.Meaning.{Spells, Allows, EndsWith}
use Rattle.tls_places.specs.Place.{EndsIn}

-- If b encodes v under the layout, the last part of v comes right before the rest.
abbrev pub LastStands : {A : Type 0} → Layout A → (A → Option Bytes) → Type 0
LastStands {A} l last = (b : Bytes) (v : A) (r d : Bytes) → Spells l b v r d → EndsIn b (last v) r

-- If v parses from b, x comes right before the rest.
abbrev pub StandsLast : {A : Type 0} → Layout A → A → Bytes → Type 0
StandsLast l v x = (b r : Bytes) → Allows l b (Ok (v, r)) → EndsWith b (x ++ r)
