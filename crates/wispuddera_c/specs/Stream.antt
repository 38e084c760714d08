-- A stream that arrives in pieces, with its unread bytes in a buffer of the caller's.
use Rattle.std.specs.Prelude.{◌≡◌, ℕ, ◌<◌, ◌+◌, ◌-◌, ◌++◌, length, take, min}
use Rattle.layouts.specs.Bytes.{Bytes}
use Rattle.layouts.specs.Framed.{Framed}
use Rattle.layouts.specs.Layout.{Layout}
use Rattle.layouts.specs.Place.{bytes_at}
use Rattle.layouts.specs.Reading.{reading}
use Rattle.tls_records.specs.Record.{RawRecord}
use Rattle.wispuddera_c.specs.declared.place.Place.{Place}
use Rattle.wispuddera_c.specs.declared.record.Record.{Record}
use Rattle.wispuddera_c.specs.declared.part.Part.{Part}
use Rattle.tls_places.specs.Place.{Lies}
use Rattle.wispuddera_c.specs.Place.{StandsAt, place_of}
use Rattle.wispuddera_c.specs.Status.{IsAnswered}

-- The bytes in the buffer.
abbrev pub bytes_held : Bytes → Place → Bytes
bytes_held buffer held = bytes_at buffer (place_of held)

-- The place reaches past the end of the buffer.
abbrev pub LiesBehind : Bytes → Place → Type 0
LiesBehind buffer held = length buffer < held.offset + held.length

-- The answer at the front of the bytes in the buffer, if these lie within it.
abbrev pub IsTaken : {A : Type 0} → Layout A → (A → Bytes → Type 0) → Bytes → Place → ℕ → ℕ → Type 0
IsTaken l Takes buffer held status missing =
    Lies buffer (place_of held)
    → IsAnswered Takes (reading l (bytes_held buffer held)) status missing

-- The buffer has the bytes it had, and then as much of the piece as there is room for.
pub record IsFed (old new : Bytes) (was is : Place) (piece : Bytes) (taken : ℕ) : Type 0 where
  pub all_there_is_room_for : taken ≡ min (length piece) (length old - was.length)
  pub holds : StandsAt new is (bytes_held old was ++ take taken piece)

-- The struct shows the record v in the buffer b, which then has r left.
pub record TakesRecord (b : Bytes) (held : Place) (c : Record) (v : RawRecord)
    (r : Bytes) : Type 0 where
  pub content_type : c.content_type ≡ v.header.content_type
  pub version : c.version ≡ v.header.version
  pub length : c.length ≡ v.header.length
  pub fragment : StandsAt b c.fragment v.fragment
  pub next : c.next ≡ held.offset
  pub holds : StandsAt b held r

-- The struct shows the message v in the buffer b, which then has r left.
pub record TakesPart (b : Bytes) (held : Place) (c : Part) (v : Framed) (r : Bytes) : Type 0 where
  pub kind : c.kind ≡ v.kind
  pub content : StandsAt b c.content v.content
  pub next : c.next ≡ held.offset
  pub holds : StandsAt b held r
