-- The handshake messages among events.
use Rattle.std.specs.Prelude.{◌≡◌, ℕ, Bool, true, false, Option, Some, None, List, [], ◌∷◌, ◌++◌, map}
use Rattle.std.specs.List.{flat_map}
use Rattle.layouts.specs.Bytes.{Bytes}
use Rattle.tls_stream.specs.Item.{Event, Handshake, Failed}
use Rattle.tls_stream.specs.Events.{ReadsOnly, events, fed}
use Rattle.tls_stream.specs.declared.event_reader.EventReader.{EventReader}
use Rattle.tls_stream.specs.declared.fault.Fault.{Fault}

-- The bytes of the event, if it is a handshake message.
abbrev pub message_in : Event → List Bytes
message_in (Handshake m) = m ∷ []
message_in e = []

abbrev pub handshakes : List Event → List Bytes
handshakes [] = []
handshakes (e ∷ es) = message_in e ++ handshakes es

-- The messages that were taken, and those still to come, whatever is fed.
abbrev pub with_those_of : List Bytes → EventReader → Bytes → List Bytes
with_those_of taken d s = taken ++ handshakes (events (fed d s))

-- The next event, if it is a handshake message.
abbrev pub handshake_in : Option Event → Option Bytes
handshake_in (Some (Handshake m)) = Some m
handshake_in e = None

-- The messages taken and those still to come are the same in all.
abbrev pub TakesSame : List Bytes → EventReader → List Bytes → EventReader → Type 0
TakesSame taken old taken' new = (s : Bytes)
    → with_those_of taken old s ≡ with_those_of taken' new s

-- No event is left: more bytes are needed, or the direction is at fault, whatever is fed.
abbrev pub IsOver : EventReader → Bool → Type 0
IsOver d true = (f : Fault) × ReadsOnly d (Failed f ∷ [])
IsOver d false = events d ≡ []

-- All available messages of a direction were taken; the Bool is whether it is at fault.
pub record AreTaken (taken : List Bytes) (old : EventReader) (taken' : List Bytes)
    (new : EventReader)
    (is_at_fault : Bool) : Type 0 where
  pub same : TakesSame taken old taken' new
  pub over : IsOver new is_at_fault
