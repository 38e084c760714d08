-- The events of a direction, given all its bytes, up to its fault.
use Rattle.std.specs.Prelude.{
  ◌≡◌,
  ℕ,
  Bool,
  true,
  false,
  Option,
  Some,
  None,
  IsSome,
  option_map,
  Result,
  Ok,
  Err,
  List,
  [],
  ◌∷◌,
  ◌++◌,
}
use Rattle.layouts.specs.Bytes.{Bytes}
use Rattle.tls_stream.specs.Item.{Event, Failed, Item}
use Rattle.tls_stream.specs.Stream as stream
use Rattle.tls_stream.specs.declared.event_reader.EventReader.{EventReader}
use Rattle.tls_stream.specs.declared.stream.Stream.{Stream}
use Rattle.tls_stream.specs.declared.fault.Fault.{Fault}

-- The default limit for a message's body, in bytes.
abbrev pub default_limit : ℕ
default_limit = 131072

-- Nothing was read.
abbrev pub silent : ℕ → EventReader
silent limit = record { stream = stream.silent limit; fault = None }

abbrev pub switched_to_tls13 : EventReader → EventReader
switched_to_tls13 d = record d { stream = stream.switched_to_tls13 d.stream }

-- A fault replaces all other events.
abbrev pub ended_or : Option Fault → List Event → List Event
ended_or (Some f) es = Failed f ∷ []
ended_or None es = es

-- The events of a direction that weren't taken yet.
abbrev pub events : EventReader → List Event
events d = ended_or d.fault (stream.events d.stream)

-- After a fault no bytes are stored.
abbrev pub with_more : Option Fault → Stream → Bytes → Stream
with_more (Some f) d s = d
with_more None d s = stream.fed d s

-- More bytes of its stream.
abbrev pub fed : EventReader → Bytes → EventReader
fed d s = record d { stream = with_more d.fault d.stream s }

-- Several pieces of its stream, in order.
abbrev pub fed_all : EventReader → List Bytes → EventReader
fed_all d [] = d
fed_all d (p ∷ ps) = fed_all (fed d p) ps

-- The content of its unread records, with more bytes.
abbrev pub items_with : EventReader → Bytes → List Item
items_with d s = stream.unread_items (stream.standing d.stream) (d.stream.held.unread ++ s)

-- After a fault there is no next event.
abbrev pub none_behind : Option Fault → Option (Event × Stream) → Option (Event × EventReader)
none_behind (Some f) a = None
none_behind None a = option_map (λ x. (x.0, record { stream = x.1; fault = None })) a

-- The next event, and the direction after it.
abbrev pub first : EventReader → Option (Event × EventReader)
first d = none_behind d.fault (stream.first d.stream)

-- These are the events, whatever follows.
abbrev pub ReadsOnly : EventReader → List Event → Type 0
ReadsOnly d es = (s : Bytes) → events (fed d s) ≡ es

-- Both have the same events, whatever follows.
abbrev pub ReadsTheSame : EventReader → EventReader → Type 0
ReadsTheSame d e = (s : Bytes) → events (fed d s) ≡ events (fed e s)

-- What the answer of Direction::ready means.
abbrev pub IsReady : EventReader → Result Bool Fault → Type 0
IsReady d (Ok true) = IsSome (first d)
IsReady d (Ok false) = events d ≡ []
IsReady d (Err f) = ReadsOnly d (Failed f ∷ [])

abbrev pub fault_in : Result Bool Fault → Option Fault
fault_in (Ok b) = None
fault_in (Err f) = Some f
