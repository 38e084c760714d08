-- The further events of one side of a conversation.
use Rattle.std.specs.Prelude.{◌≡◌, Bool, true, false, Option, Some, None, option_map, ℕ, List, [], ◌∷◌, ◌++◌}
use Rattle.layouts.specs.Bytes.{Bytes}
use Rattle.tls_stream.specs.Item.{Event as StreamEvent, Failed}
use Rattle.tls_stream.specs.Events.{events, fed, first, silent, switched_to_tls13}
use Rattle.tls_stream.specs.declared.event_reader.EventReader.{EventReader}
use Rattle.tls_stream.specs.declared.side_reader.SideReader.{SideReader}
use Rattle.tls_stream.specs.declared.side_reader.Standing.{Standing}
use Rattle.tls_stream.specs.declared.side_reader.Standing.TheVariants.{Active, AtFault, Over}

-- All further events of a side, if these bytes follow.
abbrev pub further_events_by : Standing → EventReader → Bytes → List StreamEvent
further_events_by Active d t = events (fed d t)
further_events_by (AtFault f) d t = Failed f ∷ []
further_events_by Over d t = []

abbrev pub further_events : SideReader → Bytes → List StreamEvent
further_events e t = further_events_by e.standing e.direction t

-- Both sides have the same events, whatever follows.
abbrev pub ReadsAs : SideReader → SideReader → Type 0
ReadsAs e f = (t : Bytes) → further_events e t ≡ further_events f t

-- The events of e are v and then those of f, whatever follows.
abbrev pub IsFirst : SideReader → StreamEvent → SideReader → Type 0
IsFirst e v f = (t : Bytes) → further_events e t ≡ v ∷ further_events f t

-- f is e with another piece of its stream.
abbrev pub IsFed : SideReader → Bytes → SideReader → Type 0
IsFed e p f = (t : Bytes) → further_events e (p ++ t) ≡ further_events f t

-- A side that got no bytes.
abbrev pub IsSilent : ℕ → SideReader → Type 0
IsSilent limit e = (t : Bytes) → further_events e t ≡ events (fed (silent limit) t)

-- The side, switched to TLS 1.3.
abbrev pub switched : SideReader → SideReader
switched e = record e { direction = switched_to_tls13 e.direction }

abbrev pub front_by : Standing → EventReader → Option StreamEvent
front_by Active d = option_map (λ x. x.0) (first d)
front_by (AtFault f) d = Some (Failed f)
front_by Over d = None

-- The next event, once the side is ready.
abbrev pub front_of : SideReader → Option StreamEvent
front_of e = front_by e.standing e.direction

abbrev pub first_in : List StreamEvent → Option StreamEvent
first_in [] = None
first_in (v ∷ vs) = Some v

-- The side is ready: its next event is the first of its events.
abbrev pub IsReady : SideReader → Type 0
IsReady e = first_in (further_events e []) ≡ front_of e

-- The next event was taken.
abbrev pub IsTaken : Option StreamEvent → SideReader → Bool → SideReader → Type 0
IsTaken (Some v) e taken f = (taken ≡ true) × IsFirst e v f
IsTaken None e taken f = (taken ≡ false) × (f ≡ e)
