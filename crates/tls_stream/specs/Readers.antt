-- The events of both sides of a conversation, given their pieces in order of arrival.
use Rattle.std.specs.Prelude.{◌≡◌, ℕ, Bool, true, false, not, ◌&&◌, ◌||◌, Option, Some, None, List, [], ◌∷◌}
use Rattle.layouts.specs.Bytes.{Bytes}
use Rattle.tls_stream.specs.Item.{Event as StreamEvent}
use Rattle.tls_flow.specs.declared.event.FlowEvent.{FlowEvent}
use Rattle.tls_flow.specs.declared.symbol.Direction.{Direction as Side}
use Rattle.tls_flow.specs.declared.symbol.Direction.TheVariants.{ToServer, FromServer}
use Rattle.tls_stream.specs.FlowEvents.{chooses_tls13, event_of}
use Rattle.tls_stream.specs.SideReaders.{IsFed, IsFirst, IsReady, IsSilent, ReadsAs, switched}
use Rattle.tls_stream.specs.declared.conversation_reader.ConversationReader.{ConversationReader}
use Rattle.tls_stream.specs.declared.side_reader.SideReader.{SideReader}

abbrev pub reader_of : ConversationReader → Side → SideReader
reader_of c ToServer = c.client
reader_of c FromServer = c.server

abbrev pub other : Side → Side
other ToServer = FromServer
other FromServer = ToServer

-- Both sides are empty.
pub record IsBegun (limit : ℕ) (c : ConversationReader) : Type 0 where
  pub client : IsSilent limit c.client
  pub server : IsSilent limit c.server
  pub is_tls13 : c.is_tls13 ≡ false

-- Whether the event switches both sides to TLS 1.3: it is the first that chooses it.
abbrev pub switches : ConversationReader → FlowEvent → Bool
switches c e = not c.is_tls13 && chooses_tls13 e.symbol.kind e.symbol.direction

abbrev pub IsSwitchedIf : Bool → SideReader → SideReader → Type 0
IsSwitchedIf true e f = ReadsAs (switched e) f
IsSwitchedIf false e f = ReadsAs e f

-- v is the next event of side s, and d is the reader after it: if it is the first event that
-- chooses TLS 1.3, both sides were switched.
pub record IsBehind (c : ConversationReader) (s : Side) (v : StreamEvent)
    (d : ConversationReader) : Type 0 where
  pub side : (e : SideReader) × IsFirst (reader_of c s) v e
      × IsSwitchedIf (switches c (event_of s v)) e (reader_of d s)
  pub other : IsSwitchedIf (switches c (event_of s v)) (reader_of c (other s))
      (reader_of d (other s))
  pub is_tls13 : d.is_tls13 ≡ (c.is_tls13 || switches c (event_of s v))

-- Both sides were switched if the event is the first that chooses TLS 1.3.
pub record IsSwitched (c : ConversationReader) (e : FlowEvent)
    (d : ConversationReader) : Type 0 where
  pub client : IsSwitchedIf (switches c e) c.client d.client
  pub server : IsSwitchedIf (switches c e) c.server d.server
  pub ready : (s : Side) → IsReady (reader_of c s) → IsReady (reader_of d s)
  pub is_tls13 : d.is_tls13 ≡ (c.is_tls13 || switches c e)

-- A side got another piece.
pub record IsFedBy (c : ConversationReader) (s : Side) (p : Bytes)
    (d : ConversationReader) : Type 0 where
  pub side : IsFed (reader_of c s) p (reader_of d s)
  pub other : reader_of d (other s) ≡ reader_of c (other s)
  pub is_tls13 : d.is_tls13 ≡ c.is_tls13

-- vs were the side's events, the latest first; d is the reader after them.
abbrev pub IsPast : ConversationReader → Side → List StreamEvent → ConversationReader → Type 0
IsPast c s [] d = d ≡ c
IsPast c s (v ∷ vs) d = (m : ConversationReader) × IsPast c s vs m × IsBehind m s v d

-- A side's next event was taken.
abbrev pub IsTakenBy : Option StreamEvent → ConversationReader → Side → Bool → ConversationReader
    → Type 0
IsTakenBy (Some v) c s taken d = (taken ≡ true) × IsBehind c s v d
IsTakenBy None c s taken d = (taken ≡ false) × (d ≡ c)

-- The event is that of the side's next, if there is one.
abbrev pub IsEventOf : FlowEvent → Side → Option StreamEvent → Type 0
IsEventOf e s (Some v) = e ≡ event_of s v
IsEventOf e s None = Unit
