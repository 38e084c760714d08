-- Both sides of a conversation, joined, from the struct and both sides' buffers.
use Rattle.std.specs.Prelude.{
  ◌≡◌,
  ◌≢◌,
  ℕ,
  Option,
  Some,
  None,
  Bool,
  true,
  false,
  not,
  if◌then◌else◌,
  List,
  [],
  ◌∷◌,
  ◌++◌,
  length,
}
use Rattle.tls_stream.specs.Conversations.{IsBehind, IsFedBy, reader_of}
use Rattle.tls_stream.specs.Readers.{other}
use Rattle.tls_stream.specs.SideReaders.{ReadsAs, further_events}
use Rattle.tls_stream.specs.FlowEvents.{event_of}
use Rattle.tls_stream.specs.declared.conversation.Conversation.{Conversation as Followed}
use Rattle.tls_stream.specs.Item.{Event as StreamEvent}
use Rattle.layouts.specs.Bytes.{Bytes}
use Rattle.tls_flow.specs.Conversations.{IsStop}
use Rattle.tls_flow.specs.Messages.{direction}
use Rattle.tls_flow.specs.Steps.{follow, silence}
use Rattle.tls_flow.specs.Table.{is_waiting, outcome_at}
use Rattle.tls_flow.specs.declared.event.FlowEvent.{FlowEvent}
use Rattle.tls_flow.specs.declared.symbol.Direction.{Direction}
use Rattle.tls_flow.specs.declared.state.Outcome.{Outcome}
use Rattle.tls_flow.specs.declared.state.Outcome.TheVariants as outcome
use Rattle.tls_words.specs.Words.{run}
use Rattle.wispuddera_c.specs.Course.{flow_of, state_in, stop_of}
use Rattle.wispuddera_c.specs.EventContent.{ShowsEvent, takes_session}
use Rattle.wispuddera_c.specs.Side.{IsWithin, side_reader_of}
use Rattle.wispuddera_c.specs.Status.{none}
use Rattle.wispuddera_c.specs.declared.conversation.Conversation.{Conversation}
use Rattle.wispuddera_c.specs.declared.course.Stop.{Stop}
use Rattle.wispuddera_c.specs.declared.content.EventContent.{EventContent}
use Rattle.wispuddera_c.specs.declared.side.ReadingState.{ReadingState}
use Rattle.wispuddera_c.specs.declared.side.Side.{Side}

abbrev pub side_at : Bool → Conversation → Side
side_at true c = c.client
side_at false c = c.server

abbrev pub with_side : Bool → Side → Conversation → Conversation
with_side true s c = record c { client = s }
with_side false s c = record c { server = s }

abbrev pub known_of : Conversation → ReadingState
known_of c = record { limit = c.limit; is_tls13 = c.is_tls13 }

-- The conversation of the struct and the buffers of client and server.
abbrev pub joined : Bytes → Bytes → Conversation → Followed
joined x y c = record {
  reader =
      record {
        client = side_reader_of (known_of c) x c.client;
        server = side_reader_of (known_of c) y c.server;
        is_tls13 = c.is_tls13;
      };
  flow = flow_of c.course;
}

-- The conversation where a side has the buffer b, and the other side has o.
abbrev pub read_in : Bool → Bytes → Bytes → Conversation → Followed
read_in true b o c = joined b o c
read_in false b o c = joined o b c

-- These were the events so far.
abbrev pub AreEvents : List FlowEvent → Conversation → Type 0
AreEvents events c = flow_of c.course ≡ run follow silence events

-- The side got another piece, which changed its buffer from b to b', for any buffer of the other
-- side.
pub record IsGiven (to_server : Bool) (b b' : Bytes) (c d : Conversation)
    (piece : Bytes) : Type 0 where
  pub fed : (o : Bytes)
      → IsFedBy (read_in to_server b o c) (direction to_server) piece (read_in to_server b' o d)
  pub within : IsWithin (length b') (side_at to_server d)
  pub other_side : side_at (not to_server) d ≡ side_at (not to_server) c
  pub session : d.has_session ≡ c.has_session

-- The handshake's last event decides whether a session is resumed.
abbrev pub session_behind : Conversation → StreamEvent → Bool
session_behind c v = if is_waiting (outcome_at (state_in c.course.flow)) then
    takes_session v else c.has_session

-- v is the side's first event, which is returned, and d is the conversation after it.
pub record IsBehindIt (to_server : Bool) (b b' : Bytes) (c d : Conversation) (out : EventContent)
    (v : StreamEvent) : Type 0 where
  pub shown_by : ShowsEvent (direction to_server) b' out v
  pub behind : (o : Bytes)
      → IsBehind (read_in to_server b o c) (direction to_server) v (read_in to_server b' o d)
  pub within : IsWithin (length b') (side_at to_server d)
  pub other_side : side_at (not to_server) d ≡ side_at (not to_server) c
  pub session : d.has_session ≡ session_behind c v
  pub events : (es : List FlowEvent) → AreEvents es c
      → AreEvents (es ++ event_of (direction to_server) v ∷ []) d

abbrev pub IsNext : Bool → Bytes → Bytes → Conversation → Conversation → EventContent → Type 0
IsNext to_server b b' c d out = (v : StreamEvent) × IsBehindIt to_server b b' c d out v

-- A side has no event for now. The later events of both sides, and the flow, stay the same.
pub record ReadsNoMore (c : Followed) (s : Direction) (d : Followed) : Type 0 where
  pub nothing : further_events (reader_of c s) [] ≡ []
  pub side : ReadsAs (reader_of c s) (reader_of d s)
  pub other : reader_of d (other s) ≡ reader_of c (other s)
  pub is_tls13 : d.reader.is_tls13 ≡ c.reader.is_tls13
  pub flow : d.flow ≡ c.flow

pub record IsWaiting (to_server : Bool) (b b' : Bytes) (c d : Conversation) : Type 0 where
  pub waits : (o : Bytes)
      → ReadsNoMore (read_in to_server b o c) (direction to_server) (read_in to_server b' o d)
  pub within : IsWithin (length b') (side_at to_server d)
  pub other_side : side_at (not to_server) d ≡ side_at (not to_server) c
  pub session : d.has_session ≡ c.has_session

-- The struct shows what ended a conversation of these events without success, or nothing did.
pub record IsStopShown (events : List FlowEvent) (status : ℕ) (c : Stop) : Type 0 where
  pub shown_by : status ≡ 0 → IsStop (Some (stop_of c)) events
  pub none : status ≢ 0 → (status ≡ none) × IsStop None events

-- The visible part of the handshake is complete.
abbrev pub is_established : Outcome → Bool
is_established outcome.Full = true
is_established outcome.Resumed = true
is_established (outcome.Tls13 retried early) = true
is_established _ = false

-- A session was resumed; in TLS 1.3, by the ServerHello's pre_shared_key.
abbrev pub is_resumed : Outcome → Bool → Bool
is_resumed outcome.Resumed has_session = true
is_resumed (outcome.Tls13 retried early) has_session = has_session
is_resumed _ has_session = false
