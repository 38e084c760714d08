-- The events of a conversation and its flow, given the pieces of both sides in order of arrival.
use Rattle.std.specs.Prelude.{◌≡◌, ℕ, Bool, true, false, Option, Some, None, List, [], ◌∷◌, ◌++◌, map}
use Rattle.std.specs.Borrow.{Bor}
use Rattle.layouts.specs.Bytes.{Bytes}
use Rattle.tls_stream.specs.Item.{Event as StreamEvent}
use Rattle.tls_flow.specs.Symbols.{symbols_of}
use Rattle.tls_flow.specs.Conversations.{IsOutcome}
use Rattle.tls_flow.specs.Steps.{follow, silence}
use Rattle.tls_flow.specs.declared.event.FlowEvent.{FlowEvent}
use Rattle.tls_flow.specs.declared.symbol.Direction.{Direction as Side}
use Rattle.tls_flow.specs.declared.state.Outcome.{Outcome}
use Rattle.tls_stream.specs.FlowEvents.{event_of}
use Rattle.tls_stream.specs.SideReaders.{further_events}
use Rattle.tls_stream.specs.Readers as readers
use Rattle.tls_stream.specs.declared.conversation.Conversation.{Conversation}
use Rattle.tls_stream.specs.declared.side_reader.SideReader.{SideReader}

abbrev pub reader_of : Conversation → Side → SideReader
reader_of c s = readers.reader_of c.reader s

-- A new conversation: both sides are empty, and no event was followed.
pub record IsBegun (limit : ℕ) (c : Conversation) : Type 0 where
  pub reader : readers.IsBegun limit c.reader
  pub flow : c.flow ≡ silence

-- v is the next event of side s, and d is the conversation after it: v was followed, and if it is
-- the first event that chooses TLS 1.3, both sides were switched.
pub record IsBehind (c : Conversation) (s : Side) (v : StreamEvent)
    (d : Conversation) : Type 0 where
  pub reader : readers.IsBehind c.reader s v d.reader
  pub flow : d.flow ≡ follow c.flow (event_of s v)

-- A side got another piece.
pub record IsFedBy (c : Conversation) (s : Side) (p : Bytes) (d : Conversation) : Type 0 where
  pub reader : readers.IsFedBy c.reader s p d.reader
  pub flow : d.flow ≡ c.flow

-- vs are all events that the side has now, in order, and d is the conversation after them.
abbrev pub Drains : Conversation → Side → List StreamEvent → Conversation → Type 0
Drains c s [] d = (further_events (reader_of c s) [] ≡ []) × (d ≡ c)
Drains c s (v ∷ vs) d = (m : Conversation) × IsBehind c s v m × Drains m s vs d

-- A side got another piece, and all its events were taken.
abbrev pub IsPieceFollowed : Conversation → Side → Bytes → Conversation → Type 0
IsPieceFollowed c s p d =
    (m : Conversation) × (vs : List StreamEvent) × IsFedBy c s p m × Drains m s vs d

-- The pieces arrive in order, and es are the events of both sides.
abbrev pub FollowsPieces : Conversation → List (Side × Bytes) → List FlowEvent → Conversation
    → Type 0
FollowsPieces c [] es d = (es ≡ []) × (d ≡ c)
FollowsPieces c (p ∷ ps) es d =
    (m n : Conversation) × (vs : List StreamEvent) × (fs : List FlowEvent)
    × (es ≡ map (event_of p.0) vs ++ fs)
    × IsFedBy c p.0 p.1 m × Drains m p.0 vs n × FollowsPieces n ps fs d

-- The events of a conversation whose pieces arrive in this order.
abbrev pub AreEvents : ℕ → List (Side × Bytes) → List FlowEvent → Type 0
AreEvents limit ps es = (c d : Conversation) × IsBegun limit c × FollowsPieces c ps es d

abbrev pub views : List (Side × Bor (List ℕ)) → List (Side × Bytes)
views ps = map (λ p. (p.0, p.1.now)) ps

-- The outcome of such a conversation.
abbrev pub IsOutcomeOf : Outcome → ℕ → List (Side × Bytes) → Type 0
IsOutcomeOf o limit ps = (es : List FlowEvent) × AreEvents limit ps es × IsOutcome o (symbols_of es)

-- A side's next event was taken.
abbrev pub IsTakenBy : Option StreamEvent → Conversation → Side → Bool → Conversation → Type 0
IsTakenBy (Some v) c s taken d = (taken ≡ true) × IsBehind c s v d
IsTakenBy None c s taken d = (taken ≡ false) × (d ≡ c)
