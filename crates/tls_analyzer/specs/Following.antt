-- The state after a piece of one side's stream.
use Rattle.std.specs.Prelude.{◌≡◌, Bool, true, false, cond, Option, Some, None, List, [], ◌∷◌, ◌++◌}
use Rattle.layouts.specs.Bytes.{Bytes}
use Rattle.tls_stream.specs.Item.{Event as StreamEvent}
use Rattle.tls_flow.specs.declared.symbol.Direction.{Direction as Side}
use Rattle.tls_flow.specs.declared.symbol.Direction.TheVariants.{ToServer, FromServer}
use Rattle.tls_stream.specs.Readers.{IsBehind, IsFedBy}
use Rattle.tls_summary.specs.HandshakeSummary.{asked_in_ssl2, view_summary}
use Rattle.tls_flow.specs.Events.{plain}
use Rattle.tls_flow.specs.declared.symbol.Kind.TheVariants as kind
use Rattle.ssl2_hello.specs.ClientHello as ssl2
use Rattle.std.specs.Str.{byte}
use Rattle.tls_observer.specs.History.{history, letter_of, with_letter}
use Rattle.tls_observer.specs.Noting.{Known, followed, is_sealed, longest_after, noted, stepped}
use Rattle.tls_analyzer.specs.declared.conversation_state.ConversationState.{ConversationState}

abbrev pub known_of : ConversationState → Known
known_of h =
    record { flow = h.flow; handshake = view_summary h.handshake; longest = h.longest }

-- The side gets another piece, and nothing is recorded.
pub record IsFed (h : ConversationState) (s : Side) (p : Bytes)
    (i : ConversationState) : Type 0 where
  pub reader : IsFedBy h.reader s p i.reader
  pub flow : i.flow ≡ h.flow
  pub handshake : i.handshake ≡ h.handshake
  pub history : i.history ≡ h.history
  pub longest : i.longest ≡ h.longest

-- v is the side's next event, which is followed and recorded.
pub record IsNoted (h : ConversationState) (s : Side) (v : StreamEvent)
    (i : ConversationState) : Type 0 where
  pub behind : IsBehind h.reader s v i.reader
  pub flow : i.flow ≡ followed s h.flow (view_summary h.handshake) v
  pub handshake : view_summary i.handshake ≡ noted s (view_summary h.handshake) v
  pub history : i.history.items ≡ with_letter s h.history.items (letter_of v)
  pub longest : i.longest ≡ longest_after s v (view_summary h.handshake) h.longest

-- The side sends a ClientHello of SSL 2.0's form (RFC 5246, appendix E.2), which is followed and
-- recorded like any other.
pub record IsHelloNoted (h : ConversationState) (s : Side) (x : ssl2.ClientHello)
    (i : ConversationState) : Type 0 where
  pub reader : i.reader ≡ h.reader
  pub flow : i.flow ≡ stepped s h.flow (view_summary h.handshake) (plain kind.ClientHello s)
  pub handshake : view_summary i.handshake ≡ asked_in_ssl2 s x (view_summary h.handshake)
  pub history : i.history.items ≡ with_letter s h.history.items (Some (byte "c"))
  pub longest : i.longest ≡ h.longest

-- The side doesn't speak TLS, which is followed as a fault of it. Nothing is recorded.
abbrev pub with_fault : Side → ConversationState → ConversationState
with_fault s h =
    record h { flow = stepped s h.flow (view_summary h.handshake) (plain kind.Unknown s) }

-- The side's next event is removed, if there is one; the answer is whether it is encrypted.
abbrev pub IsNextTaken : Option StreamEvent → ConversationState → Side → Option Bool
    → ConversationState → Type 0
IsNextTaken (Some v) h s r i = (r ≡ Some (is_sealed v)) × IsNoted h s v i
IsNextTaken None h s r i = (r ≡ None) × (i ≡ h)

abbrev pub is_same : Side → Side → Bool
is_same ToServer ToServer = true
is_same FromServer FromServer = true
is_same _ _ = false

-- A piece before the turns joins the first turn if that is of the same side.
abbrev pub onto : Side × Bytes → List (Side × Bytes) → List (Side × Bytes)
onto p [] = p ∷ []
onto p (t ∷ ts) = cond (is_same p.0 t.0) ((p.0, p.1 ++ t.1) ∷ ts) (p ∷ t ∷ ts)

-- The pieces of each side up to the other side's next one, joined.
abbrev pub turns : List (Side × Bytes) → List (Side × Bytes)
turns [] = []
turns (p ∷ ps) = onto p (turns ps)
