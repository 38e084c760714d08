-- The outcome of a conversation, defined by the grammar.
use Rattle.std.specs.Prelude.{◌≡◌, ℕ, List, ◌∷◌, ◌++◌, Option, None, Some, Bool, false, length, min, [], ◌⊎◌, ◌-◌, ◌^◌}
use Rattle.tls_flow.specs.Symbols.{symbol, Word, symbols_of}
use Rattle.tls_words.specs.Words.{HasFront, MayBecome, without}
use Rattle.tls_flow.specs.Grammar.{full, resumed, tls13, handshake, is_noise}
use Rattle.tls_flow.specs.declared.symbol.Kind.TheVariants.{Fatal, Unknown}
use Rattle.tls_flow.specs.declared.symbol.Kind.{Kind}
use Rattle.tls_flow.specs.declared.symbol.Direction.{Direction}
use Rattle.tls_flow.specs.declared.symbol.Symbol.{Symbol}
use Rattle.tls_flow.specs.declared.event.FlowEvent.{FlowEvent}
use Rattle.tls_flow.specs.declared.flow.Stop.{Stop}
use Rattle.tls_flow.specs.declared.state.Outcome.{Outcome}
use Rattle.tls_flow.specs.declared.state.Outcome.TheVariants as outcome

-- Some prefix of w, without its noise, is a full handshake; likewise below for the other forms.
abbrev pub IsFull : Word → Type 0
IsFull w = HasFront (without is_noise) full w

abbrev pub IsResumed : Word → Type 0
IsResumed w = HasFront (without is_noise) resumed w

abbrev pub IsTls13 : Bool → Bool → Word → Type 0
IsTls13 retried early w = HasFront (without is_noise) (tls13 retried early) w

-- Some prefix is a handshake of any form.
abbrev pub HasHandshake : Word → Type 0
HasHandshake w = HasFront (without is_noise) handshake w

-- w without its noise is a prefix of a handshake, perhaps the empty one.
abbrev pub MayBecomeHandshake : Word → Type 0
MayBecomeHandshake w = MayBecome (without is_noise) handshake w

-- No prefix is a handshake yet, and one can still come.
abbrev pub IsUnderWay : Word → Type 0
IsUnderWay w = ¬ HasHandshake w × MayBecomeHandshake w

-- w has a symbol of this kind, and a handshake was under way before it.
abbrev pub IsStoppedBy : Kind → Word → Type 0
IsStoppedBy k w = (u v : Word) × (d : Direction) × (w ≡ u ++ symbol k d ∷ v) × IsUnderWay u

-- A fatal alert stopped it.
abbrev pub IsBrokenOff : Word → Type 0
IsBrokenOff w = IsStoppedBy Fatal w

-- An unknown message stopped it.
abbrev pub IsUnknown : Word → Type 0
IsUnknown w = IsStoppedBy Unknown w

-- The word has none of the other outcomes.
abbrev pub IsNoHandshake : Word → Type 0
IsNoHandshake w = ¬ HasHandshake w × ¬ MayBecomeHandshake w × ¬ IsBrokenOff w × ¬ IsUnknown w

-- When a conversation has an outcome.
abbrev pub IsOutcome : Outcome → Word → Type 0
IsOutcome outcome.Full w = IsFull w
IsOutcome outcome.Resumed w = IsResumed w
IsOutcome (outcome.Tls13 retried early) w = IsTls13 retried early w
IsOutcome outcome.Waiting w = IsUnderWay w
IsOutcome outcome.BrokenOff w = IsBrokenOff w
IsOutcome outcome.Unknown w = IsUnknown w
IsOutcome outcome.NoHandshake w = IsNoHandshake w

-- w is under way, l is no noise, and with l a handshake is complete or can still come.
abbrev pub IsAwaited : Symbol → Word → Type 0
IsAwaited l w = IsUnderWay w × (is_noise l ≡ false)
    × (HasHandshake (w ++ l ∷ []) ⊎ MayBecomeHandshake (w ++ l ∷ []))

-- The event that stopped a conversation, and the count of events before it: a handshake was under
-- way up to it, and is neither under way nor complete after it.
abbrev pub StopsAt : Stop → List FlowEvent → Type 0
StopsAt s events =
    (u v : List FlowEvent) × (events ≡ u ++ s.event ∷ v) × (s.place ≡ min (length u) (2 ^ 64 - 1))
    × IsUnderWay (symbols_of u) × ¬ IsUnderWay (symbols_of (u ++ s.event ∷ []))
    × ¬ HasHandshake (symbols_of events)

-- When the answer of Flow::stop is right.
abbrev pub IsStop : Option Stop → List FlowEvent → Type 0
IsStop (Some s) events = StopsAt s events
IsStop None events = HasHandshake (symbols_of events) ⊎ IsUnderWay (symbols_of events)
