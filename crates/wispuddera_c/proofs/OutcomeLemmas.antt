-- Events followed one by one.
use Rattle.std.proofs.Common.{
  ◌≡◌,
  ℕ,
  ◌+◌,
  ◌<◌,
  ◌∷◌,
  [],
  List,
  length,
  drop,
  map,
  None,
  refl,
  sym,
  subst,
  ◌∙◌,
  ap,
  ap₂,
}
use Rattle.std.proofs.Math.ListN.{get_or}
use Rattle.std.proofs.lemmas.List.{drop_more}
use Rattle.tls_flow.specs.Conversations.{IsOutcome}
use Rattle.tls_flow.specs.Symbols.{symbols_of}
use Rattle.tls_flow.specs.Steps.{follow, silence}
use Rattle.tls_flow.specs.Table.{outcome_at}
use Rattle.tls_flow.proofs.FlowLemmas.{flow_of_run}
use Rattle.tls_flow.specs.declared.state.Outcome.{Outcome}
use Rattle.tls_flow.specs.declared.event.FlowEvent.{FlowEvent}
use Rattle.tls_flow.specs.declared.flow.Flow.{Flow}
use Rattle.tls_flow.specs.declared.symbol.Symbol.{Symbol}
use Rattle.tls_words.specs.Words.{run}
use Rattle.wispuddera_c.specs.declared.outcome.Event.{Event}
use Rattle.wispuddera_c.specs.Outcome.{symbol_of, event_of, word_of}

pub event_is : (e : FlowEvent) (l : Symbol) → e.symbol ≡ l → e.alert ≡ None
    → e ≡ record { symbol = l; alert = None }
event_is e l symbols alerts = ap₂ (λ x y. record { symbol = x; alert = y }) symbols alerts

-- one more event
pub followed : (es : List Event) (i : ℕ) (d : Event) (start f g : Flow) (e : FlowEvent)
    → i < length es
    → e.symbol ≡ symbol_of (get_or es i d) → e.alert ≡ None → g ≡ follow f e
    → run follow f (map event_of (drop i es)) ≡ run follow start (map event_of es)
    → run follow g (map event_of (drop (i + 1) es)) ≡ run follow start (map event_of es)
followed es i d start f g e inside symbols alerts moved so_far =
    ap (λ h. run follow h (map event_of (drop (i + 1) es)))
    (moved ∙ ap (follow f) (event_is e (symbol_of (get_or es i d)) symbols alerts))
    ∙ sym (ap (λ xs. run follow f (map event_of xs)) (drop_more es i d inside)) ∙ so_far

-- the symbols of the events
symbols_are : (es : List Event) → symbols_of (map event_of es) ≡ word_of es
symbols_are [] = refl
symbols_are (e ∷ es) = ap (λ w. symbol_of e ∷ w) (symbols_are es)

-- the outcome at the end holds for the symbols
pub outcome_holds : (es : List Event) (f : Flow) (o : Outcome)
    → f ≡ run follow silence (map event_of es)
    → o ≡ outcome_at f.state → IsOutcome o (word_of es)
outcome_holds es f o ends is =
    subst (IsOutcome o) (symbols_are es)
    ((flow_of_run (map event_of es) silence f ends refl o).0 (sym is))
