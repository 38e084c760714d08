-- A conversation's state follows from the one before its last event, and from that event.
use Rattle.std.proofs.Common.{◌≡◌, ◌∷◌, [], ◌++◌, List, map, Bool, true, false, Some, None, refl, sym, subst, ◌∙◌, ap}
use Rattle.std.proofs.lemmas.List.{map-append}
use Rattle.tls_flow.specs.Conversations.{IsOutcome}
use Rattle.tls_flow.specs.Steps.{follow, follow_by, silence}
use Rattle.tls_flow.specs.Table.{step, outcome_at, is_waiting}
use Rattle.tls_flow.specs.declared.event.FlowEvent.{FlowEvent}
use Rattle.tls_flow.specs.declared.flow.Flow.{Flow as Followed}
use Rattle.tls_flow.specs.declared.state.Outcome.{Outcome}
use Rattle.tls_flow.specs.declared.state.State.{State}
use Rattle.tls_words.specs.Words.{run}
use Rattle.tls_words.proofs.MachineLemmas.{run_on}
use Rattle.wispuddera_c.specs.declared.flow.Flow.{Flow}
use Rattle.wispuddera_c.specs.declared.outcome.Event.{Event}
use Rattle.wispuddera_c.specs.Flow.{state_at, followed, IsBehind}
use Rattle.wispuddera_c.specs.Outcome.{symbol_of, event_of, word_of}
use Rattle.wispuddera_c.proofs.OutcomeLemmas.{event_is, outcome_holds}

same_held : {A : Type 0} (x y : A) → Some x ≡ Some y → x ≡ y
same_held x y e = cc

same_by : (t : Bool) (f g : Followed) (e : FlowEvent) → f.state ≡ g.state
    → (follow_by t f e).state ≡ (follow_by t g e).state
same_by true f g e same = ap (λ q. step q e.symbol) same
same_by false f g e same = same

same_state : (f g : Followed) (e : FlowEvent) → f.state ≡ g.state
    → (follow f e).state ≡ (follow g e).state
same_state f g e same =
    subst (λ t. (follow f e).state ≡ (follow_by t g e).state)
    (ap (λ q. is_waiting (outcome_at q)) same)
    (same_by (is_waiting (outcome_at f.state)) f g e same)

-- the events after one more
one_more : (es : List Event) (d : Event)
    → followed (es ++ d ∷ []) ≡ follow (followed es) (event_of d)
one_more es d = ap (run follow silence) (map-append event_of es (d ∷ []))
    ∙ run_on follow silence (map event_of es) (event_of d ∷ [])

pub steps : (es : List Event) (d : Event) (e : FlowEvent) (q : State) (c n : Flow) (f g : Followed)
    → state_at c.state ≡ Some q → f.state ≡ q → g ≡ follow f e → e.symbol ≡ symbol_of d
    → e.alert ≡ None
    → state_at n.state ≡ Some g.state → IsBehind es c → IsBehind (es ++ d ∷ []) n
steps es d e q c n f g known at moved symbols alerts shown_by behind =
    let here : f.state ≡ (followed es).state =
    at ∙ same_held q (followed es).state (sym known ∙ behind) in
    let same : e ≡ event_of d = event_is e (symbol_of d) symbols alerts in
    shown_by ∙ ap Some (ap (λ h. h.state) moved ∙ same_state f (followed es) e here
    ∙ ap (λ x. (follow (followed es) x).state) same ∙ sym (ap (λ h. h.state) (one_more es d)))

pub outcome_there : (es : List Event) (c : Flow) (q : State) (o : Outcome)
    → state_at c.state ≡ Some q
    → o ≡ outcome_at q → IsBehind es c → IsOutcome o (word_of es)
outcome_there es c q o known is behind =
    outcome_holds es (followed es) o refl
    (is ∙ ap outcome_at (same_held q (followed es).state (sym known ∙ behind)))
