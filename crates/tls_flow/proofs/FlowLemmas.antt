-- The state of a flow is the run of its events' symbols; what stopped it is one of the events.
use Rattle.std.proofs.Common.{
  ◌≡◌,
  ◌↔◌,
  ◌⊎◌,
  inl,
  inr,
  ℕ,
  suc,
  ◌+◌,
  ◌-◌,
  ◌^◌,
  ◌≤◌,
  lit≤,
  zero-add,
  min,
  length,
  List,
  [],
  ◌∷◌,
  ◌++◌,
  None,
  Some,
  Bool,
  true,
  false,
  arith,
  refl,
  sym,
  ◌∙◌,
  ap,
  subst,
}
use Rattle.tls_words.specs.Words.{run}
use Rattle.tls_words.proofs.MachineLemmas.{run_on}
use Rattle.tls_flow.specs.Symbols.{symbols_of}
use Rattle.tls_flow.specs.Table.{step, outcome_at, is_failed, is_waiting}
use Rattle.tls_flow.specs.Steps.{silence, follow, follow_by, stop_at, counted, moved}
use Rattle.tls_flow.specs.Conversations.{IsUnderWay, HasHandshake, IsOutcome, IsStop}
use Rattle.tls_flow.specs.declared.event.FlowEvent.{FlowEvent}
use Rattle.tls_flow.specs.declared.flow.Flow.{Flow}
use Rattle.tls_flow.specs.declared.state.State.TheVariants as state
use Rattle.tls_flow.specs.declared.state.Outcome.{Outcome}
use Rattle.tls_flow.specs.declared.state.Outcome.TheVariants as outcome
use Rattle.tls_flow.proofs.StepLemmas.{true_or_false, is_done, waiting_is, end_stays, run_stays}
use Rattle.tls_flow.proofs.ConversationLemmas.{end_of, done_from, done_to, waiting_where, outcome_of_whole}

-- One event, by whether the flow waits.
followed : (t : Bool) (f : Flow) (e : FlowEvent) → is_waiting (outcome_at f.state) ≡ t
    → (follow_by t f e).state ≡ step f.state e.symbol
followed true f e h = refl
followed false f e h = sym (end_stays f.state e.symbol h)

-- The state depends on the symbols alone.
pub state_of : (f : Flow) (es : List FlowEvent)
    → (run follow f es).state ≡ run step f.state (symbols_of es)
state_of f [] = refl
state_of f (e ∷ es) = state_of (follow f e) es
    ∙ ap (λ q. run step q (symbols_of es)) (followed (is_waiting (outcome_at f.state)) f e refl)

pub flow_of_run : (es : List FlowEvent) (from end : Flow) → end ≡ run follow from es
    → from ≡ silence
    → (o : Outcome) → (outcome_at end.state ≡ o) ↔ IsOutcome o (symbols_of es)
flow_of_run es from end ends starts o =
    let at : end.state ≡ end_of (symbols_of es) =
    ap (λ f. f.state) (ends ∙ ap (λ f. run follow f es) starts) ∙ state_of silence es in
    subst (λ q. (outcome_at q ≡ o) ↔ IsOutcome o (symbols_of es)) (sym at)
    (outcome_of_whole (symbols_of es) o)

-- After the end the stop doesn't change.
kept_by : (t : Bool) (f : Flow) (e : FlowEvent) → t ≡ false → (follow_by t f e).stop ≡ f.stop
kept_by true f e h = cc
kept_by false f e h = refl

stop_stays : (f : Flow) (es : List FlowEvent) → is_waiting (outcome_at f.state) ≡ false
    → (run follow f es).stop ≡ f.stop
stop_stays f [] h = refl
stop_stays f (e ∷ es) h =
    let still : is_waiting (outcome_at (follow f e).state) ≡ false
    = ap (λ q. is_waiting (outcome_at q)) (followed (is_waiting (outcome_at f.state)) f e refl
    ∙ end_stays f.state e.symbol h) ∙ h in
    stop_stays (follow f e) es still ∙ kept_by (is_waiting (outcome_at f.state)) f e h

stop_is : (o : Outcome) (f : Flow) (e : FlowEvent) → is_failed o ≡ true
    → stop_at o f e ≡ Some (record { event = e; place = f.events })
stop_is o f e h = rw h refl

no_stop : (o : Outcome) (f : Flow) (e : FlowEvent) → is_failed o ≡ false → f.stop ≡ None
    → stop_at o f e ≡ None
no_stop o f e h n = rw h n

not_failed : (o : Outcome) → is_waiting o ≡ true → is_failed o ≡ false
not_failed = elim [ outcome.Waiting ↦ λ h. refl | _ ↦ λ h. cc ]

failed_not : (o : Outcome) → is_failed o ≡ true → (is_waiting o ≡ false) × (is_done o ≡ false)
failed_not = elim [
  | outcome.BrokenOff ↦ λ h. (refl, refl)
  | outcome.Unknown ↦ λ h. (refl, refl)
  | outcome.NoHandshake ↦ λ h. (refl, refl)
  | _ ↦ λ h. cc
]

-- A waiting flow after one event.
move_is : (f : Flow) (e : FlowEvent) → is_waiting (outcome_at f.state) ≡ true
    → follow f e ≡ moved (step f.state e.symbol) f e
move_is f e h = ap (λ t. follow_by t f e) h

-- What stopped a waiting flow: nothing, or an event up to which it still waited.
abbrev Stopped : Flow → List FlowEvent → Type 0
Stopped f es =
    (u v : List FlowEvent) × (e : FlowEvent) × (es ≡ u ++ e ∷ v)
    × ((run follow f es).stop ≡ Some (record { event = e; place = (run follow f u).events }))
    × (is_waiting (outcome_at (run follow f u).state) ≡ true)
    × (is_failed (outcome_at (step (run follow f u).state e.symbol)) ≡ true)
    × (is_failed (outcome_at (run follow f es).state) ≡ true)

abbrev NotStopped : Flow → List FlowEvent → Type 0
NotStopped f es =
    ((run follow f es).stop ≡ None) × (is_failed (outcome_at (run follow f es).state) ≡ false)

failed_at_once : (f : Flow) (e : FlowEvent) (es : List FlowEvent)
    → is_waiting (outcome_at f.state) ≡ true
    → is_failed (outcome_at (step f.state e.symbol)) ≡ true → Stopped f (e ∷ es)
failed_at_once f e es h t =
    let m : follow f e ≡ moved (step f.state e.symbol) f e = move_is f e h in
    let q : (follow f e).state ≡ step f.state e.symbol = ap (λ x. x.state) m in
    let s : (follow f e).stop ≡ Some (record { event = e; place = f.events }) =
    ap (λ x. x.stop) m ∙ stop_is (outcome_at (step f.state e.symbol)) f e t in
    let w : is_waiting (outcome_at (follow f e).state) ≡ false =
    ap (λ x. is_waiting (outcome_at x)) q
    ∙ (failed_not (outcome_at (step f.state e.symbol)) t).0 in (
      [],
      es,
      e,
      refl,
      stop_stays (follow f e) es w ∙ s,
      h,
      t,
      ap (λ x. is_failed (outcome_at x))
          (state_of (follow f e) es ∙ run_stays (follow f e).state (symbols_of es) w
          ∙ q) ∙ t,
    )

-- The flow goes on after an event that doesn't fail.
goes_on : (f : Flow) (e : FlowEvent) (es : List FlowEvent) → is_waiting (outcome_at f.state) ≡ true
    → f.stop ≡ None
    → is_failed (outcome_at (step f.state e.symbol)) ≡ false
    → (is_waiting (outcome_at (follow f e).state) ≡ true → (follow f e).stop ≡ None
    → NotStopped (follow f e) es ⊎ Stopped (follow f e) es)
    → NotStopped f (e ∷ es) ⊎ Stopped f (e ∷ es)
goes_on f e es h n t rest =
    let m : follow f e ≡ moved (step f.state e.symbol) f e = move_is f e h in
    let q : (follow f e).state ≡ step f.state e.symbol = ap (λ x. x.state) m in
    let none : (follow f e).stop ≡ None =
    ap (λ x. x.stop) m ∙ no_stop (outcome_at (step f.state e.symbol)) f e t n in
    elim (true_or_false (is_waiting (outcome_at (follow f e).state))) [
      | inl w ↦ elim (rest w none) [
        | inl k ↦ inl k
        | inr k ↦ inr (e ∷ k.0, k.1, k.2, ap (λ x. e ∷ x) k.3, k.4, k.5, k.6, k.7)
      ]
      | inr w ↦ inl (
        stop_stays (follow f e) es w ∙ none,
        ap (λ x. is_failed (outcome_at x))
            (state_of (follow f e) es ∙ run_stays (follow f e).state (symbols_of es) w
            ∙ q) ∙ t,
      )
    ]

stop_among : (f : Flow) (es : List FlowEvent) → is_waiting (outcome_at f.state) ≡ true
    → f.stop ≡ None
    → NotStopped f es ⊎ Stopped f es
stop_among f [] h n = inl (n, not_failed (outcome_at f.state) h)
stop_among f (e ∷ es) h n = elim (true_or_false (is_failed (outcome_at (step f.state e.symbol)))) [
  | inl t ↦ inr (failed_at_once f e es h t)
  | inr t ↦ goes_on f e es h n t (stop_among (follow f e) es)
]

-- The count of events.
count_more : (n k m : ℕ) → min (min (n + 1) m + k) m ≡ min (n + suc k) m
count_more n k m = omega arith

count_none : (n m : ℕ) → n ≤ m → n ≡ min (n + 0) m
count_none n m h = omega arith

counted_within : (n m : ℕ) → min (n + 1) m ≤ m
counted_within n m = omega arith

counted_by : (t : Bool) (f : Flow) (e : FlowEvent) → (follow_by t f e).events ≡ counted f.events
counted_by true f e = refl
counted_by false f e = refl

events_of : (f : Flow) (es : List FlowEvent) → f.events ≤ 2 ^ 64 - 1
    → (run follow f es).events ≡ min (f.events + length es) (2 ^ 64 - 1)
events_of f [] h = count_none f.events (2 ^ 64 - 1) h
events_of f (e ∷ es) h =
    let c : (follow f e).events ≡ counted f.events =
    counted_by (is_waiting (outcome_at f.state)) f e in
    events_of (follow f e) es
    (subst (λ n. n ≤ 2 ^ 64 - 1) (sym c) (counted_within f.events (2 ^ 64 - 1)))
    ∙ ap (λ n. min (n + length es) (2 ^ 64 - 1)) c
    ∙ count_more f.events (length es) (2 ^ 64 - 1)

symbols_append : (u v : List FlowEvent) → symbols_of (u ++ v) ≡ symbols_of u ++ symbols_of v
symbols_append [] v = refl
symbols_append (e ∷ u) v = ap (λ w. e.symbol ∷ w) (symbols_append u v)

-- For a whole conversation.
module _ (es : List FlowEvent) where
  ends_at : (run follow silence es).state ≡ end_of (symbols_of es)
  ends_at = state_of silence es

  not_stopped : is_failed (outcome_at (end_of (symbols_of es))) ≡ false
      → HasHandshake (symbols_of es) ⊎ IsUnderWay (symbols_of es)
  not_stopped t = elim (true_or_false (is_done (outcome_at (end_of (symbols_of es))))) [
    | inl d ↦ inl (done_to (symbols_of es) d)
    | inr d ↦ inr
        ((waiting_where (symbols_of es)).0 (waits_if (outcome_at (end_of (symbols_of es))) t d))
  ]
    where
      waits_if : (o : Outcome) → is_failed o ≡ false → is_done o ≡ false → o ≡ outcome.Waiting
      waits_if = elim [
        | outcome.Waiting ↦ λ a b. refl
        | outcome.BrokenOff ↦ λ a b. cc
        | outcome.Unknown ↦ λ a b.
            cc
        | outcome.NoHandshake ↦ λ a b. cc
        | _ ↦ λ a b. cc
      ]

  failed_under_way : (u : List FlowEvent) (e : FlowEvent)
      → is_failed (outcome_at (step (run follow silence u).state e.symbol)) ≡ true
      → ¬ IsUnderWay (symbols_of (u ++ e ∷ []))
  failed_under_way u e t h =
      let at : end_of (symbols_of (u ++ e ∷ [])) ≡ step (run follow silence u).state e.symbol
      = ap end_of (symbols_append u (e ∷ []))
      ∙ run_on step state.Start (symbols_of u) (e.symbol ∷ [])
      ∙ ap (λ q. step q e.symbol) (sym (state_of silence u)) in
      let waits : outcome_at (step (run follow silence u).state e.symbol) ≡ outcome.Waiting =
      ap outcome_at (sym at) ∙ (waiting_where (symbols_of (u ++ e ∷ []))).1 h in
      let k : is_failed outcome.Waiting ≡ true = subst (λ o. is_failed o ≡ true) waits t in
      cc

  failed_not_done : is_failed (outcome_at (run follow silence es).state) ≡ true
      → ¬ HasHandshake (symbols_of es)
  failed_not_done t h =
      let d : is_done (outcome_at (end_of (symbols_of es))) ≡ true = done_from (symbols_of es) h in
      let n : is_done (outcome_at (end_of (symbols_of es))) ≡ false =
      (failed_not (outcome_at (end_of (symbols_of es)))
      (ap (λ q. is_failed (outcome_at q)) (sym ends_at) ∙ t)).1 in
      let k : true ≡ false = sym d ∙ n in
      cc

  stopped_whole : IsStop (run follow silence es).stop es
  stopped_whole = elim (stop_among silence es refl refl) [
    | inl k ↦ subst (λ s. IsStop s es) (sym k.0)
        (not_stopped (ap (λ q. is_failed (outcome_at q)) (sym ends_at) ∙ k.1))
    | inr k ↦ subst (λ s. IsStop s es) (sym k.4) (
      k.0,
      k.1,
      k.3,
      events_of silence k.0 (lit≤ tt) ∙ ap (λ n. min n (2 ^ 64 - 1)) (zero-add (length k.0)),
      (waiting_where (symbols_of k.0)).0 (ap outcome_at (sym (state_of silence k.0))
          ∙ waiting_is (outcome_at (run follow silence k.0).state) k.5),
      failed_under_way k.0 k.2 k.6,
      failed_not_done k.7,
    )
  ]

pub stopped_of_flow : (es : List FlowEvent) (from end : Flow) → end ≡ run follow from es
    → from ≡ silence
    → IsStop end.stop es
stopped_of_flow es from end ends starts =
    subst (λ f. IsStop f.stop es) (sym (ends ∙ ap (λ f. run follow f es) starts)) (stopped_whole es)
