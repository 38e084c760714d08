-- The flow after one more event.
use Rattle.std.proofs.Common.{
  ◌≡◌,
  ℕ,
  Bool,
  true,
  false,
  cond,
  Option,
  Some,
  None,
  refl,
  sym,
  subst,
  ◌∙◌,
  ap,
  ap₂,
}
use Rattle.std.specs.Option.{is_some}
use Rattle.tls_flow.specs.Steps.{counted, follow, follow_by, silence}
use Rattle.tls_flow.specs.Table.{is_failed, is_waiting, outcome_at, step}
use Rattle.tls_flow.specs.declared.event.FlowEvent.{FlowEvent}
use Rattle.tls_flow.specs.declared.flow.Flow.{Flow as Followed}
use Rattle.tls_flow.specs.declared.flow.Stop.{Stop as FlowStop}
use Rattle.tls_flow.specs.declared.state.Outcome.{Outcome}
use Rattle.tls_flow.specs.declared.state.Outcome.TheVariants as outcome
use Rattle.tls_flow.specs.declared.state.State.{State}

-- Its state decides whether it has a stop.
abbrev pub flow_at : State → ℕ → FlowStop → Followed
flow_at q n s = record {
  state = q;
  events = n;
  stop = cond (is_failed (outcome_at q)) (Some s) None;
}

not_failed : (o : Outcome) → is_waiting o ≡ true → is_failed o ≡ false
not_failed outcome.Waiting is = refl
not_failed outcome.Full is = absurd cc
not_failed outcome.Resumed is = absurd cc
not_failed outcome.BrokenOff is = absurd cc
not_failed outcome.Unknown is = absurd cc
not_failed outcome.NoHandshake is = absurd cc
not_failed (outcome.Tls13 a b) is = absurd cc

abbrev event_stop : FlowEvent → ℕ → FlowStop
event_stop e n = record { event = e; place = n }

-- By whether the event stops it.
stops : (failed stopped : Bool) (x a b : FlowStop) (z : Option FlowStop)
    → is_some (cond failed (Some x) None) ≡ stopped
    → z ≡ None → cond failed (Some (cond stopped a b)) None ≡ cond failed (Some a) z
stops true true x a b z is none = refl
stops true false x a b z is none = absurd cc
stops false stopped x a b z is none = sym none

-- A flow that goes on from a state alone has the same state, and stops exactly when the whole one
-- does.
module _ (q : State) (n : ℕ) (s : FlowStop) (e : FlowEvent) where
  abbrev from_state : Bool → Followed
  from_state t = follow_by t (record { state = q; events = 0; stop = None }) e

  abbrev from_flow : Bool → Followed
  from_flow t = follow_by t (flow_at q n s) e

  by_waiting : (t stopped : Bool) → is_waiting (outcome_at q) ≡ t
      → is_some (from_state t).stop ≡ stopped
      → flow_at (from_state t).state (counted n) (cond stopped (event_stop e n) s) ≡ from_flow t
  by_waiting true stopped under_way is =
      let next : State = step q e.symbol in
      ap (λ o. record { state = next; events = counted n; stop = o })
      (stops (is_failed (outcome_at next)) stopped (event_stop e 0) (event_stop e n) s
      (flow_at q n s).stop is
      (ap (λ t. cond t (Some s) None) (not_failed (outcome_at q) under_way)))
  by_waiting false stopped ended is =
      ap (λ b. flow_at q (counted n) (cond b (event_stop e n) s)) (sym is)

  pub followed_from : (g : Followed) (stopped : Bool) (s' : FlowStop) (q' : State)
      → g ≡ follow (record silence { state = q }) e → stopped ≡ is_some g.stop
      → s' ≡ cond stopped (event_stop e n) s → q' ≡ g.state
      → flow_at q' (counted n) s' ≡ follow (flow_at q n s) e
  followed_from g stopped s' q' is was stop_is state_is =
      let whole : Bool = is_waiting (outcome_at q) in
      ap₂ (λ p x. flow_at p (counted n) x) (state_is ∙ ap (λ (f : Followed). f.state) is) stop_is
      ∙ by_waiting whole stopped refl (sym (was ∙ ap (λ (f : Followed). is_some f.stop) is))
