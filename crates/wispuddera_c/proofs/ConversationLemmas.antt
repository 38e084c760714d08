-- Both sides of a conversation, joined.
use Rattle.std.proofs.Common.{
  ◌≡◌,
  ◌≢◌,
  ℕ,
  Bool,
  true,
  false,
  cond,
  not,
  ◌&&◌,
  ◌||◌,
  List,
  [],
  ◌∷◌,
  ◌++◌,
  length,
  Some,
  None,
  refl,
  sym,
  subst,
  ◌∙◌,
  ap,
  ap₂,
}
use Rattle.tls_stream.specs.Conversations.{IsBehind, IsFedBy}
use Rattle.tls_stream.specs.Readers.{IsSwitchedIf}
use Rattle.tls_stream.specs.SideReaders.{IsFed, IsFirst}
use Rattle.tls_stream.specs.FlowEvents.{chooses_tls13, event_of}
use Rattle.tls_stream.specs.Item.{Event as StreamEvent}
use Rattle.layouts.specs.Bytes.{Bytes}
use Rattle.tls_flow.specs.Conversations.{IsOutcome, IsStop}
use Rattle.tls_flow.specs.Symbols.{symbols_of}
use Rattle.tls_flow.specs.Messages.{direction}
use Rattle.tls_flow.specs.Steps.{follow, silence}
use Rattle.tls_flow.specs.Table.{is_failed, is_waiting, outcome_at}
use Rattle.tls_flow.specs.declared.event.FlowEvent.{FlowEvent}
use Rattle.tls_flow.specs.declared.symbol.Direction.{Direction}
use Rattle.tls_flow.specs.declared.state.Outcome.{Outcome}
use Rattle.tls_flow.proofs.FlowLemmas.{stopped_of_flow, flow_of_run}
use Rattle.tls_words.specs.Words.{run}
use Rattle.tls_words.proofs.MachineLemmas.{run_on}
use Rattle.wispuddera_c.specs.Conversation.{
  AreEvents,
  IsNext,
  ReadsNoMore,
  known_of,
  read_in,
  session_behind,
  side_at,
  with_side,
}
use Rattle.wispuddera_c.specs.Course.{flow_of, state_in, stop_of}
use Rattle.wispuddera_c.specs.EventContent.{takes_session}
use Rattle.wispuddera_c.specs.Side.{IsNextEvent, IsWithin, Waits, side_reader_of}
use Rattle.wispuddera_c.specs.declared.conversation.Conversation.{Conversation}
use Rattle.wispuddera_c.specs.declared.content.ReadEvent.{ReadEvent}
use Rattle.wispuddera_c.specs.declared.side.ReadingState.{ReadingState}
use Rattle.wispuddera_c.specs.declared.side.Side.{Side}

-- One side is replaced, and everything else stays.
pub within_with : (t : Bool) (room : ℕ) (s : Side) (c d : Conversation) → d ≡ with_side t s c
    → IsWithin room s
    → IsWithin room (side_at t d)
within_with true room s c d is within =
    subst (λ (d : Conversation). IsWithin room d.client) (sym is) within
within_with false room s c d is within =
    subst (λ (d : Conversation). IsWithin room d.server) (sym is) within

pub record AllElse (c d : Conversation) : Type 0 where
  pub limit : d.limit ≡ c.limit
  pub is_tls13 : d.is_tls13 ≡ c.is_tls13
  pub session : d.has_session ≡ c.has_session
  pub course : d.course ≡ c.course

pub other_with : (t : Bool) (s : Side) (c d : Conversation) → d ≡ with_side t s c
    → side_at (not t) d ≡ side_at (not t) c
other_with true s c d is = ap (λ (d : Conversation). d.server) is
other_with false s c d is = ap (λ (d : Conversation). d.client) is

other_behind : (t : Bool) (s : Side) (c m d : Conversation) → m ≡ with_side t s c
    → (d.client ≡ m.client) × (d.server ≡ m.server) → side_at (not t) d ≡ side_at (not t) c
other_behind true s c m d is sides = sides.1 ∙ other_with true s c m is
other_behind false s c m d is sides = sides.0 ∙ other_with false s c m is

pub all_else : (t : Bool) (s : Side) (c d : Conversation) → d ≡ with_side t s c → AllElse c d
all_else true s c d is =
    subst (AllElse c) (sym is)
    (record { limit = refl; is_tls13 = refl; session = refl; course = refl })
all_else false s c d is =
    subst (AllElse c) (sym is)
    (record { limit = refl; is_tls13 = refl; session = refl; course = refl })

pub fed_with : (t : Bool) (b b' : Bytes) (s : Side) (c d : Conversation) (p : Bytes)
    → d ≡ with_side t s c
    → IsFed (side_reader_of (known_of c) b (side_at t c)) p (side_reader_of (known_of c) b' s)
    → (o : Bytes) → IsFedBy (read_in t b o c) (direction t) p (read_in t b' o d)
fed_with true b b' s c d p is fed o =
    subst (λ d. IsFedBy (read_in true b o c) (direction true) p (read_in true b' o d)) (sym is)
    (record { reader = record { side = fed; other = refl; is_tls13 = refl }; flow = refl })
fed_with false b b' s c d p is fed o =
    subst (λ d. IsFedBy (read_in false b o c) (direction false) p (read_in false b' o d)) (sym is)
    (record { reader = record { side = fed; other = refl; is_tls13 = refl }; flow = refl })

pub waits_with : (t : Bool) (b b' : Bytes) (s : Side) (c d : Conversation) → d ≡ with_side t s c
    → Waits (known_of c) b (side_at t c) b' s
    → (o : Bytes) → ReadsNoMore (read_in t b o c) (direction t) (read_in t b' o d)
waits_with true b b' s c d is waits o =
    subst (λ d. ReadsNoMore (read_in true b o c) (direction true) (read_in true b' o d)) (sym is)
    (record {
      nothing = waits.nothing;
      side = waits.same;
      other = refl;
      is_tls13 =
          refl;
      flow = refl;
    })
waits_with false b b' s c d is waits o =
    subst (λ d. ReadsNoMore (read_in false b o c) (direction false) (read_in false b' o d)) (sym is)
    (record {
      nothing = waits.nothing;
      side = waits.same;
      other = refl;
      is_tls13 =
          refl;
      flow = refl;
    })

-- Both sides are switched to TLS 1.3 by the first event that chooses it.
switched_if : (limit : ℕ) (known chooses : Bool) (b : Bytes) (s : Side)
    → IsSwitchedIf (not known && chooses) (side_reader_of (record { limit = limit; is_tls13 = known }) b s)
    (side_reader_of (record { limit = limit; is_tls13 = known || chooses }) b s)
switched_if limit true chooses b s = λ t. refl
switched_if limit false true b s = λ t. refl
switched_if limit false false b s = λ t. refl

known_or : (known chooses : Bool) → known || chooses ≡ (known || (not known && chooses))
known_or true chooses = refl
known_or false chooses = refl

abbrev chosen_by : FlowEvent → Bool
chosen_by e = chooses_tls13 e.symbol.kind e.symbol.direction

-- d is c after the flow event e of the side's event v.
module _ (c d : Conversation) (e : FlowEvent) (limit : d.limit ≡ c.limit)
    (tls13 : d.is_tls13 ≡ (c.is_tls13 || chosen_by e))
    (flow : flow_of d.course ≡ follow (flow_of c.course) e) where
  shown_by : (event : FlowEvent) → e ≡ event → (b : Bytes) (s n : Side) → n ≡ s
      → IsSwitchedIf (not c.is_tls13 && chosen_by event) (side_reader_of (known_of c) b s)
      (side_reader_of (known_of d) b n)
  shown_by event is b s n same =
      let known : ◌≡◌ {A = ReadingState}
      (record { limit = c.limit; is_tls13 = c.is_tls13 || chosen_by event }) (known_of d) =
      ap₂ (λ l t. record { limit = l; is_tls13 = t }) (sym limit)
      (sym (tls13 ∙ ap (λ x. c.is_tls13 || chosen_by x) is)) in
      subst (λ r. IsSwitchedIf (not c.is_tls13 && chosen_by event) (side_reader_of (known_of c) b s) r)
      (ap (λ k. side_reader_of k b s) known ∙ ap (λ x. side_reader_of (known_of d) b x) (sym same))
      (switched_if c.limit c.is_tls13 (chosen_by event) b s)

  tls13_is : (event : FlowEvent) → e ≡ event
      → d.is_tls13 ≡ (c.is_tls13 || (not c.is_tls13 && chosen_by event))
  tls13_is event is =
      tls13 ∙ ap (λ x. c.is_tls13 || chosen_by x) is ∙ known_or c.is_tls13 (chosen_by event)

  pub behind_with : (t : Bool) (b b' : Bytes) (s : Side) (m : Conversation) (v : StreamEvent)
      → m ≡ with_side t s c
      → (d.client ≡ m.client) × (d.server ≡ m.server) → e ≡ event_of (direction t) v
      → IsFirst (side_reader_of (known_of c) b (side_at t c)) v (side_reader_of (known_of c) b' s)
      → (o : Bytes) → IsBehind (read_in t b o c) (direction t) v (read_in t b' o d)
  behind_with true b b' s m v is sides event first o =
      let content = event_of (direction true) v in
      record {
        reader =
            record {
              side = (
                side_reader_of (known_of c) b' s,
                first,
                shown_by content event b' s d.client (sides.0 ∙ ap (λ (x : Conversation). x.client) is),
              );
              other = shown_by content event o c.server d.server
                  (sides.1 ∙ ap (λ (x : Conversation). x.server) is);
              is_tls13 = tls13_is content event;
            };
        flow = flow ∙ ap (follow (flow_of c.course)) event;
      }
  behind_with false b b' s m v is sides event first o =
      let content = event_of (direction false) v in
      record {
        reader =
            record {
              side = (
                side_reader_of (known_of c) b' s,
                first,
                shown_by content event b' s d.server (sides.1 ∙ ap (λ (x : Conversation). x.server) is),
              );
              other = shown_by content event o c.client d.client
                  (sides.0 ∙ ap (λ (x : Conversation). x.client) is);
              is_tls13 = tls13_is content event;
            };
        flow = flow ∙ ap (follow (flow_of c.course)) event;
      }

  pub events_with : (event : FlowEvent) (es : List FlowEvent) → e ≡ event → AreEvents es c
      → AreEvents (es ++ event ∷ []) d
  events_with event es is so_far =
      flow ∙ ap₂ follow so_far is ∙ sym (run_on follow silence es (event ∷ []))

pub within_behind : (t : Bool) (room : ℕ) (s : Side) (c m d : Conversation) → m ≡ with_side t s c
    → (d.client ≡ m.client) × (d.server ≡ m.server) → IsWithin room s → IsWithin room (side_at t d)
within_behind true room s c m d is sides within =
    subst (IsWithin room) (sym (sides.0 ∙ ap (λ (x : Conversation). x.client) is)) within
within_behind false room s c m d is sides within =
    subst (IsWithin room) (sym (sides.1 ∙ ap (λ (x : Conversation). x.server) is)) within

-- What is learned is returned, and followed.
module _ (t : Bool) (b b' : Bytes) (c m d : Conversation) (s : Side) (h : ReadEvent)
    (is : m ≡ with_side t s c)
    (within : IsWithin (length b') s) (sides : (d.client ≡ m.client) × (d.server ≡ m.server))
    (limit : d.limit ≡ m.limit) (tls13 : d.is_tls13 ≡ (m.is_tls13 || chosen_by h.event))
    (flow : flow_of d.course ≡ follow (flow_of m.course) h.event)
    (session : d.has_session
    ≡ cond (is_waiting (outcome_at (state_in m.course.flow))) h.takes_session m.has_session) where
  same : AllElse c m
  same = all_else t s c m is

  session_is : (v : StreamEvent) → h.takes_session ≡ takes_session v → d.has_session ≡ session_behind c v
  session_is v takes =
      session
      ∙ ap (λ x. cond (is_waiting (outcome_at (state_in x.flow))) h.takes_session m.has_session)
      same.course
      ∙ ap₂ (λ x y. cond (is_waiting (outcome_at (state_in c.course.flow))) x y) takes same.session

  next_of : IsNextEvent (direction t) (known_of c) b (side_at t c) b' s h → IsNext t b b' c d h.content
  next_of received =
      let limit_is : d.limit ≡ c.limit = limit ∙ same.limit in
      let tls13_known : d.is_tls13 ≡ (c.is_tls13 || chosen_by h.event) =
      tls13 ∙ ap (λ x. x || chosen_by h.event) same.is_tls13 in
      let flow_is : flow_of d.course ≡ follow (flow_of c.course) h.event =
      flow ∙ ap (λ x. follow (flow_of x) h.event) same.course in (
        received.0,
        record {
          shown_by = received.2.shown_by;
          behind = behind_with c d h.event limit_is tls13_known flow_is t b b' s m received.0 is sides
              received.2.event
              received.1;
          within = within_behind t (length b') s c m d is sides within;
          other_side = other_behind t s c m d is sides;
          session = session_is received.0 received.2.session;
          events = λ es. events_with c d h.event limit_is tls13_known flow_is
              (event_of (direction t) received.0) es
              received.2.event;
        },
      )

  pub next_with : (old : Side) (k : ReadingState) (side : Direction) → old ≡ side_at t c
      → k ≡ known_of c
      → side ≡ direction t → IsNextEvent side k b old b' s h → IsNext t b b' c d h.content
  next_with old k side old_is k_is side_is received =
      next_of (subst (λ x. IsNextEvent (direction t) (known_of c) b x b' s h) old_is
      (subst (λ x. IsNextEvent (direction t) x b old b' s h) k_is
      (subst (λ x. IsNextEvent x k b old b' s h) side_is received)))

-- The outcome, by its events.
pub outcome_with : (es : List FlowEvent) (c : Conversation) (o : Outcome) → AreEvents es c
    → o ≡ outcome_at (state_in c.course.flow) → IsOutcome o (symbols_of es)
outcome_with es c o are is = (flow_of_run es silence (flow_of c.course) are refl o).0 (sym is)

pub stop_with : (es : List FlowEvent) (c : Conversation) → AreEvents es c
    → is_failed (outcome_at (state_in c.course.flow)) ≡ true
    → IsStop (Some (stop_of c.course.stop)) es
stop_with es c are failed =
    subst (λ t. IsStop (cond t (Some (stop_of c.course.stop)) None) es) failed
    (stopped_of_flow es silence (flow_of c.course) are refl)

pub no_stop_with : (es : List FlowEvent) (c : Conversation) → AreEvents es c
    → is_failed (outcome_at (state_in c.course.flow)) ≡ false → IsStop None es
no_stop_with es c are failed =
    subst (λ t. IsStop (cond t (Some (stop_of c.course.stop)) None) es) failed
    (stopped_of_flow es silence (flow_of c.course) are refl)
