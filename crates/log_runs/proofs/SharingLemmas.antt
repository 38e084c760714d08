-- What comes out of a run under one five-tuple follows from its own arrivals.
use Rattle.std.proofs.Common.{◌≡◌, ℕ, ◌+◌, ◌-◌, ◌≤◌, ◌<◌, inl, inr, Bool, true, false, cond, Option, Some, None, List, [], ◌∷◌, ◌++◌, length, map, refl, sym, ap, ◌∙◌, subst, append_assoc, arith}
use Rattle.std.proofs.lemmas.Bool.{ltb-false, ltb-true}
use Rattle.std.proofs.lemmas.List.{append-nil}
use Rattle.std.specs.Prelude.{⊤, IfSome, is_some}
use Rattle.std.specs.Option.{option_map}
use Rattle.arrivals.specs.Arrival.{five_tuple_in, time_of}
use Rattle.arrivals.specs.declared.arrival.Arrival.{Arrival}
use Rattle.arrivals.specs.declared.reader.ArrivalReader.{ArrivalReader}
use Rattle.connection_parts.specs.declared.part.Part.{Part}
use Rattle.connections.proofs.TableLemmas.{the_same}
use Rattle.connections.specs.FiveTuple.{is_five_tuple}
use Rattle.connections.specs.Table.{IsOver, Table, at, others}
use Rattle.connections.specs.declared.connection.Connection.{Connection}
use Rattle.connections.specs.declared.five_tuple.FiveTuple.{FiveTuple}
use Rattle.connections.specs.declared.table.TheConstants.{IDLE_LIMIT, MAX_CONNECTIONS}
use Rattle.packets.specs.Section.{Packet}
use Rattle.log_connections.specs.Packet.{Arrives, HandlesContent, IsLent, Processes, ends, goes_on}
use Rattle.log_connections.specs.Packet.Arrives.{is_refused}
use Rattle.log_connections.specs.Reading.{Content, InFragments, Nothing, Whole}
use Rattle.log_connections.specs.Sink.{EndInTurn, IsIdle, as_list}
use Rattle.log_connections.specs.Sink.EndInTurn.{none, one}
use Rattle.log_connections.specs.declared.analysis.TlsAnalysis.{TlsAnalysis}
use Rattle.log_runs.proofs.ClosedLemmas.{ClosedInTime, Closes, arrives_closes, closes_order, closes_other, closes_own, closes_same, forgotten_order, forgotten_recent, still_recent}
use Rattle.log_runs.proofs.OrderLemmas.{alone, apart_back, distinct_front, distinct_placed, in_time_front, in_time_placed, not_before_last}
use Rattle.log_runs.proofs.OwnLemmas.{Agrees, Idle, State, after_all, after_append, all_of, awake_own, ended_own, finish, idle_agrees, placed_apart, recent_by, step_at, timed_out, views_append, views_other}
use Rattle.log_runs.proofs.OwnLemmas.Agrees.{standing}
use Rattle.log_runs.proofs.PlaceLemmas.{Placed, accepts_placed, placed_same, then_written}
use Rattle.log_runs.specs.Parts.{is_of_part}
use Rattle.log_runs.specs.Runs.{HandlesEach, IsRun, ended_in, log_of, none_yet, one_more, outs_by, outs_in, outs_of, outs_over, refused_in}
use Rattle.log_runs.specs.Sharing.{Behavior, BehavesIn, BehavesOf, BehavesOver, Distinct, HasRoom, HasRoomOver, InOrder, InTime, IsPlain, PlainRun, RemembersClosed, RoomOf, arrivals_in, arrivals_of, arrivals_over, is_idle, last_time, may_close, of_part, own, recent, time_behind, views}

snoc_nil : {X : Type 0} (xs : List X) (x : X) → xs ++ x ∷ [] ≡ [] → ⊥
snoc_nil [] x h = cc
snoc_nil (y ∷ xs) x h = cc

pub not_late : (time last : ℕ) → (IDLE_LIMIT < time - last → ⊥) → time ≤ last + IDLE_LIMIT
not_late time last h = (elim (is_idle time last) as
    (λ q. is_idle time last ≡ q → time ≤ last + IDLE_LIMIT) [
      | true ↦ λ u. absurd (h (ltb-true IDLE_LIMIT (time - last) u))
      | false ↦ λ u. let few = ltb-false IDLE_LIMIT (time - last) u in omega (arith, few)
    ]) refl

by_state : {V X : Type 0} (g : Option V → Option ℕ → X) {o p : Option V} {c d : Option ℕ}
    → o ≡ p → c ≡ d → g o c ≡ g p d
by_state g {o} {p} {c} {d} h k = ap (λ x. g x c) h ∙ ap (g p) k

by_open : {X : Type 0} (g : Bool → Bool → Option ℕ → X) {a b x y : Bool} {c d : Option ℕ} → a ≡ b
    → x ≡ y → c ≡ d → g a x c ≡ g b y d
by_open g {a} {b} {x} {y} {c} {d} h k l =
    ap (λ p. g p x c) h ∙ ap (λ p. g b p c) k ∙ ap (g b y) l

is_some_mapped : {X Y : Type 0} (g : X → Y) (o : Option X) → is_some o ≡ is_some (option_map g o)
is_some_mapped g None = refl
is_some_mapped g (Some x) = refl

module _ {K : Type 0} where
  -- None ended.
  none_ended :
      {early : Bool}
      {Is : List (FiveTuple × Connection (TlsAnalysis K)) → Connection (TlsAnalysis K) → Type 0}
      {xs ys : List (FiveTuple × Connection (TlsAnalysis K))}
      {outs : List (Connection (TlsAnalysis K))} (h : EndInTurn early Is xs ys outs)
      → ended_in h ≡ [] → ys ≡ xs
  none_ended none h = refl
  none_ended (one ys zs outs c c' before is last) h =
      absurd (snoc_nil (ended_in before) (last.five_tuple, c') h)

  ended_order :
      {early : Bool}
      {Is : List (FiveTuple × Connection (TlsAnalysis K)) → Connection (TlsAnalysis K) → Type 0}
      {xs ys : List (FiveTuple × Connection (TlsAnalysis K))}
      {outs : List (Connection (TlsAnalysis K))} (n : ℕ) → EndInTurn early Is xs ys outs → Distinct xs
      → InTime n xs → Distinct ys × InTime n ys
  ended_order n none d i = (d, i)
  ended_order n (one ys zs outs c c' before is last) d i =
      let on = ended_order n before d i in (
        (distinct_front zs (last.five_tuple, c)
            (subst (λ l. Distinct l) last.stood on.0)).0,
        in_time_front n zs ((last.five_tuple, c) ∷ [])
            (subst (λ l. InTime n l) last.stood on.1),
      )

  lent_placed : (f : FiveTuple) (time : ℕ)
      (base : List (FiveTuple × Connection (TlsAnalysis K)))
      (o : Option (Connection (TlsAnalysis K))) (mid new : Table (TlsAnalysis K))
      → at f (others f base) ≡ None → at f mid.live ≡ o → IsLent f o mid new → Placed f time base mid.live
      → Placed f time base new.live
  lent_placed f time base None mid new single missed lent p =
      placed_same (ap (λ t. t.live) lent) p
  lent_placed f time base (Some c) mid new single found lent p =
      then_written c lent.0 single found (ap (λ x. x.last_time) lent.1)
      (ap (λ t. t.live) lent.2) p

module _ {K : Type 0} {M : K → ℕ} {a : Arrival} where
  arrives_placed : {old new : Table (TlsAnalysis K)}
      {before after : Option (List (Connection (TlsAnalysis K)))}
      (h : Arrives M a old new before after) → refused_in h ≡ []
      → Distinct old.live → Placed (five_tuple_in a) (time_of a) old.live new.live
  arrives_placed {old} {new} (ends over accepts received) held d =
      accepts_placed M a old new (Some over) (alone (five_tuple_in a) old.live d) accepts
  arrives_placed {old} {new} (goes_on mid accepts lent received) held d =
      lent_placed (five_tuple_in a) (time_of a) old.live (at (five_tuple_in a) mid.live) mid new
      (alone (five_tuple_in a) old.live d) refl lent
      (accepts_placed M a old mid None (alone (five_tuple_in a) old.live d) accepts)
  arrives_placed (is_refused mid over refuses others ended) held d = cc

  module _ {V A : Type 0} (b : Behavior K V A) where
    arrives_apart : {old new : Table (TlsAnalysis K)}
        {before after : Option (List (Connection (TlsAnalysis K)))} (e : FiveTuple)
        (h : Arrives M a old new before after) → refused_in h ≡ []
        → is_five_tuple e (five_tuple_in a) ≡ false → views b e (outs_in h) ≡ []
    arrives_apart e (ends over accepts received) held apart =
        views_other b e (five_tuple_in a) over apart
    arrives_apart e (goes_on mid accepts lent received) held apart = refl
    arrives_apart e (is_refused mid over refuses others ended) held apart = cc

  module _ {limit : ℕ} {old new : Table (TlsAnalysis K)}
      {before after : Option (List (Connection (TlsAnalysis K)))}
      (p : Processes M a limit old new before after) where
    full_is : HasRoom p → new.live ≡ p.full.live
    full_is room = none_ended p.evicted.ended room.none_evicted

    -- Where times don't run back, the connections stay in order.
    pub in_order_behind : HasRoom p → (s : ℕ) → s ≤ time_of a → Distinct old.live
        → InTime s old.live → Distinct new.live × InTime (time_of a) new.live
    in_order_behind room s le d i =
        let on = ended_order s p.idle.ended d i in
        let placed = arrives_placed p.arrives room.none_refused on.0 in (
          subst (λ l. Distinct l) (sym (full_is room)) (distinct_placed placed on.0),
          subst (λ l. InTime (time_of a) l) (sym (full_is room))
              (in_time_placed s placed le on.1),
        )

    -- Then none is idle once those that timed out are over.
    pub none_is_idle : (s : ℕ) → Distinct old.live → InTime s old.live → (e : FiveTuple)
        (c : Connection (TlsAnalysis K)) → at e p.awake.live ≡ Some c → Idle (time_of a) c → ⊥
    none_is_idle s d i e c found idle =
        let on = ended_order s p.idle.ended d i in
        let l = not_before_last e c s p.awake.live on.1 found in
        let open_still =
        subst (λ o. IfSome o (λ x. ¬ IsOver (time_of a) p.awake.live x.1.last_time)) l.1
        p.none_idle in
        open_still (inl (omega (arith, idle, l.2)))

    placed_behind : HasRoom p → Distinct old.live → (s : ℕ) → InTime s old.live
        → Placed (five_tuple_in a) (time_of a) p.awake.live new.live
    placed_behind room d s i =
        placed_same (full_is room)
        (arrives_placed p.arrives room.none_refused
        (ended_order s p.idle.ended d i).0)

    -- The closed ones change by the arrival alone.
    closes_behind : HasRoom p → RemembersClosed p → (s : ℕ) → Distinct old.live → InTime s old.live
        → Closes (five_tuple_in a) (time_of a) p.awake.closed new.closed
        (may_close a (is_some (at (five_tuple_in a) p.awake.live))
        (at (five_tuple_in a) p.awake.closed))
        (is_some (at (five_tuple_in a) p.awake.live)) (is_some (at (five_tuple_in a) new.live))
    closes_behind room remembers s d i =
        closes_same remembers.none_dropped
        (ap (λ l. is_some (at (five_tuple_in a) l)) (full_is room))
        (arrives_closes p.arrives room.none_refused
        (alone (five_tuple_in a) p.awake.live (ended_order s p.idle.ended d i).0))

module _ {K V A : Type 0} (b : Behavior K V A) where
  abbrev pub start : State V
  start = record { live = None; closed = None; outs = [] }

  -- What a table has of a five-tuple, and what came out under it, follow from these arrivals.
  pub record Follows (e : FiveTuple) (said : List A) (time : ℕ) (t : Table (TlsAnalysis K))
      (outs : List (FiveTuple × Connection (TlsAnalysis K))) : Type 0 where
    pub distinct : Distinct t.live
    pub in_time : InTime time t.live
    pub distinct_closed : Distinct t.closed
    pub closed_in_time : ClosedInTime time t.closed
    pub agrees : Agrees b (after_all b said start) time (at e t.live) (views b e outs)
    pub closed :
        recent time (at e t.closed) ≡ recent time (after_all b said start).closed

  regroup : (e : FiveTuple) (outs xs ys zs : List (FiveTuple × Connection (TlsAnalysis K)))
      → zs ≡ []
      → views b e (outs ++ (xs ++ (ys ++ zs)))
      ≡ (views b e outs ++ views b e xs) ++ views b e ys
  regroup e outs xs ys zs no_more =
      ap (λ l. views b e (outs ++ (xs ++ (ys ++ l)))) no_more
      ∙ ap (λ l. views b e (outs ++ (xs ++ l))) (append-nil ys)
      ∙ views_append b e outs (xs ++ ys)
      ∙ ap (λ l. views b e outs ++ l) (views_append b e xs ys)
      ∙ sym (append_assoc (views b e outs) (views b e xs) (views b e ys))

  module _ {M : K → ℕ} {a : Arrival} {limit : ℕ} {old new : Table (TlsAnalysis K)}
      {before after : Option (List (Connection (TlsAnalysis K)))}
      (p : Processes M a limit old new before after) (room : HasRoom p)
      (remembers : RemembersClosed p) (behaves : BehavesIn b p) (s : ℕ) (le : s ≤ time_of a) where
    idle_first : (e : FiveTuple) (said : List A)
        (outs : List (FiveTuple × Connection (TlsAnalysis K))) → Follows e said s old outs
        → Agrees b (after_all b said start) (time_of a) (at e p.awake.live)
        (views b e outs ++ views b e (ended_in p.idle.ended))
    idle_first e said outs f =
        idle_agrees b (after_all b said start) s (time_of a) (at e old.live)
        (at e p.awake.live) (views b e outs) (views b e (ended_in p.idle.ended)) le
        (ended_own b e MAX_CONNECTIONS (Idle (time_of a))
        (λ zs c few is. idle_only zs c few is) p.idle.ended behaves.idle f.distinct room.few).0
        f.agrees
      where
        idle_only : (zs : List (FiveTuple × Connection (TlsAnalysis K)))
            (c : Connection (TlsAnalysis K)) → length zs ≤ MAX_CONNECTIONS
            → IsIdle (time_of a) zs c → Idle (time_of a) c
        idle_only zs c few (inl idle) = idle
        idle_only zs c few (inr many) = absurd (omega (arith, few, many))

    -- An arrival of another five-tuple.
    other_step : (e : FiveTuple) (said : List A)
        (outs : List (FiveTuple × Connection (TlsAnalysis K)))
        → is_five_tuple (five_tuple_in a) e ≡ false
        → is_five_tuple e (five_tuple_in a) ≡ false → Follows e said s old outs
        → Follows e said (time_of a) new (outs ++ outs_by p)
    other_step e said outs apart back f =
        let order = in_order_behind p room s le f.distinct f.in_time in
        let awake_order = forgotten_order s p.forgotten f.distinct_closed f.closed_in_time in
        let closing = closes_behind p room remembers s f.distinct f.in_time in
        let closed_order = closes_order s le closing awake_order.0 awake_order.1 in
        let here : at e new.live ≡ at e p.awake.live =
        placed_apart (five_tuple_in a) e apart
        (placed_behind p room f.distinct s f.in_time) in
        let said_out : views b e (outs ++ outs_by p)
        ≡ views b e outs ++ views b e (ended_in p.idle.ended) =
        regroup e outs (ended_in p.idle.ended) (outs_in p.arrives) (ended_in p.evicted.ended)
        room.none_evicted
        ∙ ap (λ l. (views b e outs ++ views b e (ended_in p.idle.ended)) ++ l)
        (arrives_apart b e p.arrives room.none_refused back)
        ∙ append-nil (views b e outs ++ views b e (ended_in p.idle.ended)) in
        record {
          distinct = order.0;
          in_time = order.1;
          distinct_closed = closed_order.0;
          closed_in_time = closed_order.1;
          agrees =
              subst (λ o. Agrees b (after_all b said start) (time_of a) o
              (views b e (outs ++ outs_by p))) (sym here)
              (subst (λ l. Agrees b (after_all b said start) (time_of a) (at e p.awake.live) l)
              (sym said_out) (idle_first e said outs f));
          closed =
              ap (recent (time_of a)) (closes_other e apart back closing)
              ∙ (forgotten_recent (time_of a) e p.forgotten remembers.few_closed).0
              ∙ recent_by s (time_of a) le (at e old.closed) (after_all b said start).closed
              f.closed;
        }

    -- An arrival of this one.
    own_step : (said : List A) (outs : List (FiveTuple × Connection (TlsAnalysis K)))
        → Follows (five_tuple_in a) said s old outs
        → Follows (five_tuple_in a) (said ++ b.seen a ∷ []) (time_of a) new (outs ++ outs_by p)
    own_step said outs f =
        let e = five_tuple_in a in
        let k = after_all b said start in
        let order = in_order_behind p room s le f.distinct f.in_time in
        let awake_order = forgotten_order s p.forgotten f.distinct_closed f.closed_in_time in
        let closing = closes_behind p room remembers s f.distinct f.in_time in
        let closed_order = closes_order s le closing awake_order.0 awake_order.1 in
        let first = awake_own b k (time_of a) (at e p.awake.live)
        (views b e outs ++ views b e (ended_in p.idle.ended))
        (λ c found idle. none_is_idle p s f.distinct f.in_time e c found idle)
        (idle_first e said outs f) in
        let was : recent (time_of a) (at e old.closed) ≡ recent (time_of a) k.closed =
        recent_by s (time_of a) le (at e old.closed) k.closed f.closed in
        let later : after_all b (said ++ b.seen a ∷ []) start
        ≡ step_at b (time_of a) (b.seen a) k =
        after_append b said (b.seen a ∷ []) start
        ∙ ap (λ m. step_at b m (b.seen a) k) (b.is_time a) in
        let live : option_map b.view (at e new.live)
        ≡ (step_at b (time_of a) (b.seen a) k).live =
        ap (λ l. option_map b.view (at e l)) (full_is p room) ∙ behaves.becomes
        ∙ by_state (b.becomes (b.seen a)) first.0 was in
        let said_out : views b e (outs ++ outs_by p)
        ≡ (step_at b (time_of a) (b.seen a) k).outs =
        regroup e outs (ended_in p.idle.ended) (outs_in p.arrives) (ended_in p.evicted.ended)
        room.none_evicted
        ∙ ap (λ l. l ++ views b e (outs_in p.arrives)) first.1
        ∙ ap (λ l. (k.outs ++ timed_out b (time_of a) k.live) ++ l)
        (behaves.over ∙ ap as_list (by_state (b.over (b.seen a)) first.0 was)) in
        record {
          distinct = order.0;
          in_time = order.1;
          distinct_closed = closed_order.0;
          closed_in_time = closed_order.1;
          agrees =
              subst (λ x. Agrees b x (time_of a) (at e new.live) (views b e (outs ++ outs_by p)))
              (sym later) (standing live said_out);
          closed =
              ap (recent (time_of a)) (closes_own closing awake_order.0
              ∙ sym (b.is_closed_by a (is_some (at e p.awake.live)) (is_some (at e new.live))
              (at e p.awake.closed))
              ∙ by_open (b.closed (b.seen a))
              (is_some_mapped b.view (at e p.awake.live) ∙ ap is_some first.0)
              (is_some_mapped b.view (at e new.live) ∙ ap is_some live)
              (still_recent (time_of a) e s p.awake.closed awake_order.1 p.none_to_forget
              ∙ (forgotten_recent (time_of a) e p.forgotten remembers.few_closed).0 ∙ was))
              ∙ ap (λ x. recent (time_of a) x.closed) (sym later);
        }

  -- Any arrival.
  own_one : (e : FiveTuple) (a : Arrival) (q : Bool) → is_five_tuple (five_tuple_in a) e ≡ q
      → own b e (b.seen a ∷ []) ≡ cond q (b.seen a ∷ []) []
  own_one e a q is =
      ap (λ f. cond (is_five_tuple f e) (b.seen a ∷ []) []) (b.is_five_tuple_of a)
      ∙ ap (λ x. cond x (b.seen a ∷ []) []) is

  module _ (M : K → ℕ) (limit : ℕ) (old new : Table (TlsAnalysis K))
      (before after : Option (List (Connection (TlsAnalysis K)))) where
    whole_step : (e : FiveTuple) (a : Arrival) (p : Processes M a limit old new before after)
        (said : List A) (s : ℕ) (outs : List (FiveTuple × Connection (TlsAnalysis K)))
        → HasRoom p × RemembersClosed p → BehavesIn b p → s ≤ time_of a
        → Follows e said s old outs → (q : Bool)
        → is_five_tuple (five_tuple_in a) e ≡ q
        → Follows e (said ++ own b e (b.seen a ∷ [])) (time_of a) new (outs ++ outs_by p)
    whole_step e a p said s outs room behaves le f true is =
        subst (λ l. Follows e (said ++ l) (time_of a) new (outs ++ outs_by p))
        (sym (own_one e a true is))
        (subst (λ g. Follows g said s old outs
        → Follows g (said ++ b.seen a ∷ []) (time_of a) new (outs ++ outs_by p))
        (the_same (five_tuple_in a) e is) (own_step p room.0 room.1 behaves s le said outs) f)
    whole_step e a p said s outs room behaves le f false is =
        subst (λ l. Follows e l (time_of a) new (outs ++ outs_by p))
        (sym (ap (λ l. said ++ l) (own_one e a false is) ∙ append-nil said))
        (other_step p room.0 room.1 behaves s le e said outs is
        (apart_back (five_tuple_in a) e is) f)

    content_step : (e : FiveTuple) (c : Content) (h : HandlesContent M c limit old new before after)
        (said : List A) (s : ℕ) (outs : List (FiveTuple × Connection (TlsAnalysis K)))
        → RoomOf M limit old new before after c h
        → BehavesOf M limit old new before after b c h → s ≤ time_behind c s
        → Follows e said s old outs
        → Follows e (said ++ own b e (map b.seen (arrivals_of c))) (time_behind c s) new
        (outs ++ outs_of M limit old new before after c h)
    content_step e Nothing h said s outs room behaves le f =
        subst (λ l. Follows e l s new (outs ++ [])) (sym (append-nil said))
        (subst (λ l. Follows e said s new l) (sym (append-nil outs))
        (subst (λ t. Follows e said s t outs) (sym h.0) f))
    content_step e (Whole a) h said s outs room behaves le f =
        whole_step e a h said s outs room behaves le f (is_five_tuple (five_tuple_in a) e) refl
    content_step e (InFragments a n) h said s outs room behaves le f = absurd room

  own_append : (e : FiveTuple) (xs ys : List Arrival)
      → own b e (map b.seen (xs ++ ys)) ≡ own b e (map b.seen xs) ++ own b e (map b.seen ys)
  own_append e [] ys = refl
  own_append e (x ∷ xs) ys = elim (is_five_tuple (b.five_tuple (b.seen x)) e) as
      (λ q. cond q (b.seen x ∷ own b e (map b.seen (xs ++ ys))) (own b e (map b.seen (xs ++ ys)))
      ≡ cond q (b.seen x ∷ own b e (map b.seen xs)) (own b e (map b.seen xs))
      ++ own b e (map b.seen ys)) [
        | true ↦ ap (λ l. b.seen x ∷ l) (own_append e xs ys)
        | false ↦ own_append e xs ys
      ]

  module _ {M : K → ℕ} {limit : ℕ} {reader : ArrivalReader} {old : Table (TlsAnalysis K)}
      {before : Option (List (Connection (TlsAnalysis K)))} where
    pub each_follows : {packets : List Packet} {read : ArrivalReader} {new : Table (TlsAnalysis K)}
        {after : Option (List (Connection (TlsAnalysis K)))} (e : FiveTuple)
        (h : HandlesEach M limit reader old before packets read new after)
        → (old.live ≡ []) × (old.closed ≡ []) → InOrder h → HasRoomOver h → BehavesOver b h
        → Follows e (own b e (map b.seen (arrivals_over h))) (last_time h) new (outs_over h)
    each_follows e none_yet empty order room behaves = record {
      distinct = subst (λ l. Distinct l) (sym empty.0) tt;
      in_time = subst (λ l. InTime 0 l) (sym empty.0) tt;
      distinct_closed = subst (λ l. Distinct l) (sym empty.1) tt;
      closed_in_time = subst (λ l. ClosedInTime 0 l) (sym empty.1) tt;
      agrees = standing (ap (λ l. option_map b.view (at e l)) empty.0) refl;
      closed = ap (λ l. recent 0 (at e l)) empty.1;
    }
    each_follows e (one_more packets p read reads mid new between after h handles) empty order
        room behaves =
        subst (λ l. Follows e l (time_behind handles.content (last_time h)) new
        (outs_over h ++ outs_of M limit mid new between after handles.content handles.handles))
        (sym (own_append e (arrivals_over h) (arrivals_of handles.content)))
        (content_step M limit mid new between after e handles.content handles.handles
        (own b e (map b.seen (arrivals_over h))) (last_time h) (outs_over h) room.1 behaves.1
        order.1 (each_follows e h empty order.0 room.0 behaves.0))

  module _ {M : K → ℕ} {limit : ℕ} {packets : List Packet} {reader : ArrivalReader}
      {old new : Table (TlsAnalysis K)} {before after : Option (List (Connection (TlsAnalysis K)))}
      (run : IsRun M limit packets reader old new before after) where
    pub run_views : (e : FiveTuple) → IsPlain b run
        → views b e (log_of run)
        ≡ all_of b (after_all b (own b e (map b.seen (arrivals_over run.handles))) start)
    run_views e plain =
        let f = each_follows e run.handles plain.empty plain.in_order plain.room plain.behaves in
        let last = ended_own b e (length run.last.live) (λ c. ⊤) (λ zs c few is. tt)
        run.ends.ended plain.ends f.distinct (omega arith) in
        views_append b e (outs_over run.handles) (ended_in run.ends.ended)
        ∙ finish b (after_all b (own b e (map b.seen (arrivals_over run.handles))) start)
        (last_time run.handles) (at e run.last.live) (at e new.live)
        (views b e (outs_over run.handles)) (views b e (ended_in run.ends.ended))
        (ap (at e) run.none_open) last.0 f.agrees

  -- Of the arrivals of a part.
  pub own_of_part : (part : Part) (e : FiveTuple) → is_of_part part e ≡ true → (xs : List A)
      → own b e (of_part b part xs) ≡ own b e xs
  own_of_part part e its [] = refl
  own_of_part part e its (x ∷ xs) = (elim (is_five_tuple (b.five_tuple x) e) as
      (λ q. is_five_tuple (b.five_tuple x) e ≡ q → own b e (of_part b part (x ∷ xs)) ≡ own b e (x ∷ xs)) [
        | true ↦ λ t.
            let mine : is_of_part part (b.five_tuple x) ≡ true =
            ap (is_of_part part) (the_same (b.five_tuple x) e t) ∙ its in
            rw (mine, t) (ap (λ l. x ∷ l) (own_of_part part e its xs))
        | false ↦ λ t. (elim (is_of_part part (b.five_tuple x)) as
            (λ q. own b e (cond q (x ∷ of_part b part xs) (of_part b part xs)) ≡ own b e (x ∷ xs)) [
              | true ↦ rw t (own_of_part part e its xs)
              | false ↦ rw t (own_of_part part e its xs)
            ])
      ]) refl

  pub own_of_others : (part : Part) (e : FiveTuple) → is_of_part part e ≡ false → (xs : List A)
      → own b e (of_part b part xs) ≡ []
  own_of_others part e other [] = refl
  own_of_others part e other (x ∷ xs) = (elim (is_of_part part (b.five_tuple x)) as
      (λ q. is_of_part part (b.five_tuple x) ≡ q
      → own b e (cond q (x ∷ of_part b part xs) (of_part b part xs)) ≡ []) [
        | true ↦ λ t. (elim (is_five_tuple (b.five_tuple x) e) as
            (λ q. is_five_tuple (b.five_tuple x) e ≡ q
            → cond q (x ∷ own b e (of_part b part xs)) (own b e (of_part b part xs)) ≡ []) [
              | true ↦ λ u.
                  let both : true ≡ false =
                  sym t ∙ ap (is_of_part part) (the_same (b.five_tuple x) e u) ∙ other in
                  cc
              | false ↦ λ u. own_of_others part e other xs
            ]) refl
        | false ↦ λ t. own_of_others part e other xs
      ]) refl

  -- Two runs.
  pub same_views : (M : K → ℕ) (one_run other : PlainRun b M) (e : FiveTuple)
      → own b e (arrivals_in b one_run) ≡ own b e (arrivals_in b other)
      → views b e (log_of one_run.run) ≡ views b e (log_of other.run)
  same_views M one_run other e alike =
      run_views one_run.run e one_run.plain
      ∙ ap (λ l. all_of b (after_all b l start)) alike
      ∙ sym (run_views other.run e other.plain)

  pub part_views : (M : K → ℕ) (part : Part) (whole mine : PlainRun b M) (e : FiveTuple)
      → arrivals_in b mine ≡ of_part b part (arrivals_in b whole) → is_of_part part e ≡ true
      → views b e (log_of mine.run) ≡ views b e (log_of whole.run)
  part_views M part whole mine e shared its =
      same_views M mine whole e
      (ap (own b e) shared ∙ own_of_part part e its (arrivals_in b whole))

  pub other_views : (M : K → ℕ) (part : Part) (whole mine : PlainRun b M) (e : FiveTuple)
      → arrivals_in b mine ≡ of_part b part (arrivals_in b whole) → is_of_part part e ≡ false
      → views b e (log_of mine.run) ≡ []
  other_views M part whole mine e shared other =
      run_views mine.run e mine.plain
      ∙ ap (λ l. all_of b (after_all b l start))
      (ap (own b e) shared ∙ own_of_others part e other (arrivals_in b whole))
