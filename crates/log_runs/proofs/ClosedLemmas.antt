-- Which five-tuples count as closed after an arrival.
use Rattle.std.proofs.Common.{◌≡◌, ℕ, suc, ◌-◌, ◌≤◌, ◌<◌, inl, inr, Bool, true, false, cond, Option, Some, None, List, [], ◌∷◌, ◌++◌, length, slice_get, refl, sym, ap, ◌∙◌, subst, arith}
use Rattle.std.proofs.lemmas.Bool.{lt-ltb, ltb-true}
use Rattle.std.proofs.lemmas.List.{length-append}
use Rattle.std.specs.Prelude.{⊤, ◌&&◌, ◌||◌, not, is_some, if◌then◌else◌, IfSome}
use Rattle.std.specs.Map.{set_value}
use Rattle.std.specs.Option.{option_map}
use Rattle.lru.specs.LruCache.{last_entry}
use Rattle.arrivals.specs.Arrival.{five_tuple_in, time_of}
use Rattle.arrivals.specs.declared.arrival.Arrival.{Arrival}
use Rattle.arrivals.specs.declared.arrival.Arrival.TheVariants as arrival
use Rattle.connections.proofs.TableLemmas.{at_first, at_written, at-others, is_five_tuple-refl, others-first}
use Rattle.connections.specs.Connection.{dropping, verdict_of, with_waiting}
use Rattle.connections.specs.Datagram.{five_tuple_of_datagram}
use Rattle.connections.specs.FiveTuple.{is_five_tuple}
use Rattle.connections.specs.Memory.{IsSettled}
use Rattle.connections.specs.Segment.{begins, begins_one, five_tuple_of, is_refused}
use Rattle.connections.specs.Table.{BeginsAfter, ComesFirst, DropsDatagramOf, IsAnewAt, IsForgotten, IsOver, IsOverAmong, NoneToForget, Replaced, Table, at, belongs, changing_at, ended, others, weight_of, without_if}
use Rattle.connections.specs.Table.IsForgotten.{none as none_forgotten, one as one_forgotten}
use Rattle.connections.specs.declared.connection.Connection.{Connection}
use Rattle.connections.specs.declared.datagram.Datagram.{Datagram}
use Rattle.connections.specs.declared.five_tuple.FiveTuple.{FiveTuple}
use Rattle.connections.specs.declared.receiver.Judgement.{Judgement}
use Rattle.connections.specs.declared.receiver.Judgement.TheVariants as judgement
use Rattle.connections.specs.declared.segment.Segment.{Segment}
use Rattle.connections.specs.declared.table.TheConstants.{IDLE_LIMIT, MAX_CONNECTIONS}
use Rattle.log_connections.specs.Log.{IsReady, Accepts, AcceptsAt, AcceptsDelivered, AcceptsIf, AcceptsJudged, AnalyzesAcknowledged, AnalyzesOne, AnalyzesSegment, BeginsUnless, Logs, Settles, Takes, TakesBehind, TakesIf, enough, had, no_more, none, one_then, taken}
use Rattle.log_connections.specs.Packet.{Arrives, IsLent, ends, goes_on}
use Rattle.log_connections.specs.Packet.Arrives.{is_refused as has_no_memory}
use Rattle.log_connections.specs.declared.analysis.TlsAnalysis.{TlsAnalysis}
use Rattle.log_connections.specs.declared.exchanges.Delivery.{Delivery}
use Rattle.log_connections.specs.declared.exchanges.Delivery.TheVariants as delivery
use Rattle.log_runs.proofs.OrderLemmas.{alone, distinct_front, distinct_others, last_is, last_of, removed_none}
use Rattle.log_runs.proofs.PlaceLemmas.{acknowledged_open, belongs_open, changed_live, replaced_open, written_open}
use Rattle.log_runs.specs.Runs.{refused_in}
use Rattle.log_runs.specs.Sharing.{Distinct, closed_since, is_idle, may_close, recent}

-- They are in the order in which they were closed, the latest first, and none is later than this
-- time.
abbrev pub ClosedInTime : ℕ → List (FiveTuple × ℕ) → Type 0
ClosedInTime time [] = ⊤
ClosedInTime time (x ∷ xs) = (x.1 ≤ time) × ClosedInTime x.1 xs

closed_later : (n m : ℕ) (xs : List (FiveTuple × ℕ)) → n ≤ m → ClosedInTime n xs
    → ClosedInTime m xs
closed_later n m [] le i = tt
closed_later n m (x ∷ xs) le i = (omega (arith, le, i.0), i.1)

closed_others : (e : FiveTuple) (n : ℕ) (xs : List (FiveTuple × ℕ)) → ClosedInTime n xs
    → ClosedInTime n (others e xs)
closed_others e n [] i = tt
closed_others e n (x ∷ xs) i = elim (is_five_tuple e x.0) as
    (λ b. ClosedInTime n (cond b xs (x ∷ others e xs))) [
      | true ↦ closed_later x.1 n xs i.0 i.1
      | false ↦ (i.0, closed_others e x.1 xs i.1)
    ]

closed_front : (n : ℕ) (xs ys : List (FiveTuple × ℕ)) → ClosedInTime n (xs ++ ys)
    → ClosedInTime n xs
closed_front n [] ys i = tt
closed_front n (x ∷ xs) ys i = (i.0, closed_front x.1 xs ys i.1)

-- None was closed before the last one.
before_all : (x : FiveTuple × ℕ) (xs : List (FiveTuple × ℕ)) → ClosedInTime x.1 xs
    → (last_of x xs).1 ≤ x.1
before_all x [] i = omega arith
before_all x (y ∷ ys) i = omega (arith, i.0, before_all y ys i.1)

among_closed : (e : FiveTuple) (n : ℕ) (x : FiveTuple × ℕ) (xs : List (FiveTuple × ℕ))
    → ClosedInTime x.1 xs → at e (x ∷ xs) ≡ Some n → (last_of x xs).1 ≤ n
among_closed e n x [] i found = (elim (is_five_tuple e x.0) as
    (λ b. cond b (Some x.1) None ≡ Some n → x.1 ≤ n) [
      | true ↦ λ t. let its : x.1 ≡ n = cc in omega (arith, its)
      | false ↦ λ t. cc
    ]) found
among_closed e n x (y ∷ ys) i found = (elim (is_five_tuple e x.0) as
    (λ b. cond b (Some x.1) (at e (y ∷ ys)) ≡ Some n → (last_of y ys).1 ≤ n) [
      | true ↦ λ t. let its : x.1 ≡ n = cc in omega (arith, its, i.0, before_all y ys i.1)
      | false ↦ λ t. among_closed e n y ys i.1 t
    ]) found

closed_before_last : (e : FiveTuple) (n time : ℕ) (xs : List (FiveTuple × ℕ))
    → ClosedInTime time xs → at e xs ≡ Some n
    → (l : FiveTuple × ℕ) × (last_entry xs ≡ Some l) × (l.1 ≤ n)
closed_before_last e n time [] i found = cc
closed_before_last e n time (x ∷ xs) i found =
    let behind : suc (length xs) - 1 ≡ length xs = omega arith in (
      last_of x xs,
      ap (λ m. slice_get (x ∷ xs) m) behind ∙ last_is x xs,
      among_closed e n x xs i.1 found,
    )

-- Those that are forgotten were closed long before; those that stay still count.
only_idle : (time n last : ℕ) → n ≤ MAX_CONNECTIONS → IsOverAmong n time last
    → IDLE_LIMIT < time - last
only_idle time n last few (inl idle) = idle
only_idle time n last few (inr many) = absurd (omega (arith, few, many))

module _ (time : ℕ) (e : FiveTuple) where
  last_recent : (zs : List (FiveTuple × ℕ)) (x : FiveTuple × ℕ) → IDLE_LIMIT < time - x.1
      → recent time (at e (zs ++ x ∷ [])) ≡ recent time (at e zs)
  last_recent [] x idle = elim (is_five_tuple e x.0) as
      (λ b. recent time (cond b (Some x.1) None) ≡ None) [
        | true ↦ ap {B = Option ℕ} (λ q. if q then None else Some x.1)
            (lt-ltb IDLE_LIMIT (time - x.1) idle)
        | false ↦ refl
      ]
  last_recent (y ∷ zs) x idle = elim (is_five_tuple e y.0) as
      (λ b. recent time (cond b (Some y.1) (at e (zs ++ x ∷ [])))
      ≡ recent time (cond b (Some y.1) (at e zs))) [
        | true ↦ refl
        | false ↦ last_recent zs x idle
      ]

  pub forgotten_recent : {xs ys : List (FiveTuple × ℕ)} → IsForgotten time xs ys
      → length xs ≤ MAX_CONNECTIONS
      → (recent time (at e ys) ≡ recent time (at e xs)) × (length ys ≤ MAX_CONNECTIONS)
  forgotten_recent none_forgotten few = (refl, few)
  forgotten_recent (one_forgotten ys zs x before stood over) few =
      let on = forgotten_recent before few in (
        sym (last_recent zs x (only_idle time (length ys) x.1 on.1 over))
            ∙ ap (λ l. recent time (at e l)) (sym stood) ∙ on.0,
        omega (arith, on.1, ap length stood, length-append zs (x ∷ [])),
      )

  pub still_recent : (n : ℕ) (xs : List (FiveTuple × ℕ)) → ClosedInTime n xs
      → NoneToForget time xs → at e xs ≡ recent time (at e xs)
  still_recent n xs i fresh = go (at e xs) refl
    where
      go : (o : Option ℕ) → at e xs ≡ o → o ≡ recent time o
      go None found = refl
      go (Some m) found =
          let l = closed_before_last e m n xs i found in
          let fresh_still = subst (λ o. IfSome o (λ x. ¬ IsOver time xs x.1)) l.1 fresh in
          (elim (is_idle time m) as
          (λ q. is_idle time m ≡ q
          → ◌≡◌ {A = Option ℕ} (Some m) (if q then None else Some m)) [
            | true ↦ λ u.
                let idle : IDLE_LIMIT < time - m = ltb-true IDLE_LIMIT (time - m) u in
                absurd (fresh_still (inl (omega (arith, idle, l.2))))
            | false ↦ λ u. refl
          ]) refl

pub forgotten_order : {time : ℕ} {xs ys : List (FiveTuple × ℕ)} (n : ℕ) → IsForgotten time xs ys
    → Distinct xs → ClosedInTime n xs → Distinct ys × ClosedInTime n ys
forgotten_order n none_forgotten d i = (d, i)
forgotten_order n (one_forgotten ys zs x before stood over) d i =
    let on = forgotten_order n before d i in (
      (distinct_front zs x (subst (λ l. Distinct l) stood on.0)).0,
      closed_front n zs (x ∷ []) (subst (λ l. ClosedInTime n l) stood on.1),
    )

-- What becomes of the closed ones by an arrival of this five-tuple: by whether it may close a
-- connection, whether that was open before, and whether it is open now.
pub data Closes (f : FiveTuple) (time : ℕ) (xs ys : List (FiveTuple × ℕ))
    : Bool → Bool → Bool → Type 0 where
  strays : (was now : Bool) → ys ≡ xs → Closes f time xs ys false was now
  lasts : ys ≡ xs → Closes f time xs ys true true true
  opens : ys ≡ others f xs → Closes f time xs ys true false true
  closes : (was : Bool) → ys ≡ (f, time) ∷ others f xs → Closes f time xs ys true was false
  opens_and_closes :
      (was : Bool) → ys ≡ (f, time) ∷ others f (others f xs)
      → Closes f time xs ys true was false

pub closes_own : {f : FiveTuple} {time : ℕ} {xs ys : List (FiveTuple × ℕ)} {may was now : Bool}
    → Closes f time xs ys may was now → Distinct xs
    → at f ys ≡ (if may then closed_since now was time (at f xs) else at f xs)
closes_own {f} (strays was now same) d = ap (at f) same
closes_own {f} (lasts same) d = ap (at f) same
closes_own {f} {time} {xs} (opens same) d = ap (at f) same ∙ alone f xs d
closes_own {f} {time} {xs} (closes was same) d =
    ap (at f) same ∙ at_first f (others f xs) time
closes_own {f} {time} {xs} (opens_and_closes was same) d =
    ap (at f) same ∙ at_first f (others f (others f xs)) time

not_same : (f e : FiveTuple) → is_five_tuple f e ≡ false → f ≡ e → ⊥
not_same f e apart same =
    let both : true ≡ false =
    sym (is_five_tuple-refl f) ∙ ap (is_five_tuple f) same ∙ apart in
    cc

pub closes_other : {f : FiveTuple} {time : ℕ} {xs ys : List (FiveTuple × ℕ)} {may was now : Bool}
    (e : FiveTuple) → is_five_tuple f e ≡ false → is_five_tuple e f ≡ false
    → Closes f time xs ys may was now → at e ys ≡ at e xs
closes_other e apart back (strays was now same) = ap (at e) same
closes_other e apart back (lasts same) = ap (at e) same
closes_other {f} {time} {xs} e apart back (opens same) =
    ap (at e) same ∙ at-others f e (not_same f e apart) xs
closes_other {f} {time} {xs} e apart back (closes was same) =
    ap (at e) same ∙ rw back (at-others f e (not_same f e apart) xs)
closes_other {f} {time} {xs} e apart back (opens_and_closes was same) =
    ap (at e) same
    ∙ rw back (at-others f e (not_same f e apart) (others f xs)
    ∙ at-others f e (not_same f e apart) xs)

-- The order stays.
pub closes_order : {f : FiveTuple} {time : ℕ} {xs ys : List (FiveTuple × ℕ)} {may was now : Bool}
    (n : ℕ) → n ≤ time → Closes f time xs ys may was now → Distinct xs → ClosedInTime n xs
    → Distinct ys × ClosedInTime time ys
closes_order {f} {time} {xs} n le (strays was now same) d i = (
  subst (λ l. Distinct l) (sym same) d,
  subst (λ l. ClosedInTime time l) (sym same) (closed_later n time xs le i),
)
closes_order {f} {time} {xs} n le (lasts same) d i = (
  subst (λ l. Distinct l) (sym same) d,
  subst (λ l. ClosedInTime time l) (sym same) (closed_later n time xs le i),
)
closes_order {f} {time} {xs} n le (opens same) d i = (
  subst (λ l. Distinct l) (sym same) (distinct_others f xs d),
  subst (λ l. ClosedInTime time l) (sym same)
      (closed_later n time (others f xs) le (closed_others f n xs i)),
)
closes_order {f} {time} {xs} n le (closes was same) d i = (
  subst (λ l. Distinct l) (sym same) (alone f xs d, distinct_others f xs d),
  subst (λ l. ClosedInTime time l) (sym same)
      (omega arith, closed_later n time (others f xs) le (closed_others f n xs i)),
)
closes_order {f} {time} {xs} n le (opens_and_closes was same) d i =
    let rest = distinct_others f xs d in
    let behind = closed_others f n (others f xs) (closed_others f n xs i) in (
      subst (λ l. Distinct l) (sym same)
          (alone f (others f xs) rest, distinct_others f (others f xs) rest),
      subst (λ l. ClosedInTime time l) (sym same)
          (omega arith, closed_later n time (others f (others f xs)) le behind),
    )

pub closes_same : {f : FiveTuple} {time : ℕ} {xs ys zs : List (FiveTuple × ℕ)}
    {may was now is : Bool} → zs ≡ ys → is ≡ now → Closes f time xs ys may was now
    → Closes f time xs zs may was is
closes_same {f} {time} {xs} {ys} {zs} {may} {was} {now} {is} same still h =
    subst (λ x. Closes f time xs zs may was x) (sym still)
    (subst (λ l. Closes f time xs l may was now) (sym same) h)

module _ {K : Type 0} (f : FiveTuple) where
  -- A connection changes, and none is closed by that.
  changed_closed : (g : Connection (TlsAnalysis K) → Connection (TlsAnalysis K))
      (o : Option (Connection (TlsAnalysis K))) (old new : Table (TlsAnalysis K))
      → new ≡ changing_at f g o old → new.closed ≡ old.closed
  changed_closed g None old new same = ap (λ t. t.closed) same
  changed_closed g (Some c) old new same = ap (λ t. t.closed) same

  first_closed : (R : Connection (TlsAnalysis K) → Connection (TlsAnalysis K) → Type 0)
      (o : Option (Connection (TlsAnalysis K))) (old new : Table (TlsAnalysis K))
      → ComesFirst f R o old new → new.closed ≡ old.closed
  first_closed R None old new same = ap (λ t. t.closed) same
  first_closed R (Some c) old new h = ap (λ t. t.closed) h.2

  settled_closed : (N : TlsAnalysis K → ℕ) (o : Option (Connection (TlsAnalysis K)))
      (old new : Table (TlsAnalysis K)) → IsSettled N f o old new → new.closed ≡ old.closed
  settled_closed N None old new same = ap (λ t. t.closed) same
  settled_closed N (Some c) old new is = ap (λ t. t.closed) is.1.stands

  settles_closed : (M : K → ℕ) (due : Bool) (old new : Table (TlsAnalysis K))
      → Settles M due f old new → new.closed ≡ old.closed
  settles_closed M true old new is = settled_closed _ (at f old.live) old new is
  settles_closed M false old new same = ap (λ t. t.closed) same

  lent_closed : (o : Option (Connection (TlsAnalysis K))) (old new : Table (TlsAnalysis K))
      → IsLent f o old new → new.closed ≡ old.closed
  lent_closed None old new same = ap (λ t. t.closed) same
  lent_closed (Some c) old new h = ap (λ t. t.closed) h.2

  -- The connection is open still, if it was.
  written_still : (old new : Table (TlsAnalysis K)) (c w : Connection (TlsAnalysis K))
      → at f old.live ≡ Some c → new.live ≡ set_value (is_five_tuple f) old.live w
      → is_some (at f new.live) ≡ is_some (at f old.live)
  written_still old new c w found stands =
      ap is_some (ap (at f) stands ∙ at_written f old.live c w found) ∙ sym (ap is_some found)

  settled_still : (N : TlsAnalysis K → ℕ) (o : Option (Connection (TlsAnalysis K)))
      (old new : Table (TlsAnalysis K)) → at f old.live ≡ o → IsSettled N f o old new
      → is_some (at f new.live) ≡ is_some (at f old.live)
  settled_still N None old new found same = ap (λ t. is_some (at f t.live)) same
  settled_still N (Some c) old new found is =
      written_still old new c is.0 found (ap (λ t. t.live) is.1.stands)

  settles_still : (M : K → ℕ) (due : Bool) (old new : Table (TlsAnalysis K))
      → Settles M due f old new → is_some (at f new.live) ≡ is_some (at f old.live)
  settles_still M true old new is = settled_still _ (at f old.live) old new refl is
  settles_still M false old new same = ap (λ t. is_some (at f t.live)) same

  lent_still : (o : Option (Connection (TlsAnalysis K))) (old new : Table (TlsAnalysis K))
      → at f old.live ≡ o → IsLent f o old new
      → is_some (at f new.live) ≡ is_some (at f old.live)
  lent_still None old new found same = ap (λ t. is_some (at f t.live)) same
  lent_still (Some c) old new found h =
      written_still old new c h.0 found (ap (λ t. t.live) h.2)

module _ {K : Type 0} (s : Segment) where
  -- Pending segments are analyzed first.
  one_closed : {old new : Table (TlsAnalysis K)} {b : Bool} → AnalyzesOne s old new b
      → new.closed ≡ old.closed
  one_closed {old} {new} (none is same) =
      changed_closed (five_tuple_of s) _ (at (five_tuple_of s) old.live) old new same
  one_closed {old} {new} (had is same) =
      changed_closed (five_tuple_of s) _ (at (five_tuple_of s) old.live) old new same
  one_closed {old} {new} (taken k is receives) =
      first_closed (five_tuple_of s) _ _ _ new receives
      ∙ changed_closed (five_tuple_of s) _ (at (five_tuple_of s) old.live) old _ refl

  acknowledged_closed : {n : ℕ} {old new : Table (TlsAnalysis K)}
      → AnalyzesAcknowledged s n old new → new.closed ≡ old.closed
  acknowledged_closed (enough t) = refl
  acknowledged_closed (no_more n t u receives) = one_closed receives
  acknowledged_closed (one_then m n t mid u less receives rest) =
      acknowledged_closed rest ∙ one_closed receives

  -- The connection of an analyzed segment ends if it is closed.
  abbrev left_by : Option (Connection (TlsAnalysis K)) → Table (TlsAnalysis K)
      → Table (TlsAnalysis K)
  left_by o mid = if is_some o then record {
    live = others (five_tuple_of s) mid.live;
    closed = (five_tuple_of s, s.time) ∷ others (five_tuple_of s) mid.closed;
    held =
        mid.held - weight_of (at (five_tuple_of s) mid.live);
  } else mid

  -- It is the one of its five-tuple, or is none if it ended.
  stands_first : (old mid : Table (TlsAnalysis K)) (h : AnalyzesSegment IsReady s old mid)
      → at (five_tuple_of s) mid.live ≡ Some h.its
  stands_first old mid h =
      ap (at (five_tuple_of s)) h.stands
      ∙ at_first (five_tuple_of s) (others (five_tuple_of s) old.live) h.its

  without_first : (old mid : Table (TlsAnalysis K)) (h : AnalyzesSegment IsReady s old mid)
      → others (five_tuple_of s) mid.live ≡ others (five_tuple_of s) old.live
  without_first old mid h =
      ap (others (five_tuple_of s)) h.stands
      ∙ others-first (five_tuple_of s) (others (five_tuple_of s) old.live) h.its

  -- It began with the segment.
  begun_closes : (old mid new : Table (TlsAnalysis K)) (o : Option (Connection (TlsAnalysis K)))
      → at (five_tuple_of s) old.live ≡ None → AnalyzesSegment IsReady s old mid → new ≡ left_by o mid
      → Closes (five_tuple_of s) s.time old.closed new.closed true false
      (is_some (at (five_tuple_of s) new.live))
  begun_closes old mid new None missed h same =
      let reopened = h.closed
      ∙ ap (λ o. without_if (true && not (is_some o)) (five_tuple_of s) old.closed) missed in
      subst (λ x. Closes (five_tuple_of s) s.time old.closed new.closed true false (is_some x))
      (sym (ap (λ t. at (five_tuple_of s) t.live) same ∙ stands_first old mid h))
      (opens (ap (λ t. t.closed) same ∙ reopened))
  begun_closes old mid new (Some d) missed h same =
      let reopened = h.closed
      ∙ ap (λ o. without_if (true && not (is_some o)) (five_tuple_of s) old.closed) missed in
      subst (λ x. Closes (five_tuple_of s) s.time old.closed new.closed true false (is_some x))
      (sym (ap (λ t. at (five_tuple_of s) t.live) same
      ∙ ap (at (five_tuple_of s)) (without_first old mid h)
      ∙ removed_none (five_tuple_of s) (five_tuple_of s) old.live missed))
      (opens_and_closes false
      (ap (λ t. t.closed) same
      ∙ ap (λ l. (five_tuple_of s, s.time) ∷ others (five_tuple_of s) l) reopened))

  -- It was open before.
  open_stays : (old mid : Table (TlsAnalysis K)) (c : Connection (TlsAnalysis K))
      → at (five_tuple_of s) old.live ≡ Some c → AnalyzesSegment IsReady s old mid
      → mid.closed ≡ old.closed
  open_stays old mid c found h =
      h.closed ∙ ap (λ o. without_if (true && not (is_some o)) (five_tuple_of s) old.closed) found

  open_closes : (base old mid new : Table (TlsAnalysis K))
      (c : Connection (TlsAnalysis K)) (o : Option (Connection (TlsAnalysis K)))
      → old.closed ≡ base.closed
      → others (five_tuple_of s) old.live ≡ others (five_tuple_of s) base.live
      → at (five_tuple_of s) (others (five_tuple_of s) base.live) ≡ None
      → at (five_tuple_of s) old.live ≡ Some c → AnalyzesSegment IsReady s old mid
      → new ≡ left_by o mid
      → Closes (five_tuple_of s) s.time base.closed new.closed true true
      (is_some (at (five_tuple_of s) new.live))
  open_closes base old mid new c None kept rest single found h same =
      subst (λ x. Closes (five_tuple_of s) s.time base.closed new.closed true true (is_some x))
      (sym (ap (λ t. at (five_tuple_of s) t.live) same ∙ stands_first old mid h))
      (lasts (ap (λ t. t.closed) same ∙ open_stays old mid c found h ∙ kept))
  open_closes base old mid new c (Some d) kept rest single found h same =
      subst (λ x. Closes (five_tuple_of s) s.time base.closed new.closed true true (is_some x))
      (sym (ap (λ t. at (five_tuple_of s) t.live) same
      ∙ ap (at (five_tuple_of s)) (without_first old mid h ∙ rest) ∙ single))
      (closes true
      (ap (λ t. t.closed) same
      ∙ ap (λ l. (five_tuple_of s, s.time) ∷ others (five_tuple_of s) l)
      (open_stays old mid c found h ∙ kept)))

  taken_closes : (base old new : Table (TlsAnalysis K))
      (over : Option (Connection (TlsAnalysis K))) (c : Connection (TlsAnalysis K))
      → old.closed ≡ base.closed
      → others (five_tuple_of s) old.live ≡ others (five_tuple_of s) base.live
      → at (five_tuple_of s) (others (five_tuple_of s) base.live) ≡ None
      → at (five_tuple_of s) old.live ≡ Some c → TakesIf (belongs s old) s old new over
      → Closes (five_tuple_of s) s.time base.closed new.closed true true
      (is_some (at (five_tuple_of s) new.live))
  taken_closes base old new over c kept rest single found h =
      let its = subst (λ b. TakesIf b s old new over) (belongs_open s old c found) h in
      open_closes base old its.0 new c (ended (five_tuple_of s) its.0) kept rest single found its.1
      its.2.left

  behind_closes : (acknowledges : Bool) (old new : Table (TlsAnalysis K))
      (over : Option (Connection (TlsAnalysis K))) (c : Connection (TlsAnalysis K))
      → at (five_tuple_of s) old.live ≡ Some c
      → at (five_tuple_of s) (others (five_tuple_of s) old.live) ≡ None
      → TakesBehind acknowledges s old new over
      → Closes (five_tuple_of s) s.time old.closed new.closed true true
      (is_some (at (five_tuple_of s) new.live))
  behind_closes false old new over c found single h =
      taken_closes old old new over c refl refl single found h
  behind_closes true old new over c found single h =
      let still = acknowledged_open s c h.1 found in
      taken_closes old h.0 new over still.1.0 (acknowledged_closed h.1) still.0 single still.1.1 h.2

  -- It changes, and stays open.
  changed_lasts : (g : Connection (TlsAnalysis K) → Connection (TlsAnalysis K))
      (old new : Table (TlsAnalysis K)) (c : Connection (TlsAnalysis K))
      → at (five_tuple_of s) old.live ≡ Some c
      → new ≡ changing_at (five_tuple_of s) g (at (five_tuple_of s) old.live) old
      → Closes (five_tuple_of s) s.time old.closed new.closed true true
      (is_some (at (five_tuple_of s) new.live))
  changed_lasts g old new c found same =
      subst (λ x. Closes (five_tuple_of s) s.time old.closed new.closed true true (is_some x))
      (sym (ap (at (five_tuple_of s)) (changed_live (five_tuple_of s) g old new c found same)
      ∙ at_written (five_tuple_of s) old.live c (g c) found))
      (lasts (changed_closed (five_tuple_of s) g (at (five_tuple_of s) old.live) old new same))

  judged_closes : (j : Judgement) (acknowledges : Bool) (old new : Table (TlsAnalysis K))
      (over : Option (Connection (TlsAnalysis K))) (c : Connection (TlsAnalysis K))
      → at (five_tuple_of s) old.live ≡ Some c
      → at (five_tuple_of s) (others (five_tuple_of s) old.live) ≡ None
      → AcceptsJudged j acknowledges s old new over
      → Closes (five_tuple_of s) s.time old.closed new.closed true true
      (is_some (at (five_tuple_of s) new.live))
  judged_closes judgement.Taken acknowledges old new over c found single h =
      behind_closes acknowledges old new over c found single h
  judged_closes judgement.Again acknowledges old new over c found single h =
      behind_closes acknowledges old new over c found single h
  judged_closes (judgement.Waiting r) acknowledges old new over c found single h =
      changed_lasts (with_waiting r s) old new c found h.0
  judged_closes (judgement.Dropped r) acknowledges old new over c found single h =
      changed_lasts (dropping r s) old new c found h.0

  -- Another connection takes its place.
  replaced_closed : (old mid : Table (TlsAnalysis K)) (was : Option (Connection (TlsAnalysis K)))
      → Replaced s old mid was → mid.closed ≡ old.closed
  replaced_closed old mid None h = ap (λ t. t.closed) h.0
  replaced_closed old mid (Some c) h = ap (λ t. t.closed) h.stands

  logged_lasts : (old mid new : Table (TlsAnalysis K)) (c : Connection (TlsAnalysis K))
      → mid.closed ≡ old.closed → at (five_tuple_of s) mid.live ≡ Some c
      → Logs (belongs s mid) s mid new
      → Closes (five_tuple_of s) s.time old.closed new.closed true true
      (is_some (at (five_tuple_of s) new.live))
  logged_lasts old mid new c kept found logs =
      let its : AnalyzesSegment IsReady s mid new =
      subst (λ b. Logs b s mid new) (belongs_open s mid c found) logs in
      subst (λ x. Closes (five_tuple_of s) s.time old.closed new.closed true true (is_some x))
      (sym (stands_first mid new its)) (lasts (open_stays mid new c found its ∙ kept))

  verdict_closes : (shows begins_another : Bool) (j : Judgement) (acknowledges : Bool)
      (old new : Table (TlsAnalysis K)) (over : Option (Connection (TlsAnalysis K)))
      (c : Connection (TlsAnalysis K)) → at (five_tuple_of s) old.live ≡ Some c
      → at (five_tuple_of s) (others (five_tuple_of s) old.live) ≡ None
      → AcceptsIf shows begins_another j acknowledges s old new over
      → Closes (five_tuple_of s) s.time old.closed new.closed true true
      (is_some (at (five_tuple_of s) new.live))
  verdict_closes true begins_another j acknowledges old new over c found single h =
      let anew = subst (λ o. IsAnewAt s.time (five_tuple_of s) o old h.0) found h.1 in
      let still =
      written_open (five_tuple_of s) old h.0 c anew.0 found (ap (λ t. t.live) anew.2) in
      taken_closes old h.0 new over still.1.0 (ap (λ t. t.closed) anew.2) still.0 single still.1.1
      h.2
  verdict_closes false true j acknowledges old new over c found single h =
      let still = replaced_open s old h.mid h.was c found h.replaced in
      logged_lasts old h.mid new still.1.0 (replaced_closed old h.mid h.was h.replaced) still.1.1
      h.logs
  verdict_closes false false j acknowledges old new over c found single h =
      judged_closes j acknowledges old new over c found single h

  -- Without an open connection.
  stray_closes : (b : Bool) (old new : Table (TlsAnalysis K))
      (over : Option (Connection (TlsAnalysis K))) → at (five_tuple_of s) old.live ≡ None
      → TakesIf b s old new over
      → Closes (five_tuple_of s) s.time old.closed new.closed b false
      (is_some (at (five_tuple_of s) new.live))
  stray_closes true old new over missed h =
      begun_closes old h.0 new (ended (five_tuple_of s) h.0) missed h.1 h.2.left
  stray_closes false old new over missed h = strays false _ (ap (λ t. t.closed) h.0)

  abbrev may_begin : Table (TlsAnalysis K) → Bool
  may_begin t =
      begins_one s && (begins s || not (is_some (at (five_tuple_of s) t.closed)))

  segment_closes : (old new : Table (TlsAnalysis K))
      (o over : Option (Connection (TlsAnalysis K))) → at (five_tuple_of s) old.live ≡ o
      → at (five_tuple_of s) (others (five_tuple_of s) old.live) ≡ None
      → AcceptsAt (option_map (verdict_of s) o) s old new over
      → Closes (five_tuple_of s) s.time old.closed new.closed (is_some o || may_begin old)
      (is_some o) (is_some (at (five_tuple_of s) new.live))
  segment_closes old new None over missed single h =
      stray_closes (may_begin old) old new over missed
      (subst (λ o. TakesIf (is_some o || may_begin old) s old new over) missed h)
  segment_closes old new (Some c) over found single h =
      verdict_closes _ _ _ _ old new over c found single h

-- A datagram closes nothing.
module _ {K : Type 0} (d : Datagram) where
  damaged_closed : (o : Option (Connection (TlsAnalysis K))) (old new : Table (TlsAnalysis K))
      → DropsDatagramOf d o old new → new.closed ≡ old.closed
  damaged_closed None old new same = ap (λ t. t.closed) same
  damaged_closed (Some c) old new same = ap (λ t. t.closed) same

  after_closed : (o : Option (Connection (TlsAnalysis K))) (old new : Table (TlsAnalysis K))
      → BeginsAfter d o old new → new.closed ≡ old.closed
  after_closed None old new same = ap (λ t. t.closed) same
  after_closed (Some c) old new h = ap (λ t. t.closed) h.2

  unless_closed : (refused : Bool) (old new : Table (TlsAnalysis K))
      → BeginsUnless refused d old new → new.closed ≡ old.closed
  unless_closed true old new same = ap (λ t. t.closed) same
  unless_closed false old new h = h.closed

  delivered_closed : (way : Delivery) (old new : Table (TlsAnalysis K))
      (over : Option (Connection (TlsAnalysis K))) → AcceptsDelivered way d old new over
      → new.closed ≡ old.closed
  delivered_closed delivery.Received old new over h = h.0.closed
  delivered_closed delivery.Damaged old new over h =
      damaged_closed (at (five_tuple_of_datagram d) old.live) old new h.0
  delivered_closed delivery.BeginsAnother old new over h =
      h.logs.closed ∙ after_closed (at (five_tuple_of_datagram d) old.live) old h.mid h.begins
  delivered_closed delivery.NoneOpen old new over h =
      unless_closed (is_refused d.checksum) old new h.0

module _ {K : Type 0} where
  -- By which arrival whichever connections were closed.
  abbrev pub ClosesIn : Arrival → Table (TlsAnalysis K) → Table (TlsAnalysis K) → Type 0
  ClosesIn a old new =
      Closes (five_tuple_in a) (time_of a) old.closed new.closed
      (may_close a (is_some (at (five_tuple_in a) old.live)) (at (five_tuple_in a) old.closed))
      (is_some (at (five_tuple_in a) old.live)) (is_some (at (five_tuple_in a) new.live))

  takes_closes : (a : Arrival) (old new : Table (TlsAnalysis K))
      (over : Option (Connection (TlsAnalysis K)))
      → at (five_tuple_in a) (others (five_tuple_in a) old.live) ≡ None → Takes a old new over
      → ClosesIn a old new
  takes_closes (arrival.Segment s) old new over single h =
      segment_closes s old new (at (five_tuple_of s) old.live) over refl single h
  takes_closes (arrival.Datagram d) old new over single h =
      strays _ _ (delivered_closed d h.way old new over h.accepts)

  accepts_closes : (M : K → ℕ) (a : Arrival) (old new : Table (TlsAnalysis K))
      (over : Option (Connection (TlsAnalysis K)))
      → at (five_tuple_in a) (others (five_tuple_in a) old.live) ≡ None → Accepts M a old new over
      → ClosesIn a old new
  accepts_closes M a old new over single h =
      closes_same (settles_closed (five_tuple_in a) M h.is_due h.mid new h.settles)
      (settles_still (five_tuple_in a) M h.is_due h.mid new h.settles)
      (takes_closes a old h.mid over single h.takes)

module _ {K : Type 0} {M : K → ℕ} {a : Arrival} where
  pub arrives_closes : {old new : Table (TlsAnalysis K)}
      {before after : Option (List (Connection (TlsAnalysis K)))}
      (h : Arrives M a old new before after) → refused_in h ≡ []
      → at (five_tuple_in a) (others (five_tuple_in a) old.live) ≡ None → ClosesIn a old new
  arrives_closes {old} {new} (ends over accepts received) held single =
      accepts_closes M a old new (Some over) single accepts
  arrives_closes {old} {new} (goes_on mid accepts lent received) held single =
      closes_same (lent_closed (five_tuple_in a) (at (five_tuple_in a) mid.live) mid new lent)
      (lent_still (five_tuple_in a) (at (five_tuple_in a) mid.live) mid new refl lent)
      (accepts_closes M a old mid None single accepts)
  arrives_closes (has_no_memory mid over refuses others_stay ended_too) held single = cc
