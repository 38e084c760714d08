-- How many connections have a five-tuple before and after an arrival is accepted.
use Rattle.std.proofs.Common.{◌≡◌, ℕ, ◌+◌, ◌-◌, Bool, true, false, Option, Some, None, List, ◌∷◌, refl, sym, ap, ◌∙◌, subst, arith}
use Rattle.std.specs.Prelude.{◌&&◌, not, is_some, if◌then◌else◌}
use Rattle.std.specs.Option.{option_and_then, option_map}
use Rattle.arrivals.specs.Arrival.{five_tuple_in}
use Rattle.arrivals.specs.declared.arrival.Arrival.{Arrival}
use Rattle.arrivals.specs.declared.arrival.Arrival.TheVariants as arrival
use Rattle.connections.proofs.TableLemmas.{at_first, at_written}
use Rattle.connections.specs.Connection.{another_of, is_closed, is_datagram_damaged, verdict_of}
use Rattle.connections.specs.Datagram.{five_tuple_of_datagram}
use Rattle.connections.specs.Memory.{IsSettled}
use Rattle.connections.specs.Segment.{five_tuple_of, is_refused}
use Rattle.connections.specs.Table.{BeginsAfter, ComesFirst, DropsDatagramOf, IsAnewAt, Replaced, Table, another_in, at, belongs, changing, changing_at, ended, others, weight_of, without_pending_segment}
use Rattle.connections.specs.Waiting.{Kept}
use Rattle.connections.specs.declared.connection.Connection.{Connection}
use Rattle.connections.specs.declared.datagram.Datagram.{Datagram}
use Rattle.connections.specs.declared.five_tuple.FiveTuple.{FiveTuple}
use Rattle.connections.specs.declared.receiver.Judgement.{Judgement}
use Rattle.connections.specs.declared.receiver.Judgement.TheVariants as judgement
use Rattle.connections.specs.declared.segment.Segment.{Segment}
use Rattle.log_connections.specs.Log.{AcceptsAt, AcceptsDelivered, AcceptsIf, AcceptsJudged, BeginsUnless, AnalyzesAcknowledged, AnalyzesKept, AnalyzesOne, AnalyzesPending, AnalyzesSegment, IsReady, IsDelivered, Logs, LogsDatagram, Settles, Takes, TakesBehind, TakesIf, enough, had, no_more, none, one_then, taken}
use Rattle.log_connections.specs.Sink.{EndsAs}
use Rattle.log_connections.specs.declared.analysis.TlsAnalysis.{TlsAnalysis}
use Rattle.log_connections.specs.declared.exchanges.Delivery.{Delivery}
use Rattle.log_connections.specs.declared.exchanges.Delivery.TheVariants as delivery
use Rattle.log_runs.proofs.CountLemmas.{count-begun, count-found, count-put, count-written}
use Rattle.log_runs.specs.Counting.{count_of, entry_of, times}
use Rattle.log_runs.specs.Runs.{begins_by, begins_exchange, begun_by, begun_if}

-- The verdict says that another connection begins.
some_another : {X : Type 0} (waits : Bool) (o : Option X) → (waits && is_some o) ≡ true → o ≡ None → ⊥
some_another true None h is = cc
some_another true (Some x) h is = cc
some_another false o h is = cc

module _ {K : Type 0} (e : FiveTuple) where
  -- As many have the five-tuple as before, less the one that came out, and with the one that began.
  abbrev pub Balances : FiveTuple → Bool → Table (TlsAnalysis K) → Table (TlsAnalysis K)
      → Option (Connection (TlsAnalysis K)) → Type 0
  Balances f begins old new over =
      count_of e new.live + count_of e (entry_of f over)
      ≡ count_of e old.live + times e (begun_if begins f)

  abbrev pub Keeps : Table (TlsAnalysis K) → Table (TlsAnalysis K) → Type 0
  Keeps old new = count_of e new.live ≡ count_of e old.live

  -- Nothing came out, and none began.
  keeping : (f : FiveTuple) (old new : Table (TlsAnalysis K))
      (over : Option (Connection (TlsAnalysis K))) → Keeps old new → over ≡ None
      → Balances f false old new over
  keeping f old new over kept out =
      omega (arith, kept, ap (λ o. count_of e (entry_of f o)) out)

  same_table : (old new : Table (TlsAnalysis K)) → new ≡ old → Keeps old new
  same_table old new same = ap (λ t. count_of e t.live) same

  -- The connection of a five-tuple changes in its place.
  pub changed_at : (f : FiveTuple) (g : Connection (TlsAnalysis K) → Connection (TlsAnalysis K))
      (o : Option (Connection (TlsAnalysis K))) (t : Table (TlsAnalysis K))
      → Keeps t (changing_at f g o t)
  changed_at f g None t = refl
  changed_at f g (Some c) t = count-written e f t.live (g c)

  open_changed : (f : FiveTuple) (g : Connection (TlsAnalysis K) → Connection (TlsAnalysis K))
      (t : Table (TlsAnalysis K)) (c : Connection (TlsAnalysis K)) → at f t.live ≡ Some c
      → at f (changing f g t).live ≡ Some (g c)
  open_changed f g t c found =
      subst (λ o. at f (changing_at f g o t).live ≡ Some (g c)) (sym found)
      (at_written f t.live c (g c) found)

  -- A packet is added to its connection, or begins one.
  put_count : (f : FiveTuple) (old : Table (TlsAnalysis K)) (ys : List (FiveTuple × Connection (TlsAnalysis K)))
      (its : Connection (TlsAnalysis K)) (o : Option (Connection (TlsAnalysis K)))
      → at f old.live ≡ o → ys ≡ (f, its) ∷ others f old.live
      → count_of e ys ≡ count_of e old.live + times e (begun_if (not (is_some o)) f)
  put_count f old ys its None missed stands =
      omega (arith, ap (count_of e) stands, count-begun e f old.live its missed)
  put_count f old ys its (Some c) found stands =
      omega (arith, ap (count_of e) stands, count-put e f old.live c its found)

  put_open : (f : FiveTuple) (xs ys : List (FiveTuple × Connection (TlsAnalysis K)))
      (its : Connection (TlsAnalysis K)) → ys ≡ (f, its) ∷ others f xs → at f ys ≡ Some its
  put_open f xs ys its stands = ap (at f) stands ∙ at_first f (others f xs) its

  -- A connection that both sides closed comes out.
  closed_is : (o : Option (Connection (TlsAnalysis K))) (c : Connection (TlsAnalysis K))
      → option_and_then (λ x. if is_closed x then Some x else None) o ≡ Some c → o ≡ Some c
  closed_is None c h = cc
  closed_is (Some x) c h = (elim (is_closed x) as
      (λ b. (if b then Some x else None) ≡ Some c
      → ◌≡◌ {A = Option (Connection (TlsAnalysis K))} (Some x) (Some c)) [
        | true ↦ λ h. h
        | false ↦ λ h. cc
      ]) h

  closed_out : (f : FiveTuple) (time : ℕ) (mid new : Table (TlsAnalysis K))
      (o over : Option (Connection (TlsAnalysis K))) → ended f mid ≡ o → EndsAs false o over
      → new ≡ (if is_some o then record {
        live = others f mid.live;
        closed = (f, time) ∷ others f mid.closed;
        held =
            mid.held - weight_of (at f mid.live);
      } else mid)
      → count_of e new.live + count_of e (entry_of f over) ≡ count_of e mid.live
  closed_out f time mid new None None is ends left = omega (arith, same_table mid new left)
  closed_out f time mid new None (Some d) is ends left = absurd ends
  closed_out f time mid new (Some c) None is ends left = absurd ends
  closed_out f time mid new (Some c) (Some d) is ends left =
      omega (
        arith,
        ap (λ t. count_of e t.live) left,
        count-found e f mid.live c (closed_is (at f mid.live) c is),
      )

  module _ (s : Segment) where
    received_count : (old new : Table (TlsAnalysis K)) (o : Option (Connection (TlsAnalysis K)))
        → at (five_tuple_of s) old.live ≡ o → AnalyzesSegment IsReady s old new
        → count_of e new.live
        ≡ count_of e old.live + times e (begun_if (not (is_some o)) (five_tuple_of s))
    received_count old new o found receives =
        put_count (five_tuple_of s) old new.live receives.its o found receives.stands

    taken_if : (b : Bool) (old new : Table (TlsAnalysis K))
        (o over : Option (Connection (TlsAnalysis K))) → at (five_tuple_of s) old.live ≡ o
        → TakesIf b s old new over
        → Balances (five_tuple_of s) (not (is_some o) && b) old new over
    taken_if true old new None over found h =
        omega (
          arith,
          received_count old h.0 None found h.1,
          closed_out (five_tuple_of s) s.time h.0 new (ended (five_tuple_of s) h.0) over refl
              h.2.ends h.2.left,
        )
    taken_if true old new (Some c) over found h =
        omega (
          arith,
          received_count old h.0 (Some c) found h.1,
          closed_out (five_tuple_of s) s.time h.0 new (ended (five_tuple_of s) h.0) over refl
              h.2.ends h.2.left,
        )
    taken_if false old new None over found h =
        keeping (five_tuple_of s) old new over (same_table old new h.0) h.1
    taken_if false old new (Some c) over found h =
        keeping (five_tuple_of s) old new over (same_table old new h.0) h.1

    -- A pending segment is taken out. Its connection stays open.
    abbrev pub StaysOpen : Table (TlsAnalysis K) → Table (TlsAnalysis K) → Type 0
    StaysOpen old new = Keeps old new
        × ((d : Connection (TlsAnalysis K)) × (at (five_tuple_of s) new.live ≡ Some d))

    without_pending_open : (old new : Table (TlsAnalysis K)) (c : Connection (TlsAnalysis K))
        → at (five_tuple_of s) old.live ≡ Some c → new ≡ without_pending_segment s old
        → StaysOpen old new
    without_pending_open old new c found same = (
      ap (λ t. count_of e t.live) same
          ∙ changed_at (five_tuple_of s) _ (at (five_tuple_of s) old.live) old,
      (
        _,
        ap (λ t. at (five_tuple_of s) t.live) same
            ∙ open_changed (five_tuple_of s) _ old c found,
      ),
    )

    comes_first_open : (R : Connection (TlsAnalysis K) → Connection (TlsAnalysis K) → Type 0)
        (mid new : Table (TlsAnalysis K)) (c : Connection (TlsAnalysis K))
        → at (five_tuple_of s) mid.live ≡ Some c
        → ComesFirst (five_tuple_of s) R (Some c) mid new → StaysOpen mid new
    comes_first_open R mid new c found h = (
      ap (λ t. count_of e t.live) h.2 ∙ count-put e (five_tuple_of s) mid.live c h.0 found,
      (
        h.0,
        ap (λ t. at (five_tuple_of s) t.live) h.2
            ∙ at_first (five_tuple_of s) (others (five_tuple_of s) mid.live) h.0,
      ),
    )

    pending_open : (k : Kept) (old mid new : Table (TlsAnalysis K))
        → StaysOpen old mid → AnalyzesPending IsReady (five_tuple_of s) k mid new → StaysOpen old new
    pending_open k old mid new h receives =
        let later = comes_first_open (AnalyzesKept IsReady k) mid new h.1.0 h.1.1
        (subst (λ o. ComesFirst (five_tuple_of s) (AnalyzesKept IsReady k) o mid new) h.1.1 receives) in
        (later.0 ∙ h.0, later.1)

    one_open : (old new : Table (TlsAnalysis K)) (b : Bool) (c : Connection (TlsAnalysis K))
        → at (five_tuple_of s) old.live ≡ Some c → AnalyzesOne s old new b → StaysOpen old new
    one_open old new b c found (none is same) = without_pending_open old new c found same
    one_open old new b c found (had is same) = without_pending_open old new c found same
    one_open old new b c found (taken k is receives) =
        pending_open k old (without_pending_segment s old) new
        (without_pending_open old (without_pending_segment s old) c found refl) receives

    acknowledged_open : {n : ℕ} {old new : Table (TlsAnalysis K)}
        (c : Connection (TlsAnalysis K)) → AnalyzesAcknowledged s n old new
        → at (five_tuple_of s) old.live ≡ Some c → StaysOpen old new
    acknowledged_open c (enough t) found = (refl, (c, found))
    acknowledged_open c (no_more n t u receives) found = one_open t u false c found receives
    acknowledged_open c (one_then m n t mid u less receives rest) found =
        let first = one_open t mid true c found receives in
        let later = acknowledged_open first.1.0 rest first.1.1 in
        (later.0 ∙ first.0, later.1)

    behind_count : (acknowledges : Bool) (old new : Table (TlsAnalysis K))
        (over : Option (Connection (TlsAnalysis K))) (c : Connection (TlsAnalysis K))
        → at (five_tuple_of s) old.live ≡ Some c → TakesBehind acknowledges s old new over
        → Balances (five_tuple_of s) false old new over
    behind_count false old new over c found h =
        taken_if (belongs s old) old new (Some c) over found h
    behind_count true old new over c found h =
        let open_still = acknowledged_open c h.1 found in
        omega (
          arith,
          open_still.0,
          taken_if (belongs s h.0) h.0 new (Some open_still.1.0) over open_still.1.1 h.2,
        )

    judged_count : (j : Judgement) (acknowledges : Bool) (old new : Table (TlsAnalysis K))
        (over : Option (Connection (TlsAnalysis K))) (c : Connection (TlsAnalysis K))
        → at (five_tuple_of s) old.live ≡ Some c → AcceptsJudged j acknowledges s old new over
        → Balances (five_tuple_of s) false old new over
    judged_count judgement.Taken acknowledges old new over c found h =
        behind_count acknowledges old new over c found h
    judged_count judgement.Again acknowledges old new over c found h =
        behind_count acknowledges old new over c found h
    judged_count (judgement.Waiting r) acknowledges old new over c found h =
        keeping (five_tuple_of s) old new over
        (same_table _ new h.0 ∙ changed_at (five_tuple_of s) _ (at (five_tuple_of s) old.live) old)
        h.1
    judged_count (judgement.Dropped r) acknowledges old new over c found h =
        keeping (five_tuple_of s) old new over
        (same_table _ new h.0 ∙ changed_at (five_tuple_of s) _ (at (five_tuple_of s) old.live) old)
        h.1

    -- It restarts, and stays open.
    anew_open : (old mid : Table (TlsAnalysis K)) (c : Connection (TlsAnalysis K))
        → at (five_tuple_of s) old.live ≡ Some c
        → IsAnewAt s.time (five_tuple_of s) (Some c) old mid → StaysOpen old mid
    anew_open old mid c found h = (
      ap (λ t. count_of e t.live) h.2 ∙ count-written e (five_tuple_of s) old.live h.0,
      (
        h.0,
        ap (λ t. at (five_tuple_of s) t.live) h.2
            ∙ at_written (five_tuple_of s) old.live c h.0 found,
      ),
    )

    logs_count : (b : Bool) (mid new : Table (TlsAnalysis K)) (c : Connection (TlsAnalysis K))
        → at (five_tuple_of s) mid.live ≡ Some c → Logs b s mid new → Keeps mid new
    logs_count true mid new c found h = omega (arith, received_count mid new (Some c) found h)
    logs_count false mid new c found h = same_table mid new h

    -- Another connection takes the place of the open one, which comes out.
    replaced_count : (old mid new : Table (TlsAnalysis K))
        (was over : Option (Connection (TlsAnalysis K))) (c : Connection (TlsAnalysis K))
        → at (five_tuple_of s) old.live ≡ Some c → (another_of s c ≡ None → ⊥)
        → Replaced s old mid was → Logs (belongs s mid) s mid new → EndsAs false was over
        → Balances (five_tuple_of s) true old new over
    replaced_count old mid new None over c found some h logs ends =
        absurd (some (subst (λ o. another_in s o ≡ None) found h.1))
    replaced_count old mid new (Some d) None c found some h logs ends = absurd ends
    replaced_count old mid new (Some d) (Some d') c found some h logs ends =
        omega (
          arith,
          logs_count (belongs s mid) mid new h.its
              (put_open (five_tuple_of s) old.live mid.live h.its (ap (λ t. t.live) h.stands)) logs,
          ap (λ t. count_of e t.live) h.stands,
          count-put e (five_tuple_of s) old.live c h.its found,
        )

    accepts_if : (shows begins : Bool) (j : Judgement) (acknowledges : Bool)
        (old new : Table (TlsAnalysis K)) (over : Option (Connection (TlsAnalysis K)))
        (c : Connection (TlsAnalysis K)) → at (five_tuple_of s) old.live ≡ Some c
        → (begins ≡ true → another_of s c ≡ None → ⊥)
        → AcceptsIf shows begins j acknowledges s old new over
        → Balances (five_tuple_of s) (not shows && begins) old new over
    accepts_if true begins j acknowledges old new over c found some h =
        let restarted = anew_open old h.0 c found
        (subst (λ o. IsAnewAt s.time (five_tuple_of s) o old h.0) found h.1) in
        omega (
          arith,
          restarted.0,
          taken_if (belongs s h.0) h.0 new (Some restarted.1.0) over restarted.1.1 h.2,
        )
    accepts_if false true j acknowledges old new over c found some h =
        replaced_count old h.mid new h.was over c found (some refl) h.replaced h.logs h.ends
    accepts_if false false j acknowledges old new over c found some h =
        judged_count j acknowledges old new over c found h

    accepts_at : (old new : Table (TlsAnalysis K)) (o over : Option (Connection (TlsAnalysis K)))
        → at (five_tuple_of s) old.live ≡ o
        → AcceptsAt (option_map (verdict_of s) o) s old new over
        → Balances (five_tuple_of s) (begins_by (option_map (verdict_of s) o) (belongs s old)) old
        new over
    accepts_at old new None over found h = taken_if (belongs s old) old new None over found h
    accepts_at old new (Some c) over found h =
        accepts_if _ _ _ _ old new over c found (some_another _ (another_of s c)) h

  module _ (d : Datagram) where
    logged_count : (old new : Table (TlsAnalysis K)) (o : Option (Connection (TlsAnalysis K)))
        → at (five_tuple_of_datagram d) old.live ≡ o → LogsDatagram IsReady d old new
        → count_of e new.live
        ≡ count_of e old.live + times e (begun_if (not (is_some o)) (five_tuple_of_datagram d))
    logged_count old new o found logs =
        put_count (five_tuple_of_datagram d) old new.live logs.its o found logs.stands

    damaged_count : (o : Option (Connection (TlsAnalysis K))) (old new : Table (TlsAnalysis K))
        → DropsDatagramOf d o old new → Keeps old new
    damaged_count None old new h = same_table old new h
    damaged_count (Some c) old new h =
        same_table _ new h ∙ count-written e (five_tuple_of_datagram d) old.live _

    is_open : (o : Option (Connection (TlsAnalysis K))) (b : Bool)
        → option_map (is_datagram_damaged d) o ≡ Some b
        → (c : Connection (TlsAnalysis K)) × (o ≡ Some c)
    is_open None b h = cc
    is_open (Some c) b h = (c, refl)

    is_missing : (o : Option (Connection (TlsAnalysis K)))
        → option_map (is_datagram_damaged d) o ≡ None → o ≡ None
    is_missing None h = refl
    is_missing (Some c) h = cc

    after_count : (old mid new : Table (TlsAnalysis K))
        (over : Option (Connection (TlsAnalysis K))) (c : Connection (TlsAnalysis K))
        → at (five_tuple_of_datagram d) old.live ≡ Some c → BeginsAfter d (Some c) old mid
        → LogsDatagram IsReady d mid new → EndsAs false (Some c) over
        → Balances (five_tuple_of_datagram d) true old new over
    after_count old mid new None c found begins logs ends = absurd ends
    after_count old mid new (Some c') c found begins logs ends =
        omega (
          arith,
          logged_count mid new (Some begins.0)
              (ap (λ t. at (five_tuple_of_datagram d) t.live) begins.2
              ∙ at_written (five_tuple_of_datagram d) old.live c begins.0 found) logs,
          ap (λ t. count_of e t.live) begins.2,
          count-written e (five_tuple_of_datagram d) old.live begins.0,
        )

    begins_unless : (refused : Bool) (old new : Table (TlsAnalysis K))
        (over : Option (Connection (TlsAnalysis K)))
        → at (five_tuple_of_datagram d) old.live ≡ None → BeginsUnless refused d old new
        → over ≡ None
        → Balances (five_tuple_of_datagram d) (not refused) old new over
    begins_unless true old new over missed h out =
        keeping (five_tuple_of_datagram d) old new over (same_table old new h) out
    begins_unless false old new over missed h out =
        omega (
          arith,
          logged_count old new None missed h,
          ap (λ o. count_of e (entry_of (five_tuple_of_datagram d) o)) out,
        )

    delivered_count : (way : Delivery) (old new : Table (TlsAnalysis K))
        (over : Option (Connection (TlsAnalysis K))) → IsDelivered way d old
        → AcceptsDelivered way d old new over
        → Balances (five_tuple_of_datagram d) (begins_exchange way (is_refused d.checksum)) old new
        over
    delivered_count delivery.Received old new over is h =
        let its = is_open (at (five_tuple_of_datagram d) old.live) false is.0 in
        omega (
          arith,
          logged_count old new (Some its.0) its.1 h.0,
          ap (λ o. count_of e (entry_of (five_tuple_of_datagram d) o)) h.1,
        )
    delivered_count delivery.Damaged old new over is h =
        keeping (five_tuple_of_datagram d) old new over
        (damaged_count (at (five_tuple_of_datagram d) old.live) old new h.0) h.1
    delivered_count delivery.BeginsAnother old new over is h =
        let its = is_open (at (five_tuple_of_datagram d) old.live) false is.0 in
        after_count old h.mid new over its.0 its.1
        (subst (λ o. BeginsAfter d o old h.mid) its.1 h.begins) h.logs
        (subst (λ o. EndsAs false o over) its.1 h.ends)
    delivered_count delivery.NoneOpen old new over is h =
        begins_unless (is_refused d.checksum) old new over
        (is_missing (at (five_tuple_of_datagram d) old.live) is) h.0 h.1

  pub takes_count : (a : Arrival) (old mid : Table (TlsAnalysis K))
      (over : Option (Connection (TlsAnalysis K))) (takes : Takes a old mid over)
      → count_of e mid.live + count_of e (entry_of (five_tuple_in a) over)
      ≡ count_of e old.live + times e (begun_by a old mid over takes)
  takes_count (arrival.Segment s) old mid over takes =
      accepts_at s old mid (at (five_tuple_of s) old.live) over refl takes
  takes_count (arrival.Datagram d) old mid over takes =
      delivered_count d takes.way old mid over takes.is takes.accepts

  settled_at : (N : TlsAnalysis K → ℕ) (f : FiveTuple) (o : Option (Connection (TlsAnalysis K)))
      (old new : Table (TlsAnalysis K)) → IsSettled N f o old new → Keeps old new
  settled_at N f None old new same = same_table old new same
  settled_at N f (Some c) old new is =
      same_table _ new is.1.stands ∙ count-written e f old.live is.0

  pub settles_count : (M : K → ℕ) (due : Bool) (f : FiveTuple) (old new : Table (TlsAnalysis K))
      → Settles M due f old new → Keeps old new
  settles_count M true f old new is = settled_at _ f (at f old.live) old new is
  settles_count M false f old new same = same_table old new same
