-- What an arrival changes that its receiver doesn't take.
use Rattle.std.proofs.Common.{◌≡◌, ℕ, Bool, true, false, cond, Option, Some, None, List, [], ◌∷◌, refl, sym, ap, ◌∙◌, subst}
use Rattle.std.specs.Prelude.{◌&&◌, not}
use Rattle.std.specs.Map.{set_value}
use Rattle.std.specs.Option.{option_map}
use Rattle.arrivals.specs.Arrival.{five_tuple_in}
use Rattle.arrivals.specs.declared.arrival.Arrival.{Arrival}
use Rattle.arrivals.specs.declared.arrival.Arrival.TheVariants as arrival
use Rattle.connections.proofs.DropLemmas.{dropping_alone, waiting_alone}
use Rattle.connections.specs.Connection.{ChangesCountsAlone, dropped_from, dropping, is_kept, verdict_of, with_waiting}
use Rattle.connections.specs.Datagram.{five_tuple_of_datagram}
use Rattle.connections.specs.FiveTuple.{is_five_tuple}
use Rattle.connections.specs.Memory.{IsSettled}
use Rattle.connections.specs.Segment.{five_tuple_of, is_refused}
use Rattle.connections.specs.Table.{DropsDatagramOf, Table, at, belongs, changing_at}
use Rattle.connections.specs.declared.connection.Connection.{Connection}
use Rattle.connections.specs.declared.connection.Side.{Side}
use Rattle.connections.specs.declared.connection.Side.TheVariants.{Originator, Responder}
use Rattle.connections.specs.declared.datagram.Datagram.{Datagram}
use Rattle.connections.specs.declared.five_tuple.FiveTuple.{FiveTuple}
use Rattle.connections.specs.declared.receiver.DropReason.{DropReason}
use Rattle.connections.specs.declared.receiver.Judgement.{Judgement}
use Rattle.connections.specs.declared.receiver.Judgement.TheVariants as judgement
use Rattle.connections.specs.declared.segment.Segment.{Segment}
use Rattle.log_connections.specs.declared.analysis.TlsAnalysis.{TlsAnalysis}
use Rattle.log_connections.specs.declared.exchanges.Delivery.{Delivery}
use Rattle.log_connections.specs.declared.exchanges.Delivery.TheVariants as delivery
use Rattle.log_connections.specs.Log.{Accepts, AcceptsAt, AcceptsDelivered, AcceptsIf, BeginsUnless, Settles, Takes, TakesIf}
use Rattle.log_runs.specs.Dropped.{ChangesCounts, ChangesCountsAt, is_dropped, is_left_out, is_undelivered}

module _ {T : Type 0} where
  alone_same : (o : Option (Connection T)) → ChangesCountsAt o o
  alone_same None = tt
  alone_same (Some c) = refl

  alone_then : (a b c : Option (Connection T)) → ChangesCountsAt a b → ChangesCountsAt b c
      → ChangesCountsAt a c
  alone_then None None c h k = k
  alone_then None (Some x) c h k = absurd h
  alone_then (Some x) None c h k = absurd h
  alone_then (Some x) (Some y) None h k = absurd k
  alone_then (Some x) (Some y) (Some z) h k =
      k ∙ ap {A = Connection T} (λ d. record d {
        waiting = z.waiting;
        originator_dropped = z.originator_dropped;
        responder_dropped = z.responder_dropped;
        weight = z.weight;
      }) h

  -- Its accounted memory stays, too.
  alone_of : (c d : Connection T) → ChangesCountsAlone c d → ChangesCounts c d
  alone_of c d h =
      h ∙ ap (λ n. record c {
        waiting = d.waiting;
        originator_dropped = d.originator_dropped;
        responder_dropped = d.responder_dropped;
        weight = n;
      }) (sym (ap (λ x. x.weight) h))

  counts_of : (side : Side) (r : DropReason) (c : Connection T)
      → ChangesCounts c (dropped_from side r c)
  counts_of Originator r c = refl
  counts_of Responder r c = refl

  -- A five-tuple's connection is written in its place.
  written : (f : FiveTuple) (xs : List (FiveTuple × Connection T)) (c w : Connection T)
      → at f xs ≡ Some c → ChangesCounts c w → (e : FiveTuple)
      → ChangesCountsAt (at e xs) (at e (set_value (is_five_tuple f) xs w))
  written f [] c w found h e = cc
  written f (y ∷ xs) c w found h e = (elim (is_five_tuple f y.0) as
      (λ b. cond b (Some y.1) (at f xs) ≡ Some c
      → ChangesCountsAt (cond (is_five_tuple e y.0) (Some y.1) (at e xs))
      (at e (cond b ((y.0, w) ∷ xs) (y ∷ set_value (is_five_tuple f) xs w)))) [
        | true ↦ λ t. (elim (is_five_tuple e y.0) as
            (λ b. ChangesCountsAt (cond b (Some y.1) (at e xs)) (cond b (Some w) (at e xs))) [
              | true ↦ subst (λ o. ChangesCountsAt o (Some w)) (sym t) h
              | false ↦ alone_same (at e xs)
            ])
        | false ↦ λ t. (elim (is_five_tuple e y.0) as
            (λ b. ChangesCountsAt (cond b (Some y.1) (at e xs))
            (cond b (Some y.1) (at e (set_value (is_five_tuple f) xs w)))) [
              | true ↦ refl
              | false ↦ written f xs c w t h e
            ])
      ]) found

  -- In a table, each connection changes at most its counts.
  abbrev pub AllAlone : Table T → Table T → Type 0
  AllAlone old new = (e : FiveTuple) → ChangesCountsAt (at e old.live) (at e new.live)

  all_same : (old new : Table T) → new ≡ old → AllAlone old new
  all_same old new same e =
      subst (λ t. ChangesCountsAt (at e old.live) (at e t.live)) (sym same)
      (alone_same (at e old.live))

  all_by : (f : FiveTuple) (old new : Table T) (c w : Connection T) → at f old.live ≡ Some c
      → ChangesCounts c w → new.live ≡ set_value (is_five_tuple f) old.live w → AllAlone old new
  all_by f old new c w found h stands e =
      subst (λ l. ChangesCountsAt (at e old.live) (at e l)) (sym stands)
      (written f old.live c w found h e)

  all_then : (a b c : Table T) → AllAlone a b → AllAlone b c → AllAlone a c
  all_then a b c h k e = alone_then (at e a.live) (at e b.live) (at e c.live) (h e) (k e)

  all_changed : (f : FiveTuple) (g : Connection T → Connection T)
      → ((c : Connection T) → ChangesCounts c (g c)) → (o : Option (Connection T))
      (old new : Table T) → at f old.live ≡ o → new ≡ changing_at f g o old → AllAlone old new
  all_changed f g alone None old new missed same = all_same old new same
  all_changed f g alone (Some c) old new found same =
      all_by f old new c (g c) found (alone c) (ap (λ t. t.live) same)

  all_settled : (N : T → ℕ) (f : FiveTuple) (o : Option (Connection T)) (old new : Table T)
      → at f old.live ≡ o → IsSettled N f o old new → AllAlone old new
  all_settled N f None old new missed same = all_same old new same
  all_settled N f (Some c) old new found is =
      all_by f old new c is.0 found
      (is.1.same ∙ sym (ap (λ x. record c {
        waiting = x.waiting;
        originator_dropped = x.originator_dropped;
        responder_dropped = x.responder_dropped;
        weight = is.0.weight;
      }) is.1.same)) (ap (λ t. t.live) is.1.stands)

module _ {K : Type 0} where
  -- A segment.
  judged : (s : Segment) (j : Judgement) (acknowledges : Bool) (old new : Table (TlsAnalysis K))
      (over : Option (Connection (TlsAnalysis K))) → not (is_kept j) ≡ true
      → AcceptsIf false false j acknowledges s old new over → (over ≡ None) × AllAlone old new
  judged s judgement.Taken acknowledges old new over h is = cc
  judged s judgement.Again acknowledges old new over h is = cc
  judged s (judgement.Waiting r) acknowledges old new over h is = (
    is.1,
    all_changed (five_tuple_of s) (with_waiting r s)
        (λ c. alone_of c (with_waiting r s c) (waiting_alone r s c)) (at (five_tuple_of s) old.live)
        old new refl is.0,
  )
  judged s (judgement.Dropped r) acknowledges old new over h is = (
    is.1,
    all_changed (five_tuple_of s) (dropping r s)
        (λ c. alone_of c (dropping r s c) (dropping_alone r s c)) (at (five_tuple_of s) old.live)
        old new refl is.0,
  )

  by_verdict : (s : Segment) (shows begins : Bool) (j : Judgement) (acknowledges : Bool)
      (old new : Table (TlsAnalysis K)) (over : Option (Connection (TlsAnalysis K)))
      → (not shows && (not begins && not (is_kept j))) ≡ true
      → AcceptsIf shows begins j acknowledges s old new over → (over ≡ None) × AllAlone old new
  by_verdict s true begins j acknowledges old new over h is = cc
  by_verdict s false true j acknowledges old new over h is = cc
  by_verdict s false false j acknowledges old new over h is = judged s j acknowledges old new over h is

  stray : (s : Segment) (b : Bool) (old new : Table (TlsAnalysis K))
      (over : Option (Connection (TlsAnalysis K))) → not b ≡ true → TakesIf b s old new over
      → (over ≡ None) × AllAlone old new
  stray s true old new over h is = cc
  stray s false old new over h is = (is.1, all_same old new is.0)

  segment_left_out : (s : Segment) (old new : Table (TlsAnalysis K))
      (o over : Option (Connection (TlsAnalysis K)))
      → is_left_out (option_map (verdict_of s) o) (belongs s old) ≡ true
      → AcceptsAt (option_map (verdict_of s) o) s old new over
      → (over ≡ None) × AllAlone old new
  segment_left_out s old new None over h is = stray s (belongs s old) old new over h is
  segment_left_out s old new (Some c) over h is = by_verdict s _ _ _ _ old new over h is

  -- A datagram.
  damaged : (d : Datagram) (o : Option (Connection (TlsAnalysis K)))
      (old new : Table (TlsAnalysis K)) → at (five_tuple_of_datagram d) old.live ≡ o
      → DropsDatagramOf d o old new → AllAlone old new
  damaged d None old new missed same = all_same old new same
  damaged d (Some c) old new found same =
      all_by (five_tuple_of_datagram d) old new c _ found (counts_of _ _ c)
      (ap (λ t. t.live) same)

  unless : (d : Datagram) (refused : Bool) (old new : Table (TlsAnalysis K)) → refused ≡ true
      → BeginsUnless refused d old new → AllAlone old new
  unless d true old new h is = all_same old new is
  unless d false old new h is = cc

  datagram_left_out : (d : Datagram) (way : Delivery) (old new : Table (TlsAnalysis K))
      (over : Option (Connection (TlsAnalysis K)))
      → is_undelivered way (is_refused d.checksum) ≡ true → AcceptsDelivered way d old new over
      → (over ≡ None) × AllAlone old new
  datagram_left_out d delivery.Received old new over h is = cc
  datagram_left_out d delivery.Damaged old new over h is =
      (is.1, damaged d (at (five_tuple_of_datagram d) old.live) old new refl is.0)
  datagram_left_out d delivery.BeginsAnother old new over h is = cc
  datagram_left_out d delivery.NoneOpen old new over h is =
      (is.1, unless d (is_refused d.checksum) old new h is.0)

  taken_out : (a : Arrival) (old mid : Table (TlsAnalysis K))
      (over : Option (Connection (TlsAnalysis K))) (takes : Takes a old mid over)
      → is_dropped a old mid over takes ≡ true → (over ≡ None) × AllAlone old mid
  taken_out (arrival.Segment s) old mid over takes h =
      segment_left_out s old mid (at (five_tuple_of s) old.live) over h takes
  taken_out (arrival.Datagram d) old mid over takes h =
      datagram_left_out d takes.way old mid over h takes.accepts

  settled : (M : K → ℕ) (due : Bool) (f : FiveTuple) (old new : Table (TlsAnalysis K))
      → Settles M due f old new → AllAlone old new
  settled M true f old new is = all_settled _ f (at f old.live) old new refl is
  settled M false f old new same = all_same old new same

  pub dropped : (M : K → ℕ) (a : Arrival) (old new : Table (TlsAnalysis K))
      (over : Option (Connection (TlsAnalysis K))) (accepts : Accepts M a old new over)
      → is_dropped a old accepts.mid over accepts.takes ≡ true
      → (over ≡ None) × AllAlone old new
  dropped M a old new over accepts h =
      let taken = taken_out a old accepts.mid over accepts.takes h in (
        taken.0,
        all_then old accepts.mid new taken.1
            (settled M accepts.is_due (five_tuple_in a) accepts.mid new accepts.settles),
      )
