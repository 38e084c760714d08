-- Which connections stay when an arrival is accepted.
use Rattle.std.proofs.Common.{◌≡◌, ℕ, ◌-◌, Bool, true, false, Option, Some, None, List, [], ◌∷◌, refl, ap, ◌∙◌}
use Rattle.std.specs.Prelude.{is_some, if◌then◌else◌}
use Rattle.std.specs.Map.{set_value}
use Rattle.std.specs.Option.{option_map}
use Rattle.arrivals.specs.Arrival.{five_tuple_in}
use Rattle.arrivals.specs.declared.arrival.Arrival.{Arrival}
use Rattle.arrivals.specs.declared.arrival.Arrival.TheVariants as arrival
use Rattle.connections.proofs.TableLemmas.{is_five_tuple-refl}
use Rattle.connections.specs.Connection.{verdict_of}
use Rattle.connections.specs.Datagram.{five_tuple_of_datagram}
use Rattle.connections.specs.FiveTuple.{is_five_tuple}
use Rattle.connections.specs.Memory.{IsSettled}
use Rattle.connections.specs.Segment.{five_tuple_of, is_refused}
use Rattle.connections.specs.Table.{BeginsAfter, ComesFirst, DropsDatagramOf, IsAnewAt, Replaced, Table, at, belongs, changing_at, ended, others, weight_of}
use Rattle.connections.specs.declared.connection.Connection.{Connection}
use Rattle.connections.specs.declared.datagram.Datagram.{Datagram}
use Rattle.connections.specs.declared.five_tuple.FiveTuple.{FiveTuple}
use Rattle.connections.specs.declared.receiver.Judgement.{Judgement}
use Rattle.connections.specs.declared.receiver.Judgement.TheVariants as judgement
use Rattle.connections.specs.declared.segment.Segment.{Segment}
use Rattle.log_connections.specs.declared.analysis.TlsAnalysis.{TlsAnalysis}
use Rattle.log_connections.specs.declared.exchanges.Delivery.{Delivery}
use Rattle.log_connections.specs.declared.exchanges.Delivery.TheVariants as delivery
use Rattle.log_runs.specs.Counting.{rest_of}
use Rattle.log_connections.specs.Log.{IsReady, Accepts, AcceptsAt, AcceptsDelivered, AcceptsIf, AcceptsJudged, BeginsUnless, AnalyzesAcknowledged, AnalyzesOne, AnalyzesSegment, Logs, LogsDatagram, Settles, Takes, TakesBehind, TakesIf, enough, had, no_more, none, one_then, taken}

module _ {X : Type 0} (f : FiveTuple) where
  rest-first : (xs : List (FiveTuple × X)) (w : X) → rest_of f ((f, w) ∷ xs) ≡ rest_of f xs
  rest-first xs w = rw (is_five_tuple-refl f) refl

  rest-others : (xs : List (FiveTuple × X)) → rest_of f (others f xs) ≡ rest_of f xs
  rest-others [] = refl
  rest-others (y ∷ xs) = (elim (is_five_tuple f y.0) as
      (λ b. is_five_tuple f y.0 ≡ b → rest_of f (others f (y ∷ xs)) ≡ rest_of f (y ∷ xs)) [
        | true ↦ λ t. rw t refl
        | false ↦ λ t. rw (t, t) (ap (λ l. y ∷ l) (rest-others xs))
      ]) refl

  pub rest-written : (xs : List (FiveTuple × X)) (w : X)
      → rest_of f (set_value (is_five_tuple f) xs w) ≡ rest_of f xs
  rest-written [] w = refl
  rest-written (y ∷ xs) w = (elim (is_five_tuple f y.0) as
      (λ b. is_five_tuple f y.0 ≡ b
      → rest_of f (set_value (is_five_tuple f) (y ∷ xs) w) ≡ rest_of f (y ∷ xs)) [
        | true ↦ λ t. rw (t, t) refl
        | false ↦ λ t. rw (t, t) (ap (λ l. y ∷ l) (rest-written xs w))
      ]) refl

  rest-put : (xs ys : List (FiveTuple × X)) (w : X) → ys ≡ (f, w) ∷ others f xs
      → rest_of f ys ≡ rest_of f xs
  rest-put xs ys w stands =
      ap (rest_of f) stands ∙ rest-first (others f xs) w ∙ rest-others xs

module _ {K : Type 0} (f : FiveTuple) where
  abbrev pub Stay : Table (TlsAnalysis K) → Table (TlsAnalysis K) → Type 0
  Stay old new = rest_of f new.live ≡ rest_of f old.live

  same_table : (old new : Table (TlsAnalysis K)) → new ≡ old → Stay old new
  same_table old new same = ap (λ t. rest_of f t.live) same

  by_live : (old new : Table (TlsAnalysis K))
      (xs : List (FiveTuple × Connection (TlsAnalysis K))) → new.live ≡ xs
      → rest_of f xs ≡ rest_of f old.live → Stay old new
  by_live old new xs same h = ap (rest_of f) same ∙ h

  pub changed_at : (g : Connection (TlsAnalysis K) → Connection (TlsAnalysis K))
      (o : Option (Connection (TlsAnalysis K))) (old new : Table (TlsAnalysis K))
      → new ≡ changing_at f g o old → Stay old new
  changed_at g None old new same = same_table old new same
  changed_at g (Some c) old new same =
      same_table _ new same ∙ rest-written f old.live (g c)

  comes_first : (R : Connection (TlsAnalysis K) → Connection (TlsAnalysis K) → Type 0)
      (o : Option (Connection (TlsAnalysis K))) (old new : Table (TlsAnalysis K))
      → ComesFirst f R o old new → Stay old new
  comes_first R None old new same = same_table old new same
  comes_first R (Some c) old new h =
      rest-put f old.live new.live h.0 (ap (λ t. t.live) h.2)

  anew : (time : ℕ) (o : Option (Connection (TlsAnalysis K))) (old new : Table (TlsAnalysis K))
      → IsAnewAt time f o old new → Stay old new
  anew time None old new same = same_table old new same
  anew time (Some c) old new h = same_table _ new h.2 ∙ rest-written f old.live h.0

  closed : (time : ℕ) (o : Option (Connection (TlsAnalysis K))) (old new : Table (TlsAnalysis K))
      → new ≡ (if is_some o then record {
        live = others f old.live;
        closed = (f, time) ∷ others f old.closed;
        held =
            old.held - weight_of (at f old.live);
      } else old)
      → Stay old new
  closed time None old new same = same_table old new same
  closed time (Some c) old new same = same_table _ new same ∙ rest-others f old.live

  settled_at : (N : TlsAnalysis K → ℕ) (o : Option (Connection (TlsAnalysis K)))
      (old new : Table (TlsAnalysis K)) → IsSettled N f o old new → Stay old new
  settled_at N None old new same = same_table old new same
  settled_at N (Some c) old new is = same_table _ new is.1.stands ∙ rest-written f old.live is.0

  settled : (M : K → ℕ) (due : Bool) (old new : Table (TlsAnalysis K))
      → Settles M due f old new → Stay old new
  settled M true old new is = settled_at _ (at f old.live) old new is
  settled M false old new same = same_table old new same

module _ {K : Type 0} (s : Segment) where
  analysis : (old new : Table (TlsAnalysis K)) → AnalyzesSegment IsReady s old new
      → Stay (five_tuple_of s) old new
  analysis old new h = rest-put (five_tuple_of s) old.live new.live h.its h.stands

  logged : (b : Bool) (old new : Table (TlsAnalysis K)) → Logs b s old new
      → Stay (five_tuple_of s) old new
  logged true old new h = analysis old new h
  logged false old new same = same_table (five_tuple_of s) old new same

  taken_if : (b : Bool) (old new : Table (TlsAnalysis K))
      (over : Option (Connection (TlsAnalysis K))) → TakesIf b s old new over
      → Stay (five_tuple_of s) old new
  taken_if true old new over h =
      closed (five_tuple_of s) s.time (ended (five_tuple_of s) h.0) h.0 new h.2.left
      ∙ analysis old h.0 h.1
  taken_if false old new over h = same_table (five_tuple_of s) old new h.0

  one_pending : {old new : Table (TlsAnalysis K)} {b : Bool} → AnalyzesOne s old new b
      → Stay (five_tuple_of s) old new
  one_pending {old} {new} (none is same) =
      changed_at (five_tuple_of s) _ (at (five_tuple_of s) old.live) old new same
  one_pending {old} {new} (had is same) =
      changed_at (five_tuple_of s) _ (at (five_tuple_of s) old.live) old new same
  one_pending {old} {new} (taken k is receives) =
      comes_first (five_tuple_of s) _ _ _ new receives
      ∙ changed_at (five_tuple_of s) _ (at (five_tuple_of s) old.live) old _ refl

  acknowledged : {n : ℕ} {old new : Table (TlsAnalysis K)} → AnalyzesAcknowledged s n old new
      → Stay (five_tuple_of s) old new
  acknowledged (enough t) = refl
  acknowledged (no_more n t u receives) = one_pending receives
  acknowledged (one_then m n t mid u less receives rest) = acknowledged rest ∙ one_pending receives

  behind : (acknowledges : Bool) (old new : Table (TlsAnalysis K))
      (over : Option (Connection (TlsAnalysis K))) → TakesBehind acknowledges s old new over
      → Stay (five_tuple_of s) old new
  behind false old new over h = taken_if (belongs s old) old new over h
  behind true old new over h = taken_if (belongs s h.0) h.0 new over h.2 ∙ acknowledged h.1

  judged : (j : Judgement) (acknowledges : Bool) (old new : Table (TlsAnalysis K))
      (over : Option (Connection (TlsAnalysis K))) → AcceptsJudged j acknowledges s old new over
      → Stay (five_tuple_of s) old new
  judged judgement.Taken acknowledges old new over h = behind acknowledges old new over h
  judged judgement.Again acknowledges old new over h = behind acknowledges old new over h
  judged (judgement.Waiting r) acknowledges old new over h =
      changed_at (five_tuple_of s) _ (at (five_tuple_of s) old.live) old new h.0
  judged (judgement.Dropped r) acknowledges old new over h =
      changed_at (five_tuple_of s) _ (at (five_tuple_of s) old.live) old new h.0

  replaced : (old new : Table (TlsAnalysis K)) (was : Option (Connection (TlsAnalysis K)))
      → Replaced s old new was → Stay (five_tuple_of s) old new
  replaced old new None h = same_table (five_tuple_of s) old new h.0
  replaced old new (Some c) h =
      rest-put (five_tuple_of s) old.live new.live h.its (ap (λ t. t.live) h.stands)

  by_verdict : (shows begins : Bool) (j : Judgement) (acknowledges : Bool)
      (old new : Table (TlsAnalysis K)) (over : Option (Connection (TlsAnalysis K)))
      → AcceptsIf shows begins j acknowledges s old new over → Stay (five_tuple_of s) old new
  by_verdict true begins j acknowledges old new over h =
      taken_if (belongs s h.0) h.0 new over h.2
      ∙ anew (five_tuple_of s) s.time (at (five_tuple_of s) old.live) old h.0 h.1
  by_verdict false true j acknowledges old new over h =
      logged (belongs s h.mid) h.mid new h.logs ∙ replaced old h.mid h.was h.replaced
  by_verdict false false j acknowledges old new over h = judged j acknowledges old new over h

  segment_at : (old new : Table (TlsAnalysis K)) (o over : Option (Connection (TlsAnalysis K)))
      → AcceptsAt (option_map (verdict_of s) o) s old new over → Stay (five_tuple_of s) old new
  segment_at old new None over h = taken_if (belongs s old) old new over h
  segment_at old new (Some c) over h = by_verdict _ _ _ _ old new over h

module _ {K : Type 0} (d : Datagram) where
  datagram : (old new : Table (TlsAnalysis K)) → LogsDatagram IsReady d old new
      → Stay (five_tuple_of_datagram d) old new
  datagram old new h = rest-put (five_tuple_of_datagram d) old.live new.live h.its h.stands

  damaged : (o : Option (Connection (TlsAnalysis K))) (old new : Table (TlsAnalysis K))
      → DropsDatagramOf d o old new → Stay (five_tuple_of_datagram d) old new
  damaged None old new same = same_table (five_tuple_of_datagram d) old new same
  damaged (Some c) old new same =
      same_table (five_tuple_of_datagram d) _ new same
      ∙ rest-written (five_tuple_of_datagram d) old.live _

  after : (o : Option (Connection (TlsAnalysis K))) (old new : Table (TlsAnalysis K))
      → BeginsAfter d o old new → Stay (five_tuple_of_datagram d) old new
  after None old new same = same_table (five_tuple_of_datagram d) old new same
  after (Some c) old new h =
      same_table (five_tuple_of_datagram d) _ new h.2
      ∙ rest-written (five_tuple_of_datagram d) old.live h.0

  unless : (refused : Bool) (old new : Table (TlsAnalysis K)) → BeginsUnless refused d old new
      → Stay (five_tuple_of_datagram d) old new
  unless true old new same = same_table (five_tuple_of_datagram d) old new same
  unless false old new h = datagram old new h

  delivered : (way : Delivery) (old new : Table (TlsAnalysis K))
      (over : Option (Connection (TlsAnalysis K))) → AcceptsDelivered way d old new over
      → Stay (five_tuple_of_datagram d) old new
  delivered delivery.Received old new over h = datagram old new h.0
  delivered delivery.Damaged old new over h =
      damaged (at (five_tuple_of_datagram d) old.live) old new h.0
  delivered delivery.BeginsAnother old new over h =
      datagram h.mid new h.logs
      ∙ after (at (five_tuple_of_datagram d) old.live) old h.mid h.begins
  delivered delivery.NoneOpen old new over h = unless (is_refused d.checksum) old new h.0

module _ {K : Type 0} where
  taken_stay : (a : Arrival) (old new : Table (TlsAnalysis K))
      (over : Option (Connection (TlsAnalysis K))) → Takes a old new over
      → Stay (five_tuple_in a) old new
  taken_stay (arrival.Segment s) old new over h =
      segment_at s old new (at (five_tuple_of s) old.live) over h
  taken_stay (arrival.Datagram d) old new over h = delivered d h.way old new over h.accepts

  pub others_stay : (M : K → ℕ) (a : Arrival) (old new : Table (TlsAnalysis K))
      (over : Option (Connection (TlsAnalysis K))) → Accepts M a old new over
      → Stay (five_tuple_in a) old new
  others_stay M a old new over h =
      settled (five_tuple_in a) M h.is_due h.mid new h.settles
      ∙ taken_stay a old h.mid over h.takes
