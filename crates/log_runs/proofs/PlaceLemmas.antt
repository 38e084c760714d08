-- Where an arrival leaves its connection among those of a table.
use Rattle.std.proofs.Common.{◌≡◌, ℕ, ◌-◌, Bool, true, false, Option, Some, None, List, [], ◌∷◌, refl, sym, ap, ◌∙◌, subst}
use Rattle.std.specs.Prelude.{◌&&◌, ◌||◌, ◌==◌, not, is_some, if◌then◌else◌}
use Rattle.std.specs.Map.{set_value}
use Rattle.std.specs.Option.{option_map}
use Rattle.arrivals.specs.Arrival.{five_tuple_in, time_of}
use Rattle.arrivals.specs.declared.arrival.Arrival.{Arrival}
use Rattle.arrivals.specs.declared.arrival.Arrival.TheVariants as arrival
use Rattle.connections.proofs.DropLemmas.{dropping_alone, waiting_alone}
use Rattle.connections.proofs.TableLemmas.{at_first, at_written, is_five_tuple-refl, others-first}
use Rattle.connections.specs.Connection.{adds_nothing, counted, counted_from, counts_from, dropped_from, dropping, has_opening, judgement_of, keeping_data, keeping_data_if, is_taken, noting, noting_from, part_by, side_of, silent, stream_of, verdict_of, with_waiting, Accepts as TakesIn, PutsData, PutsFrom, PutsPart, TakesBehind as CountsBehind}
use Rattle.connections.specs.Datagram.{five_tuple_of_datagram}
use Rattle.connections.specs.FiveTuple.{is_five_tuple}
use Rattle.connections.specs.Memory.{IsSettled}
use Rattle.connections.specs.Segment.{begins, begins_one, first_of, five_tuple_of, has_data, is_refused}
use Rattle.connections.specs.Table.{BeginsAfter, ComesFirst, DropsDatagramOf, IsAnewAt, Replaced, Table, TakesDatagram, TakesSegment, at, belongs, changing, changing_at, ended, others, weight_of, without_pending_segment}
use Rattle.connections.specs.declared.connection.Connection.{Connection}
use Rattle.connections.specs.declared.connection.Side.{Side}
use Rattle.connections.specs.declared.connection.Side.TheVariants.{Originator, Responder}
use Rattle.connections.specs.declared.datagram.Datagram.{Datagram}
use Rattle.connections.specs.declared.five_tuple.FiveTuple.{FiveTuple}
use Rattle.connections.specs.declared.five_tuple.Protocol.TheVariants.{Udp}
use Rattle.connections.specs.declared.receiver.DropReason.{DropReason}
use Rattle.connections.specs.declared.receiver.DropReason.TheVariants as reason
use Rattle.connections.specs.declared.receiver.Judgement.{Judgement}
use Rattle.connections.specs.declared.receiver.Judgement.TheVariants as judgement
use Rattle.connections.specs.declared.segment.Segment.{Segment}
use Rattle.connections.specs.Waiting.{Kept}
use Rattle.connections.specs.Lost.{end_of_side, lost_of, skipping_on, waits_before}
use Rattle.log_connections.specs.Analysis.{awaits_of, is_followed_in, is_front_in}
use Rattle.log_connections.specs.Sides.{AnalyzesIf, FollowsFrontIf, PassesUnless, SkipsIf, missing_of, other_of}
use Rattle.log_connections.specs.declared.analysis.TlsAnalysis.{TlsAnalysis}
use Rattle.log_connections.specs.declared.exchanges.Delivery.{Delivery}
use Rattle.log_connections.specs.declared.exchanges.Delivery.TheVariants as delivery
use Rattle.log_connections.specs.Log.{Accepts, AcceptsAt, AcceptsDelivered, AcceptsIf, AcceptsJudged, BeginsUnless, AnalyzesAcknowledged, AnalyzesKept, AnalyzesOne, AnalyzesPending, AnalyzesSegment, IsReady, AnalyzesSender, AnalyzesSide, AnalyzesWaiting, FollowsIf, FollowsOpened, Logs, LogsDatagram, Settles, Takes, TakesBehind, TakesIf, enough, had, no_more, none, one_then, taken}

module _ {T : Type 0} where
  -- The connection of a five-tuple ended; it came first, with this last time; it changed in its
  -- place, and its last time stayed; or nothing changed.
  pub data Placed (f : FiveTuple) (time : ℕ) (xs ys : List (FiveTuple × Connection T))
      : Type 0 where
    left : ys ≡ others f xs → Placed f time xs ys
    first :
        (c : Connection T) → c.last_time ≡ time → ys ≡ (f, c) ∷ others f xs
        → Placed f time xs ys
    in_place :
        (c d : Connection T) → at f xs ≡ Some c → d.last_time ≡ c.last_time
        → ys ≡ set_value (is_five_tuple f) xs d → Placed f time xs ys
    unchanged : ys ≡ xs → Placed f time xs ys

  -- A segment that is accepted notes its time.
  puts_time : (side : Side) (s : Segment) (old new : Connection T) → PutsFrom side s old new
      → new.last_time ≡ old.last_time
  puts_time Originator s old new h = ap {A = Connection T} (λ c. c.last_time) h.1
  puts_time Responder s old new h = ap {A = Connection T} (λ c. c.last_time) h.1

  keeping_time : (b : Bool) (s : Segment) (c : Connection T)
      → (keeping_data_if b s c).last_time ≡ c.last_time
  keeping_time true s c = refl
  keeping_time false s c = refl

  counted_time : (side : Side) (s : Segment) (c : Connection T)
      → (counted_from side s c).last_time ≡ s.time
  counted_time Originator s c = refl
  counted_time Responder s c = refl

  noting_time : (side : Side) (j : Judgement) (s : Segment) (c : Connection T)
      → (noting_from side j s c).last_time ≡ c.last_time
  noting_time Originator j s c = refl
  noting_time Responder j s c = refl

  data_time : (b : Bool) (s : Segment) (old new : Connection T) → PutsData b s old new
      → new.last_time ≡ old.last_time
  data_time true s old new h = ap {A = Connection T} (λ c. c.last_time) h
  data_time false s old new h = puts_time (side_of old s.source) s old new h

  part_time : (b : Bool) (j : Judgement) (s : Segment) (old new : Connection T)
      → PutsPart b j s old new → new.last_time ≡ old.last_time
  part_time true j s old new h =
      puts_time (side_of (keeping_data j s old) h.bare.source) h.bare (keeping_data j s old) new
      h.puts
      ∙ keeping_time (is_taken j && has_data s) s old
  part_time false j s old new h = data_time (adds_nothing j s) (part_by j s) old new h

  accepts_time : (s : Segment) (c its : Connection T) → TakesIn s c its → its.last_time ≡ s.time
  accepts_time s c its h =
      part_time (begins s) (judgement_of s c) s (noting (judgement_of s c) s (counted s c)) its h
      ∙ noting_time (side_of (counted s c) s.source) (judgement_of s c) s (counted s c)
      ∙ counted_time (side_of c s.source) s c

  takes_time : (s : Segment) (o : Option (Connection T)) (its : Connection T)
      → TakesSegment s o its → its.last_time ≡ s.time
  takes_time s None its h = accepts_time s h.0 its h.2
  takes_time s (Some c) its h = accepts_time s c its h

  -- So does a datagram.
  datagram_time : (side : Side) (d : Datagram) (c : Connection T)
      → (counts_from side d c).last_time ≡ d.time
  datagram_time Originator d c = refl
  datagram_time Responder d c = refl

  behind_time : (b : Bool) (d : Datagram) (old new : Connection T) → CountsBehind b d old new
      → new.last_time ≡ d.time
  behind_time true d old new h =
      ap {A = Connection T} (λ c. c.last_time) h.2
      ∙ datagram_time (side_of h.0 d.source) d h.0
  behind_time false d old new h =
      ap {A = Connection T} (λ c. c.last_time) h ∙ datagram_time (side_of old d.source) d old

  takes_datagram_time : (d : Datagram) (o : Option (Connection T)) (its : Connection T)
      → TakesDatagram d o its → its.last_time ≡ d.time
  takes_datagram_time d None its h =
      let begun : Connection T = silent Udp d.source d.destination d.time its.attachment in
      ap {A = Connection T} (λ c. c.last_time) h
      ∙ datagram_time (side_of begun d.source) d begun
  takes_datagram_time d (Some c) its h = behind_time _ d c its h

  dropped_time : (side : Side) (r : DropReason) (c : Connection T)
      → (dropped_from side r c).last_time ≡ c.last_time
  dropped_time Originator r c = refl
  dropped_time Responder r c = refl

  -- Lists of entries.
  written_others : (f : FiveTuple) (xs : List (FiveTuple × Connection T)) (w : Connection T)
      → others f (set_value (is_five_tuple f) xs w) ≡ others f xs
  written_others f [] w = refl
  written_others f (x ∷ xs) w = (elim (is_five_tuple f x.0) as
      (λ y. is_five_tuple f x.0 ≡ y
      → others f (set_value (is_five_tuple f) (x ∷ xs) w) ≡ others f (x ∷ xs)) [
        | true ↦ λ t. rw (t, t) refl
        | false ↦ λ t. rw (t, t) (ap (λ l. x ∷ l) (written_others f xs w))
      ]) refl

  written_again : (f : FiveTuple) (xs : List (FiveTuple × Connection T)) (v w : Connection T)
      → set_value (is_five_tuple f) (set_value (is_five_tuple f) xs v) w
      ≡ set_value (is_five_tuple f) xs w
  written_again f [] v w = refl
  written_again f (x ∷ xs) v w = (elim (is_five_tuple f x.0) as
      (λ y. is_five_tuple f x.0 ≡ y
      → set_value (is_five_tuple f) (set_value (is_five_tuple f) (x ∷ xs) v) w
      ≡ set_value (is_five_tuple f) (x ∷ xs) w) [
        | true ↦ λ t. rw (t, t) refl
        | false ↦ λ t. rw (t, t) (ap (λ l. x ∷ l) (written_again f xs v w))
      ]) refl

  one_value : (c d : Connection T) (o : Option (Connection T)) → o ≡ Some c → o ≡ Some d → c ≡ d
  one_value c d o h k = let both : ◌≡◌ {A = Option (Connection T)} (Some c) (Some d) = sym h ∙ k in cc

  -- It is then written once more in its place.
  pub then_written : {f : FiveTuple} {time : ℕ} {xs ys zs : List (FiveTuple × Connection T)}
      (c d : Connection T) → at f (others f xs) ≡ None → at f ys ≡ Some c
      → d.last_time ≡ c.last_time → zs ≡ set_value (is_five_tuple f) ys d
      → Placed f time xs ys → Placed f time xs zs
  then_written {f} {time} {xs} {ys} {zs} c d alone found late stands (left h) =
      let both : ◌≡◌ {A = Option (Connection T)} None (Some c) =
      sym alone ∙ ap (at f) (sym h) ∙ found in
      cc
  then_written {f} {time} {xs} {ys} {zs} c d alone found late stands (first b noted h) =
      let same_one = one_value c b (at f ys) found (ap (at f) h ∙ at_first f (others f xs) b) in
      first d (late ∙ ap (λ x. x.last_time) same_one ∙ noted)
      (stands ∙ ap (λ l. set_value (is_five_tuple f) l d) h
      ∙ rw (is_five_tuple-refl f) refl)
  then_written {f} {time} {xs} {ys} {zs} c d alone found late stands (in_place a b was noted h) =
      let same_one = one_value c b (at f ys) found (ap (at f) h ∙ at_written f xs a b was) in
      in_place a d was (late ∙ ap (λ x. x.last_time) same_one ∙ noted)
      (stands ∙ ap (λ l. set_value (is_five_tuple f) l d) h ∙ written_again f xs b d)
  then_written {f} {time} {xs} {ys} {zs} c d alone found late stands (unchanged h) =
      in_place c d (ap (at f) (sym h) ∙ found) late
      (stands ∙ ap (λ l. set_value (is_five_tuple f) l d) h)

  pub placed_same : {f : FiveTuple} {time : ℕ} {xs ys zs : List (FiveTuple × Connection T)}
      → zs ≡ ys → Placed f time xs ys → Placed f time xs zs
  placed_same {f} {time} {xs} is p = subst (λ l. Placed f time xs l) (sym is) p

module _ {K : Type 0} (f : FiveTuple) where
  -- The connection of the five-tuple stays open, wherever it is, and the others stay.
  abbrev pub StaysOpen : Table (TlsAnalysis K) → Table (TlsAnalysis K) → Type 0
  StaysOpen old new = (others f new.live ≡ others f old.live)
      × ((d : Connection (TlsAnalysis K)) × (at f new.live ≡ Some d))

  pub written_open : (old new : Table (TlsAnalysis K)) (c w : Connection (TlsAnalysis K))
      → at f old.live ≡ Some c → new.live ≡ set_value (is_five_tuple f) old.live w
      → StaysOpen old new
  written_open old new c w found stands = (
    ap (others f) stands ∙ written_others f old.live w,
    (w, ap (at f) stands ∙ at_written f old.live c w found),
  )

  put_open : (old new : Table (TlsAnalysis K)) (w : Connection (TlsAnalysis K))
      → new.live ≡ (f, w) ∷ others f old.live → StaysOpen old new
  put_open old new w stands = (
    ap (others f) stands ∙ others-first f (others f old.live) w,
    (w, ap (at f) stands ∙ at_first f (others f old.live) w),
  )

  pub changed_live : (g : Connection (TlsAnalysis K) → Connection (TlsAnalysis K))
      (old new : Table (TlsAnalysis K)) (c : Connection (TlsAnalysis K))
      → at f old.live ≡ Some c → new ≡ changing f g old
      → new.live ≡ set_value (is_five_tuple f) old.live (g c)
  changed_live g old new c found same =
      ap (λ t. t.live) same ∙ ap (λ o. (changing_at f g o old).live) found

  -- It ends if both sides closed it.
  closed_placed : (time : ℕ) (base : List (FiveTuple × Connection (TlsAnalysis K)))
      (mid new : Table (TlsAnalysis K)) (its : Connection (TlsAnalysis K))
      (o : Option (Connection (TlsAnalysis K))) → its.last_time ≡ time
      → mid.live ≡ (f, its) ∷ others f base
      → new ≡ (if is_some o then record {
        live = others f mid.live;
        closed = (f, time) ∷ others f mid.closed;
        held =
            mid.held - weight_of (at f mid.live);
      } else mid)
      → Placed f time base new.live
  closed_placed time base mid new its None noted stands same =
      first its noted (ap (λ t. t.live) same ∙ stands)
  closed_placed time base mid new its (Some c) noted stands same =
      left (ap (λ t. t.live) same ∙ ap (others f) stands ∙ others-first f (others f base) its)

module _ {K : Type 0} (s : Segment) where
  sender_time : (side : Side) (c c' : Connection (TlsAnalysis K)) → AnalyzesSender IsReady s side c c'
      → c'.last_time ≡ c.last_time
  sender_time Originator c c' h =
      ap {A = Connection (TlsAnalysis K)} (λ x. x.last_time) h.3
  sender_time Responder c c' h =
      ap {A = Connection (TlsAnalysis K)} (λ x. x.last_time) h.3

  waiting_time : (side : Side) (c d : Connection (TlsAnalysis K)) → AnalyzesWaiting side c d
      → d.last_time ≡ c.last_time
  waiting_time Originator c d h = ap {A = Connection (TlsAnalysis K)} (λ x. x.last_time) h.1
  waiting_time Responder c d h = ap {A = Connection (TlsAnalysis K)} (λ x. x.last_time) h.1

  opened_time : (b : Bool) (side : Side) (c d : Connection (TlsAnalysis K))
      → FollowsOpened b side c d → d.last_time ≡ c.last_time
  opened_time true side c d h =
      waiting_time side h.second d h.waiting
      ∙ ap {A = Connection (TlsAnalysis K)} (λ x. x.last_time) h.same
  opened_time false side c d h = ap {A = Connection (TlsAnalysis K)} (λ x. x.last_time) h

  followed_time : (b : Bool) (side : Side) (c d : Connection (TlsAnalysis K))
      → FollowsIf b side c d → d.last_time ≡ c.last_time
  followed_time true side c d h = opened_time (has_opening c) side c d h
  followed_time false side c d h = ap {A = Connection (TlsAnalysis K)} (λ x. x.last_time) h

  lost_time : (b : Bool) (side : Side) (c : Connection (TlsAnalysis K))
      → (if b then c else skipping_on side c).last_time ≡ c.last_time
  lost_time true side c = refl
  lost_time false Originator c = refl
  lost_time false Responder c = refl

  passed_time : (b : Bool) (side : Side) (n : ℕ) (c d : Connection (TlsAnalysis K))
      → PassesUnless b side n c d → d.last_time ≡ c.last_time
  passed_time true side n c d h =
      ap {A = Connection (TlsAnalysis K)} (λ x. x.last_time) h
      ∙ lost_time (waits_before (end_of_side side c) n c.waiting) side c
  passed_time false side n c d h =
      ap {A = Connection (TlsAnalysis K)} (λ x. x.last_time) h.2
      ∙ lost_time (waits_before (end_of_side side c) n c.waiting) side c

  skipped_time : (b : Bool) (side : Side) (n : ℕ) (c d : Connection (TlsAnalysis K))
      → SkipsIf b side n c d → d.last_time ≡ c.last_time
  skipped_time true side n c d h = passed_time (lost_of side n c == 0) side n c d h
  skipped_time false side n c d h = ap {A = Connection (TlsAnalysis K)} (λ x. x.last_time) h

  searched_time : (b : Bool) (side : Side) (c d : Connection (TlsAnalysis K))
      → AnalyzesIf b side c d → d.last_time ≡ c.last_time
  searched_time true side c d h = waiting_time side c d h
  searched_time false side c d h = ap {A = Connection (TlsAnalysis K)} (λ x. x.last_time) h

  front_time : (b : Bool) (side : Side) (c d : Connection (TlsAnalysis K))
      → FollowsFrontIf b s side c d → d.last_time ≡ c.last_time
  front_time true side c d h =
      followed_time (is_followed_in h.third.attachment.transport) side h.third d h.follows
      ∙ searched_time
      (not (missing_of (other_of side) (stream_of (other_of side) c).last c == 0)
      && not (is_followed_in h.second.attachment.transport)) side h.second h.third h.searches
      ∙ skipped_time (awaits_of side h.first.attachment) side (first_of s) h.first h.second
      h.skips_own
      ∙ skipped_time (awaits_of (other_of side) c.attachment) (other_of side)
      (stream_of (other_of side) c).last c h.first h.skips_other
  front_time false side c d h = ap {A = Connection (TlsAnalysis K)} (λ x. x.last_time) h

  analyzed_time : (side : Side) (c c' : Connection (TlsAnalysis K)) → AnalyzesSide IsReady s side c c'
      → c'.last_time ≡ c.last_time
  analyzed_time side c c' h =
      sender_time side h.0 c' h.2
      ∙ front_time (has_data s && is_front_in c.attachment.transport) side c h.0 h.1

  segment_time : (old new : Table (TlsAnalysis K)) (h : AnalyzesSegment IsReady s old new)
      → h.its.last_time ≡ s.time
  segment_time old new h =
      analyzed_time (side_of h.put s.source) h.put h.its h.receives
      ∙ takes_time s (at (five_tuple_of s) old.live) h.put h.takes

  taken_placed : (base : List (FiveTuple × Connection (TlsAnalysis K)))
      (old new : Table (TlsAnalysis K)) (over : Option (Connection (TlsAnalysis K)))
      → others (five_tuple_of s) old.live ≡ others (five_tuple_of s) base
      → TakesIf true s old new over → Placed (five_tuple_of s) s.time base new.live
  taken_placed base old new over rest h =
      closed_placed (five_tuple_of s) s.time base h.0 new h.1.its (ended (five_tuple_of s) h.0)
      (segment_time old h.0 h.1)
      (h.1.stands ∙ ap (λ l. (five_tuple_of s, h.1.its) ∷ l) rest)
      h.2.left

  pub belongs_open : (t : Table (TlsAnalysis K)) (c : Connection (TlsAnalysis K))
      → at (five_tuple_of s) t.live ≡ Some c → belongs s t ≡ true
  belongs_open t c found =
      ap (λ o. is_some o
      || (begins_one s && (begins s || not (is_some (at (five_tuple_of s) t.closed))))) found

  taken_open : (base : List (FiveTuple × Connection (TlsAnalysis K)))
      (old new : Table (TlsAnalysis K)) (over : Option (Connection (TlsAnalysis K)))
      (c : Connection (TlsAnalysis K))
      → others (five_tuple_of s) old.live ≡ others (five_tuple_of s) base
      → at (five_tuple_of s) old.live ≡ Some c → TakesIf (belongs s old) s old new over
      → Placed (five_tuple_of s) s.time base new.live
  taken_open base old new over c rest found h =
      taken_placed base old new over rest
      (subst (λ b. TakesIf b s old new over) (belongs_open old c found) h)

  -- Pending segments are analyzed first.
  without_pending_open : (old new : Table (TlsAnalysis K)) (c : Connection (TlsAnalysis K))
      → at (five_tuple_of s) old.live ≡ Some c → new ≡ without_pending_segment s old
      → StaysOpen (five_tuple_of s) old new
  without_pending_open old new c found same =
      written_open (five_tuple_of s) old new c _ found
      (changed_live (five_tuple_of s) _ old new c found same)

  pending_open : (k : Kept) (old mid new : Table (TlsAnalysis K))
      → StaysOpen (five_tuple_of s) old mid → AnalyzesPending IsReady (five_tuple_of s) k mid new
      → StaysOpen (five_tuple_of s) old new
  pending_open k old mid new h receives =
      let its =
      subst (λ o. ComesFirst (five_tuple_of s) (AnalyzesKept IsReady k) o mid new) h.1.1 receives in
      let later = put_open (five_tuple_of s) mid new its.0 (ap (λ t. t.live) its.2) in
      (later.0 ∙ h.0, later.1)

  one_open : (old new : Table (TlsAnalysis K)) (b : Bool) (c : Connection (TlsAnalysis K))
      → at (five_tuple_of s) old.live ≡ Some c → AnalyzesOne s old new b
      → StaysOpen (five_tuple_of s) old new
  one_open old new b c found (none is same) = without_pending_open old new c found same
  one_open old new b c found (had is same) = without_pending_open old new c found same
  one_open old new b c found (taken k is receives) =
      pending_open k old (without_pending_segment s old) new
      (without_pending_open old (without_pending_segment s old) c found refl) receives

  pub acknowledged_open : {n : ℕ} {old new : Table (TlsAnalysis K)} (c : Connection (TlsAnalysis K))
      → AnalyzesAcknowledged s n old new → at (five_tuple_of s) old.live ≡ Some c
      → StaysOpen (five_tuple_of s) old new
  acknowledged_open c (enough t) found = (refl, (c, found))
  acknowledged_open c (no_more n t u receives) found = one_open t u false c found receives
  acknowledged_open c (one_then m n t mid u less receives rest) found =
      let first_one = one_open t mid true c found receives in
      let later = acknowledged_open first_one.1.0 rest first_one.1.1 in
      (later.0 ∙ first_one.0, later.1)

  behind_placed : (acknowledges : Bool) (old new : Table (TlsAnalysis K))
      (over : Option (Connection (TlsAnalysis K))) (c : Connection (TlsAnalysis K))
      → at (five_tuple_of s) old.live ≡ Some c → TakesBehind acknowledges s old new over
      → Placed (five_tuple_of s) s.time old.live new.live
  behind_placed false old new over c found h = taken_open old.live old new over c refl found h
  behind_placed true old new over c found h =
      let still = acknowledged_open c h.1 found in
      taken_open old.live h.0 new over still.1.0 still.0 still.1.1 h.2

  judged_placed : (j : Judgement) (acknowledges : Bool) (old new : Table (TlsAnalysis K))
      (over : Option (Connection (TlsAnalysis K))) (c : Connection (TlsAnalysis K))
      → at (five_tuple_of s) old.live ≡ Some c → AcceptsJudged j acknowledges s old new over
      → Placed (five_tuple_of s) s.time old.live new.live
  judged_placed judgement.Taken acknowledges old new over c found h =
      behind_placed acknowledges old new over c found h
  judged_placed judgement.Again acknowledges old new over c found h =
      behind_placed acknowledges old new over c found h
  judged_placed (judgement.Waiting r) acknowledges old new over c found h =
      in_place c (with_waiting r s c) found
      (ap {A = Connection (TlsAnalysis K)} (λ x. x.last_time) (waiting_alone r s c))
      (changed_live (five_tuple_of s) (with_waiting r s) old new c found h.0)
  judged_placed (judgement.Dropped r) acknowledges old new over c found h =
      in_place c (dropping r s c) found
      (ap {A = Connection (TlsAnalysis K)} (λ x. x.last_time) (dropping_alone r s c))
      (changed_live (five_tuple_of s) (dropping r s) old new c found h.0)

  -- Another connection takes the place of the open one.
  pub replaced_open : (old mid : Table (TlsAnalysis K)) (was : Option (Connection (TlsAnalysis K)))
      (c : Connection (TlsAnalysis K)) → at (five_tuple_of s) old.live ≡ Some c
      → Replaced s old mid was → StaysOpen (five_tuple_of s) old mid
  replaced_open old mid None c found h = (
    ap (λ t. others (five_tuple_of s) t.live) h.0,
    (c, ap (λ t. at (five_tuple_of s) t.live) h.0 ∙ found),
  )
  replaced_open old mid (Some d) c found h =
      put_open (five_tuple_of s) old mid h.its (ap (λ t. t.live) h.stands)

  logs_placed : (base : List (FiveTuple × Connection (TlsAnalysis K)))
      (mid new : Table (TlsAnalysis K)) (c : Connection (TlsAnalysis K))
      → others (five_tuple_of s) mid.live ≡ others (five_tuple_of s) base
      → at (five_tuple_of s) mid.live ≡ Some c → Logs (belongs s mid) s mid new
      → Placed (five_tuple_of s) s.time base new.live
  logs_placed base mid new c rest found h =
      let its : AnalyzesSegment IsReady s mid new =
      subst (λ b. Logs b s mid new) (belongs_open mid c found) h in
      first its.its (segment_time mid new its)
      (its.stands ∙ ap (λ l. (five_tuple_of s, its.its) ∷ l) rest)

  verdict_placed : (shows begins_another : Bool) (j : Judgement) (acknowledges : Bool)
      (old new : Table (TlsAnalysis K)) (over : Option (Connection (TlsAnalysis K)))
      (c : Connection (TlsAnalysis K)) → at (five_tuple_of s) old.live ≡ Some c
      → AcceptsIf shows begins_another j acknowledges s old new over
      → Placed (five_tuple_of s) s.time old.live new.live
  verdict_placed true begins_another j acknowledges old new over c found h =
      let anew = subst (λ o. IsAnewAt s.time (five_tuple_of s) o old h.0) found h.1 in
      let still =
      written_open (five_tuple_of s) old h.0 c anew.0 found (ap (λ t. t.live) anew.2) in
      taken_open old.live h.0 new over still.1.0 still.0 still.1.1 h.2
  verdict_placed false true j acknowledges old new over c found h =
      let still = replaced_open old h.mid h.was c found h.replaced in
      logs_placed old.live h.mid new still.1.0 still.0 still.1.1 h.logs
  verdict_placed false false j acknowledges old new over c found h =
      judged_placed j acknowledges old new over c found h

  stray_placed : (b : Bool) (old new : Table (TlsAnalysis K))
      (over : Option (Connection (TlsAnalysis K))) → TakesIf b s old new over
      → Placed (five_tuple_of s) s.time old.live new.live
  stray_placed true old new over h = taken_placed old.live old new over refl h
  stray_placed false old new over h = unchanged (ap (λ t. t.live) h.0)

  segment_placed : (old new : Table (TlsAnalysis K))
      (o over : Option (Connection (TlsAnalysis K))) → at (five_tuple_of s) old.live ≡ o
      → AcceptsAt (option_map (verdict_of s) o) s old new over
      → Placed (five_tuple_of s) s.time old.live new.live
  segment_placed old new None over missed h = stray_placed (belongs s old) old new over h
  segment_placed old new (Some c) over found h =
      verdict_placed _ _ _ _ old new over c found h

module _ {K : Type 0} (d : Datagram) where
  logged_placed : (base : List (FiveTuple × Connection (TlsAnalysis K)))
      (old new : Table (TlsAnalysis K))
      → others (five_tuple_of_datagram d) old.live ≡ others (five_tuple_of_datagram d) base
      → LogsDatagram IsReady d old new → Placed (five_tuple_of_datagram d) d.time base new.live
  logged_placed base old new rest h =
      first h.its
      (ap {A = Connection (TlsAnalysis K)} (λ x. x.last_time) h.receives.3
      ∙ takes_datagram_time d (at (five_tuple_of_datagram d) old.live) h.put h.takes)
      (h.stands ∙ ap (λ l. (five_tuple_of_datagram d, h.its) ∷ l) rest)

  damaged_placed : (o : Option (Connection (TlsAnalysis K))) (old new : Table (TlsAnalysis K))
      → at (five_tuple_of_datagram d) old.live ≡ o → DropsDatagramOf d o old new
      → Placed (five_tuple_of_datagram d) d.time old.live new.live
  damaged_placed None old new missed h = unchanged (ap (λ t. t.live) h)
  damaged_placed (Some c) old new found h =
      in_place c (dropped_from (side_of c d.source) reason.Checksum c) found
      (dropped_time (side_of c d.source) reason.Checksum c) (ap (λ t. t.live) h)

  after_rest : (o : Option (Connection (TlsAnalysis K))) (old mid : Table (TlsAnalysis K))
      → BeginsAfter d o old mid
      → others (five_tuple_of_datagram d) mid.live ≡ others (five_tuple_of_datagram d) old.live
  after_rest None old mid h = ap (λ t. others (five_tuple_of_datagram d) t.live) h
  after_rest (Some c) old mid h =
      ap (λ t. others (five_tuple_of_datagram d) t.live) h.2
      ∙ written_others (five_tuple_of_datagram d) old.live h.0

  unless_placed : (refused : Bool) (old new : Table (TlsAnalysis K))
      → BeginsUnless refused d old new
      → Placed (five_tuple_of_datagram d) d.time old.live new.live
  unless_placed true old new h = unchanged (ap (λ t. t.live) h)
  unless_placed false old new h = logged_placed old.live old new refl h

  delivered_placed : (way : Delivery) (old new : Table (TlsAnalysis K))
      (over : Option (Connection (TlsAnalysis K))) → AcceptsDelivered way d old new over
      → Placed (five_tuple_of_datagram d) d.time old.live new.live
  delivered_placed delivery.Received old new over h = logged_placed old.live old new refl h.0
  delivered_placed delivery.Damaged old new over h =
      damaged_placed (at (five_tuple_of_datagram d) old.live) old new refl h.0
  delivered_placed delivery.BeginsAnother old new over h =
      logged_placed old.live h.mid new
      (after_rest (at (five_tuple_of_datagram d) old.live) old h.mid h.begins) h.logs
  delivered_placed delivery.NoneOpen old new over h =
      unless_placed (is_refused d.checksum) old new h.0

module _ {K : Type 0} where
  takes_placed : (a : Arrival) (old mid : Table (TlsAnalysis K))
      (over : Option (Connection (TlsAnalysis K))) → Takes a old mid over
      → Placed (five_tuple_in a) (time_of a) old.live mid.live
  takes_placed (arrival.Segment s) old mid over h =
      segment_placed s old mid (at (five_tuple_of s) old.live) over refl h
  takes_placed (arrival.Datagram d) old mid over h =
      delivered_placed d h.way old mid over h.accepts

  settled_placed : (N : TlsAnalysis K → ℕ) (f : FiveTuple) (time : ℕ)
      (base : List (FiveTuple × Connection (TlsAnalysis K)))
      (o : Option (Connection (TlsAnalysis K))) (old new : Table (TlsAnalysis K))
      → at f (others f base) ≡ None → at f old.live ≡ o → IsSettled N f o old new
      → Placed f time base old.live → Placed f time base new.live
  settled_placed N f time base None old new alone missed is p =
      placed_same (ap (λ t. t.live) is) p
  settled_placed N f time base (Some c) old new alone found is p =
      then_written c is.0 alone found
      (ap {A = Connection (TlsAnalysis K)} (λ x. x.last_time) is.1.same)
      (ap (λ t. t.live) is.1.stands) p

  settles_placed : (M : K → ℕ) (due : Bool) (f : FiveTuple) (time : ℕ)
      (base : List (FiveTuple × Connection (TlsAnalysis K))) (old new : Table (TlsAnalysis K))
      → at f (others f base) ≡ None → Settles M due f old new
      → Placed f time base old.live → Placed f time base new.live
  settles_placed M true f time base old new alone is p =
      settled_placed _ f time base (at f old.live) old new alone refl is p
  settles_placed M false f time base old new alone is p = placed_same (ap (λ t. t.live) is) p

  pub accepts_placed : (M : K → ℕ) (a : Arrival) (old new : Table (TlsAnalysis K))
      (over : Option (Connection (TlsAnalysis K)))
      → at (five_tuple_in a) (others (five_tuple_in a) old.live) ≡ None
      → Accepts M a old new over → Placed (five_tuple_in a) (time_of a) old.live new.live
  accepts_placed M a old new over alone h =
      settles_placed M h.is_due (five_tuple_in a) (time_of a) old.live h.mid new alone h.settles
      (takes_placed a old h.mid over h.takes)
