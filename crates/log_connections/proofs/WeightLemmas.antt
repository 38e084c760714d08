-- Which memory is accounted for the connections after a step, and which closed ones are forgotten.
use Rattle.std.proofs.Common.{◌≡◌, refl, sym, ap, ◌∙◌, subst, Option, Some, None, List, [], ◌∷◌, length, take, Bool, true, false, ℕ, ◌+◌, ◌-◌, arith}
use Rattle.std.proofs.lemmas.Bool.{ltb-false}
use Rattle.std.proofs.lemmas.List.{take_all}
use Rattle.std.specs.Prelude.{nat_lt, IfNone, IfSome, OnOk, Result, Ok, Err, is_some, not, ◌&&◌, ◌||◌}
use Rattle.std.specs.Map.{set_value}
use Rattle.std.specs.Option.{option_map}
use Rattle.connections.proofs.MemoryLemmas.{front_of_front}
use Rattle.connections.proofs.TableLemmas.{is_five_tuple-refl}
use Rattle.connections.specs.Connection.{dropped_from, is_kept, lets_in}
use Rattle.connections.specs.FiveTuple.{is_five_tuple}
use Rattle.connections.specs.Memory.{FitsClosed, IsChangedWeight, IsSettled, closed_count, is_over_limit, open_part}
use Rattle.connections.specs.Segment.{begins, begins_one, five_tuple_of, has_data}
use Rattle.connections.specs.Table.{IsForgotten, Puts, Table, at, belongs, ended}
use Rattle.connections.specs.Table.IsForgotten.{none, one}
use Rattle.connections.specs.declared.connection.Connection.{Connection}
use Rattle.connections.specs.declared.connection.Side.{Side}
use Rattle.connections.specs.declared.connection.Side.TheVariants.{Originator, Responder}
use Rattle.connections.specs.declared.connection.Verdict.{Verdict}
use Rattle.connections.specs.declared.five_tuple.FiveTuple.{FiveTuple}
use Rattle.connections.specs.declared.receiver.DropReason.{DropReason}
use Rattle.connections.specs.declared.receiver.Judgement.{Judgement}
use Rattle.connections.specs.declared.receiver.Judgement.TheVariants as judgement
use Rattle.connections.specs.declared.segment.Segment.{Segment}
use Rattle.arrivals.specs.declared.arrival.Arrival.{Arrival}
use Rattle.arrivals.specs.declared.arrival.Arrival.TheVariants as arrival
use Rattle.arrivals.specs.declared.counts.Counts.{Counts}
use Rattle.arrivals.specs.declared.reader.ArrivalReader.{ArrivalReader}
use Rattle.log_connections.specs.Capacity.{IsWeighed, IsWeighedAt, most_bytes_of}
use Rattle.log_connections.specs.Log.{EndsAfter, EndsClosed, IsWeighedUnless, Settles, WhereBegun, WhereDatagram, WhereJudged, WhereLetIn, WhereSegment, WhereWeighed, counting, damaged_if, disagreeing_from, is_damaged_in, stray_unless, verdict_in, with_datagram, with_judged_if, with_segment, with_verdict}
use Rattle.log_connections.specs.Sink.{EndsAs}
use Rattle.log_connections.specs.declared.analysis.TlsAnalysis.{TlsAnalysis}

-- A connection that comes first accounts for what it takes, unless that is due.
module _ {K : Type 0} (M : K → ℕ) (e : FiveTuple) where
  pub weighed_first : (t : Table (TlsAnalysis K)) (c : Connection (TlsAnalysis K))
      (xs : List (FiveTuple × Connection (TlsAnalysis K))) (changed : Option ℕ) (due : Bool)
      → t.live ≡ (e, c) ∷ xs → IsChangedWeight (most_bytes_of M) c changed
      → due ≡ is_some changed → IsWeighedUnless M due e t
  weighed_first t c xs None due stands is same = λ h.
      let first : at e ((e, c) ∷ xs) ≡ Some c = rw (is_five_tuple-refl e) in
      let found : at e t.live ≡ Some c = ap (at e) stands ∙ first in
      subst (λ o. IfSome o (λ d. IsWeighed M (t.held - d.weight) d)) (sym found)
      (record {
        enough = λ few. is.0 (omega (arith, few));
        within = is.1;
      })
  weighed_first t c xs (Some n) due stands is same = λ h.
      let wrong : true ≡ false = sym same ∙ h in cc

  pub none_weighed : (t : Table (TlsAnalysis K)) → None ≡ at e t.live → IsWeighedAt M e t
  none_weighed t h = subst (λ o. IfSome o (λ d. IsWeighed M (t.held - d.weight) d)) h tt

  -- So does one of which it was updated.
  written_at : (xs : List (FiveTuple × Connection (TlsAnalysis K)))
      (c w : Connection (TlsAnalysis K)) → at e xs ≡ Some c
      → at e (set_value (is_five_tuple e) xs w) ≡ Some w
  written_at [] c w h = cc
  written_at (x ∷ xs) c w h = (elim (is_five_tuple e x.0) as
      (λ y. is_five_tuple e x.0 ≡ y → at e (x ∷ xs) ≡ Some c
      → at e (set_value (is_five_tuple e) (x ∷ xs) w) ≡ Some w) [
        | true ↦ λ t f. rw (t, t) refl
        | false ↦ λ t f. rw (t, t) (written_at xs c w (rw t at f))
      ]) refl h

  updated_weighed : (o : Option (Connection (TlsAnalysis K))) (old new : Table (TlsAnalysis K))
      → at e old.live ≡ o → IsSettled (most_bytes_of M) e o old new → IsWeighedAt M e new
  updated_weighed None old new found same =
      none_weighed new (sym (ap (λ t. at e t.live) same ∙ found))
  updated_weighed (Some c) old new found is =
      let w = is.0 in
      let weighed : IsWeighed M ((old.held - c.weight) + w.weight - w.weight) w = record {
        enough = λ few. is.1.enough (omega (arith, few));
        within = is.1.within;
      } in
      subst (IsWeighedAt M e) (sym is.1.stands)
      (subst (λ p. IfSome p (λ d. IsWeighed M ((old.held - c.weight) + w.weight - d.weight) d))
      (sym (written_at old.live c w found)) weighed)

  pub settled_weighed : (due : Bool) (old new : Table (TlsAnalysis K)) → Settles M due e old new
      → IsWeighedUnless M due e old → IsWeighedAt M e new
  settled_weighed true old new is unless = updated_weighed (at e old.live) old new refl is
  settled_weighed false old new same unless = subst (IsWeighedAt M e) (sym same) (unless refl)

-- Where none is open, none is weighed.
pub some_of : {X : Type 0} (o : Option X) (b : Bool) → (is_some o || b) ≡ false → o ≡ None
some_of None b h = refl
some_of (Some x) b h = cc

module _ {K : Type 0} where
  pub none_belongs : (s : Segment) (old new : Table (TlsAnalysis K)) (b : Bool) → b ≡ false
      → b ≡ belongs s old → Puts b s old new → None ≡ at (five_tuple_of s) new.live
  none_belongs s old new true is same puts = cc
  none_belongs s old new false is same puts =
      sym (ap (λ t. at (five_tuple_of s) t.live) puts
      ∙ some_of (at (five_tuple_of s) old.live)
      (begins_one s && (begins s || not (is_some (at (five_tuple_of s) old.closed)))) (sym same))

  -- A dropped packet leaves the accounted memory as it is.
  pub dropped_weight : (side : Side) (r : DropReason) (c : Connection (TlsAnalysis K))
      → (dropped_from side r c).weight ≡ c.weight
  dropped_weight Originator r c = refl
  dropped_weight Responder r c = refl

  pub disagreeing_weight : (side : Side) (n : ℕ) (c : Connection (TlsAnalysis K))
      → (disagreeing_from side n c).weight ≡ c.weight
  disagreeing_weight Originator n c = refl
  disagreeing_weight Responder n c = refl

  pub none_open : {X : Type 0} (f : Connection (TlsAnalysis K) → X)
      (o : Option (Connection (TlsAnalysis K))) → option_map f o ≡ None → None ≡ o
  none_open f None h = refl
  none_open f (Some c) h = cc

  -- What holds of a table holds after a connection that isn't over was left in it.
  ended_as : (o over : Option (Connection (TlsAnalysis K))) → EndsAs false o over → over ≡ None
      → is_some o ≡ false
  ended_as None over ends missed = refl
  ended_as (Some c) None ends missed = absurd ends
  ended_as (Some c) (Some d) ends missed = cc

  pub stays_closed : (P : Table (TlsAnalysis K) → Type 0) (s : Segment)
      (mid new : Table (TlsAnalysis K)) (over : Option (Connection (TlsAnalysis K)))
      → EndsClosed s mid new over → P mid → IfNone over (P new)
  stays_closed P s mid new (Some c) ends p = tt
  stays_closed P s mid new None ends p =
      let open_still = ended_as (ended (five_tuple_of s) mid) None ends.ends refl in
      subst P (sym (rw open_still at ends.left)) p

  pub stays_after : (P : Table (TlsAnalysis K) → Type 0) (o : Option Bool) (s : Segment)
      (mid new : Table (TlsAnalysis K)) (over : Option (Connection (TlsAnalysis K)))
      → EndsAfter o s mid new over → P mid → IfNone over (P new)
  stays_after P (Some true) s mid new over ends p = stays_closed P s mid new over ends p
  stays_after P (Some false) s mid new over ends p =
      subst (λ o. IfNone o (P new)) (sym ends.1) (subst P (sym ends.0) p)
  stays_after P None s mid new over ends p =
      subst (λ o. IfNone o (P new)) (sym ends.1) (subst P (sym ends.0) p)

-- What holds by the verdict.
module _ {C : Type 0} (over : Option C) (W : Type 0) where
  pub let_in_weighs : (v : Option Verdict) (s : Segment) → option_map lets_in v ≡ Some true
      → (has_data s ≡ true → IfNone over W) → WhereSegment over W v s
  let_in_weighs None s is f = cc
  let_in_weighs (Some v) s is f =
      let let_in : true ≡ lets_in v = cc in
      subst (λ b. WhereLetIn over W b v s) let_in f

  pub none_open_weighs : (v : Option Verdict) (s : Segment) → v ≡ None → IfNone over W
      → WhereSegment over W v s
  none_open_weighs v s is w = subst (λ o. WhereSegment over W o s) (sym is) w

  pub judged_weighs : (o : Option Verdict) (v : Verdict) (s : Segment) → o ≡ Some v
      → lets_in v ≡ false
      → WhereBegun over W v.shows_damage v.begins_another v.judgement s
      → WhereSegment over W o s
  judged_weighs o v s is kept_out w =
      subst (λ p. WhereSegment over W p s) (sym is)
      (subst (λ b. WhereLetIn over W b v s) (sym kept_out) w)

  module _ (V : Type 0) (f : W → V) where
    none_more : (o : Option C) → IfNone o W → IfNone o V
    none_more None w = f w
    none_more (Some c) w = tt

    judged_more : (j : Judgement) (s : Segment) → WhereJudged over W j s → WhereJudged over V j s
    judged_more judgement.Taken s w = none_more over w
    judged_more judgement.Again s w = none_more over w
    judged_more (judgement.Waiting r) s w = none_more over w
    judged_more (judgement.Dropped r) s w = λ is. none_more over (w is)

    begun_more : (damage another : Bool) (j : Judgement) (s : Segment)
        → WhereBegun over W damage another j s → WhereBegun over V damage another j s
    begun_more true another j s w = none_more over w
    begun_more false true j s w = f w
    begun_more false false j s w = judged_more j s w

    let_in_more : (b : Bool) (v : Verdict) (s : Segment) → WhereLetIn over W b v s
        → WhereLetIn over V b v s
    let_in_more true v s w = λ is. none_more over (w is)
    let_in_more false v s w = begun_more v.shows_damage v.begins_another v.judgement s w

    pub segment_more : (v : Option Verdict) (s : Segment) → WhereSegment over W v s
        → WhereSegment over V v s
    segment_more None s w = none_more over w
    segment_more (Some v) s w = let_in_more (lets_in v) v s w

pub datagram_more : (W V : Type 0) → (W → V) → (o : Option Bool) → WhereDatagram o W
    → WhereDatagram o V
datagram_more W V f None w = f w
datagram_more W V f (Some true) w = tt
datagram_more W V f (Some false) w = f w

-- What a segment adds to the counts, by its verdict. One that is let in adds nothing.
let_in_adds : (j : Judgement) (another acknowledges damage : Bool) (c : Counts)
    → (is_kept j && (not another && (not acknowledges && not damage))) ≡ true
    → with_judged_if damage another j c ≡ c
let_in_adds j another acknowledges true c h = refl
let_in_adds j true acknowledges false c h = refl
let_in_adds judgement.Taken false acknowledges false c h = refl
let_in_adds judgement.Again false acknowledges false c h = refl
let_in_adds (judgement.Waiting r) false acknowledges false c h = cc
let_in_adds (judgement.Dropped r) false acknowledges false c h = cc

let_in_adds_none : (o : Option Verdict) (b : Bool) (s : Segment) (c : Counts)
    → option_map lets_in o ≡ Some true → with_segment o b s c ≡ c
let_in_adds_none None b s c h = cc
let_in_adds_none (Some v) b s c h =
    let is : lets_in v ≡ true = cc in
    let_in_adds v.judgement v.begins_another v.acknowledges v.shows_damage c is

pub let_in_counts : (o : Option Verdict) (b : Bool) (s : Segment) (old new : ArrivalReader)
    → option_map lets_in o ≡ Some true → new ≡ old → new ≡ counting (with_segment o b s) old
let_in_counts o b s old new is same =
    same ∙ sym (ap (λ k. record old { counts = k }) (let_in_adds_none o b s old.counts is))

pub none_counts : (o : Option Verdict) (b belongs : Bool) (s : Segment)
    (old mid new : ArrivalReader) → o ≡ None → belongs ≡ b → mid ≡ old
    → new ≡ counting (stray_unless belongs s) mid → new ≡ counting (with_segment o b s) old
none_counts o b belongs s old mid new is same before counts =
    counts ∙ ap (λ r. counting (stray_unless belongs s) r) before
    ∙ ap (λ x. counting (stray_unless x s) old) same
    ∙ sym (ap (λ p. counting (with_segment p b s) old) is)

pub judged_counts : (o : Option Verdict) (v : Verdict) (b : Bool) (s : Segment)
    (old mid new : ArrivalReader) → o ≡ Some v → mid ≡ old → new ≡ counting (with_verdict v) mid
    → new ≡ counting (with_segment o b s) old
judged_counts o v b s old mid new is before counts =
    counts ∙ ap (λ r. counting (with_verdict v) r) before
    ∙ sym (ap (λ p. counting (with_segment p b s) old) is)

-- What a datagram adds, by its open exchange, or without one.
pub datagram_counts : (o : Option Bool) (damaged wrong : Bool) (old mid new : ArrivalReader)
    → o ≡ Some damaged → mid ≡ old → new ≡ counting (damaged_if damaged) mid
    → new ≡ counting (with_datagram o wrong) old
datagram_counts o damaged wrong old mid new is before counts =
    counts ∙ ap (λ r. counting (damaged_if damaged) r) before
    ∙ sym (ap (λ p. counting (with_datagram p wrong) old) is)

pub alone_counts : (o : Option Bool) (wrong : Bool) (old mid new : ArrivalReader)
    → o ≡ None → mid ≡ old → new ≡ counting (damaged_if wrong) mid
    → new ≡ counting (with_datagram o wrong) old
alone_counts o wrong old mid new is before counts =
    counts ∙ ap (λ r. counting (damaged_if wrong) r) before
    ∙ sym (ap (λ p. counting (with_datagram p wrong) old) is)

pub datagram_weighs : (W : Type 0) (o : Option Bool) → W → WhereDatagram o W
datagram_weighs W None w = w
datagram_weighs W (Some true) w = tt
datagram_weighs W (Some false) w = w

pub damaged_weighs : (W : Type 0) (o : Option Bool) → o ≡ Some true → WhereDatagram o W
damaged_weighs W o is = subst (λ p. WhereDatagram p W) (sym is) tt

module _ {K : Type 0} where
  pub weighs_more : (W V : Type 0) → (W → V) → (a : Arrival) (old : Table (TlsAnalysis K))
      (over : Option (Connection (TlsAnalysis K))) → WhereWeighed a old over W
      → WhereWeighed a old over V
  weighs_more W V f (arrival.Segment s) old over w =
      segment_more over W V f (verdict_in s old) s w
  weighs_more W V f (arrival.Datagram d) old over w = datagram_more W V f (is_damaged_in d old) w

-- What follows from a result also follows for an error.
pub ok_more : {A E : Type 0} (r : Result A E) (W V : Type 0) → (W → V) → OnOk r W → OnOk r V
ok_more (Ok x) W V f w = f w
ok_more (Err e) W V f w = tt

-- The closed connections that are forgotten.
module _ (time : ℕ) where
  pub forgotten_then : {xs ys zs : List (FiveTuple × ℕ)} → IsForgotten time xs ys
      → IsForgotten time ys zs → IsForgotten time xs zs
  forgotten_then h none = h
  forgotten_then h (one ws zs e before is over) = one ws zs e (forgotten_then h before) is over

no_other : (a b : Bool) → (a || b) ≡ false → b ≡ false
no_other false b h = h
no_other true b h = cc

pub fits_still : {K : Type 0} (limit : ℕ) (t : Table (TlsAnalysis K)) (b : Bool) → b ≡ false
    → b ≡ is_over_limit limit t → FitsClosed limit t.closed t.closed
fits_still limit t b is same =
    sym (take_all (closed_count limit) t.closed
    (ltb-false (closed_count limit) (length t.closed)
    (no_other (nat_lt (open_part limit) t.held) (nat_lt (closed_count limit) (length t.closed))
    (sym same ∙ is))))

-- As many are left as before of those that fit.
pub fits_same : (n m : ℕ) (xs ys zs : List (FiveTuple × ℕ)) → m ≡ n
    → take (closed_count n) ys ≡ take (closed_count n) xs → FitsClosed m ys zs
    → zs ≡ take (closed_count n) xs
fits_same n m xs ys zs same front fits =
    fits ∙ ap (λ l. take (closed_count l) ys) same ∙ front

pub fits_again : (n m : ℕ) (xs ys zs : List (FiveTuple × ℕ)) → m ≡ n
    → take (closed_count n) ys ≡ take (closed_count n) xs → FitsClosed m ys zs
    → take (closed_count n) zs ≡ take (closed_count n) xs
fits_again n m xs ys zs same front fits =
    ap (take (closed_count n)) (fits_same n m xs ys zs same front fits)
    ∙ front_of_front (closed_count n) (closed_count n) xs (omega arith)

-- Three clauses about one result.
pub three_ok : {A E : Type 0} (r : Result A E) (P Q R S : Type 0) → (P → Q → R → S) → OnOk r P
    → OnOk r Q → OnOk r R → OnOk r S
three_ok (Ok x) P Q R S f p q v = f p q v
three_ok (Err e) P Q R S f p q v = tt

pub some_mapped : {A B : Type 0} (f : A → B) (o : Option A) (P : Type 0) → IfSome o (λ _. P)
    → IfSome (option_map f o) (λ _. P)
some_mapped f None P h = tt
some_mapped f (Some x) P h = h
