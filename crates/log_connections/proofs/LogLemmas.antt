-- What a packet does to its connection.
use Rattle.std.proofs.Common.{◌≡◌, refl, sym, ap, ◌∙◌, subst, Option, Some, None, List, ◌∷◌, Bool, true, false, ◌-◌}
use Rattle.std.specs.Prelude.{IfSome, if◌then◌else◌, is_some, not, ◌&&◌, ◌||◌}
use Rattle.std.specs.Option.{option_and_then, option_map, unwrap_or}
use Rattle.std.specs.Map.{set_value}
use Rattle.std.proofs.lemmas.Map.Steps.{set_value_same}
use Rattle.connections.proofs.TableLemmas.{comes_in, is_five_tuple-refl, stands_first, written_promoted}
use Rattle.connections.specs.Connection.{AcceptsKept, is_closed, is_datagram_damaged, is_kept, lets_in, shows_damage, side_of, verdict_of, Accepts, TakesDatagramIn}
use Rattle.connections.specs.Datagram.{five_tuple_of_datagram}
use Rattle.connections.specs.FiveTuple.{is_five_tuple}
use Rattle.connections.specs.Lends.{with_first}
use Rattle.connections.specs.Segment.{begins, begins_one, five_tuple_of, header_of}
use Rattle.connections.specs.Table.{HasBegun, HasBegunBy, IsPut, Puts, Table, TakesDatagram, TakesSegment, at, belongs, closed_behind, ended, others, promoting, weight_of, with_other, without_if}
use Rattle.connections.specs.Waiting.{Kept}
use Rattle.connections.specs.declared.connection.Connection.{Connection}
use Rattle.connections.specs.declared.datagram.Datagram.{Datagram}
use Rattle.connections.specs.declared.five_tuple.FiveTuple.{FiveTuple}
use Rattle.connections.specs.declared.five_tuple.Protocol.{Protocol}
use Rattle.connections.specs.declared.five_tuple.Protocol.TheVariants.{Tcp, Udp}
use Rattle.connections.specs.declared.connection.Side.{Side}
use Rattle.connections.specs.declared.connection.Verdict.{Verdict}
use Rattle.connections.specs.declared.receiver.Judgement.{Judgement}
use Rattle.connections.specs.declared.receiver.Judgement.TheVariants as judgement
use Rattle.connections.specs.declared.segment.Segment.{Segment}
use Rattle.tls_detection.specs.Front.{held_datagram}
use Rattle.log_connections.specs.Accessors.{BeginsAnother}
use Rattle.log_connections.specs.Analysis.{IsBegun, direction_of}
use Rattle.log_connections.specs.Log.{IsBegunBy, AcceptsAt, AcceptsIf, AcceptsSegment, BeginsAnotherIn, EndsAfter, EndsClosed, AnalyzesFrom, AnalyzesKept, AnalyzesPending, AnalyzesSegment, AnalyzesSide, IsReady, Logs, LogsDatagram, RefusesAt, RefusesIf, RefusesSegment, TakesIf, TakesIn, is_closed_in, is_damaged_in, verdict_in}
use Rattle.log_connections.specs.Sink.{EndsAs}
use Rattle.log_connections.specs.declared.analysis.TlsAnalysis.{TlsAnalysis}

module _ {X : Type 0} (e : FiveTuple) where
  -- The first entry of these ends is found, and another value is put there.
  at_first : (x : X) (xs : List (FiveTuple × X)) → at e ((e, x) ∷ xs) ≡ Some x
  at_first x xs = rw (is_five_tuple-refl e)

  set_first : (x w : X) (xs : List (FiveTuple × X))
      → set_value (is_five_tuple e) ((e, x) ∷ xs) w ≡ (e, w) ∷ xs
  set_first x w xs = rw (is_five_tuple-refl e)

some_found : {X : Type 0} {x : X} {o : Option X} → Some x ≡ o → o ≡ None → ⊥
some_found found none = let both = found ∙ none in cc

module _ {K : Type 0} (e : FiveTuple)
    (Takes : Option (Connection (TlsAnalysis K)) → Connection (TlsAnalysis K) → Type 0)
    (xs ys : List (FiveTuple × Connection (TlsAnalysis K))) (put : IsPut e Takes xs ys) where
  -- The borrowed connection is the one that was put.
  lent : (c : Connection (TlsAnalysis K)) → Some c ≡ at e ys → c ≡ put.its
  lent c found = ap (λ o. unwrap_or o c)
      (found ∙ ap (at e) put.stands ∙ at_first e put.its (others e xs))

  -- A connection is borrowed.
  pub some_lent : at e ys ≡ None → ⊥
  some_lent none =
      let both : ◌≡◌ {A = Option (Connection (TlsAnalysis K))} None (Some put.its) =
      sym none ∙ ap (at e) put.stands ∙ at_first e put.its (others e xs) in
      cc

  -- A value written to it replaces it.
  pub written_first : (d : Connection (TlsAnalysis K))
      → set_value (is_five_tuple e) ys d ≡ (e, d) ∷ others e xs
  written_first d = ap (λ l. set_value (is_five_tuple e) l d) put.stands
      ∙ set_first e put.its d (others e xs)

module _ {K : Type 0} where
  -- What a connection began with that is found.
  begun_lent : (p : Protocol) (e : FiveTuple)
      (xs : List (FiveTuple × Connection (TlsAnalysis K))) (c d : Connection (TlsAnalysis K))
      → Some c ≡ at e xs → c ≡ d → HasBegun IsBegun p e xs → IsBegun p d.attachment
  begun_lent p e xs c d found same begun =
      subst (λ z. IsBegun p z.attachment) same
      (subst (λ o. IfSome o (λ z. IsBegun p z.attachment)) (sym found) begun)

  pub put_where_true : (b : Bool) (s : Segment) (old mid : Table (TlsAnalysis K)) → b ≡ true
      → Puts b s old mid
      → IsPut (five_tuple_of s) (TakesSegment s) old.live mid.live
  put_where_true true s old mid is put = put
  put_where_true false s old mid is put = cc

  pub segment_received : (Prepares : TlsAnalysis K → TlsAnalysis K → Type 0) (b : Bool) (s : Segment) (old mid : Table (TlsAnalysis K))
      (c d : Connection (TlsAnalysis K)) → b ≡ true
      → Puts b s old mid → mid.closed ≡ closed_behind b s old
      → (at (five_tuple_of s) old.live ≡ None
      → HasBegun IsBegun Tcp (five_tuple_of s) mid.live)
      → Some c ≡ at (five_tuple_of s) mid.live
      → AnalyzesSide Prepares s (side_of c s.source) c d
      → AnalyzesSegment Prepares s old
      (record mid { live = set_value (is_five_tuple (five_tuple_of s)) mid.live d })
  segment_received Prepares b s old mid c d is puts closed attached found receives =
      let put = put_where_true b s old mid is puts in
      let same = lent (five_tuple_of s) (TakesSegment s) old.live mid.live put c found in record {
        put = put.its;
        its = d;
        takes = put.takes;
        begun = λ none. begun_lent Tcp (five_tuple_of s) mid.live c put.its found same (attached none);
        receives =
            subst (λ z. AnalyzesSide Prepares s (side_of z s.source) z d) same receives;
        stands = written_first (five_tuple_of s) (TakesSegment s) old.live mid.live put d;
        closed = closed ∙ ap (λ x. closed_behind x s old) is;
      }

  -- The open connection takes it.
  pub received_by_open : (Prepares : TlsAnalysis K → TlsAnalysis K → Type 0) (s : Segment) (old : Table (TlsAnalysis K))
      (c put its : Connection (TlsAnalysis K))
      → Some c ≡ at (five_tuple_of s) old.live → Accepts s c put
      → AnalyzesSide Prepares s (side_of put s.source) put its
      → AnalyzesSegment Prepares s old (with_first (five_tuple_of s) its old)
  received_by_open Prepares s old c put its found accepts receives = record {
    put = put;
    its = its;
    takes = subst (λ o. TakesSegment s o put) found accepts;
    begun = λ none. absurd (some_found found none);
    receives = receives;
    stands = stands_first (five_tuple_of s) old c its found;
    closed = subst (λ o. old.closed ≡ without_if (not (is_some o)) (five_tuple_of s) old.closed)
        found refl;
  }

  -- The open connection takes it in place, and comes first then.
  pub received_in_place : (Prepares : TlsAnalysis K → TlsAnalysis K → Type 0) (s : Segment) (old : Table (TlsAnalysis K))
      (c put its : Connection (TlsAnalysis K))
      → Some c ≡ at (five_tuple_of s) old.live → Accepts s c put
      → AnalyzesSide Prepares s (side_of put s.source) put its
      → AnalyzesSegment Prepares s old
      (promoting (five_tuple_of s) (with_other (five_tuple_of s) its old))
  received_in_place Prepares s old c put its found accepts receives = record {
    put = put;
    its = its;
    takes = subst (λ o. TakesSegment s o put) found accepts;
    begun = λ none. absurd (some_found found none);
    receives = receives;
    stands = written_promoted (five_tuple_of s) old.live c its (sym found);
    closed = subst (λ o. old.closed ≡ without_if (not (is_some o)) (five_tuple_of s) old.closed)
        found refl;
  }

  pub exchange_received : (Prepares : TlsAnalysis K → TlsAnalysis K → Type 0) (d : Datagram) (old : Table (TlsAnalysis K))
      (c put its : Connection (TlsAnalysis K))
      → Some c ≡ at (five_tuple_of_datagram d) old.live → TakesDatagramIn d c put
      → (shows_damage (side_of c d.source) d.checksum c ≡ true → IsBegun c.protocol put.attachment)
      → AnalyzesFrom Prepares d put its
      → LogsDatagram Prepares d old
      (promoting (five_tuple_of_datagram d) (with_other (five_tuple_of_datagram d) its old))
  exchange_received Prepares d old c put its found takes begun receives = record {
    put = put;
    its = its;
    takes = subst (λ o. TakesDatagram d o put) found takes;
    begun = subst (λ o. IsBegunBy d o put) found begun;
    receives = receives;
    stands = written_promoted (five_tuple_of_datagram d) old.live c its (sym found);
    closed = refl;
  }

  -- A borrowed connection that doesn't change leaves the table as it was.
  pub lent_unchanged : (e : FiveTuple) (old : Table (TlsAnalysis K))
      (c d : Connection (TlsAnalysis K))
      → Some c ≡ at e old.live → d ≡ c
      → with_other e d old ≡ old
  lent_unchanged e old c d found same =
      ap (λ x. with_other e x old) same
      ∙ ap (λ l. record old { live = l }) (set_value_same (is_five_tuple e) old.live c (sym found))

  pub segment_lent : (b : Bool) (s : Segment) (old mid : Table (TlsAnalysis K)) → b ≡ true
      → Puts b s old mid
      → None ≡ at (five_tuple_of s) mid.live → ⊥
  segment_lent b s old mid is puts none =
      some_lent (five_tuple_of s) (TakesSegment s) old.live mid.live
      (put_where_true b s old mid is puts) (sym none)

  begun_by : (g : Datagram) (o : Option (Connection (TlsAnalysis K)))
      (xs : List (FiveTuple × Connection (TlsAnalysis K))) (c d : Connection (TlsAnalysis K))
      → Some c ≡ at (five_tuple_of_datagram g) xs → c ≡ d → HasBegunBy IsBegun g o xs
      → IsBegunBy g o d
  begun_by g None xs c d found same begun =
      begun_lent Udp (five_tuple_of_datagram g) xs c d found same begun
  begun_by g (Some b) xs c d found same begun =
      λ shows. begun_lent b.protocol (five_tuple_of_datagram g) xs c d found same (begun shows)

  pub datagram_received : (Prepares : TlsAnalysis K → TlsAnalysis K → Type 0) (g : Datagram) (old mid : Table (TlsAnalysis K))
      (c d : Connection (TlsAnalysis K))
      → IsPut (five_tuple_of_datagram g) (TakesDatagram g) old.live mid.live
      → mid.closed ≡ old.closed
      → HasBegunBy IsBegun g (at (five_tuple_of_datagram g) old.live) mid.live
      → Some c ≡ at (five_tuple_of_datagram g) mid.live → AnalyzesFrom Prepares g c d
      → LogsDatagram Prepares g old
      (record mid { live = set_value (is_five_tuple (five_tuple_of_datagram g)) mid.live d })
  datagram_received Prepares g old mid c d put closed attached found receives = record {
    put = put.its;
    its = d;
    takes = put.takes;
    begun = begun_by g (at (five_tuple_of_datagram g) old.live) mid.live c put.its found
        (lent (five_tuple_of_datagram g) (TakesDatagram g) old.live mid.live put c found) attached;
    receives =
        subst (λ z. AnalyzesFrom Prepares g z d)
        (lent (five_tuple_of_datagram g) (TakesDatagram g) old.live mid.live put c found) receives;
    stands = written_first (five_tuple_of_datagram g) (TakesDatagram g) old.live mid.live put d;
    closed = closed;
  }

  pub datagram_lent : (g : Datagram) (old mid : Table (TlsAnalysis K))
      → IsPut (five_tuple_of_datagram g) (TakesDatagram g) old.live mid.live
      → None ≡ at (five_tuple_of_datagram g) mid.live → ⊥
  datagram_lent g old mid put none =
      some_lent (five_tuple_of_datagram g) (TakesDatagram g) old.live mid.live put (sym none)

module _ {X : Type 0} where
  pub none_of : (o : Option X) → is_some o ≡ false → o ≡ None
  none_of None h = refl
  none_of (Some x) h = cc

  -- Only a closed connection is one that ended.
  of_closed : (x : X) (b : Bool) → is_some (if b then Some x else None) ≡ b
  of_closed x true = refl
  of_closed x false = refl

module _ {K : Type 0} where
  -- A connection that was put first is closed, or not.
  first_closed : (e : FiveTuple) (c : Connection (TlsAnalysis K))
      (xs : List (FiveTuple × Connection (TlsAnalysis K)))
      → is_some (option_and_then (λ d. if is_closed d then Some d else None)
      (at e ((e, c) ∷ xs))) ≡ is_closed c
  first_closed e c xs = ap (λ o. is_some (option_and_then
      (λ d. if is_closed d then Some d else None) o)) (at_first e c xs)
      ∙ of_closed c (is_closed c)

  pub closes : (s : Segment) (t : Table (TlsAnalysis K)) (c : Connection (TlsAnalysis K))
      (xs : List (FiveTuple × Connection (TlsAnalysis K)))
      → t.live ≡ (five_tuple_of s, c) ∷ xs → is_closed c ≡ is_closed_in s t
  closes s t c xs stands = sym (ap (λ l. is_some (option_and_then
      (λ d. if is_closed d then Some d else None) (at (five_tuple_of s) l))) stands
      ∙ first_closed (five_tuple_of s) c xs)

  pub segment_closes : (b : Bool) (s : Segment) (old mid : Table (TlsAnalysis K))
      (d : Connection (TlsAnalysis K)) → b ≡ true → Puts b s old mid
      → is_closed d ≡ is_closed_in s
      (record mid { live = set_value (is_five_tuple (five_tuple_of s)) mid.live d })
  segment_closes b s old mid d is puts =
      closes s (record mid { live = set_value (is_five_tuple (five_tuple_of s)) mid.live d }) d
      (others (five_tuple_of s) old.live)
      (written_first (five_tuple_of s) (TakesSegment s) old.live mid.live
      (put_where_true b s old mid is puts) d)

  -- What the verdict on a segment is.
  pub none_judged : (s : Segment) (old : Table (TlsAnalysis K))
      → None ≡ at (five_tuple_of s) old.live → verdict_in s old ≡ None
  none_judged s old found = ap (option_map (verdict_of s)) (sym found)

  pub some_judged : (s : Segment) (old : Table (TlsAnalysis K)) (c : Connection (TlsAnalysis K))
      → Some c ≡ at (five_tuple_of s) old.live → verdict_in s old ≡ Some (verdict_of s c)
  some_judged s old c found = ap (option_map (verdict_of s)) (sym found)

  pub let_in_judged : (s : Segment) (old : Table (TlsAnalysis K))
      (c : Connection (TlsAnalysis K)) → Some c ≡ at (five_tuple_of s) old.live
      → true ≡ lets_in (verdict_of s c) → option_map lets_in (verdict_in s old) ≡ Some true
  let_in_judged s old c found is = ap (option_map lets_in) (some_judged s old c found)
      ∙ ap Some (sym is)

  pub acknowledging_judged : (s : Segment) (old : Table (TlsAnalysis K)) (c : Connection (TlsAnalysis K))
      (v : Verdict) → Some c ≡ at (five_tuple_of s) old.live → v ≡ verdict_of s c
      → false ≡ lets_in (verdict_of s c)
      → (verdict_in s old ≡ Some v) × (lets_in v ≡ false)
  acknowledging_judged s old c v found is kept =
      (some_judged s old c found ∙ ap Some (sym is), ap lets_in is ∙ sym kept)

  pub is_belonging : (s : Segment) (old : Table (TlsAnalysis K))
      (o : Option (Connection (TlsAnalysis K))) → at (five_tuple_of s) old.live ≡ o
      → is_some o ≡ true → belongs s old ≡ true
  is_belonging s old None found is = cc
  is_belonging s old (Some c) found is =
      ap (λ o. is_some o || (begins_one s
      && (begins s || not (is_some (at (five_tuple_of s) old.closed))))) found

  open_if_judged : (s : Segment) (o : Option (Connection (TlsAnalysis K)))
      → option_map lets_in (option_map (verdict_of s) o) ≡ Some true → is_some o ≡ true
  open_if_judged s None is = cc
  open_if_judged s (Some c) is = refl

  pub let_in_belongs : (s : Segment) (old : Table (TlsAnalysis K))
      → option_map lets_in (verdict_in s old) ≡ Some true → belongs s old ≡ true
  let_in_belongs s old is =
      is_belonging s old (at (five_tuple_of s) old.live) refl
      (open_if_judged s (at (five_tuple_of s) old.live) is)

  -- An open connection doesn't end.
  pub stays_open : (s : Segment) (mid new : Table (TlsAnalysis K))
      (over : Option (Connection (TlsAnalysis K))) → is_closed_in s mid ≡ false → new ≡ mid
      → over ≡ None → EndsClosed s mid new over
  stays_open s mid new over is same none = record {
    ends = subst (λ o. EndsAs false o over) (sym (none_of (ended (five_tuple_of s) mid) is))
        (subst (λ (o : Option (Connection (TlsAnalysis K))). EndsAs false None o) (sym none) tt);
    left = same ∙ sym (ap (λ b. if b then record {
      live = others (five_tuple_of s) mid.live;
      closed = (five_tuple_of s, s.time) ∷ others (five_tuple_of s) mid.closed;
      held =
          mid.held - weight_of (at (five_tuple_of s) mid.live);
    } else mid) is);
  }

  pub takes_in : (analysis : Option Bool) (s : Segment) (old mid new : Table (TlsAnalysis K))
      (over : Option (Connection (TlsAnalysis K))) → is_some analysis ≡ belongs s old
      → Logs (is_some analysis) s old mid
      → IfSome analysis (λ closed. closed ≡ is_closed_in s mid)
      → EndsAfter analysis s mid new over → TakesIn s old new over
  takes_in None s old mid new over is logs closed ends =
      subst (λ b. TakesIf b s old new over) is (ends.0 ∙ logs, ends.1)
  takes_in (Some true) s old mid new over is logs closed ends =
      subst (λ b. TakesIf b s old new over) is (mid, logs, ends)
  takes_in (Some false) s old mid new over is logs closed ends =
      subst (λ b. TakesIf b s old new over) is
      (mid, logs, stays_open s mid new over (sym closed) ends.0 ends.1)

  -- A verdict that lets a segment in is obeyed by taking it.
  accepts_let_in : (j : Judgement) (another acknowledges damage : Bool) (s : Segment)
      (old new : Table (TlsAnalysis K)) (over : Option (Connection (TlsAnalysis K)))
      → (is_kept j && (not another && (not acknowledges && not damage))) ≡ true
      → TakesIn s old new over → AcceptsIf damage another j acknowledges s old new over
  accepts_let_in judgement.Taken false false false s old new over h t = t
  accepts_let_in judgement.Taken false false true s old new over h t = cc
  accepts_let_in judgement.Taken false true damage s old new over h t = cc
  accepts_let_in judgement.Taken true acknowledges damage s old new over h t = cc
  accepts_let_in judgement.Again false false false s old new over h t = t
  accepts_let_in judgement.Again false false true s old new over h t = cc
  accepts_let_in judgement.Again false true damage s old new over h t = cc
  accepts_let_in judgement.Again true acknowledges damage s old new over h t = cc
  accepts_let_in (judgement.Waiting r) another acknowledges damage s old new over h t = cc
  accepts_let_in (judgement.Dropped r) another acknowledges damage s old new over h t = cc

  accepts_in : (v : Option Verdict) (s : Segment) (old new : Table (TlsAnalysis K))
      (over : Option (Connection (TlsAnalysis K))) → option_map lets_in v ≡ Some true
      → TakesIn s old new over → AcceptsAt v s old new over
  accepts_in None s old new over h t = cc
  accepts_in (Some v) s old new over h t =
      let is : lets_in v ≡ true = cc in
      accepts_let_in v.judgement v.begins_another v.acknowledges v.shows_damage s old new over is t

  pub accepts_open : (s : Segment) (old mid new : Table (TlsAnalysis K))
      (over : Option (Connection (TlsAnalysis K)))
      → option_map lets_in (verdict_in s old) ≡ Some true → AnalyzesSegment IsReady s old mid
      → EndsClosed s mid new over → AcceptsSegment s old new over
  accepts_open s old mid new over is receives ends =
      accepts_in (verdict_in s old) s old new over is
      (subst (λ b. TakesIf b s old new over) (sym (let_in_belongs s old is)) (mid, receives, ends))

  pub accepts_acknowledging : (s : Segment) (old mid new : Table (TlsAnalysis K)) (v : Option Verdict)
      (over : Option (Connection (TlsAnalysis K))) → verdict_in s old ≡ v → mid ≡ old
      → AcceptsAt v s mid new over → AcceptsSegment s old new over
  accepts_acknowledging s old mid new v over is same accepts =
      subst (λ w. AcceptsAt w s old new over) (sym is)
      (subst (λ t. AcceptsAt v s t new over) same accepts)

  -- Memory is refused for a segment that no other connection begins with.
  refuses_let_in : (j : Judgement) (another acknowledges damage : Bool) (s : Segment)
      (old new : Table (TlsAnalysis K))
      → (is_kept j && (not another && (not acknowledges && not damage))) ≡ true
      → RefusesIf damage another s old new None
  refuses_let_in j another acknowledges true s old new h = refl
  refuses_let_in j false acknowledges false s old new h = refl
  refuses_let_in judgement.Taken true acknowledges false s old new h = cc
  refuses_let_in judgement.Again true acknowledges false s old new h = cc
  refuses_let_in (judgement.Waiting r) true acknowledges false s old new h = cc
  refuses_let_in (judgement.Dropped r) true acknowledges false s old new h = cc

  refuses_in : (v : Option Verdict) (s : Segment) (old new : Table (TlsAnalysis K))
      → option_map lets_in v ≡ Some true → RefusesAt v s old new None
  refuses_in None s old new h = refl
  refuses_in (Some v) s old new h =
      let is : lets_in v ≡ true = cc in
      refuses_let_in v.judgement v.begins_another v.acknowledges v.shows_damage s old new is

  pub refuses_open : (s : Segment) (old new : Table (TlsAnalysis K))
      (over : Option (Connection (TlsAnalysis K)))
      → option_map lets_in (verdict_in s old) ≡ Some true → over ≡ None
      → RefusesSegment s old new over
  refuses_open s old new over is none =
      subst (RefusesSegment s old new) (sym none) (refuses_in (verdict_in s old) s old new is)

  pub refuses_acknowledging : (s : Segment) (old mid new : Table (TlsAnalysis K)) (v : Option Verdict)
      (over : Option (Connection (TlsAnalysis K))) → verdict_in s old ≡ v → mid ≡ old
      → RefusesAt v s mid new over → RefusesSegment s old new over
  refuses_acknowledging s old mid new v over is same refuses =
      subst (λ w. RefusesAt w s old new over) (sym is)
      (subst (λ t. RefusesAt v s t new over) same refuses)

  -- A pending segment is analyzed.
  pub pending_received : (Prepares : TlsAnalysis K → TlsAnalysis K → Type 0) (e : FiveTuple) (k : Kept) (old : Table (TlsAnalysis K))
      (c put its : Connection (TlsAnalysis K)) (s : Segment) → Some c ≡ at e old.live
      → AcceptsKept k c put → header_of s ≡ k.header → s.payload.now ≡ k.bytes
      → AnalyzesSide Prepares s (side_of put s.source) put its
      → AnalyzesPending Prepares e k old (with_first e its old)
  pending_received Prepares e k old c put its s found accepts header payload receives =
      comes_in e (AnalyzesKept Prepares k) old c its found (record {
        put = put;
        segment = s;
        header = header;
        payload = payload;
        accepts = accepts;
        receives = receives;
      })

  -- A datagram's checksum counts as wrong, or not.
  pub none_damaged : (d : Datagram) (old : Table (TlsAnalysis K))
      → None ≡ at (five_tuple_of_datagram d) old.live → is_damaged_in d old ≡ None
  none_damaged d old found = ap (option_map (is_datagram_damaged d)) (sym found)

  pub some_damaged : (d : Datagram) (old : Table (TlsAnalysis K))
      (c : Connection (TlsAnalysis K)) (b : Bool)
      → Some c ≡ at (five_tuple_of_datagram d) old.live → is_datagram_damaged d c ≡ b
      → is_damaged_in d old ≡ Some b
  some_damaged d old c b found is =
      ap (option_map (is_datagram_damaged d)) (sym found) ∙ ap Some is

  -- A datagram begins another association in its exchange, or not.
  pub another_begun : (d : Datagram) (old : Table (TlsAnalysis K))
      (c : Connection (TlsAnalysis K)) (b begins : Bool) (side : Side)
      → Some c ≡ at (five_tuple_of_datagram d) old.live → side ≡ side_of c d.source → begins ≡ b
      → BeginsAnother begins (direction_of c.attachment.is_turned side)
      (held_datagram d.payload.now) c.attachment.transport
      → BeginsAnotherIn b d (at (five_tuple_of_datagram d) old.live)
  another_begun d old c b begins side found from is another =
      subst (λ o. BeginsAnotherIn b d o) found
      (subst (λ z. BeginsAnother b (direction_of c.attachment.is_turned z)
      (held_datagram d.payload.now) c.attachment.transport) from
      (subst (λ y. BeginsAnother y (direction_of c.attachment.is_turned side)
      (held_datagram d.payload.now) c.attachment.transport) is another))
