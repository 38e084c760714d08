-- What a sink received of the connections that ended.
use Rattle.std.proofs.Common.{◌≡◌, List, [], ◌∷◌, ◌++◌, Option, Some, None, Bool, true, false, refl, sym, subst, ◌∙◌, ap, append_assoc}
use Rattle.std.proofs.lemmas.List.{append-nil}
use Rattle.std.specs.Prelude.{IfSome, IfNone, OnOk, Result, Ok, Err, ℕ, ◌<◌, ◌≤◌}
use Rattle.std.specs.Option.{option_map}
use Rattle.arrivals.specs.declared.counts.Counts.{Counts}
use Rattle.connections.specs.Memory.{IsAccounted, IsTakenOut, open_part, total}
use Rattle.connections.specs.Table.{IsOver, NoneIsOver, Table, WasLast}
use Rattle.connections.specs.declared.five_tuple.FiveTuple.{FiveTuple}
use Rattle.connections.specs.declared.connection.Connection.{Connection}
use Rattle.log_connections.proofs.FoundLemmas.{counted_both, counted_from, counted_one}
use Rattle.log_connections.specs.Found.{AreCounted, IsCounted}
use Rattle.log_connections.specs.Sink.{Adds, EndsAs, Evicts, EndsIdle, EndsLast, IsOverLimit, IsEnded, IsLastEnded, PassesAllButLast, PassesEnded, Receives, cut_off, marked, none, one, wholly}
use Rattle.log_connections.specs.declared.analysis.TlsAnalysis.{TlsAnalysis}

module _ {X : Type 0} where
  pub adds_none : (r : Option (List X)) → Adds r r []
  adds_none None = tt
  adds_none (Some xs) = sym (append-nil xs)

  pub adds_same : (r s : Option (List X)) → s ≡ r → Adds r s []
  adds_same r s is = subst (λ x. Adds r x []) (sym is) (adds_none r)

  pub adds_then : (a b c : Option (List X)) (xs ys : List X) → Adds a b xs → Adds b c ys
      → Adds a c (xs ++ ys)
  adds_then None b c xs ys h k = tt
  adds_then (Some before) None c xs ys h k = absurd h
  adds_then (Some before) (Some mid) None xs ys h k = absurd k
  adds_then (Some before) (Some mid) (Some after) xs ys h k =
      k ∙ ap (λ t. t ++ ys) h ∙ append_assoc before xs ys

  -- Nothing more was received.
  pub adds_still : (a b c : Option (List X)) (xs : List X) → Adds a b xs → Adds b c []
      → Adds a c xs
  adds_still a b c xs h k = subst (Adds a c) (append-nil xs) (adds_then a b c xs [] h k)

  -- Something was lent between.
  pub adds_between : (a b c d : Option (List X)) (xs : List X) → Adds a b [] → Adds b c xs
      → Adds c d [] → Adds a d xs
  adds_between a b c d xs h k l = adds_still a c d xs (adds_then a b c [] xs h k) l

  -- What follows from what a sink received.
  pub received_then : {E P : Type 0} (r : Result Unit E) (a b : Option (List X)) (x : X)
      → (Adds a b (x ∷ []) → P) → Receives a b r x → OnOk r P
  received_then (Ok u) a b x f h = f h
  received_then (Err e) a b x f h = tt

module _ {K : Type 0} (early : Bool)
    (Is : List (FiveTuple × Connection (TlsAnalysis K)) → Connection (TlsAnalysis K) → Type 0) where
  pub none_ended : (xs : List (FiveTuple × Connection (TlsAnalysis K)))
      (r : Option (List (Connection (TlsAnalysis K)))) (k : Counts)
      → (ended : PassesEnded early Is xs xs r r) × AreCounted ended.outs k k
  none_ended xs r k = (record { outs = []; ended = none; received = adds_none r }, refl)

  pub one_more_ended : (xs ys zs : List (FiveTuple × Connection (TlsAnalysis K)))
      (c c' : Connection (TlsAnalysis K)) (r s t : Option (List (Connection (TlsAnalysis K))))
      (k l m n : Counts)
      → ((ended : PassesEnded early Is xs ys r s) × AreCounted ended.outs k l) → Is ys c
      → IsLastEnded early ys zs c c' → Adds s t (c' ∷ []) → m ≡ l → IsCounted c' m n
      → (ended : PassesEnded early Is xs zs r t) × AreCounted ended.outs k n
  one_more_ended xs ys zs c c' r s t k l m n before is last received same counted = (
    record {
      outs = before.0.outs ++ c' ∷ [];
      ended = one ys zs before.0.outs c c' before.0.ended is last;
      received = adds_then r s t before.0.outs (c' ∷ []) before.0.received received;
    },
    counted_both before.0.outs (c' ∷ []) k l n before.1
        (counted_from (c' ∷ []) l m n same (counted_one c' m n counted)),
  )

  pub ended_still : (xs ys zs : List (FiveTuple × Connection (TlsAnalysis K)))
      (r s : Option (List (Connection (TlsAnalysis K)))) (k l m : Counts)
      → ((ended : PassesEnded early Is xs ys r s) × AreCounted ended.outs k l) → zs ≡ ys → m ≡ l
      → (ended : PassesEnded early Is xs zs r s) × AreCounted ended.outs k m
  ended_still xs ys zs r s k l m before live counts =
      subst (λ n. (ended : PassesEnded early Is xs zs r s) × AreCounted ended.outs k n) (sym counts)
      (subst (λ v. (ended : PassesEnded early Is xs v r s) × AreCounted ended.outs k l) (sym live)
      before)

  pub all_but_last : (xs ys zs : List (FiveTuple × Connection (TlsAnalysis K)))
      (c c' : Connection (TlsAnalysis K)) (r s t : Option (List (Connection (TlsAnalysis K))))
      → PassesEnded early Is xs ys r s → Is ys c → IsLastEnded early ys zs c c' → Adds s t []
      → PassesAllButLast early Is xs zs r t
  all_but_last xs ys zs c c' r s t before is last received = record {
    outs = before.outs;
    refused = c';
    ended = one ys zs before.outs c c' before.ended is last;
    received = adds_still r s t before.outs before.received received;
  }

-- A connection that ended, and is marked.
module _ {K : Type 0} where
  pub is_marked : (c : Connection (TlsAnalysis K)) → c.attachment.is_ended_early ≡ true
      → c ≡ marked true c
  is_marked c is = ap {A = Bool} (λ b. marked b c) is

  pub ended_early : (c d e : Connection (TlsAnalysis K)) → IsEnded false c d → e ≡ marked true d
      → IsEnded true c e
  ended_early c d e (wholly last rest was) is =
      wholly last rest (is ∙ ap {A = Connection (TlsAnalysis K)} (marked true) was)
  ended_early c d e (cut_off last cut was) is =
      cut_off last cut (is ∙ ap {A = Connection (TlsAnalysis K)} (marked true) was)

  pub ended_early_as : {B : Type 0} (value : B → Connection (TlsAnalysis K)) (taken : Option B)
      (d e : Connection (TlsAnalysis K)) → EndsAs false (option_map value taken) (Some d)
      → e ≡ marked true d → EndsAs true (option_map value taken) (Some e)
  ended_early_as value None d e ends is = ends
  ended_early_as value (Some b) d e ends is = ended_early (value b) d e ends is

-- What a call took out, as the analysis of its last bytes left it.
module _ {K B : Type 0} (value : B → Connection (TlsAnalysis K)) (t u : Table (TlsAnalysis K)) where
  pub ends_idle : (time : ℕ) (taken ended : Option B)
      → IfSome taken (λ b. WasLast t.live u.live (value b) × IsOver time t.live (value b).last_time)
      → IfNone taken ((u.live ≡ t.live) × NoneIsOver time t.live)
      → EndsAs false (option_map value taken) (option_map value ended)
      → EndsIdle time t.live u.live (option_map value ended)
  ends_idle time None None some unless ends = unless
  ends_idle time None (Some d) some unless ends = absurd ends
  ends_idle time (Some b) None some unless ends = absurd ends
  ends_idle time (Some b) (Some d) some unless ends = (
    value b,
    record {
      five_tuple = some.0.five_tuple;
      stood = some.0.stood;
      ended = ends;
    },
    some.1,
  )

  pub ends_last : (early : Bool) (taken ended : Option B)
      → IfSome taken (λ b. WasLast t.live u.live (value b))
      → IfNone taken (t.live ≡ []) → IfNone taken (u ≡ t)
      → EndsAs early (option_map value taken) (option_map value ended)
      → EndsLast early t.live u.live (option_map value ended)
  ends_last early None None some empty same ends = (empty, ap (λ x. x.live) same ∙ empty)
  ends_last early None (Some d) some empty same ends = absurd ends
  ends_last early (Some b) None some empty same ends = absurd ends
  ends_last early (Some b) (Some d) some empty same ends = (
    value b,
    record {
      five_tuple = some.five_tuple;
      stood = some.stood;
      ended = ends;
    },
  )

  pub ends_evicted : (limit : ℕ) (taken ended : Option B)
      → IfSome taken (λ b. IsTakenOut t u (value b)) → IfSome taken (λ b. open_part limit < t.held)
      → IfNone taken ((u.live ≡ t.live) × (u.held ≡ t.held))
      → IfNone taken (IsAccounted t → total u.live ≤ open_part limit)
      → EndsAs true (option_map value taken) (option_map value ended)
      → Evicts limit t u (option_map value ended)
  ends_evicted limit None None some evicted same within ends = (same.0, within)
  ends_evicted limit None (Some d) some evicted same within ends = absurd ends
  ends_evicted limit (Some b) None some evicted same within ends = absurd ends
  ends_evicted limit (Some b) (Some d) some evicted same within ends = (
    value b,
    record {
      five_tuple = some.last.five_tuple;
      stood = some.last.stood;
      ended = ends;
    },
    evicted,
  )

module _ {K : Type 0} where
  -- It ended because there was more than the limit allows.
  pub evicted_by : (t u : Table (TlsAnalysis K)) (m n : ℕ) (c : Connection (TlsAnalysis K)) → m ≡ n
      → (IsAccounted t → IsAccounted u) → open_part m < u.held → IsOverLimit t n u.live c
  evicted_by t u m n c same accounted over h =
      subst (λ p. open_part p < total u.live) same
      (subst (λ k. open_part m < k) (accounted h) over)
