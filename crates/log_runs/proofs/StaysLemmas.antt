-- What becomes of a connection while packets of others are handled.
use Rattle.std.proofs.Common.{◌≡◌, ◌⊎◌, inl, inr, ℕ, ◌+◌, ◌≤◌, Bool, true, false, cond, Option, Some, None, List, [], ◌∷◌, ◌++◌, length, refl, sym, ap, ◌∙◌, subst, arith}
use Rattle.std.proofs.lemmas.List.{length-append}
use Rattle.std.specs.Prelude.{◌&&◌, is_some, not}
use Rattle.arrivals.specs.Arrival.{five_tuple_in}
use Rattle.arrivals.specs.declared.arrival.Arrival.{Arrival}
use Rattle.arrivals.specs.declared.reader.ArrivalReader.{ArrivalReader}
use Rattle.connections.proofs.TableLemmas.{at-others, is_five_tuple-refl, the_same}
use Rattle.connections.specs.FiveTuple.{is_five_tuple}
use Rattle.connections.specs.Table.{IsOver, Table, at, others}
use Rattle.connections.specs.declared.connection.Connection.{Connection}
use Rattle.connections.specs.declared.five_tuple.FiveTuple.{FiveTuple}
use Rattle.connections.specs.declared.table.TheConstants.{IDLE_LIMIT, MAX_CONNECTIONS}
use Rattle.packets.specs.Section.{Packet}
use Rattle.log_connections.specs.declared.analysis.TlsAnalysis.{TlsAnalysis}
use Rattle.log_runs.proofs.OthersLemmas.{changed_at, others_stay, rest-written}
use Rattle.log_runs.specs.Counting.{entry_of, rest_of}
use Rattle.log_connections.specs.Log.{KeepsOthers, disagreeing_of, with_disagreeing}
use Rattle.log_connections.specs.Packet.{Arrives, HandlesContent, IsLent, Processes, ends, goes_on, noted_if}
use Rattle.log_connections.specs.Packet.Arrives.{is_refused}
use Rattle.log_connections.specs.Reading.{Content, InFragments, Nothing, Whole}
use Rattle.log_connections.specs.Sink.{EndInTurn, EndsLast, EndsRefused, IsEnded, IsIdle}
use Rattle.log_connections.specs.Sink.EndInTurn.{none, one}
use Rattle.log_runs.specs.Runs.{ComesOut, HandlesEach, StaysOrComesOut, are_of_others, ended_in, is_of_other, last_ended, none_yet, one_more, outs_by, outs_in, outs_of, outs_over}

and_left : (a b : Bool) → (a && b) ≡ true → a ≡ true
and_left true b h = refl
and_left false b h = cc

and_right : (a b : Bool) → (a && b) ≡ true → b ≡ true
and_right true b h = h
and_right false b h = cc

not_true : (b : Bool) → not b ≡ true → b ≡ false
not_true true h = cc
not_true false h = refl

-- The entries of another five-tuple don't matter.
module _ (f e : FiveTuple) (apart : is_five_tuple f e ≡ false) where
  other_entry : (g : FiveTuple) → is_five_tuple f g ≡ true → is_five_tuple e g ≡ false
  other_entry g same = (elim (is_five_tuple e g) as
      (λ b. is_five_tuple e g ≡ b → b ≡ false) [
        | true ↦ λ t. let one : f ≡ e = the_same f g same ∙ sym (the_same e g t) in
            sym (subst (λ h. is_five_tuple f h ≡ true) one (is_five_tuple-refl f)) ∙ apart
        | false ↦ λ t. refl
      ]) refl

  differ : f ≡ e → ⊥
  differ same =
      let both : true ≡ false =
      sym (subst (λ h. is_five_tuple f h ≡ true) same (is_five_tuple-refl f)) ∙ apart in
      cc

module _ {X : Type 0} (f e : FiveTuple) (apart : is_five_tuple f e ≡ false) where
  at_rest : (xs : List (FiveTuple × X)) → at e (rest_of f xs) ≡ at e xs
  at_rest [] = refl
  at_rest (y ∷ xs) = (elim (is_five_tuple f y.0) as
      (λ b. is_five_tuple f y.0 ≡ b
      → at e (cond (not b) (y ∷ rest_of f xs) (rest_of f xs)) ≡ at e (y ∷ xs)) [
        | true ↦ λ t. rw (other_entry f e apart y.0 t) (at_rest xs)
        | false ↦ λ t. ap (cond (is_five_tuple e y.0) (Some y.1)) (at_rest xs)
      ]) refl

  at_by_rest : (xs ys : List (FiveTuple × X)) → rest_of f ys ≡ rest_of f xs → at e ys ≡ at e xs
  at_by_rest xs ys same = sym (at_rest ys) ∙ ap (at e) same ∙ at_rest xs

module _ {K : Type 0} (e : FiveTuple) where
  comes_left : (c : Connection (TlsAnalysis K))
      (xs ys : List (FiveTuple × Connection (TlsAnalysis K))) → ComesOut e c xs
      → ComesOut e c (xs ++ ys)
  comes_left c [] ys h = absurd h
  comes_left c (x ∷ xs) ys (inl h) = inl h
  comes_left c (x ∷ xs) ys (inr h) = inr (comes_left c xs ys h)

  comes_right : (c : Connection (TlsAnalysis K))
      (xs ys : List (FiveTuple × Connection (TlsAnalysis K))) → ComesOut e c ys
      → ComesOut e c (xs ++ ys)
  comes_right c [] ys h = h
  comes_right c (x ∷ xs) ys h = inr (comes_right c xs ys h)

  stays_same : (o p : Option (Connection (TlsAnalysis K)))
      (outs : List (FiveTuple × Connection (TlsAnalysis K))) → p ≡ o
      → StaysOrComesOut e o p outs
  stays_same None p outs same = same
  stays_same (Some c) p outs same = inl same

  stays_then : (o p q : Option (Connection (TlsAnalysis K)))
      (xs ys : List (FiveTuple × Connection (TlsAnalysis K))) → StaysOrComesOut e o p xs
      → StaysOrComesOut e p q ys → StaysOrComesOut e o q (xs ++ ys)
  stays_then None p q xs ys h k = subst (λ r. StaysOrComesOut e r q ys) h k
  stays_then (Some c) p q xs ys (inl h) k =
      go (subst (λ r. StaysOrComesOut e r q ys) h k)
    where
      go : (q ≡ Some c) ⊎ ComesOut e c ys → (q ≡ Some c) ⊎ ComesOut e c (xs ++ ys)
      go (inl same) = inl same
      go (inr comes) = inr (comes_right c xs ys comes)
  stays_then (Some c) p q xs ys (inr h) k = inr (comes_left c xs ys h)

  -- The last entry ends.
  last_stays : (early : Bool) (zs : List (FiveTuple × Connection (TlsAnalysis K))) (f : FiveTuple)
      (c c' : Connection (TlsAnalysis K)) → IsEnded early c c'
      → StaysOrComesOut e (at e (zs ++ (f, c) ∷ [])) (at e zs) ((f, c') ∷ [])
  last_stays early [] f c c' ended = (elim (is_five_tuple e f) as
      (λ b. is_five_tuple e f ≡ b → StaysOrComesOut e (cond b (Some c) None) None ((f, c') ∷ [])) [
        | true ↦ λ t. inr (inl (sym (the_same e f t), (early, ended)))
        | false ↦ λ t. refl
      ]) refl
  last_stays early (z ∷ zs) f c c' ended = elim (is_five_tuple e z.0) as
      (λ b. StaysOrComesOut e (cond b (Some z.1) (at e (zs ++ (f, c) ∷ [])))
      (cond b (Some z.1) (at e zs)) ((f, c') ∷ [])) [
        | true ↦ inl refl
        | false ↦ last_stays early zs f c c' ended
      ]

  ended_stays :
      {early : Bool}
      {Is : List (FiveTuple × Connection (TlsAnalysis K)) → Connection (TlsAnalysis K) → Type 0}
      {xs ys : List (FiveTuple × Connection (TlsAnalysis K))}
      {outs : List (Connection (TlsAnalysis K))} (h : EndInTurn early Is xs ys outs)
      → StaysOrComesOut e (at e xs) (at e ys) (ended_in h)
  ended_stays {xs = xs} none = stays_same (at e xs) (at e xs) [] refl
  ended_stays {early} {xs = xs} (one ys zs outs c c' before is last) =
      stays_then (at e xs) (at e ys) (at e zs) (ended_in before) ((last.five_tuple, c') ∷ [])
      (ended_stays before)
      (subst (λ l. StaysOrComesOut e (at e l) (at e zs) ((last.five_tuple, c') ∷ []))
      (sym last.stood) (last_stays early zs last.five_tuple c c' last.ended))

  oldest_stays : (xs ys : List (FiveTuple × Connection (TlsAnalysis K)))
      (o : Option (Connection (TlsAnalysis K))) (h : EndsLast true xs ys o)
      → StaysOrComesOut e (at e xs) (at e ys) (last_ended xs ys o h)
  oldest_stays xs ys None h = stays_same (at e xs) (at e ys) [] (ap (at e) (h.1 ∙ sym h.0))
  oldest_stays xs ys (Some c') h =
      subst (λ l. StaysOrComesOut e (at e l) (at e ys) ((h.1.five_tuple, c') ∷ []))
      (sym h.1.stood) (last_stays true ys h.1.five_tuple h.0 c' h.1.ended)

module _ {K : Type 0} (M : K → ℕ) (e : FiveTuple) where
  lent_stays : (f : FiveTuple) → is_five_tuple f e ≡ false
      → (o : Option (Connection (TlsAnalysis K))) (old new : Table (TlsAnalysis K))
      → IsLent f o old new → at e new.live ≡ at e old.live
  lent_stays f apart None old new same = ap (λ t. at e t.live) same
  lent_stays f apart (Some c) old new lent =
      ap (λ t. at e t.live) lent.2
      ∙ at_by_rest f e apart old.live _ (rest-written f old.live lent.0)

  refused_stays : (f : FiveTuple) → is_five_tuple f e ≡ false
      → (old mid new : Table (TlsAnalysis K)) (over : Option (Connection (TlsAnalysis K)))
      (before after : Option (List (Connection (TlsAnalysis K))))
      → KeepsOthers f old.live mid.live → (h : EndsRefused f mid.live new.live before after)
      → StaysOrComesOut e (at e old.live) (at e new.live)
      (entry_of f over
      ++ (entry_of f h.own ++ last_ended (others f mid.live) new.live h.oldest h.oldest_ends))
  refused_stays f apart old mid new over before after keeps h =
      let differs = differ f e apart in
      let oldest = last_ended (others f mid.live) new.live h.oldest h.oldest_ends in
      let same = at-others f e differs mid.live ∙ keeps.same e differs in
      stays_then e (at e old.live) (at e old.live) (at e new.live) (entry_of f over)
      (entry_of f h.own ++ oldest) (stays_same e (at e old.live) (at e old.live) _ refl)
      (stays_then e (at e old.live) (at e old.live) (at e new.live) (entry_of f h.own) oldest
      (stays_same e (at e old.live) (at e old.live) _ refl)
      (subst (λ o. StaysOrComesOut e o (at e new.live) oldest) same
      (oldest_stays e (others f mid.live) new.live h.oldest h.oldest_ends)))

  module _ {a : Arrival} {old new : Table (TlsAnalysis K)}
      {before after : Option (List (Connection (TlsAnalysis K)))} where
    arrives_stays : is_five_tuple (five_tuple_in a) e ≡ false
        → (h : Arrives M a old new before after)
        → StaysOrComesOut e (at e old.live) (at e new.live) (outs_in h)
    arrives_stays apart (ends over accepts received) =
        stays_same e (at e old.live) (at e new.live) _
        (at_by_rest (five_tuple_in a) e apart old.live new.live
        (others_stay M a old new (Some over) accepts))
    arrives_stays apart (goes_on mid accepts lent received) =
        stays_same e (at e old.live) (at e new.live) _
        (lent_stays (five_tuple_in a) apart (at (five_tuple_in a) mid.live) mid new lent
        ∙ at_by_rest (five_tuple_in a) e apart old.live mid.live
        (others_stay M a old mid None accepts))
    arrives_stays apart (is_refused mid over refuses keeps ended) =
        refused_stays (five_tuple_in a) apart old mid new over ended.0 after keeps ended.2

  module _ {a : Arrival} {limit : ℕ} {old new : Table (TlsAnalysis K)}
      {before after : Option (List (Connection (TlsAnalysis K)))} where
    processes_stays : is_five_tuple (five_tuple_in a) e ≡ false
        → (p : Processes M a limit old new before after)
        → StaysOrComesOut e (at e old.live) (at e new.live) (outs_by p)
    processes_stays apart p =
        stays_then e (at e old.live) (at e p.awake.live) (at e new.live) (ended_in p.idle.ended)
        (outs_in p.arrives ++ ended_in p.evicted.ended) (ended_stays e p.idle.ended)
        (stays_then e (at e p.awake.live) (at e p.full.live) (at e new.live) (outs_in p.arrives)
        (ended_in p.evicted.ended) (arrives_stays apart p.arrives)
        (ended_stays e p.evicted.ended))

  noted_stays : (f : FiveTuple) → is_five_tuple f e ≡ false → (b : Bool) (a : Arrival) (n : ℕ)
      (t : Table (TlsAnalysis K)) → five_tuple_in a ≡ f
      → at e (noted_if b a n t).live ≡ at e t.live
  noted_stays f apart true a n t is = refl
  noted_stays f apart false a n t is =
      at_by_rest (five_tuple_in a) e (ap (λ g. is_five_tuple g e) is ∙ apart) t.live
      (with_disagreeing a n t).live
      (changed_at (five_tuple_in a) (disagreeing_of a n) (at (five_tuple_in a) t.live) t
      (with_disagreeing a n t) refl)

  module _ (limit : ℕ) (old new : Table (TlsAnalysis K))
      (before after : Option (List (Connection (TlsAnalysis K)))) where
    handles_stays : (c : Content) (h : HandlesContent M c limit old new before after)
        → is_of_other e c ≡ true
        → StaysOrComesOut e (at e old.live) (at e new.live)
        (outs_of M limit old new before after c h)
    handles_stays Nothing h other =
        stays_same e (at e old.live) (at e new.live) [] (ap (λ t. at e t.live) h.0)
    handles_stays (Whole a) h other = processes_stays (not_true _ other) h
    handles_stays (InFragments a n) h other =
        let apart = not_true (is_five_tuple (five_tuple_in a) e) other in
        subst (λ o. StaysOrComesOut e o (at e new.live) (outs_by h.processes))
        (noted_stays (five_tuple_in a) apart false a n old refl)
        (subst
        (λ o. StaysOrComesOut e (at e (with_disagreeing a n old).live) o (outs_by h.processes))
        (sym (ap (λ t. at e t.live) h.noted
        ∙ noted_stays (five_tuple_in a) apart (is_some (at (five_tuple_in a) old.live)) a n
        h.processed refl))
        (processes_stays apart h.processes))

  module _ {limit : ℕ} {reader : ArrivalReader} {old : Table (TlsAnalysis K)}
      {before : Option (List (Connection (TlsAnalysis K)))} where
    pub each_stays : {packets : List Packet} {read : ArrivalReader} {new : Table (TlsAnalysis K)}
        {after : Option (List (Connection (TlsAnalysis K)))}
        (h : HandlesEach M limit reader old before packets read new after)
        → are_of_others e h ≡ true
        → StaysOrComesOut e (at e old.live) (at e new.live) (outs_over h)
    each_stays none_yet others = stays_same e (at e old.live) (at e old.live) [] refl
    each_stays (one_more packets p read reads mid new between after h handles) others =
        stays_then e (at e old.live) (at e mid.live) (at e new.live) (outs_over h)
        (outs_of M limit mid new between after handles.content handles.handles)
        (each_stays h (and_left (are_of_others e h) (is_of_other e handles.content) others))
        (handles_stays limit mid new between after handles.content handles.handles
        (and_right (are_of_others e h) (is_of_other e handles.content) others))

-- Connections that aren't idle stay when others time out.
module _ {K : Type 0} (e : FiveTuple) (c : Connection (TlsAnalysis K)) where
  stays_before : (zs : List (FiveTuple × Connection (TlsAnalysis K))) (f : FiveTuple)
      (d : Connection (TlsAnalysis K)) → at e (zs ++ (f, d) ∷ []) ≡ Some c → (d ≡ c → ⊥)
      → at e zs ≡ Some c
  stays_before [] f d found differs = (elim (is_five_tuple e f) as
      (λ b. cond b (Some d) None ≡ Some c
      → ◌≡◌ {A = Option (Connection (TlsAnalysis K))} None (Some c)) [
        | true ↦ λ h. absurd (differs cc)
        | false ↦ λ h. h
      ]) found
  stays_before (z ∷ zs) f d found differs = (elim (is_five_tuple e z.0) as
      (λ b. cond b (Some z.1) (at e (zs ++ (f, d) ∷ [])) ≡ Some c
      → cond b (Some z.1) (at e zs) ≡ Some c) [
        | true ↦ λ h. h
        | false ↦ λ h. stays_before zs f d h differs
      ]) found

  not_over : (time : ℕ) (ys : List (FiveTuple × Connection (TlsAnalysis K)))
      (d : Connection (TlsAnalysis K)) → length ys ≤ MAX_CONNECTIONS
      → time ≤ c.last_time + IDLE_LIMIT → IsOver time ys d.last_time → d ≡ c → ⊥
  not_over time ys d few late (inl idle) same =
      let times = ap (λ x. x.last_time) same in omega (arith, late, idle, times)
  not_over time ys d few late (inr many) same = omega (arith, few, many)

  pub not_idle_stays : (time : ℕ) {xs ys : List (FiveTuple × Connection (TlsAnalysis K))}
      {outs : List (Connection (TlsAnalysis K))} → EndInTurn false (IsIdle time) xs ys outs
      → at e xs ≡ Some c → time ≤ c.last_time + IDLE_LIMIT → length xs ≤ MAX_CONNECTIONS
      → (at e ys ≡ Some c) × (length ys ≤ MAX_CONNECTIONS)
  not_idle_stays time none found late few = (found, few)
  not_idle_stays time (one ys zs outs d d' before is last) found late few =
      let first = not_idle_stays time before found late few in (
        stays_before zs last.five_tuple d (ap (at e) (sym last.stood) ∙ first.0)
            (not_over time ys d first.1 late is),
        omega (
          arith,
          first.1,
          ap length last.stood,
          length-append zs ((last.five_tuple, d) ∷ []),
        ),
      )
