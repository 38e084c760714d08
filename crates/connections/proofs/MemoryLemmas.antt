-- The memory accounted for a table's connections after a step.
use Rattle.std.proofs.Common.{◌≡◌, ℕ, zero, suc, ◌+◌, ◌-◌, ◌≤◌, ◌<◌, ◌^◌, Bool, true, false, cond, Option, Some, None, List, [], ◌∷◌, ◌++◌, length}
use Rattle.std.proofs.Common.{take, refl, sym, ap, ◌∙◌, subst, arith}
use Rattle.std.specs.Prelude.{IfSome}
use Rattle.std.specs.Map.{lookup_entry, set_value}
use Rattle.std.specs.Option.{option_map_or}
use Rattle.lru.specs.LruCache.{last_entry, promoted}
use Rattle.connections.specs.FiveTuple.{is_five_tuple}
use Rattle.connections.specs.Table.{at, others, promoting, with_other, Table, WasLast}
use Rattle.connections.specs.Memory.{most_weight, total, IsAccounted, IsSettled, IsTakenOut}
use Rattle.connections.specs.Connection.{held_by}
use Rattle.connections.specs.declared.five_tuple.FiveTuple.{FiveTuple}
use Rattle.connections.specs.declared.connection.Side.{Side}
use Rattle.connections.specs.declared.connection.Connection.{Connection}
use Rattle.connections.proofs.TableLemmas.{front_and_last, written}

module _ {T : Type 0} where
  -- One is replaced.
  pub total_with : (e : FiveTuple) (xs : List (FiveTuple × Connection T)) (c w : Connection T)
      → at e xs ≡ Some c
      → total (set_value (is_five_tuple e) xs w) + c.weight ≡ total xs + w.weight
  total_with e [] c w h = absurd cc
  total_with e (x ∷ xs) c w h = go (is_five_tuple e x.0) h (total_with e xs c w)
    where
      go : (b : Bool) → cond b (Some x.1) (at e xs) ≡ Some c
          → (at e xs ≡ Some c
          → total (set_value (is_five_tuple e) xs w) + c.weight ≡ total xs + w.weight)
          → total (cond b ((x.0, w) ∷ xs) (x ∷ set_value (is_five_tuple e) xs w)) + c.weight ≡ total
          (x ∷ xs) + w.weight
      go true g later = let same : x.1 ≡ c = cc in let n = ap (λ y. y.weight) same in
          omega (arith, n)
      go false g later = let n = later g in omega (arith, n)

  -- One is removed.
  pub total_others : (e : FiveTuple) (xs : List (FiveTuple × Connection T)) (c : Connection T)
      → at e xs ≡ Some c
      → total (others e xs) + c.weight ≡ total xs
  total_others e [] c h = absurd cc
  total_others e (x ∷ xs) c h = go (is_five_tuple e x.0) h (total_others e xs c)
    where
      go : (b : Bool) → cond b (Some x.1) (at e xs) ≡ Some c
          → (at e xs ≡ Some c → total (others e xs) + c.weight ≡ total xs)
          → total (cond b xs (x ∷ others e xs)) + c.weight ≡ total (x ∷ xs)
      go true g later = let same : x.1 ≡ c = cc in let n = ap (λ y. y.weight) same in
          omega (arith, n)
      go false g later = let n = later g in omega (arith, n)

  -- None is found to remove.
  pub total_missed : (e : FiveTuple) (xs : List (FiveTuple × Connection T)) → at e xs ≡ None
      → total (others e xs) ≡ total xs
  total_missed e [] h = refl
  total_missed e (x ∷ xs) h = go (is_five_tuple e x.0) h (total_missed e xs)
    where
      go : (b : Bool) → cond b (Some x.1) (at e xs) ≡ None
          → (at e xs ≡ None → total (others e xs) ≡ total xs)
          → total (cond b xs (x ∷ others e xs)) ≡ total (x ∷ xs)
      go true g later = absurd cc
      go false g later = let n = later g in omega (arith, n)

  -- One is replaced and comes first.
  pub total_written : (e : FiveTuple) (xs : List (FiveTuple × Connection T)) (c w : Connection T)
      → at e xs ≡ Some c
      → total (set_value (is_five_tuple e) (promoted (is_five_tuple e) xs) w) + c.weight ≡ total
      xs + w.weight
  total_written e xs c w h =
      let n = ap total (written e xs c w h) in let m = total_others e xs c h in omega (arith, n, m)

  -- One comes first.
  total_found : (e : FiveTuple) (xs : List (FiveTuple × Connection T))
      (f : FiveTuple × Connection T) → lookup_entry (is_five_tuple e) xs ≡ Some f
      → f.1.weight + total (others e xs) ≡ total xs
  total_found e [] f h = absurd cc
  total_found e (x ∷ xs) f h = go (is_five_tuple e x.0) h (total_found e xs f)
    where
      go : (b : Bool) → cond b (Some x) (lookup_entry (is_five_tuple e) xs) ≡ Some f
          → (lookup_entry (is_five_tuple e) xs ≡ Some f
          → f.1.weight + total (others e xs) ≡ total xs)
          → f.1.weight + total (cond b xs (x ∷ others e xs)) ≡ total (x ∷ xs)
      go true g later = let same : x ≡ f = cc in let n = ap (λ y. y.1.weight) same in
          omega (arith, n)
      go false g later = let n = later g in omega (arith, n)

  total_promoted : (e : FiveTuple) (xs : List (FiveTuple × Connection T))
      → total (promoted (is_five_tuple e) xs) ≡ total xs
  total_promoted e xs = go (lookup_entry (is_five_tuple e) xs) refl
    where
      go : (o : Option (FiveTuple × Connection T)) → lookup_entry (is_five_tuple e) xs ≡ o
          → total (option_map_or (λ f. f ∷ others e xs) o xs) ≡ total xs
      go None h = refl
      go (Some f) h = total_found e xs f h

  total_append : (xs ys : List (FiveTuple × Connection T)) → total (xs ++ ys) ≡ total xs + total ys
  total_append [] ys = omega arith
  total_append (x ∷ xs) ys = let n = total_append xs ys in omega (arith, n)

  -- The last is removed.
  pub total_front : (xs : List (FiveTuple × Connection T)) (e : FiveTuple) (c : Connection T)
      → Some (e, c) ≡ last_entry xs
      → total (take (length xs - 1) xs) + c.weight ≡ total xs
  total_front xs e c h =
      let n = ap total (front_and_last xs (e, c) (sym h))
      ∙ total_append (take (length xs - 1) xs) ((e, c) ∷ []) in
      omega (arith, n)

  -- What is accounted for a table after a step.

  -- One is replaced by another with the same accounted memory.
  pub accounted_with : (e : FiveTuple) (t : Table T) (c w : Connection T) → Some c ≡ at e t.live
      → w.weight ≡ c.weight
      → IsAccounted t → IsAccounted (with_other e w t)
  accounted_with e t c w h same was = let n = total_with e t.live c w (sym h) in
      omega (arith, n, same, was)

  -- One is replaced by another with the same accounted memory, which comes first.
  pub accounted_written : (e : FiveTuple) (t : Table T) (c w : Connection T) → Some c ≡ at e t.live
      → w.weight ≡ c.weight
      → IsAccounted t
      → IsAccounted
      (record t { live = set_value (is_five_tuple e) (promoted (is_five_tuple e) t.live) w })
  accounted_written e t c w h same was = let n = total_written e t.live c w (sym h) in
      omega (arith, n, same, was)

  -- One comes first.
  pub accounted_promoted : (e : FiveTuple) (t : Table T) → IsAccounted t
      → IsAccounted (promoting e t)
  accounted_promoted e t was = was ∙ sym (total_promoted e t.live)

  -- A new one without accounted memory comes first.
  pub accounted_first : (e : FiveTuple) (t : Table T) (its : Connection T)
      (closed : List (FiveTuple × ℕ)) → None ≡ at e t.live → its.weight ≡ 0
      → IsAccounted t
      → IsAccounted (record { live = (e, its) ∷ others e t.live; closed = closed; held = t.held })
  accounted_first e t its closed h none was = let n = total_missed e t.live (sym h) in
      omega (arith, n, none, was)

  -- One without accounted memory replaces one that is removed.
  pub accounted_replaced : (e : FiveTuple) (t : Table T) (c w : Connection T) (n : ℕ)
      → Some c ≡ at e t.live → w.weight ≡ 0 → n ≡ t.held - c.weight
      → IsAccounted t → IsAccounted (record (with_other e w t) { held = n })
  accounted_replaced e t c w n h none less was = let m = total_with e t.live c w (sym h) in
      omega (arith, m, none, less, was)

  pub accounted_replaced_first : (e : FiveTuple) (t : Table T) (c w : Connection T) (n : ℕ)
      → Some c ≡ at e t.live → w.weight ≡ 0
      → n ≡ t.held - c.weight → IsAccounted t
      → IsAccounted
      (record t {
        live = set_value (is_five_tuple e) (promoted (is_five_tuple e) t.live) w;
        held = n;
      })
  accounted_replaced_first e t c w n h none less was =
      let m = total_written e t.live c w (sym h) in omega (arith, m, none, less, was)

  -- One is removed.
  pub accounted_others : (e : FiveTuple) (t : Table T) (c : Connection T)
      (closed : List (FiveTuple × ℕ)) (n : ℕ) → Some c ≡ at e t.live
      → n ≡ t.held - c.weight → IsAccounted t
      → IsAccounted (record { live = others e t.live; closed = closed; held = n })
  accounted_others e t c closed n h less was = let m = total_others e t.live c (sym h) in
      omega (arith, m, less, was)

  -- None is found to remove.
  pub accounted_missed : (e : FiveTuple) (t : Table T) → None ≡ at e t.live → IsAccounted t
      → IsAccounted (record t { live = others e t.live })
  accounted_missed e t h was = let m = total_missed e t.live (sym h) in omega (arith, m, was)

  -- The last is removed.
  pub accounted_front : (t : Table T) (e : FiveTuple) (c : Connection T)
      (closed : List (FiveTuple × ℕ)) (n : ℕ) → Some (e, c) ≡ last_entry t.live
      → n ≡ t.held - c.weight → IsAccounted t
      → IsAccounted (record { live = take (length t.live - 1) t.live; closed = closed; held = n })
  accounted_front t e c closed n h less was = let m = total_front t.live e c h in
      omega (arith, m, less, was)

  -- One's accounted memory is updated.
  pub accounted_settled : (e : FiveTuple) (t : Table T) (c w : Connection T) (n : ℕ)
      → Some c ≡ at e t.live → n ≡ (t.held - c.weight) + w.weight
      → IsAccounted t → IsAccounted (record (with_other e w t) { held = n })
  accounted_settled e t c w n h more was =
      let m = total_with e t.live c w (sym h) in let k = total_others e t.live c (sym h) in
      omega (arith, m, k, more, was)

-- The front of a longer front.
pub front_of_front : {A : Type 0} → (n m : ℕ) (xs : List A) → n ≤ m
    → take n (take m xs) ≡ take n xs
front_of_front zero m xs h = refl
front_of_front (suc n) zero xs h = absurd (omega (arith, h))
front_of_front (suc n) (suc m) [] h = refl
front_of_front (suc n) (suc m) (x ∷ xs) h =
    let less : n ≤ m = omega (arith, h) in ap (λ l. x ∷ l) (front_of_front n m xs less)

module _ {T : Type 0} where
  pub settled_at : (M : T → ℕ) (e : FiveTuple) (t : Table T) (c w : Connection T) (n : ℕ)
      → Some c ≡ at e t.live
      → w ≡ record c { weight = w.weight }
      → (t.held - c.weight + held_by w < 2 ^ 63 → held_by w ≤ w.weight)
      → w.weight ≤ most_weight M w
      → n ≡ (t.held - c.weight) + w.weight
      → IsSettled M e (at e t.live) t (record (with_other e w t) { held = n })
  settled_at M e t c w n h same enough within more =
      subst (λ o. IsSettled M e o t (record (with_other e w t) { held = n })) h (
        w,
        record {
          same = same;
          enough = enough;
          within = within;
          stands = ap (λ m. record (with_other e w t) { held = m }) more;
        },
      )

  pub taken_out : (o : Option (Connection T)) (old new : Table T)
      → IfSome o (WasLast old.live new.live)
      → IfSome o (λ c. new.held ≡ old.held - c.weight) → IfSome o (IsTakenOut old new)
  taken_out None old new l h = _
  taken_out (Some c) old new l h = record { last = l; held = h }

  pub none_within : (xs : List (FiveTuple × Connection T)) (n : ℕ) → xs ≡ [] → total xs ≤ n
  none_within xs n h = let e = ap total h in omega (arith, e)
