-- The order of connections by their last packets.
use Rattle.std.proofs.Common.{◌≡◌, ℕ, suc, ◌-◌, ◌≤◌, true, false, cond, Some, None, List, [], ◌∷◌, ◌++◌, length, slice_get, refl, sym, ap, ◌∙◌, subst, arith}
use Rattle.std.specs.Map.{set_value}
use Rattle.lru.specs.LruCache.{last_entry}
use Rattle.connections.proofs.TableLemmas.{is_five_tuple-refl, the_same}
use Rattle.connections.specs.FiveTuple.{is_five_tuple}
use Rattle.connections.specs.Table.{at, others}
use Rattle.connections.specs.declared.connection.Connection.{Connection}
use Rattle.connections.specs.declared.five_tuple.FiveTuple.{FiveTuple}
use Rattle.log_runs.proofs.PlaceLemmas.{Placed}
use Rattle.log_runs.proofs.PlaceLemmas.Placed.{first, in_place, left, unchanged}
use Rattle.log_runs.specs.Sharing.{Distinct, InTime}

pub apart_back : (f g : FiveTuple) → is_five_tuple f g ≡ false → is_five_tuple g f ≡ false
apart_back f g apart = (elim (is_five_tuple g f) as
    (λ b. is_five_tuple g f ≡ b → b ≡ false) [
      | true ↦ λ t. sym (subst (λ h. is_five_tuple h g ≡ true) (the_same g f t)
          (is_five_tuple-refl g))
          ∙ apart
      | false ↦ λ t. refl
    ]) refl

module _ {X : Type 0} where
  -- Where there is no entry, none is left of fewer.
  pub removed_none : (e f : FiveTuple) (xs : List (FiveTuple × X)) → at f xs ≡ None
      → at f (others e xs) ≡ None
  removed_none e f [] h = refl
  removed_none e f (x ∷ xs) h = (elim (is_five_tuple f x.0) as
      (λ b. is_five_tuple f x.0 ≡ b → at f (others e (x ∷ xs)) ≡ None) [
        | true ↦ λ t. let h' = rw t at h in cc
        | false ↦ λ t. (elim (is_five_tuple e x.0) as
            (λ b. at f (cond b xs (x ∷ others e xs)) ≡ None) [
              | true ↦ rw t at h
              | false ↦ rw t (removed_none e f xs (rw t at h))
            ])
      ]) refl

  written_none : (e f : FiveTuple) (xs : List (FiveTuple × X)) (w : X) → at f xs ≡ None
      → at f (set_value (is_five_tuple e) xs w) ≡ None
  written_none e f [] w h = refl
  written_none e f (x ∷ xs) w h = (elim (is_five_tuple f x.0) as
      (λ b. is_five_tuple f x.0 ≡ b → at f (set_value (is_five_tuple e) (x ∷ xs) w) ≡ None) [
        | true ↦ λ t. let h' = rw t at h in cc
        | false ↦ λ t. (elim (is_five_tuple e x.0) as
            (λ b. at f (cond b ((x.0, w) ∷ xs) (x ∷ set_value (is_five_tuple e) xs w)) ≡ None) [
              | true ↦ rw t (rw t at h)
              | false ↦ rw t (written_none e f xs w (rw t at h))
            ])
      ]) refl

  front_none : (f : FiveTuple) (xs ys : List (FiveTuple × X)) → at f (xs ++ ys) ≡ None
      → at f xs ≡ None
  front_none f [] ys h = refl
  front_none f (x ∷ xs) ys h = (elim (is_five_tuple f x.0) as
      (λ b. is_five_tuple f x.0 ≡ b → at f (x ∷ xs) ≡ None) [
        | true ↦ λ t. let h' = rw t at h in cc
        | false ↦ λ t. rw t (front_none f xs ys (rw t at h))
      ]) refl

  last_apart : (f : FiveTuple) (xs : List (FiveTuple × X)) (x : FiveTuple × X)
      → at f (xs ++ x ∷ []) ≡ None → is_five_tuple f x.0 ≡ false
  last_apart f [] x h = (elim (is_five_tuple f x.0) as
      (λ b. cond b (Some x.1) None ≡ None → b ≡ false) [
        | true ↦ λ t. cc
        | false ↦ λ t. refl
      ]) h
  last_apart f (y ∷ xs) x h = (elim (is_five_tuple f y.0) as
      (λ b. cond b (Some y.1) (at f (xs ++ x ∷ [])) ≡ None → is_five_tuple f x.0 ≡ false) [
        | true ↦ λ t. cc
        | false ↦ λ t. last_apart f xs x t
      ]) h

  -- Removing a last entry of another five-tuple.
  pub at_front : (f : FiveTuple) (xs : List (FiveTuple × X)) (x : FiveTuple × X)
      → is_five_tuple f x.0 ≡ false → at f (xs ++ x ∷ []) ≡ at f xs
  at_front f [] x apart = rw apart refl
  at_front f (y ∷ xs) x apart =
      ap (cond (is_five_tuple f y.0) (Some y.1)) (at_front f xs x apart)

  pub at_last : (f : FiveTuple) (xs : List (FiveTuple × X)) (x : FiveTuple × X)
      → at f xs ≡ None → is_five_tuple f x.0 ≡ true → at f (xs ++ x ∷ []) ≡ Some x.1
  at_last f [] x missed is = rw is refl
  at_last f (y ∷ xs) x missed is = (elim (is_five_tuple f y.0) as
      (λ b. cond b (Some y.1) (at f xs) ≡ None
      → cond b (Some y.1) (at f (xs ++ x ∷ [])) ≡ Some x.1) [
        | true ↦ λ t. cc
        | false ↦ λ t. at_last f xs x t is
      ]) missed

  -- Each five-tuple has one entry.
  pub alone : (e : FiveTuple) (xs : List (FiveTuple × X)) → Distinct xs
      → at e (others e xs) ≡ None
  alone e [] d = refl
  alone e (x ∷ xs) d = (elim (is_five_tuple e x.0) as
      (λ b. is_five_tuple e x.0 ≡ b → at e (cond b xs (x ∷ others e xs)) ≡ None) [
        | true ↦ λ t. subst (λ g. at g xs ≡ None) (sym (the_same e x.0 t)) d.0
        | false ↦ λ t. rw t (alone e xs d.1)
      ]) refl

  pub distinct_others : (e : FiveTuple) (xs : List (FiveTuple × X)) → Distinct xs
      → Distinct (others e xs)
  distinct_others e [] d = tt
  distinct_others e (x ∷ xs) d = elim (is_five_tuple e x.0) as
      (λ b. Distinct (cond b xs (x ∷ others e xs))) [
        | true ↦ d.1
        | false ↦ (removed_none e x.0 xs d.0, distinct_others e xs d.1)
      ]

  distinct_written : (e : FiveTuple) (xs : List (FiveTuple × X)) (w : X) → Distinct xs
      → Distinct (set_value (is_five_tuple e) xs w)
  distinct_written e [] w d = tt
  distinct_written e (x ∷ xs) w d = elim (is_five_tuple e x.0) as
      (λ b. Distinct (cond b ((x.0, w) ∷ xs) (x ∷ set_value (is_five_tuple e) xs w))) [
        | true ↦ (d.0, d.1)
        | false ↦ (written_none e x.0 xs w d.0, distinct_written e xs w d.1)
      ]

  pub distinct_front : (xs : List (FiveTuple × X)) (x : FiveTuple × X)
      → Distinct (xs ++ x ∷ []) → Distinct xs × (at x.0 xs ≡ None)
  distinct_front [] x d = (tt, refl)
  distinct_front (y ∷ xs) x d =
      let on = distinct_front xs x d.1 in
      let apart = apart_back y.0 x.0 (last_apart y.0 xs x d.0) in
      ((front_none y.0 xs (x ∷ []) d.0, on.0), rw apart on.1)

  -- The last entry.
  abbrev pub last_of : FiveTuple × X → List (FiveTuple × X) → FiveTuple × X
  last_of x [] = x
  last_of x (y ∷ ys) = last_of y ys

  pub last_is : (x : FiveTuple × X) (xs : List (FiveTuple × X))
      → slice_get (x ∷ xs) (length xs) ≡ Some (last_of x xs)
  last_is x [] = refl
  last_is x (y ∷ ys) = last_is y ys

module _ {T : Type 0} where
  pub distinct_placed : {f : FiveTuple} {time : ℕ} {xs ys : List (FiveTuple × Connection T)}
      → Placed f time xs ys → Distinct xs → Distinct ys
  distinct_placed {f} {time} {xs} (left h) d =
      subst (λ l. Distinct l) (sym h) (distinct_others f xs d)
  distinct_placed {f} {time} {xs} (first c noted h) d =
      subst (λ l. Distinct l) (sym h) (alone f xs d, distinct_others f xs d)
  distinct_placed {f} {time} {xs} (in_place a b was noted h) d =
      subst (λ l. Distinct l) (sym h) (distinct_written f xs b d)
  distinct_placed {f} {time} {xs} (unchanged h) d = subst (λ l. Distinct l) (sym h) d

  -- The latest comes first.
  pub in_time_later : (n m : ℕ) (xs : List (FiveTuple × Connection T)) → n ≤ m → InTime n xs
      → InTime m xs
  in_time_later n m [] h i = tt
  in_time_later n m (x ∷ xs) h i = (omega (arith, h, i.0), i.1)

  in_time_others : (e : FiveTuple) (n : ℕ) (xs : List (FiveTuple × Connection T)) → InTime n xs
      → InTime n (others e xs)
  in_time_others e n [] i = tt
  in_time_others e n (x ∷ xs) i = elim (is_five_tuple e x.0) as
      (λ b. InTime n (cond b xs (x ∷ others e xs))) [
        | true ↦ in_time_later x.1.last_time n xs i.0 i.1
        | false ↦ (i.0, in_time_others e x.1.last_time xs i.1)
      ]

  in_time_written : (e : FiveTuple) (n : ℕ) (xs : List (FiveTuple × Connection T))
      (c w : Connection T) → at e xs ≡ Some c → w.last_time ≡ c.last_time → InTime n xs
      → InTime n (set_value (is_five_tuple e) xs w)
  in_time_written e n [] c w found noted i = tt
  in_time_written e n (x ∷ xs) c w found noted i = (elim (is_five_tuple e x.0) as
      (λ b. cond b (Some x.1) (at e xs) ≡ Some c
      → InTime n (cond b ((x.0, w) ∷ xs) (x ∷ set_value (is_five_tuple e) xs w))) [
        | true ↦ λ t.
            let its : x.1 ≡ c = cc in
            let times : x.1.last_time ≡ w.last_time =
            ap {A = Connection T} (λ d. d.last_time) its ∙ sym noted in
            (omega (arith, i.0, times), subst (λ m. InTime m xs) times i.1)
        | false ↦ λ t. (i.0, in_time_written e x.1.last_time xs c w t noted i.1)
      ]) found

  pub in_time_front : (n : ℕ) (xs ys : List (FiveTuple × Connection T)) → InTime n (xs ++ ys)
      → InTime n xs
  in_time_front n [] ys i = tt
  in_time_front n (x ∷ xs) ys i = (i.0, in_time_front x.1.last_time xs ys i.1)

  pub in_time_placed : {f : FiveTuple} {time : ℕ} {xs ys : List (FiveTuple × Connection T)}
      (n : ℕ) → Placed f time xs ys → n ≤ time → InTime n xs → InTime time ys
  in_time_placed {f} {time} {xs} n (left h) le i =
      subst (λ l. InTime time l) (sym h)
      (in_time_later n time (others f xs) le (in_time_others f n xs i))
  in_time_placed {f} {time} {xs} n (first c noted h) le i =
      subst (λ l. InTime time l) (sym h) (
        omega (arith, noted),
        subst (λ m. InTime m (others f xs)) (sym noted)
            (in_time_later n time (others f xs) le (in_time_others f n xs i)),
      )
  in_time_placed {f} {time} {xs} n (in_place a b was noted h) le i =
      subst (λ l. InTime time l) (sym h)
      (in_time_later n time (set_value (is_five_tuple f) xs b) le
      (in_time_written f n xs a b was noted i))
  in_time_placed {f} {time} {xs} n (unchanged h) le i =
      subst (λ l. InTime time l) (sym h) (in_time_later n time xs le i)

  -- If the last one isn't idle, none is.
  older : (x : FiveTuple × Connection T) (xs : List (FiveTuple × Connection T))
      → InTime x.1.last_time xs → (last_of x xs).1.last_time ≤ x.1.last_time
  older x [] i = omega arith
  older x (y ∷ ys) i = omega (arith, i.0, older y ys i.1)

  among : (e : FiveTuple) (c : Connection T) (x : FiveTuple × Connection T)
      (xs : List (FiveTuple × Connection T)) → InTime x.1.last_time xs → at e (x ∷ xs) ≡ Some c
      → (last_of x xs).1.last_time ≤ c.last_time
  among e c x [] i found = (elim (is_five_tuple e x.0) as
      (λ b. cond b (Some x.1) None ≡ Some c → x.1.last_time ≤ c.last_time) [
        | true ↦ λ t. let its : x.1 ≡ c = cc in
            omega (arith, ap {A = Connection T} (λ d. d.last_time) its)
        | false ↦ λ t. cc
      ]) found
  among e c x (y ∷ ys) i found = (elim (is_five_tuple e x.0) as
      (λ b. cond b (Some x.1) (at e (y ∷ ys)) ≡ Some c
      → (last_of y ys).1.last_time ≤ c.last_time) [
        | true ↦ λ t. let its : x.1 ≡ c = cc in
            omega (arith, ap {A = Connection T} (λ d. d.last_time) its, i.0, older y ys i.1)
        | false ↦ λ t. among e c y ys i.1 t
      ]) found

  pub not_before_last : (e : FiveTuple) (c : Connection T) (n : ℕ)
      (xs : List (FiveTuple × Connection T)) → InTime n xs → at e xs ≡ Some c
      → (l : FiveTuple × Connection T) × (last_entry xs ≡ Some l)
      × (l.1.last_time ≤ c.last_time)
  not_before_last e c n [] i found = cc
  not_before_last e c n (x ∷ xs) i found =
      let behind : suc (length xs) - 1 ≡ length xs = omega arith in (
        last_of x xs,
        ap (λ m. slice_get (x ∷ xs) m) behind ∙ last_is x xs,
        among e c x xs i.1 found,
      )
