-- What the table holds after a step.
use Rattle.std.proofs.Common.{◌≡◌, ℕ, zero, suc, ◌+◌, ◌-◌, ◌<◌, ◌≤◌, ◌^◌, ◌&&◌, ◌||◌, nat_lt, not, Bool, true, false, cond, Option, Some, None, [], ◌∷◌, ◌++◌, length, reverse}
use Rattle.std.proofs.Common.{take, slice_get, refl, sym, ap, ◌∙◌, subst, arith, rules}
use Rattle.std.proofs.Common.{length-append, ltb-true}
use Rattle.std.proofs.lemmas.List.{length-reverse, reverse-append, reverse-reverse}
use Rattle.std.specs.Prelude.{IfOk, OnErr, Result, Ok, Err}
use Rattle.std.specs.Map.{lookup_entry}
use Rattle.lru.specs.LruCache.{LruCache, last_entry, put_entries}
use Rattle.capture.specs.declared.fragment.IpFragment.{IpFragment}
use Rattle.ip_fragments.specs.Key.{are_keys}
use Rattle.ip_fragments.specs.Waiting.{Waiting, Effect, Drops, Keeps, Completes, Receives, begun, counted, end_of, is_other_end, is_waiting, most_of, received, weight_of}
use Rattle.ip_fragments.specs.Table.{Becomes, BecomesBy, BeginsAt, ReceivesAt, Table, at, found_or_begun, its, kept, left_of, others, put_at, putting, weight, with_other}
use Rattle.ip_fragments.specs.declared.fragments.Received.{Received}
use Rattle.ip_fragments.specs.declared.outcome.FragmentOutcome.{FragmentOutcome}
use Rattle.ip_fragments.specs.declared.outcome.FragmentOutcome.TheVariants as outcome
use Rattle.ip_fragments.specs.declared.key.Key.{Key}

-- A key is equal to itself.
pub are_keys-refl : (k : Key) → are_keys k k ≡ true
are_keys-refl k = search rules

-- A datagram that was put is found.
pub at_with : (k : Key) (t : Table) (v w : Waiting) → at k t ≡ Some v
    → at k (with_other k w t) ≡ Some w
at_with k [] v w h = absurd cc
at_with k (e ∷ t) v w h = go (are_keys k e.0) refl (at_with k t v w)
  where
    go : (b : Bool) → are_keys k e.0 ≡ b → (at k t ≡ Some v → at k (with_other k w t) ≡ Some w)
        → at k (with_other k w (e ∷ t)) ≡ Some w
    go true p behind = rw p (rw p refl)
    go false p behind = rw p (rw p (behind (rw p at h)))

-- The others stay.
pub others_with : (k : Key) (t : Table) (w : Waiting) → others k (with_other k w t) ≡ others k t
others_with k [] w = refl
others_with k (e ∷ t) w = go (are_keys k e.0) refl (others_with k t w)
  where
    go : (b : Bool) → are_keys k e.0 ≡ b → others k (with_other k w t) ≡ others k t
        → others k (with_other k w (e ∷ t)) ≡ others k (e ∷ t)
    go true p behind = rw p (rw p refl)
    go false p behind = rw p (rw p (ap (λ l. e ∷ l) behind))

-- Removing a key that isn't in the table changes nothing.
pub missed : (k : Key) (t : Table) → at k t ≡ None → others k t ≡ t
missed k [] h = refl
missed k (e ∷ t) h = go (are_keys k e.0) refl (missed k t)
  where
    go : (b : Bool) → are_keys k e.0 ≡ b → (at k t ≡ None → others k t ≡ t)
        → others k (e ∷ t) ≡ e ∷ t
    go true p behind = let h' = rw p at h in absurd cc
    go false p behind = rw p (ap (λ l. e ∷ l) (behind (rw p at h)))

no_entry : (k : Key) (t : Table) → at k t ≡ None → lookup_entry (are_keys k) t ≡ None
no_entry k [] h = refl
no_entry k (e ∷ t) h = go (are_keys k e.0) refl (no_entry k t)
  where
    go : (b : Bool) → are_keys k e.0 ≡ b → (at k t ≡ None → lookup_entry (are_keys k) t ≡ None)
        → lookup_entry (are_keys k) (e ∷ t) ≡ None
    go true p behind = let h' = rw p at h in absurd cc
    go false p behind = rw p (behind (rw p at h))

take-all : (n : ℕ) (t : Table) → length t ≤ n → take n t ≡ t
take-all zero [] h = refl
take-all zero (e ∷ t) h = absurd (omega (arith, h))
take-all (suc n) [] h = refl
take-all (suc n) (e ∷ t) h = ap (λ l. e ∷ l) (take-all n t (omega (arith, h)))

-- A new datagram comes first.
pub put_first : (c : LruCache Key Waiting) (k : Key) (w : Waiting) → at k c.entries ≡ None
    → length c.entries ≤ c.cap - 1
    → put_entries are_keys c k w ≡ (k, w) ∷ c.entries
put_first c k w h fits =
    rw (no_entry k c.entries h) (ap (λ l. (k, w) ∷ l) (take-all (c.cap - 1) c.entries fits))

pub at_first : (k : Key) (t : Table) (w : Waiting) → at k ((k, w) ∷ t) ≡ Some w
at_first k t w = rw (are_keys-refl k) refl

pub others_first : (k : Key) (t : Table) (w : Waiting) → others k ((k, w) ∷ t) ≡ t
others_first k t w = rw (are_keys-refl k) refl

-- The memory of the table after a datagram changes.
pub weight_with : (k : Key) (t : Table) (v w : Waiting) → at k t ≡ Some v
    → weight (with_other k w t) + weight_of v ≡ weight t + weight_of w
weight_with k [] v w h = absurd cc
weight_with k (e ∷ t) v w h = go (are_keys k e.0) h (weight_with k t v w)
  where
    go : (b : Bool) → cond b (Some e.1) (at k t) ≡ Some v
        → (at k t ≡ Some v → weight (with_other k w t) + weight_of v ≡ weight t + weight_of w)
        → weight (cond b ((e.0, w) ∷ t) (e ∷ with_other k w t)) + weight_of v ≡ weight
        (e ∷ t) + weight_of w
    go true g later = let same : e.1 ≡ v = cc in let n = ap weight_of same in omega (arith, n)
    go false g later = let n = later g in omega (arith, n)

pub weight_others : (k : Key) (t : Table) (v : Waiting) → at k t ≡ Some v
    → weight (others k t) + weight_of v ≡ weight t
weight_others k [] v h = absurd cc
weight_others k (e ∷ t) v h = go (are_keys k e.0) h (weight_others k t v)
  where
    go : (b : Bool) → cond b (Some e.1) (at k t) ≡ Some v
        → (at k t ≡ Some v → weight (others k t) + weight_of v ≡ weight t)
        → weight (cond b t (e ∷ others k t)) + weight_of v ≡ weight (e ∷ t)
    go true g later = let same : e.1 ≡ v = cc in let n = ap weight_of same in omega (arith, n)
    go false g later = let n = later g in omega (arith, n)

pub weight_at : (k : Key) (t : Table) (v : Waiting) → at k t ≡ Some v → weight_of v ≤ weight t
weight_at k t v h = let n = weight_others k t v h in omega (arith, n)

weight_append : (t u : Table) → weight (t ++ u) ≡ weight t + weight u
weight_append [] u = omega arith
weight_append (e ∷ t) u = let n = weight_append t u in omega (arith, n)

-- The last entry of a table.
last_of : (x : Key × Waiting) (t : Table) (p : Key × Waiting)
    → slice_get (x ∷ t) (length t) ≡ Some p
    → x ∷ t ≡ take (length t) (x ∷ t) ++ p ∷ []
last_of x [] p h = cc
last_of x (y ∷ t) p h = ap (λ l. x ∷ l) (last_of y t p h)

front_and_last : (t : Table) (p : Key × Waiting) → slice_get t (length t - 1) ≡ Some p
    → t ≡ take (length t - 1) t ++ p ∷ []
front_and_last [] p h = cc
front_and_last (x ∷ t) p h = let e : suc (length t) - 1 ≡ length t = omega arith in
    rw e (last_of x t p (rw e at h))

pub weight_front : (t : Table) (k : Key) (w : Waiting) → Some (k, w) ≡ last_entry t
    → weight (take (length t - 1) t) + weight_of w ≡ weight t
weight_front t k w h =
    let n = ap weight (front_and_last t (k, w) (sym h))
    ∙ weight_append (take (length t - 1) t) ((k, w) ∷ []) in
    omega (arith, n)

-- The oldest comes first where the table is read backwards.
oldest_first : (t : Table) (k : Key) (w : Waiting) → Some (k, w) ≡ last_entry t
    → reverse t ≡ (k, w) ∷ reverse (take (length t - 1) t)
oldest_first t k w h =
    let xs = take (length t - 1) t in
    ap reverse (front_and_last t (k, w) (sym h)) ∙ reverse-append xs ((k, w) ∷ [])

-- No more are left than there were.
left_low : (more held : ℕ) (t : Table) → length (left_of more held t) ≤ length t
unfolding left_of
left_low more held [] = omega arith
left_low more held (e ∷ t) =
    go (nat_lt 33554432 (held + more)) refl (left_low more (held - weight_of e.1) t)
  where
    go : (b : Bool) → nat_lt 33554432 (held + more) ≡ b
        → length (left_of more (held - weight_of e.1) t) ≤ length t
        → length (left_of more held (e ∷ t)) ≤ length (e ∷ t)
    go true p behind = rw p (omega (arith, behind))
    go false p behind = rw p (omega arith)

pub kept_low : (more : ℕ) (t : Table) → length (kept more t) ≤ length t
kept_low more t =
    let left = left_low more (weight t) (reverse t) in
    let same = length-reverse (left_of more (weight t) (reverse t)) in
    let all = length-reverse t in
    omega (arith, left, same, all)

module _ (more : ℕ) (t : Table) (k : Key) (w : Waiting) where
  less : Some (k, w) ≡ last_entry t → weight t - weight_of w ≡ weight (take (length t - 1) t)
  less h = let n = weight_front t k w h in omega (arith, n)

  -- The oldest is dropped where there is no room.
  pub kept_one : Some (k, w) ≡ last_entry t → nat_lt 33554432 (weight t + more) ≡ true
      → kept more (take (length t - 1) t) ≡ kept more t
  unfolding left_of
  kept_one h o =
      let xs = take (length t - 1) t in
      let front = ap (left_of more (weight t)) (oldest_first t k w h) in
      let step : left_of more (weight t) ((k, w) ∷ reverse xs) ≡ left_of more (weight xs)
      (reverse xs) = rw o (rw (less h) refl) in
      ap reverse (sym (front ∙ step))

  -- Otherwise all stay.
  pub kept_all : Some (k, w) ≡ last_entry t → nat_lt 33554432 (weight t + more) ≡ false
      → kept more t ≡ t
  unfolding left_of
  kept_all h o =
      let xs = take (length t - 1) t in
      let same : left_of more (weight t) ((k, w) ∷ reverse xs) ≡ (k, w) ∷ reverse xs =
      rw o refl in
      let front = oldest_first t k w h in
      ap reverse (ap (left_of more (weight t)) front ∙ same ∙ sym front) ∙ reverse-reverse t

  -- One more is counted.
  pub evicted_step : (n m : ℕ) → Some (k, w) ≡ last_entry t
      → nat_lt 33554432 (weight t + more) ≡ true → m ≡ counted n 1
      → counted m (length (take (length t - 1) t) - length (kept more (take (length t - 1) t)))
      ≡ counted n (length t - length (kept more t))
  evicted_step n m h o e =
      let same = ap length (kept_one h o) in
      let low = kept_low more (take (length t - 1) t) in
      let front = ap length (front_and_last t (k, w) (sym h))
      ∙ length-append (take (length t - 1) t) ((k, w) ∷ []) in
      omega (arith, same, low, front, e)

pub counted_low : (m n k : ℕ) → m ≡ counted n k → m < 2 ^ 64
counted_low m n k e = omega (arith, e)

pub none_counted : (n : ℕ) (t : Table) (more : ℕ) → kept more t ≡ t → n < 2 ^ 64
    → n ≡ counted n (length t - length (kept more t))
none_counted n t more same low = let e = ap length same in omega (arith, e, low)

-- A fact that needs no error also holds on one.
pub on_err : {A E P : Type 0} → (r : Result A E) → P → OnErr r P
on_err (Ok x) p = _
on_err (Err e) p = p

-- Only an empty table has no last entry.
there : (x : Key × Waiting) (t : Table) → slice_get (x ∷ t) (length t) ≡ None → ⊥
there x [] h = cc
there x (y ∷ t) h = there y t h

empty : (t : Table) → last_entry t ≡ None → t ≡ []
empty [] h = refl
empty (x ∷ t) h = let e : suc (length t) - 1 ≡ length t = omega arith in
    absurd (there x t (rw e at h))

pub kept_empty : (more : ℕ) (t : Table) → last_entry t ≡ None → kept more t ≡ t
unfolding left_of
kept_empty more t h = subst (λ l. kept more l ≡ l) (sym (empty t h)) refl

pub none_left : (t : Table) → last_entry t ≡ None → weight t ≡ 0
none_left [] h = refl
none_left (x ∷ t) h = let e : suc (length t) - 1 ≡ length t = omega arith in
    absurd (there x t (rw e at h))

none_before : (n : ℕ) → nat_lt n 0 ≡ false
none_before n = go (nat_lt n 0) refl
  where
    go : (b : Bool) → nat_lt n 0 ≡ b → nat_lt n 0 ≡ false
    go true e = let low = ltb-true n 0 e in absurd (omega (arith, low))
    go false e = e

-- No end contradicts an empty datagram.
begun_agrees : (time : ℕ) (f : IpFragment) → is_other_end f (begun time) ≡ false
begun_agrees time f = go f.has_more
  where
    go : (b : Bool) → ((not b && nat_lt (end_of f) 0) || false) ≡ false
    go true = refl
    go false = rw (none_before (end_of f)) refl

agrees_at : (time : ℕ) (k : Key) (f : IpFragment) (t : Table) (o : Option Waiting) → at k t ≡ o
    → is_other_end f (found_or_begun time o) ≡ false → is_other_end f (its time k t) ≡ false
agrees_at time k f t o is h =
    subst (λ p. is_other_end f (found_or_begun time p) ≡ false) (sym is) h

pub agrees_missing : (time : ℕ) (k : Key) (f : IpFragment) (t : Table) → at k t ≡ None
    → is_other_end f (its time k t) ≡ false
agrees_missing time k f t none = agrees_at time k f t None none (begun_agrees time f)

pub agrees_found : (time : ℕ) (k : Key) (f : IpFragment) (t : Table) (v : Waiting)
    → at k t ≡ Some v → is_other_end f v ≡ false → is_other_end f (its time k t) ≡ false
agrees_found time k f t v found h = agrees_at time k f t (Some v) found h

-- A fragment begins a datagram that waits for more, or is over at once.
pub begins_waiting : (k : Key) (f : IpFragment) (o : FragmentOutcome) (v w : Waiting) (t u : Table)
    (e : Effect) → Receives f o v w e → is_waiting o ≡ true → u ≡ (k, w) ∷ t
    → BeginsAt k f o t u e
begins_waiting k f o v w t u (Drops r) is waits e =
    let off : is_waiting (outcome.Refused r) ≡ true = subst (λ x. is_waiting x ≡ true) is.0 waits in
    absurd cc
begins_waiting k f o v w t u (Keeps x) is waits e = (is.0, e ∙ ap (λ y. (k, y) ∷ t) is.1)
begins_waiting k f (outcome.Whole d) v w t u (Completes x) is waits e = absurd cc
begins_waiting k f outcome.Waits v w t u (Completes x) is waits e = absurd is.0
begins_waiting k f (outcome.Refused r) v w t u (Completes x) is waits e = absurd cc

pub begins_over : (k : Key) (f : IpFragment) (o : FragmentOutcome) (v w : Waiting) (t u : Table)
    (e : Effect) → Receives f o v w e → is_waiting o ≡ false → u ≡ t → BeginsAt k f o t u e
begins_over k f o v w t u (Drops r) is waits e = (is.0, e)
begins_over k f o v w t u (Keeps x) is waits e =
    let off : is_waiting outcome.Waits ≡ false = subst (λ x. is_waiting x ≡ false) is.0 waits in
    absurd cc
begins_over k f o v w t u (Completes x) is waits e = (is.0, e)

-- The first fragment of a datagram.
begins_by : (k : Key) (f : IpFragment) (o : FragmentOutcome) (t u : Table) (e : Effect)
    → at k t ≡ None → BeginsAt k f o t u e → BecomesBy k f o t u e
begins_by k f o t u (Drops r) none b = (b.0, b.1 ∙ sym (missed k t none))
begins_by k f o t u (Keeps w) none b = (b.0, b.1 ∙ sym (ap (λ p. put_at p k w t) none))
begins_by k f o t u (Completes w) none b = (b.0, b.1 ∙ sym (missed k t none))

pub missing_becomes : (time : ℕ) (k : Key) (f : IpFragment) (o : FragmentOutcome) (t u : Table)
    → at k t ≡ None → BeginsAt k f o t u (received f (begun time)) → Becomes time k f o t u
missing_becomes time k f o t u none b =
    let its_is : its time k t ≡ begun time = ap (found_or_begun time) none in
    subst (λ x. BecomesBy k f o t u (received f x)) (sym its_is)
    (begins_by k f o t u (received f (begun time)) none b)

pub missing_put : {E : Type 0} (time : ℕ) (k : Key) (f : IpFragment) (x : Option Received)
    (r : Result FragmentOutcome E) (t m u : Table) → x ≡ None → ReceivesAt k f x t m
    → IfOk r (λ o. BeginsAt k f o m u (received f (begun time)))
    → IfOk r (λ o. Becomes time k f o t u)
missing_put time k f x (Err e) t m u none a b = _
missing_put time k f x (Ok o) t m u none a b =
    let a' : ReceivesAt k f None t m = subst (λ y. ReceivesAt k f y t m) none a in
    missing_becomes time k f o t u a'.0
    (subst (λ l. BeginsAt k f o l u (received f (begun time))) a'.1 b)

-- A fragment of a datagram in the table, which waits for more or is over.
waits_by : (k : Key) (f : IpFragment) (o : FragmentOutcome) (v w : Waiting) (t u : Table)
    (e : Effect) → at k t ≡ Some v → Receives f o v w e → is_waiting o ≡ true
    → u ≡ with_other k w t → BecomesBy k f o t u e
waits_by k f o v w t u (Drops q) found r waits e =
    let off : is_waiting (outcome.Refused q) ≡ true = subst (λ x. is_waiting x ≡ true) r.0 waits in
    absurd cc
waits_by k f o v w t u (Keeps x) found r waits e = (
  r.0,
  e ∙ ap (λ y. with_other k y t) r.1 ∙ sym (ap (λ p. put_at p k x t) found),
)
waits_by k f (outcome.Whole d) v w t u (Completes x) found r waits e = absurd cc
waits_by k f outcome.Waits v w t u (Completes x) found r waits e = absurd r.0
waits_by k f (outcome.Refused q) v w t u (Completes x) found r waits e = absurd cc

over_by : (k : Key) (f : IpFragment) (o : FragmentOutcome) (v w : Waiting) (t m u : Table)
    (e : Effect) → at k t ≡ Some v → Receives f o v w e → is_waiting o ≡ false
    → m ≡ with_other k w t → u ≡ others k m → BecomesBy k f o t u e
over_by k f o v w t m u (Drops q) found r waits e g =
    (r.0, g ∙ ap (others k) e ∙ others_with k t w)
over_by k f o v w t m u (Keeps x) found r waits e g =
    let off : is_waiting outcome.Waits ≡ false = subst (λ x. is_waiting x ≡ false) r.0 waits in
    absurd cc
over_by k f o v w t m u (Completes x) found r waits e g =
    (r.0, g ∙ ap (others k) e ∙ others_with k t w)

module _ (time : ℕ) (k : Key) (f : IpFragment) (x : Received) (t m : Table) where
  its_is : (v : Waiting) → at k t ≡ Some v → its time k t ≡ v
  its_is v found = ap (found_or_begun time) found

  pub waits_becomes : ReceivesAt k f (Some x) t m → is_waiting x.outcome ≡ true
      → Becomes time k f x.outcome t m
  waits_becomes r waits =
      let v = r.0 in
      subst (λ y. BecomesBy k f x.outcome t m (received f y)) (sym (its_is v r.2))
      (waits_by k f x.outcome v r.1 t m (received f v) r.2 r.3 waits r.6)

  pub over_becomes : (u : Table) → ReceivesAt k f (Some x) t m → is_waiting x.outcome ≡ false
      → u ≡ others k m → Becomes time k f x.outcome t u
  over_becomes u r waits left =
      let v = r.0 in
      subst (λ y. BecomesBy k f x.outcome t u (received f y)) (sym (its_is v r.2))
      (over_by k f x.outcome v r.1 t m u (received f v) r.2 r.3 waits r.6 left)

  -- The memory that the table counts then.
  pub weight_received : ReceivesAt k f (Some x) t m → weight m ≡ weight t + x.added
  weight_received r =
      let n = weight_with k t r.0 r.1 r.2 in
      let added = r.4 in
      let same = ap weight r.6 in
      omega (arith, n, added, same)

  pub room_received : (held : ℕ) → ReceivesAt k f (Some x) t m → held ≡ weight t
      → weight t + most_of f ≤ 33554432 → held + x.added ≤ 33554432
  room_received held r is room =
      let few = r.5 in
      omega (arith, few, is, room)
