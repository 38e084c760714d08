-- What a table by five-tuple holds after a step.
use Rattle.std.proofs.Common.{◌≡◌, ℕ, zero, suc, ◌-◌, ◌≤◌, true, false, Option, Some, None, List, [], ◌∷◌, ◌++◌, length}
use Rattle.std.proofs.Common.{take, slice_get, refl, sym, ap, ◌∙◌, subst, arith, rules, Bool, cond}
use Rattle.std.specs.Prelude.{IfSome, OnErr, Result, Ok, Err}
use Rattle.std.specs.Map.{lookup_entry, set_value}
use Rattle.lru.specs.LruCache.{LruCache, promoted, put_entries, last_entry}
use Rattle.connections.specs.FiveTuple.{is_five_tuple}
use Rattle.connections.specs.Lends.{with_first}
use Rattle.connections.specs.Datagram.{five_tuple_of_datagram}
use Rattle.connections.specs.Segment.{five_tuple_of}
use Rattle.std.specs.Option.{option_map}
use Rattle.connections.specs.Connection.{another_of, opening_of, shows_damage, side_of, without_syns, Begins, IsAfter, IsAnew, IsBare, LeavesOut, Shows}
use Rattle.connections.specs.Table.{another_in, at, changing, changing_at, others, with_other, BeginsAfter, ComesFirst, HasBegun, HasBegunBy, IsAnewAt, LeavesOutAt, Replaced, Replaces, Table, WasLast, IsOver, IsForgotten, IsPut}
use Rattle.connections.specs.Table.IsForgotten.{one}
use Rattle.connections.specs.declared.datagram.Datagram.{Datagram}
use Rattle.connections.specs.declared.five_tuple.FiveTuple.{FiveTuple}
use Rattle.connections.specs.declared.five_tuple.Protocol.{Protocol}
use Rattle.connections.specs.declared.five_tuple.Protocol.TheVariants.{Udp}
use Rattle.connections.specs.declared.connection.Beginning.{Beginning}
use Rattle.connections.specs.declared.connection.Connection.{Connection}
use Rattle.connections.specs.declared.segment.Segment.{Segment}

-- Five-tuples that compare equal are equal.
pub the_same : (a b : FiveTuple) → is_five_tuple a b ≡ true → a ≡ b
the_same a b e = search rules

pub is_five_tuple-refl : (e : FiveTuple) → is_five_tuple e e ≡ true
is_five_tuple-refl e = search rules

module _ {X : Type 0} (e : FiveTuple) where
  -- An entry that is found has this five-tuple.
  found : (xs : List (FiveTuple × X)) (x : X) → at e xs ≡ Some x
      → (f : FiveTuple × X) × (lookup_entry (is_five_tuple e) xs ≡ Some f)
      × (f.0 ≡ e)
  found [] x h = cc
  found (f ∷ xs) x h = (elim (is_five_tuple e f.0) as
      (λ y. is_five_tuple e f.0 ≡ y
      → (g : FiveTuple × X) × (lookup_entry (is_five_tuple e) (f ∷ xs) ≡ Some g) × (g.0 ≡ e)) [
        | true ↦ λ t. (f, rw t refl, sym (the_same e f.0 t))
        | false ↦ λ t. let on = found xs x (rw t at h) in (on.0, rw t on.1, on.2)
      ]) refl

  -- Removing a five-tuple that isn't there changes nothing.
  missed : (xs : List (FiveTuple × X)) → at e xs ≡ None → (lookup_entry (is_five_tuple e) xs ≡ None)
      × (others e xs ≡ xs)
  missed [] h = (refl, refl)
  missed (f ∷ xs) h = (elim (is_five_tuple e f.0) as
      (λ y. is_five_tuple e f.0 ≡ y → (lookup_entry (is_five_tuple e) (f ∷ xs) ≡ None)
      × (others e (f ∷ xs) ≡ f ∷ xs)) [
        | true ↦ λ t. let h' = rw t at h in cc
        | false ↦ λ t. let on = missed xs (rw t at h) in (rw t on.0, rw t (ap (λ l. f ∷ l) on.1))
      ]) refl

  -- A written value comes first.
  pub written : (xs : List (FiveTuple × X)) (x w : X) → at e xs ≡ Some x
      → set_value (is_five_tuple e) (promoted (is_five_tuple e) xs) w ≡ (e, w) ∷ others e xs
  written xs x w h = let f = found xs x h in rw (f.1, f.2, is_five_tuple-refl e)

  -- A value written in place has the same five-tuple, and the others stay.
  written_entry : (xs : List (FiveTuple × X)) (x w : X) → at e xs ≡ Some x
      → lookup_entry (is_five_tuple e) (set_value (is_five_tuple e) xs w) ≡ Some (e, w)
  written_entry [] x w h = cc
  written_entry (f ∷ xs) x w h = (elim (is_five_tuple e f.0) as
      (λ y. is_five_tuple e f.0 ≡ y
      → lookup_entry (is_five_tuple e) (set_value (is_five_tuple e) (f ∷ xs) w) ≡ Some (e, w)) [
        | true ↦ λ t. rw (t, t, sym (the_same e f.0 t)) refl
        | false ↦ λ t. rw (t, t) (written_entry xs x w (rw t at h))
      ]) refl

  written_others : (xs : List (FiveTuple × X)) (w : X)
      → others e (set_value (is_five_tuple e) xs w) ≡ others e xs
  written_others [] w = refl
  written_others (f ∷ xs) w = (elim (is_five_tuple e f.0) as
      (λ y. is_five_tuple e f.0 ≡ y
      → others e (set_value (is_five_tuple e) (f ∷ xs) w) ≡ others e (f ∷ xs)) [
        | true ↦ λ t. rw (t, t) refl
        | false ↦ λ t. rw (t, t) (ap (λ l. f ∷ l) (written_others xs w))
      ]) refl

  -- A value written in place that then comes first.
  pub written_promoted : (xs : List (FiveTuple × X)) (x w : X) → at e xs ≡ Some x
      → promoted (is_five_tuple e) (set_value (is_five_tuple e) xs w) ≡ (e, w) ∷ others e xs
  written_promoted xs x w h = rw (written_entry xs x w h, written_others xs w) refl

  -- One that is first already stays first.
  pub promoted_first : (xs : List (FiveTuple × X)) (f : FiveTuple × X) → slice_get xs 0 ≡ Some f
      → is_five_tuple e f.0 ≡ true
      → promoted (is_five_tuple e) xs ≡ xs
  promoted_first [] f h same = cc
  promoted_first (y ∷ xs) f h same = let first : y ≡ f = cc in rw (first, same) refl

  -- A value that was put first, or written in its place, is the one of this five-tuple.
  pub at_first : (xs : List (FiveTuple × X)) (w : X) → at e ((e, w) ∷ xs) ≡ Some w
  at_first xs w = rw (is_five_tuple-refl e)

  pub at_written : (xs : List (FiveTuple × X)) (x w : X) → at e xs ≡ Some x
      → at e (set_value (is_five_tuple e) xs w) ≡ Some w
  at_written [] x w h = cc
  at_written (f ∷ xs) x w h = (elim (is_five_tuple e f.0) as
      (λ y. is_five_tuple e f.0 ≡ y → at e (set_value (is_five_tuple e) (f ∷ xs) w) ≡ Some w) [
        | true ↦ λ t. rw (t, t) refl
        | false ↦ λ t. rw (t, t) (at_written xs x w (rw t at h))
      ]) refl

  -- The others of a first entry are those behind it.
  pub others-first : (xs : List (FiveTuple × X)) (w : X) → others e ((e, w) ∷ xs) ≡ xs
  others-first xs w = rw (is_five_tuple-refl e)

  take-all : (n : ℕ) (xs : List (FiveTuple × X)) → length xs ≤ n → take n xs ≡ xs
  take-all zero [] h = refl
  take-all zero (x ∷ xs) h = absurd (omega arith)
  take-all (suc n) [] h = refl
  take-all (suc n) (x ∷ xs) h = ap (λ l. x ∷ l) (take-all n xs (omega arith))

  by_look : (c : LruCache FiveTuple X) (w : X) (o : Option X) → at e c.entries ≡ o
      → length c.entries ≤ c.cap - 1
      → put_entries is_five_tuple c e w ≡ (e, w) ∷ others e c.entries
  by_look c w None h fits = let m = missed c.entries h in
      rw (m.0, take-all (c.cap - 1) c.entries fits, m.1)
  by_look c w (Some x) h fits = let f = found c.entries x h in rw (f.1, f.2)

  -- A new entry comes first.
  pub put_first : (c : LruCache FiveTuple X) (w : X) → length c.entries ≤ c.cap - 1
      → put_entries is_five_tuple c e w ≡ (e, w) ∷ others e c.entries
  put_first c w fits = by_look c w (at e c.entries) refl fits

module _ {X : Type 0} where
  last_of : (x : X) (xs : List X) (p : X) → slice_get (x ∷ xs) (length xs) ≡ Some p
      → x ∷ xs ≡ take (length xs) (x ∷ xs) ++ p ∷ []
  last_of x [] p h = cc
  last_of x (y ∷ xs) p h = ap (λ l. x ∷ l) (last_of y xs p h)

  -- A list is its front and its last element.
  pub front_and_last : (xs : List X) (p : X) → slice_get xs (length xs - 1) ≡ Some p
      → xs ≡ take (length xs - 1) xs ++ p ∷ []
  front_and_last [] p h = cc
  front_and_last (x ∷ xs) p h = let e : suc (length xs) - 1 ≡ length xs = omega arith in
      rw e (last_of x xs p (rw e at h))

module _ {X : Type 0} where
  -- A popped entry was last.
  pub was_last : (xs : List (FiveTuple × X)) (e : FiveTuple) (x : X) → Some (e, x) ≡ last_entry xs
      → WasLast xs (take (length xs - 1) xs) x
  was_last xs e x h = record { five_tuple = e; stood = front_and_last xs (e, x) (sym h) }

  -- There is one last entry.
  pub same_last : (o : Option (FiveTuple × X)) (e f : FiveTuple) (x y : X) → Some (e, x) ≡ o
      → Some (f, y) ≡ o → x ≡ y
  same_last o e f x y h k =
      let both : ◌≡◌ {A = Option (FiveTuple × X)} (Some (e, x)) (Some (f, y)) = h ∙ sym k in
      let same : ◌≡◌ {A = FiveTuple × X} (e, x) (f, y) = cc in ap (λ p. p.1) same

-- One more is forgotten.
pub last_forgotten : (time : ℕ) (xs ys : List (FiveTuple × ℕ)) (e : FiveTuple) (t : ℕ)
    → IsForgotten time xs ys
    → Some (e, t) ≡ last_entry ys → IsOver time ys t
    → IsForgotten time xs (take (length ys - 1) ys)
last_forgotten time xs ys e t f h o =
    one ys (take (length ys - 1) ys) (e, t) f (front_and_last ys (e, t) (sym h)) o

module _ {T : Type 0} (e : FiveTuple) (Takes : Option (Connection T) → Connection T → Type 0)
    (xs : List (FiveTuple × Connection T)) (its : Connection T) where
  -- A packet written to an existing connection, or to a new one.
  pub put_in : (x : Connection T) → Some x ≡ at e xs → Takes (Some x) its
      → IsPut e Takes xs (set_value (is_five_tuple e) (promoted (is_five_tuple e) xs) its)
  put_in x h t =
      record {
        its = its;
        takes = subst (λ o. Takes o its) h t;
        stands =
            written e xs x its (sym h);
      }

  pub put_new : (ys : List (FiveTuple × Connection T)) → None ≡ at e xs → Takes None its
      → ys ≡ (e, its) ∷ others e xs
      → IsPut e Takes xs ys
  put_new ys h t s = record { its = its; takes = subst (λ o. Takes o its) h t; stands = s }

module _ {X : Type 0} (e f : FiveTuple) (apart : e ≡ f → ⊥) where
  one_more : (x : FiveTuple × X) (xs : List (FiveTuple × X)) (s t : Bool) → is_five_tuple e x.0 ≡ s
      → is_five_tuple f x.0 ≡ t
      → at f (others e xs) ≡ at f xs → at f (others e (x ∷ xs)) ≡ at f (x ∷ xs)
  one_more x xs true true p q h = absurd (apart (the_same e x.0 p ∙ sym (the_same f x.0 q)))
  one_more x xs true false p q h = rw (p, q)
  one_more x xs false t p q h = rw p (ap (λ o. cond (is_five_tuple f x.0) (Some x.1) o) h)

  -- The values of other five-tuples stay.
  pub at-others : (xs : List (FiveTuple × X)) → at f (others e xs) ≡ at f xs
  at-others [] = refl
  at-others (x ∷ xs) =
      one_more x xs (is_five_tuple e x.0) (is_five_tuple f x.0) refl refl (at-others xs)

-- A fact that needs no error also holds on one.
pub on_err : {A E P : Type 0} → (r : Result A E) → P → OnErr r P
on_err (Ok x) p = _
on_err (Err e) p = p

module _ {T : Type 0} where
  -- An existing connection, without the segment's bytes.
  pub left_in : (s : Segment) (xs : List (FiveTuple × Connection T)) (c w : Connection T)
      → Some c ≡ at (five_tuple_of s) xs → LeavesOut s c w
      → LeavesOutAt s (at (five_tuple_of s) xs) xs
      (set_value (is_five_tuple (five_tuple_of s))
      (promoted (is_five_tuple (five_tuple_of s)) xs) w)
  left_in s xs c w h leaves = let e = five_tuple_of s in
      subst (λ o. LeavesOutAt s o xs
      (set_value (is_five_tuple e) (promoted (is_five_tuple e) xs) w)) h
      (w, leaves, written e xs c w (sym h))

  -- No connection begins.
  pub none_left : (s : Segment) (xs ys : List (FiveTuple × Connection T))
      → None ≡ at (five_tuple_of s) xs → ys ≡ xs
      → LeavesOutAt s (at (five_tuple_of s) xs) xs ys
  none_left s xs ys h same = subst (λ o. LeavesOutAt s o xs ys) h same

  -- An existing connection becomes another, in the same position.
  pub changed_at : (e : FiveTuple) (f : Connection T → Connection T) (old : Table T)
      (c w : Connection T) → Some c ≡ at e old.live → w ≡ f c
      → with_other e w old ≡ changing e f old
  changed_at e f old c w h same =
      subst (λ o. with_other e w old ≡ changing_at e f o old) h
      (ap (λ x. with_other e x old) same)

  -- An existing connection becomes another, which comes first.
  pub comes_in : (e : FiveTuple) (R : Connection T → Connection T → Type 0) (old : Table T)
      (c w : Connection T) → Some c ≡ at e old.live → R c w
      → ComesFirst e R (at e old.live) old
      (record old { live = set_value (is_five_tuple e) (promoted (is_five_tuple e) old.live) w })
  comes_in e R old c w h becomes =
      subst (λ o. ComesFirst e R o old
      (record old { live = set_value (is_five_tuple e) (promoted (is_five_tuple e) old.live) w })) h
      (w, becomes, ap (λ l. record old { live = l }) (written e old.live c w (sym h)))

  -- An existing connection restarts.
  pub anew_at : (time : ℕ) (e : FiveTuple) (old : Table T) (c w : Connection T)
      → Some c ≡ at e old.live → IsAnew time c w
      → IsAnewAt time e (at e old.live) old (with_other e w old)
  anew_at time e old c w h anew =
      subst (λ o. IsAnewAt time e o old (with_other e w old)) h (w, anew, refl)

  pub none_anew : (time : ℕ) (e : FiveTuple) (old new : Table T) → None ≡ at e old.live → new ≡ old
      → IsAnewAt time e (at e old.live) old new
  none_anew time e old new h same = subst (λ o. IsAnewAt time e o old new) h same

  pub after_at : (d : Datagram) (old : Table T) (c w : Connection T) (n : ℕ)
      → Some c ≡ at (five_tuple_of_datagram d) old.live → IsAfter d c w
      → n ≡ old.held - c.weight
      → BeginsAfter d (at (five_tuple_of_datagram d) old.live) old
      (record (with_other (five_tuple_of_datagram d) w old) { held = n })
  after_at d old c w n h after less =
      subst (λ o. BeginsAfter d o old
      (record (with_other (five_tuple_of_datagram d) w old) { held = n })) h
      (w, after, ap (λ m. record (with_other (five_tuple_of_datagram d) w old) { held = m }) less)

  pub none_after : (d : Datagram) (old new : Table T)
      → None ≡ at (five_tuple_of_datagram d) old.live → new ≡ old
      → BeginsAfter d (at (five_tuple_of_datagram d) old.live) old new
  none_after d old new h same = subst (λ o. BeginsAfter d o old new) h same

  -- None is replaced, since none is there or its pending SYNs aren't shown.
  pub not_replaced : (s : Segment) (old new : Table T) (o : Option (Connection T))
      → o ≡ at (five_tuple_of s) old.live → another_in s o ≡ None → new ≡ old
      → Replaced s old new None
  not_replaced s old new o found h same =
      (same, subst (λ x. another_in s x ≡ None) found h)

  -- Another comes first, in place of the existing one.
  pub replaced_by : (s : Segment) (old : Table T) (b : Beginning) (its seen was over : Connection T)
      (n : ℕ) → Shows s b → Some (opening_of b) ≡ another_of s seen → IsBare b → Begins b its
      → Some seen ≡ at (five_tuple_of s) old.live
      → Some was ≡ at (five_tuple_of s) old.live → over ≡ without_syns was
      → n ≡ old.held - over.weight
      → Replaces s old
      (record old {
        live = set_value (is_five_tuple (five_tuple_of s))
            (promoted (is_five_tuple (five_tuple_of s)) old.live) its;
        held = n;
      }) over
  replaced_by s old b its seen was over n shows waited bare begins found h same less = record {
    beginning = b;
    its = its;
    shows = shows;
    waited = subst (λ o. another_in s o ≡ Some (opening_of b)) found (sym waited);
    bare = bare;
    begins = begins;
    was = subst (λ o. Some over ≡ option_map without_syns o) h (ap Some same);
    stands = ap (λ l. record old { live = l; held = n })
        (written (five_tuple_of s) old.live was its (sym h))
        ∙ ap (λ m. record old
        { live = (five_tuple_of s, its) ∷ others (five_tuple_of s) old.live; held = m }) less;
  }

  -- A value written to an existing connection comes first.
  pub stands_first : (e : FiveTuple) (old : Table T) (c w : Connection T) → Some c ≡ at e old.live
      → (with_first e w old).live ≡ (e, w) ∷ others e old.live
  stands_first e old c w h = written e old.live c w (sym h)

-- A value that is there isn't missing.
pub never_none : {A P : Type 0} → (o : Option A) (x : A) → Some x ≡ o → o ≡ None → P
never_none o x some none =
    let no : ◌≡◌ {A = Option _} (Some x) None = some ∙ none in absurd cc

module _ {T : Type 0} (IsBegun : Protocol → T → Type 0) where
  -- A connection that comes first has the value that it began with.
  pub begun_first : (p : Protocol) (e : FiveTuple) (xs ys : List (FiveTuple × Connection T))
      (w : Connection T) → ys ≡ (e, w) ∷ xs → IsBegun p w.attachment → HasBegun IsBegun p e ys
  begun_first p e xs ys w stands begun =
      subst (λ o. IfSome o (λ c. IsBegun p c.attachment))
      (sym (ap (at e) stands ∙ at_first e xs w)) begun

  -- One that takes the place of another.
  pub begun_written : (p : Protocol) (e : FiveTuple) (xs : List (FiveTuple × Connection T))
      (c w : Connection T) → Some c ≡ at e xs → IsBegun p w.attachment
      → HasBegun IsBegun p e (set_value (is_five_tuple e) xs w)
  begun_written p e xs c w found begun =
      subst (λ o. IfSome o (λ c. IsBegun p c.attachment))
      (sym (at_written e xs c w (sym found))) begun

  -- One that takes the place of another, and comes first.
  pub begun_promoted : (p : Protocol) (e : FiveTuple) (xs : List (FiveTuple × Connection T))
      (c w : Connection T) → Some c ≡ at e xs → IsBegun p w.attachment
      → HasBegun IsBegun p e (set_value (is_five_tuple e) (promoted (is_five_tuple e) xs) w)
  begun_promoted p e xs c w found begun =
      begun_first p e (others e xs) (set_value (is_five_tuple e) (promoted (is_five_tuple e) xs) w)
      w (written e xs c w (sym found)) begun

  -- A connection that restarts.
  pub begun_anew : (e : FiveTuple) (xs : List (FiveTuple × Connection T)) (c w : Connection T)
      → Some c ≡ at e xs → IsBegun c.protocol w.attachment
      → IfSome (at e xs)
      (λ x. HasBegun IsBegun x.protocol e (set_value (is_five_tuple e) xs w))
  begun_anew e xs c w found begun =
      subst (λ o. IfSome o
      (λ x. HasBegun IsBegun x.protocol e (set_value (is_five_tuple e) xs w))) found
      (begun_written c.protocol e xs c w found begun)

  -- An exchange that takes a datagram, or begins with one.
  pub begun_in : (d : Datagram) (xs : List (FiveTuple × Connection T)) (c w : Connection T)
      → Some c ≡ at (five_tuple_of_datagram d) xs
      → (shows_damage (side_of c d.source) d.checksum c ≡ true → IsBegun c.protocol w.attachment)
      → HasBegunBy IsBegun d (at (five_tuple_of_datagram d) xs)
      (set_value (is_five_tuple (five_tuple_of_datagram d))
      (promoted (is_five_tuple (five_tuple_of_datagram d)) xs) w)
  begun_in d xs c w found begun =
      subst (λ o. HasBegunBy IsBegun d o
      (set_value (is_five_tuple (five_tuple_of_datagram d))
      (promoted (is_five_tuple (five_tuple_of_datagram d)) xs) w)) found
      (λ shown. begun_promoted c.protocol (five_tuple_of_datagram d) xs c w found (begun shown))

  pub begun_new : (d : Datagram) (xs ys zs : List (FiveTuple × Connection T)) (w : Connection T)
      → None ≡ at (five_tuple_of_datagram d) xs → ys ≡ (five_tuple_of_datagram d, w) ∷ zs
      → IsBegun Udp w.attachment → HasBegunBy IsBegun d (at (five_tuple_of_datagram d) xs) ys
  begun_new d xs ys zs w none stands begun =
      subst (λ o. HasBegunBy IsBegun d o ys) none
      (begun_first Udp (five_tuple_of_datagram d) zs ys w stands begun)
