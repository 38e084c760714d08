-- A table by hashed five-tuples does what one by five-tuples does.
use Rattle.std.proofs.Common.{◌≡◌, ◌-◌, ℕ, zero, suc, Bool, true, false, cond, ◌&&◌, nat_eq, Option, Some, None, List, [], ◌∷◌, length, take, option_map, slice_get, refl, sym, ap, ◌∙◌, subst, rules}
use Rattle.std.proofs.lemmas.List.{length-map, take-map}
use Rattle.std.proofs.lemmas.Option.{slice_get-map}
use Rattle.std.specs.Option.{option_map_or}
use Rattle.std.specs.Map.{lookup, lookup_entry, remove_entry, set_value}
use Rattle.lru.specs.LruCache.{LruCache, lru_cache, promoted, put_entries, last_entry}
use Rattle.connections.specs.FiveTuple.{is_five_tuple}
use Rattle.connections.specs.HashKeys.{hash_of}
use Rattle.connections.specs.ByFiveTuple.{hashed_ends, unhashed, unhashed_entry, AreHashed, IsHashed}
use Rattle.connections.specs.declared.five_tuple.FiveTuple.{FiveTuple}
use Rattle.connections.specs.declared.by_five_tuple.HashedEnds.{HashedEnds}
use Rattle.connections.specs.declared.hash_keys.HashKeys.{HashKeys}
use Rattle.connections.specs.contracts.by_five_tuple.HashedEndsPartialEq.TheImpl as hashed_eq
use Rattle.connections.proofs.TableLemmas.{the_same}

abbrev pub is_hashed_ends : HashedEnds → HashedEnds → Bool
is_hashed_ends = hashed_eq.ghosts.eq

nat_eq-refl : (n : ℕ) → nat_eq n n ≡ true
nat_eq-refl n = search rules

and-false : (b : Bool) → (b && false) ≡ false
and-false true = refl
and-false false = refl

module _ {V : Type 0} where
  pub AreHashed-take : (keys : HashKeys) (n : ℕ) (xs : List (HashedEnds × V)) → AreHashed keys xs
      → AreHashed keys (take n xs)
  AreHashed-take keys zero xs h = tt
  AreHashed-take keys (suc n) [] h = h
  AreHashed-take keys (suc n) (x ∷ xs) h = (h.0, AreHashed-take keys n xs h.1)

  pub front-unhashed : (xs : List (HashedEnds × V))
      → unhashed (take (length xs - 1) xs) ≡ take (length (unhashed xs) - 1) (unhashed xs)
  front-unhashed xs = sym (take-map unhashed_entry (length xs - 1) xs)
      ∙ ap (λ n. take (n - 1) (unhashed xs)) (sym (length-map xs unhashed_entry))

  pub first-unhashed : (xs : List (HashedEnds × V))
      → option_map unhashed_entry (slice_get xs 0) ≡ slice_get (unhashed xs) 0
  first-unhashed [] = refl
  first-unhashed (x ∷ xs) = refl

  pub last_entry-unhashed : (xs : List (HashedEnds × V))
      → option_map unhashed_entry (last_entry xs) ≡ last_entry (unhashed xs)
  last_entry-unhashed xs = sym (slice_get-map unhashed_entry xs (length xs - 1))
      ∙ ap (λ n. slice_get (unhashed xs) (n - 1)) (sym (length-map xs unhashed_entry))

module _ (keys : HashKeys) (e : FiveTuple) (k : HashedEnds) (is : k ≡ hashed_ends keys e) where
  -- The test for a hashed five-tuple.
  abbrev pub test : HashedEnds → Bool
  test = is_hashed_ends k

  hashed_test : (j : HashedEnds) → IsHashed keys j
      → is_hashed_ends (hashed_ends keys e) j ≡ is_five_tuple e j.five_tuple
  hashed_test j h =
      (elim (is_five_tuple e j.five_tuple)
      as (λ y. is_five_tuple e j.five_tuple ≡ y → is_hashed_ends (hashed_ends keys e) j ≡ y) [
        | true ↦ λ t. rw (
          h,
          ap (hash_of keys) (sym (the_same e j.five_tuple t)),
          nat_eq-refl (hash_of keys e),
          t,
        ) refl
        | false ↦ λ t. rw t (and-false _)
      ]) refl

  -- It is the test for the five-tuple, if each hash is that of its five-tuple.
  pub same_test : (j : HashedEnds) → IsHashed keys j → test j ≡ is_five_tuple e j.five_tuple
  same_test j h = ap (λ l. is_hashed_ends l j) is ∙ hashed_test j h

  module _ {V : Type 0} where
    pub lookup-unhashed : (xs : List (HashedEnds × V)) → AreHashed keys xs
        → lookup test xs ≡ lookup (is_five_tuple e) (unhashed xs)
    lookup-unhashed [] h = refl
    lookup-unhashed (x ∷ xs) h = rw (same_test x.0 h.0, lookup-unhashed xs h.1) refl

    pub set_value-unhashed : (xs : List (HashedEnds × V)) (w : V) → AreHashed keys xs
        → unhashed (set_value test xs w) ≡ set_value (is_five_tuple e) (unhashed xs) w
    set_value-unhashed [] w h = refl
    set_value-unhashed (x ∷ xs) w h =
        rw (same_test x.0 h.0) ((elim (is_five_tuple e x.0.five_tuple) as
        (λ y. unhashed (cond y ((x.0, w) ∷ xs) (x ∷ set_value test xs w))
        ≡ cond y ((x.0.five_tuple, w) ∷ unhashed xs)
        ((x.0.five_tuple, x.1) ∷ set_value (is_five_tuple e) (unhashed xs) w)) [
          | true ↦ refl
          | false ↦ ap (λ l. (x.0.five_tuple, x.1) ∷ l) (set_value-unhashed xs w h.1)
        ]))

    pub AreHashed-set_value : (xs : List (HashedEnds × V)) (w : V) → AreHashed keys xs
        → AreHashed keys (set_value test xs w)
    AreHashed-set_value [] w h = h
    AreHashed-set_value (x ∷ xs) w h =
        elim (test x.0) as (λ y. AreHashed keys (cond y ((x.0, w) ∷ xs) (x ∷ set_value test xs w))) [
          | true ↦ h
          | false ↦ (h.0, AreHashed-set_value xs w h.1)
        ]

    pub remove_entry-unhashed : (xs : List (HashedEnds × V)) → AreHashed keys xs
        → unhashed (remove_entry test xs) ≡ remove_entry (is_five_tuple e) (unhashed xs)
    remove_entry-unhashed [] h = refl
    remove_entry-unhashed (x ∷ xs) h =
        rw (same_test x.0 h.0) ((elim (is_five_tuple e x.0.five_tuple) as
        (λ y. unhashed (cond y xs (x ∷ remove_entry test xs))
        ≡ cond y (unhashed xs)
        ((x.0.five_tuple, x.1) ∷ remove_entry (is_five_tuple e) (unhashed xs))) [
          | true ↦ refl
          | false ↦ ap (λ l. (x.0.five_tuple, x.1) ∷ l) (remove_entry-unhashed xs h.1)
        ]))

    pub AreHashed-remove_entry : (xs : List (HashedEnds × V)) → AreHashed keys xs
        → AreHashed keys (remove_entry test xs)
    AreHashed-remove_entry [] h = h
    AreHashed-remove_entry (x ∷ xs) h =
        elim (test x.0) as (λ y. AreHashed keys (cond y xs (x ∷ remove_entry test xs))) [
          | true ↦ h.1
          | false ↦ (h.0, AreHashed-remove_entry xs h.1)
        ]

    lookup_entry-unhashed : (xs : List (HashedEnds × V)) → AreHashed keys xs
        → lookup_entry (is_five_tuple e) (unhashed xs) ≡ option_map unhashed_entry
        (lookup_entry test xs)
    lookup_entry-unhashed [] h = refl
    lookup_entry-unhashed (x ∷ xs) h =
        rw (same_test x.0 h.0) ((elim (is_five_tuple e x.0.five_tuple) as
        (λ y. cond y (Some (x.0.five_tuple, x.1)) (lookup_entry (is_five_tuple e) (unhashed xs))
        ≡ option_map unhashed_entry (cond y (Some x) (lookup_entry test xs))) [
          | true ↦ refl
          | false ↦ lookup_entry-unhashed xs h.1
        ]))

    IsHashed-lookup_entry : (xs : List (HashedEnds × V)) → AreHashed keys xs → (f : HashedEnds × V)
        → lookup_entry test xs ≡ Some f
        → IsHashed keys f.0
    IsHashed-lookup_entry [] h f found = cc
    IsHashed-lookup_entry (x ∷ xs) h f found =
        (elim (test x.0) as (λ y. cond y (Some x) (lookup_entry test xs) ≡ Some f
        → IsHashed keys f.0) [
          | true ↦ λ at. let same : x ≡ f = cc in subst (λ g. IsHashed keys g.0) same h.0
          | false ↦ λ at. IsHashed-lookup_entry xs h.1 f at
        ]) found

    promoted_by : (xs : List (HashedEnds × V)) (o : Option (HashedEnds × V)) → AreHashed keys xs
        → unhashed (option_map_or (λ f. f ∷ remove_entry test xs) o xs)
        ≡ option_map_or (λ f. f ∷ remove_entry (is_five_tuple e) (unhashed xs))
        (option_map unhashed_entry o) (unhashed xs)
    promoted_by xs None h = refl
    promoted_by xs (Some f) h = ap (λ l. unhashed_entry f ∷ l) (remove_entry-unhashed xs h)

    pub promoted-unhashed : (xs : List (HashedEnds × V)) → AreHashed keys xs
        → unhashed (promoted test xs) ≡ promoted (is_five_tuple e) (unhashed xs)
    promoted-unhashed xs h = promoted_by xs (lookup_entry test xs) h
        ∙ ap (λ o. option_map_or (λ f. f ∷ remove_entry (is_five_tuple e) (unhashed xs)) o
        (unhashed xs)) (sym (lookup_entry-unhashed xs h))

    hashed_first : (xs : List (HashedEnds × V)) (o : Option (HashedEnds × V))
        → lookup_entry test xs ≡ o → AreHashed keys xs
        → AreHashed keys (option_map_or (λ f. f ∷ remove_entry test xs) o xs)
    hashed_first xs None found h = h
    hashed_first xs (Some f) found h =
        (IsHashed-lookup_entry xs h f found, AreHashed-remove_entry xs h)

    pub AreHashed-promoted : (xs : List (HashedEnds × V)) → AreHashed keys xs
        → AreHashed keys (promoted test xs)
    AreHashed-promoted xs h = hashed_first xs (lookup_entry test xs) refl h

    put_by : (c : LruCache HashedEnds V) (v : V) (o : Option (HashedEnds × V))
        → AreHashed keys c.entries
        → unhashed (option_map_or (λ f. (f.0, v) ∷ remove_entry test c.entries) o
        ((k, v) ∷ take (c.cap - 1) c.entries))
        ≡ option_map_or (λ f. (f.0, v) ∷ remove_entry (is_five_tuple e) (unhashed c.entries))
        (option_map unhashed_entry o)
        ((e, v) ∷ take (c.cap - 1) (unhashed c.entries))
    put_by c v None h =
        (λ i. ((is i).five_tuple, v) ∷ sym (take-map unhashed_entry (c.cap - 1) c.entries) i)
    put_by c v (Some f) h = ap (λ l. (f.0.five_tuple, v) ∷ l) (remove_entry-unhashed c.entries h)

    pub put_entries-unhashed : (c : LruCache HashedEnds V) (v : V) → AreHashed keys c.entries
        → unhashed (put_entries is_hashed_ends c k v) ≡ put_entries is_five_tuple
        (lru_cache (unhashed c.entries) c.cap) e v
    put_entries-unhashed c v h = put_by c v (lookup_entry test c.entries) h
        ∙ ap (λ o. option_map_or
        (λ f. (f.0, v) ∷ remove_entry (is_five_tuple e) (unhashed c.entries)) o
        ((e, v) ∷ take (c.cap - 1) (unhashed c.entries)))
        (sym (lookup_entry-unhashed c.entries h))

    hashed_put : (c : LruCache HashedEnds V) (v : V) (o : Option (HashedEnds × V))
        → lookup_entry test c.entries ≡ o → AreHashed keys c.entries
        → AreHashed keys
        (option_map_or (λ f. (f.0, v) ∷ remove_entry test c.entries) o
        ((k, v) ∷ take (c.cap - 1) c.entries))
    hashed_put c v None found h =
        (subst (IsHashed keys) (sym is) refl, AreHashed-take keys (c.cap - 1) c.entries h)
    hashed_put c v (Some f) found h =
        (IsHashed-lookup_entry c.entries h f found, AreHashed-remove_entry c.entries h)

    pub AreHashed-put_entries : (c : LruCache HashedEnds V) (v : V) → AreHashed keys c.entries
        → AreHashed keys (put_entries is_hashed_ends c k v)
    AreHashed-put_entries c v h = hashed_put c v (lookup_entry test c.entries) refl h
