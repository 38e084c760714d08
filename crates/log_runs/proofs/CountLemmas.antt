-- How many connections have a five-tuple, in a table that changes.
use Rattle.std.proofs.Common.{◌≡◌, ◌+◌, true, false, Some, None, List, [], ◌∷◌, ◌++◌, refl, sym, ap, arith}
use Rattle.std.specs.Map.{set_value}
use Rattle.connections.proofs.TableLemmas.{the_same}
use Rattle.connections.specs.FiveTuple.{is_five_tuple}
use Rattle.connections.specs.Table.{at, others}
use Rattle.connections.specs.declared.five_tuple.FiveTuple.{FiveTuple}
use Rattle.log_runs.specs.Counting.{count_of, one_if, times}

pub times-append : (e : FiveTuple) (fs gs : List FiveTuple)
    → times e (fs ++ gs) ≡ times e fs + times e gs
times-append e [] gs = omega arith
times-append e (f ∷ fs) gs = omega (arith, times-append e fs gs)

module _ {X : Type 0} (e : FiveTuple) where
  pub count-append : (xs ys : List (FiveTuple × X))
      → count_of e (xs ++ ys) ≡ count_of e xs + count_of e ys
  count-append [] ys = omega arith
  count-append (x ∷ xs) ys = omega (arith, count-append xs ys)

  -- One that is found is one of them.
  pub count-found : (f : FiveTuple) (xs : List (FiveTuple × X)) (x : X) → at f xs ≡ Some x
      → count_of e xs ≡ one_if (is_five_tuple e f) + count_of e (others f xs)
  count-found f [] x h = cc
  count-found f (y ∷ xs) x h = (elim (is_five_tuple f y.0) as
      (λ b. is_five_tuple f y.0 ≡ b
      → count_of e (y ∷ xs) ≡ one_if (is_five_tuple e f) + count_of e (others f (y ∷ xs))) [
        | true ↦ λ t. rw (t, the_same f y.0 t) refl
        | false ↦ λ t. rw t (omega (arith, count-found f xs x (rw t at h)))
      ]) refl

  -- Without one, there is nothing to remove.
  pub others-missed : (f : FiveTuple) (xs : List (FiveTuple × X)) → at f xs ≡ None
      → others f xs ≡ xs
  others-missed f [] h = refl
  others-missed f (y ∷ xs) h = (elim (is_five_tuple f y.0) as
      (λ b. is_five_tuple f y.0 ≡ b → others f (y ∷ xs) ≡ y ∷ xs) [
        | true ↦ λ t. let h' = rw t at h in cc
        | false ↦ λ t. rw t (ap (λ l. y ∷ l) (others-missed f xs (rw t at h)))
      ]) refl

  -- A connection that is put in the place of another one, or that is written there.
  pub count-put : (f : FiveTuple) (xs : List (FiveTuple × X)) (x w : X) → at f xs ≡ Some x
      → count_of e ((f, w) ∷ others f xs) ≡ count_of e xs
  count-put f xs x w h = sym (count-found f xs x h)

  pub count-begun : (f : FiveTuple) (xs : List (FiveTuple × X)) (w : X) → at f xs ≡ None
      → count_of e ((f, w) ∷ others f xs) ≡ one_if (is_five_tuple e f) + count_of e xs
  count-begun f xs w h =
      ap (λ l. one_if (is_five_tuple e f) + count_of e l) (others-missed f xs h)

  pub count-written : (f : FiveTuple) (xs : List (FiveTuple × X)) (w : X)
      → count_of e (set_value (is_five_tuple f) xs w) ≡ count_of e xs
  count-written f [] w = refl
  count-written f (y ∷ xs) w = (elim (is_five_tuple f y.0) as
      (λ b. is_five_tuple f y.0 ≡ b
      → count_of e (set_value (is_five_tuple f) (y ∷ xs) w) ≡ count_of e (y ∷ xs)) [
        | true ↦ λ t. rw t refl
        | false ↦ λ t. rw t
            (ap (λ n. one_if (is_five_tuple e y.0) + n) (count-written f xs w))
      ]) refl

  -- Removing another five-tuple's connection.
  pub count-apart : (f : FiveTuple) → is_five_tuple e f ≡ false → (xs : List (FiveTuple × X))
      → count_of e (others f xs) ≡ count_of e xs
  count-apart f apart [] = refl
  count-apart f apart (y ∷ xs) = (elim (is_five_tuple f y.0) as
      (λ b. is_five_tuple f y.0 ≡ b → count_of e (others f (y ∷ xs)) ≡ count_of e (y ∷ xs)) [
        | true ↦ λ t. rw (t, ← the_same f y.0 t, apart) (omega arith)
        | false ↦ λ t. rw t
            (ap (λ n. one_if (is_five_tuple e y.0) + n) (count-apart f apart xs))
      ]) refl
