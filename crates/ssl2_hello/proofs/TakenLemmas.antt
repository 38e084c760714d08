-- How many bytes a fixed-size layout consumes.
use Rattle.std.proofs.Common.{◌≡◌, ℕ, ◌+◌, ◌-◌, ◌<◌, length, take, drop, Ok, Err, Bool, true, false, cond, ltb, refl, arith}
use Rattle.std.specs.Prelude.{⊤}
use Rattle.std.proofs.lemmas.Bool.{ltb-true, ltb-false}
use Rattle.std.proofs.lemmas.List.{length-drop}
use Rattle.layouts.specs.Bytes.{Bytes, number_of}
use Rattle.layouts.specs.Layout.{Layout, done, number, chain, test}
use Rattle.layouts.specs.Meaning.{Answer, Broken, Lacks}
use Rattle.layouts.specs.Reading.{reading, split_at, number_at, ◌and_then◌}
use Rattle.layouts.specs.Stable.{IsStable, CountsMissing}
use Rattle.layouts.specs.declared.result.ErrorKind.{ErrorKind}

-- Of n bytes, k are consumed, or the missing ones are counted.
abbrev pub Took : {A : Type 0} → ℕ → ℕ → Answer A → Type 0
Took k n (Ok x) = n ≡ k + length x.1
Took k n (Err (Broken e)) = ⊤
Took k n (Err (Lacks m)) = n < k

pub record Takes {A : Type 0} (k : ℕ) (l : Layout A) : Type 0 where
  pub took : (b : Bytes) → Took k (length b) (reading l b)

took_further : {A : Type 0} (j k n m : ℕ) (a : Answer A) → n ≡ j + m → Took k m a → Took (j + k) n a
took_further j k n m (Ok x) e h = omega (arith, e, h)
took_further j k n m (Err (Broken f)) e h = tt
took_further j k n m (Err (Lacks i)) e h = omega (arith, e, h)

took_then : {A B : Type 0} (j k n : ℕ) (a : Answer A) (f : A × Bytes → Answer B) → Took j n a
    → ((x : A × Bytes) → Took k (length x.1) (f x)) → Took (j + k) n (a and_then f)
took_then j k n (Ok x) f h g = took_further j k n (length x.1) (f x) h (g x)
took_then j k n (Err (Broken e)) f h g = tt
took_then j k n (Err (Lacks m)) f h g = omega (arith, h)

number_took : (k : ℕ) (b : Bytes) → Took k (length b) (reading (number k) b)
unfolding number_at split_at
number_took k b = go (ltb (length b) k) refl
  where
    go : (t : Bool) → ltb (length b) k ≡ t
        → Took k (length b) (◌and_then◌ {Y = ℕ × Bytes}
        (cond {A = Answer Bytes} t (Err (Lacks (k - length b))) (Ok (take k b, drop k b)))
        (λ x. Ok (number_of x.0, x.1)))
    go true e = ltb-true (length b) k e
    go false e = omega (arith, length-drop k b, ltb-false (length b) k e)

pub takes_number : (k : ℕ) → Takes k (number k)
takes_number k = record { took = number_took k }

test_took : (t : Bool) (k : ErrorKind) (b : Bytes) → Took 0 (length b) (reading (test t k) b)
test_took true k b = omega arith
test_took false k b = tt

pub takes_test : (t : Bool) (k : ErrorKind) → Takes 0 (test t k)
takes_test t k = record { took = test_took t k }

pub takes_done : {A : Type 0} (a : A) → Takes 0 (done a)
takes_done a = record { took = λ b. omega arith }

pub takes_chain : {A B : Type 0} (j k : ℕ) (l : Layout A) (f : A → Layout B) → Takes j l
    → ((a : A) → Takes k (f a))
    → Takes (j + k) (chain l f)
takes_chain j k l f h g = record {
  took = λ b. took_then j k (length b) (reading l b) (λ x. reading (f x.0) x.1) (h.took b)
      (λ x. (g x.0).took x.1);
}

pub stable_test : (t : Bool) (k : ErrorKind) → IsStable (test t k)
stable_test true k = tt
stable_test false k = tt

pub counts_test : (t : Bool) (k : ErrorKind) → CountsMissing (test t k)
counts_test true k = tt
counts_test false k = tt
