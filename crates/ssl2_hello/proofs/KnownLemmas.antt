-- Properties of the values that a layout reads.
use Rattle.std.proofs.Common.{◌≡◌, ℕ, ◌-◌, ◌/◌, ◌<◌, List, length, take, drop, Ok, Err, Bool, true, false, cond, ltb}
use Rattle.std.proofs.Common.{refl, sym, ◌∙◌, ap, subst}
use Rattle.std.specs.Prelude.{⊤, IsOk}
use Rattle.std.proofs.lemmas.Bool.{ltb-false}
use Rattle.std.proofs.lemmas.List.{length-take-le}
use Rattle.layouts.specs.Bytes.{Bytes}
use Rattle.layouts.specs.Layout.{Layout, done, number, block, window, list, chain, test}
use Rattle.layouts.specs.Meaning.{Answer, Lacks}
use Rattle.layouts.specs.Reading.{reading, split_at, ◌and_then◌}
use Rattle.layouts.specs.declared.result.ErrorKind.{ErrorKind}
use Rattle.layouts.proofs.NumbersLemmas.{numbers_count}

-- The property holds for the value, if there is one.
abbrev pub Holds : {A : Type 0} → (A → Type 0) → Answer A → Type 0
Holds P (Ok x) = P x.0
Holds P (Err e) = ⊤

-- The property holds for every value that the layout reads.
pub record ReadsOnly {A : Type 0} (P : A → Type 0) (l : Layout A) : Type 0 where
  pub holds : (b : Bytes) → Holds P (reading l b)

holds_then : {A B : Type 0} (Q : A → Type 0) (P : B → Type 0) (a : Answer A)
    (f : A × Bytes → Answer B) → Holds Q a
    → ((x : A × Bytes) → Q x.0 → Holds P (f x)) → Holds P (a and_then f)
holds_then Q P (Ok x) f q h = h x q
holds_then Q P (Err e) f q h = tt

-- A property of the first part carries over to what is read after it.
pub reads_behind : {A B : Type 0} (Q : A → Type 0) (P : B → Type 0) (l : Layout A)
    (f : A → Layout B) → ReadsOnly Q l
    → ((a : A) → Q a → ReadsOnly P (f a)) → ReadsOnly P (chain l f)
reads_behind Q P l f q h = record {
  holds = λ b. holds_then Q P (reading l b) (λ x. reading (f x.0) x.1) (q.holds b)
      (λ x k. (h x.0 k).holds x.1);
}

-- Nothing is known of a number.
nothing_known : {A : Type 0} (a : Answer A) → Holds (λ x. ⊤) a
nothing_known (Ok x) = tt
nothing_known (Err e) = tt

pub reads_number : {B : Type 0} (P : B → Type 0) (k : ℕ) (f : ℕ → Layout B)
    → ((n : ℕ) → ReadsOnly P (f n))
    → ReadsOnly P (chain (number k) f)
reads_number P k f h =
    reads_behind (λ n. ⊤) P (number k) f
    (record { holds = λ b. nothing_known (reading (number k) b) }) (λ n t. h n)

holds_behind : {A : Type 0} (P : A → Type 0) (t : Bool) (k : ErrorKind) (f : Unit → Layout A)
    → (t ≡ true → ReadsOnly P (f tt)) → (b : Bytes) → Holds P (reading (chain (test t k) f) b)
holds_behind P true k f h b = (h refl).holds b
holds_behind P false k f h b = tt

pub reads_tested : {A : Type 0} (P : A → Type 0) (t : Bool) (k : ErrorKind) (f : Unit → Layout A)
    → (t ≡ true → ReadsOnly P (f tt)) → ReadsOnly P (chain (test t k) f)
reads_tested P t k f h = record { holds = holds_behind P t k f h }

pub reads_done : {A : Type 0} (P : A → Type 0) (a : A) → P a → ReadsOnly P (done a)
reads_done P a h = record { holds = λ b. h }

pub reads_block : (n : ℕ) → ReadsOnly (λ x. length x ≡ n) (block n)
unfolding split_at
reads_block n = record { holds = λ b. go b (ltb (length b) n) refl }
  where
    go : (b : Bytes) (t : Bool) → ltb (length b) n ≡ t
        → Holds (λ x. length x ≡ n)
        (cond {A = Answer Bytes} t (Err (Lacks (n - length b))) (Ok (take n b, drop n b)))
    go b true e = tt
    go b false e = length-take-le n b (ltb-false (length b) n e)

window_holds : {A : Type 0} (P : A → Type 0) (a : Answer A) (r : Bytes) → Holds P a
    → Holds P (◌and_then◌ {Y = A × Bytes} a (λ x. Ok (x.0, r)))
window_holds P (Ok x) r h = h
window_holds P (Err e) r h = tt

-- Numbers that fill a window.
pub reads_numbers : (k n : ℕ) → 0 < k
    → ReadsOnly (λ xs. length xs ≡ n / k) (window n (list (number k)))
unfolding split_at
reads_numbers k n some = record { holds = λ b. go b (ltb (length b) n) refl }
  where
    go : (b : Bytes) (t : Bool) → ltb (length b) n ≡ t
        → Holds (λ xs. length xs ≡ n / k) (◌and_then◌ {X = Bytes × Bytes} {Y = List ℕ × Bytes}
        (cond {A = Answer Bytes} t (Err (Lacks (n - length b))) (Ok (take n b, drop n b)))
        (λ w. reading (list (number k)) w.0 and_then λ x. Ok (x.0, w.1)))
    go b true e = tt
    go b false e =
        numbers_count k (take n b) some
        ∙ ap (λ m. m / k) (length-take-le n b (ltb-false (length b) n e))

-- A first part is read, and then the rest.
pub chain_reads : {A B : Type 0} (l : Layout A) (f : A → Layout B) (b : Bytes) (v : A) (r : Bytes)
    → reading l b ≡ Ok (v, r) → IsOk (reading (f v) r) → IsOk (reading (chain l f) b)
chain_reads l f b v r e h = subst (λ a. IsOk (a and_then λ x. reading (f x.0) x.1)) (sym e) h

pub first_read : {A B : Type 0} (l : Layout A) (f : A → Layout B) (b : Bytes)
    → IsOk (reading (chain l f) b)
    → (v : A) × (r : Bytes) × (reading l b ≡ Ok (v, r)) × IsOk (reading (f v) r)
first_read {A} l f b h = go (reading l b) refl h
  where
    go : (a : Answer A) → reading l b ≡ a → IsOk (a and_then λ x. reading (f x.0) x.1)
        → (v : A) × (r : Bytes) × (reading l b ≡ Ok (v, r)) × IsOk (reading (f v) r)
    go (Ok x) e h = (x.0, x.1, e, h)
    go (Err e) f h = absurd cc

pub first_value : {A B : Type 0} (l : Layout A) (f : A → Layout B) (b : Bytes) (w : B) (s : Bytes)
    → reading (chain l f) b ≡ Ok (w, s)
    → (v : A) × (r : Bytes) × (reading l b ≡ Ok (v, r)) × (reading (f v) r ≡ Ok (w, s))
first_value {A} {B} l f b w s h = go (reading l b) refl h
  where
    go : (a : Answer A) → reading l b ≡ a
        → ◌and_then◌ {Y = B × Bytes} a (λ x. reading (f x.0) x.1) ≡ Ok (w, s)
        → (v : A) × (r : Bytes) × (reading l b ≡ Ok (v, r)) × (reading (f v) r ≡ Ok (w, s))
    go (Ok x) e h = (x.0, x.1, e, h)
    go (Err e) f h = absurd cc
