-- The first item of a fragment, and lists that are checked by it.
use Rattle.std.proofs.Common.{◌≡◌, List, [], ◌∷◌, ◌++◌, length, Result, Ok, Err, refl, sym, subst, ◌∙◌, ap}
use Rattle.std.specs.Borrow.{Bor}
use Rattle.std.specs.Prelude.{ℕ}
use Rattle.layouts.specs.Bytes.{Bytes}
use Rattle.layouts.specs.Layout.{Layout, list1}
use Rattle.layouts.specs.Meaning.{Refusal, Answer, Broken, Lacks}
use Rattle.layouts.specs.Reading.{reading, completed, ◌and_then◌}
use Rattle.layouts.specs.Items.{items_in, left_in, value_of, Returns}
use Rattle.layouts.specs.declared.result.Error.{Error}
use Rattle.layouts.specs.declared.result.Err.{Err as Failed}
use Rattle.layouts.proofs.LeavesLemmas.{LeavesFewer}
use Rattle.layouts.proofs.ItemsLemmas.{items_first}
use Rattle.raw_records.specs.First.{judged, first_judged, as_complete}

pub first_is_read : {A : Type 0} (l : Layout A) (b : Bytes) (v : A) (r : Bytes)
    → reading l b ≡ Ok (v, r)
    → first_judged l b ≡ Ok tt
first_is_read l b v r e = ap (λ a. judged (completed a)) e

refused_whole : (A : Type 0) (e : Refusal)
    → judged {A = A} (completed {A = A} (Err e)) ≡ Err (as_complete e)
refused_whole A (Broken k) = refl
refused_whole A (Lacks n) = refl

pub first_is_refused : {A : Type 0} (l : Layout A) (b : Bytes) (e : Refusal) → reading l b ≡ Err e
    → first_judged l b ≡ Err (as_complete e)
first_is_refused {A} l b e f = ap (λ a. judged (completed a)) f ∙ refused_whole A e

-- the value, if the check passed
abbrev pub with_value : {A : Type 0} → Result Unit Refusal → A → Result A Refusal
with_value (Ok u) x = Ok x
with_value (Err e) x = Err e

pub returned_value : {A : Type 0} (a : Result Unit Refusal) (x : A)
    (r : Result Unit (Failed (Error (Bor (List ℕ)))))
    → Returns (λ u. tt) a r → Returns (λ u. x) (with_value a x) r
returned_value a x (Ok u) t = record { answers = tt; is = ap (λ y. with_value y x) t.is }
returned_value a x (Err e) t = record { answers = t.answers; is = ap (λ y. with_value y x) t.is }

-- one or more items, checked by the first
list_value : {A : Type 0} (l : Layout A) (b : Bytes) → LeavesFewer (length b) (reading l b)
    → value_of (reading (list1 l) b) ≡ with_value (first_judged l b) (items_in l b)
list_value {A} l b fewer = go (reading l b) refl fewer
  where
    go : (a : Answer A) → reading l b ≡ a → LeavesFewer (length b) a
        → value_of (◌and_then◌ {Y = List A × Bytes} (completed a)
        (λ x. Ok ((x.0 ∷ []) ++ items_in l x.1, left_in l x.1))) ≡ with_value (judged
        (completed a)) (items_in l b)
    go (Ok x) e short = ap Ok (sym (items_first l b x.0 x.1 e short))
    go (Err (Broken k)) e short = refl
    go (Err (Lacks n)) e short = refl

pub list_returned : {A : Type 0} (l : Layout A) (b : Bytes) (xs : List A)
    → LeavesFewer (length b) (reading l b)
    → items_in l b ≡ xs
    → (r : Result Unit (Failed (Error (Bor (List ℕ))))) → Returns (λ u. tt) (first_judged l b) r
    → Returns (λ u. xs) (value_of (reading (list1 l) b)) r
list_returned l b xs fewer same r t =
    subst (λ y. Returns (λ u. xs) y r)
    (sym (list_value l b fewer ∙ ap (λ ys. with_value (first_judged l b) ys) same))
    (returned_value (first_judged l b) xs r t)
