-- A layout repeated n times, one step at a time.
use Rattle.std.proofs.Common.{◌≡◌, ℕ, zero, suc, ◌+◌, List, [], ◌∷◌, ◌++◌, map, Ok, Err, sym, ◌∙◌, refl, ap}
use Rattle.std.proofs.Math.Numerals.{add-one}
use Rattle.std.proofs.lemmas.List.{map-append}
use Rattle.layouts.specs.Bytes.{Bytes}
use Rattle.layouts.specs.Layout.{Layout, times}
use Rattle.layouts.specs.Meaning.{Answer}
use Rattle.layouts.specs.Reading.{reading, ◌and_then◌}
use Rattle.layouts.specs.Answers.{Gives}
use Rattle.std.specs.Borrow.{Bor}

-- a first item is read, and n after it
first_read : {A : Type 0} (n : ℕ) (l : Layout A) (b : Bytes) (xs : List A) (m : Bytes)
    → reading (times (suc n) l) b ≡ Ok (xs, m)
    → (x : A) × (ys : List A) × (k : Bytes) × (reading l b ≡ Ok (x, k))
    × (reading (times n l) k ≡ Ok (ys, m))
    × (xs ≡ x ∷ ys)
first_read {A} n l b xs m h = go (reading l b) refl h
  where
    rest : (x : A × Bytes) (a : Answer (List A))
        → ◌and_then◌ {Y = List A × Bytes} a (λ y. Ok (x.0 ∷ y.0, y.1)) ≡ Ok (xs, m)
        → (ys : List A) × (a ≡ Ok (ys, m)) × (xs ≡ x.0 ∷ ys)
    rest x (Ok y) e =
        let pair : ◌≡◌ {A = List A × Bytes} (x.0 ∷ y.0, y.1) (xs, m) = cc in
        (y.0, ap (λ z. Ok (y.0, z.1)) pair, sym (ap (λ z. z.0) pair))
    rest x (Err f) e = absurd cc

    go : (a : Answer A) → reading l b ≡ a → ◌and_then◌ {Y = List A × Bytes} a
        (λ x. reading (times n l) x.1 and_then λ y. Ok (x.0 ∷ y.0, y.1)) ≡ Ok (xs, m)
        → (x : A) × (ys : List A) × (k : Bytes) × (reading l b ≡ Ok (x, k))
        × (reading (times n l) k ≡ Ok (ys, m))
        × (xs ≡ x ∷ ys)
    go (Ok x) e f = let r : (ys : List A) × (reading (times n l) x.1 ≡ Ok (ys, m))
        × (xs ≡ x.0 ∷ ys) =
        rest x (reading (times n l) x.1) f in (x.0, r.0, x.1, e, r.1, r.2)
    go (Err g) e f = absurd cc

none_read : {A : Type 0} (l : Layout A) (b : Bytes) (xs : List A) (m : Bytes)
    → reading (times zero l) b ≡ Ok (xs, m)
    → (xs ≡ []) × (b ≡ m)
none_read {A} l b xs m h =
    let pair : ◌≡◌ {A = List A × Bytes} ([], b) (xs, m) = cc in
    (sym (ap (λ z. z.0) pair), ap (λ z. z.1) pair)

push_read : {A : Type 0} (n : ℕ) (l : Layout A) (b : Bytes) (xs : List A) (m : Bytes) (x : A)
    (r : Bytes)
    → reading (times n l) b ≡ Ok (xs, m) → reading l m ≡ Ok (x, r)
    → reading (times (suc n) l) b ≡ Ok (xs ++ x ∷ [], r)
push_read zero l b xs m x r h e =
    let none : (xs ≡ []) × (b ≡ m) = none_read l b xs m h in
    ap (λ k. reading (times 1 l) k) none.1 ∙ ap (λ a. a and_then λ x. Ok (x.0 ∷ [], x.1)) e
    ∙ ap (λ ys. Ok (ys ++ x ∷ [], r)) (sym none.0)
push_read (suc n) l b xs m x r h e =
    let f = first_read n l b xs m h in
    ap (λ a. a and_then λ x. reading (times (suc n) l) x.1 and_then λ y. Ok (x.0 ∷ y.0, y.1)) f.3
    ∙ ap (λ a. a and_then λ y. Ok (f.0 ∷ y.0, y.1)) (push_read n l f.2 f.1 m x r f.4 e)
    ∙ ap (λ ys. Ok (ys ++ x ∷ [], r)) (sym f.5)

push_one : {A : Type 0} (n : ℕ) (l : Layout A) (b : Bytes) (xs : List A) (m : Bytes) (x : A)
    (r : Bytes)
    → reading (times n l) b ≡ Ok (xs, m) → reading l m ≡ Ok (x, r)
    → reading (times (n + 1) l) b ≡ Ok (xs ++ x ∷ [], r)
push_one n l b xs m x r h e = rw add-one (push_read n l b xs m x r h e)

-- n items are read from b: xs, with the rest m
pub record TimesRead {A : Type 0} (l : Layout A) (b : Bytes) (n : ℕ) (xs : List A)
    (m : Bytes) : Type 0 where
  pub read : reading (times n l) b ≡ Ok (xs, m)

-- One more item, for the results of calls.
module _ {X A : Type 0} (view : X → A) (l : Layout A) (b : Bytes) where
  pub times_push : (n : ℕ) (xs : List X) (m : Bytes) (x : X) (r : Bor (List ℕ))
      → TimesRead l b n (map view xs) m
      → Gives view l m (Ok (r, x)) → TimesRead l b (n + 1) (map view (xs ++ x ∷ [])) r.now
  times_push n xs m x r h g = record {
    read =
        rw map-append (push_one n l b (map view xs) m (view x) r.now h.read g.read);
  }
