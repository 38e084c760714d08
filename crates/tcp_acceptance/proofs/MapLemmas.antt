-- A loop that writes each element.
use Rattle.std.proofs.Common.{◌≡◌, ℕ, ◌+◌, ◌<◌, ◌≤◌, List, [], ◌∷◌, ◌++◌, length, take, drop, map, set, get_or, sym, ap, ◌∙◌, arith, append-nil, append_assoc, take_all}
use Rattle.std.proofs.lemmas.List.{drop_all, drop_more, drop-set-lt, take_more_set}

pub written_step : {X : Type 0} (f : X → X) (xs : List X) (i : ℕ) (x : X) → i < length xs
    → x ≡ get_or xs i x
    → take (i + 1) (set xs i (f x)) ++ map f (drop (i + 1) (set xs i (f x)))
    ≡ take i xs ++ map f (drop i xs)
written_step {X} f xs i x h e =
    let more : drop i xs ≡ x ∷ drop (i + 1) xs =
    drop_more xs i x h ∙ ap (λ (y : X). y ∷ drop (i + 1) xs) (sym e) in
    ap (λ (l : List X). l ++ map f (drop (i + 1) (set xs i (f x)))) (take_more_set xs i (f x) h)
    ∙ ap (λ (l : List X). (take i xs ++ f x ∷ []) ++ map f l)
    (drop-set-lt (i + 1) xs i (f x) (omega arith))
    ∙ append_assoc (take i xs) (f x ∷ []) (map f (drop (i + 1) xs))
    ∙ ap (λ (l : List X). take i xs ++ map f l) (sym more)

pub written_all : {X : Type 0} (f : X → X) (xs : List X) (i : ℕ) → length xs ≤ i
    → take i xs ++ map f (drop i xs) ≡ xs
written_all {X} f xs i h =
    ap (λ (l : List X). l ++ map f (drop i xs)) (take_all i xs h)
    ∙ ap (λ (l : List X). xs ++ map f l) (drop_all i xs h)
    ∙ append-nil xs
