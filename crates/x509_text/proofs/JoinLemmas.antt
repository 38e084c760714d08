-- A joined text: the first item, and the others, each after the separator.
use Rattle.std.proofs.Common.{◌≡◌, ℕ, List, [], ◌∷◌, ◌++◌, map, reverse, sym, ◌∙◌, ap, append_assoc, append-nil}
use Rattle.std.specs.List.{join_with_byte}
use Rattle.std.proofs.lemmas.List.{map-append, reverse-append}

-- Each of the texts, after the separator.
abbrev pub behind : {X : Type 0} → ℕ → (X → List ℕ) → List X → List ℕ
behind c f [] = []
behind c f (x ∷ xs) = c ∷ (f x ++ behind c f xs)

pub joined_first : {X : Type 0} (c : ℕ) (f : X → List ℕ) (x : X) (xs : List X)
    → join_with_byte c (map f (x ∷ xs)) ≡ f x ++ behind c f xs
joined_first c f x [] = sym (append-nil (f x))
joined_first c f x (y ∷ ys) = ap (λ t. f x ++ c ∷ t) (joined_first c f y ys)

-- the first of them is written
pub join_begun : {X : Type 0} (c : ℕ) (f : X → List ℕ) (x : X) (xs all : List X) (old text : List ℕ)
    → all ≡ x ∷ xs → text ≡ old ++ f x → text ++ behind c f xs ≡ old ++ join_with_byte c (map f all)
join_begun c f x xs all old text is e =
    ap (λ t. t ++ behind c f xs) e ∙ append_assoc old (f x) (behind c f xs)
    ∙ ap (λ t. old ++ t) (sym (joined_first c f x xs))
    ∙ ap (λ zs. old ++ join_with_byte c (map f zs)) (sym is)

-- one more of them is written
pub join_more : {X : Type 0} (c : ℕ) (f : X → List ℕ) (x : X) (xs all : List X) (old text : List ℕ)
    → all ≡ x ∷ xs → text ≡ (old ++ c ∷ []) ++ f x → text ++ behind c f xs ≡ old ++ behind c f all
join_more c f x xs all old text is e =
    ap (λ t. t ++ behind c f xs) e ∙ append_assoc (old ++ c ∷ []) (f x) (behind c f xs)
    ∙ append_assoc old (c ∷ []) (f x ++ behind c f xs) ∙ ap (λ zs. old ++ behind c f zs) (sym is)

-- the last of a list is the first of its reverse
pub last_first : {A X : Type 0} (v : A → X) (ys zs : List A) (all : List X) (x : A) → map v ys ≡ all
    → ys ≡ zs ++ x ∷ []
    → reverse all ≡ v x ∷ reverse (map v zs)
last_first v ys zs all x is e =
    ap reverse (sym is) ∙ ap (λ l. reverse (map v l)) e ∙ ap reverse (map-append v zs (x ∷ []))
    ∙ reverse-append (map v zs) (v x ∷ [])
