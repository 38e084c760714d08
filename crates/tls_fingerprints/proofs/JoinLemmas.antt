-- A joined text: the first item, and the others, each after the separator.
use Rattle.std.proofs.Common.{◌≡◌, ℕ, ◌+◌, ◌<◌, ◌≤◌, List, [], ◌∷◌, ◌++◌, Bool, true, false, not, cond, map, length, take, get_or, refl, sym, ◌∙◌, ap, subst}
use Rattle.std.proofs.Common.{append_assoc, append-nil}
use Rattle.std.specs.List.{flat_map, join_with_byte}
use Rattle.std.proofs.lemmas.List.{take_all, take_more}
use Rattle.tls_fingerprints.specs.Numbers.{behind_others, four_digits, has_any, is_grease, lead_byte, without_grease}
use Rattle.tls_fingerprints.specs.Ja4.{with_algorithms}

joined_first : {X : Type 0} (c : ℕ) (f : X → List ℕ) (x : X) (xs : List X)
    → join_with_byte c (map f (x ∷ xs)) ≡ f x ++ flat_map (λ y. c ∷ f y) xs
joined_first c f x [] = sym (append-nil (f x))
joined_first c f x (y ∷ ys) = ap (λ t. f x ++ c ∷ t) (joined_first c f y ys)

each_last : {X : Type 0} (g : X → List ℕ) (xs : List X) (y : X)
    → flat_map g (xs ++ y ∷ []) ≡ flat_map g xs ++ g y
each_last g [] y = append-nil (g y)
each_last g (x ∷ xs) y = ap (λ t. g x ++ t) (each_last g xs y)
    ∙ sym (append_assoc (g x) (flat_map g xs) (g y))

pub each_next : {X : Type 0} (g : X → List ℕ) (xs : List X) (i : ℕ) (d : X) → i < length xs
    → flat_map g (take (i + 1) xs) ≡ flat_map g (take i xs) ++ g (get_or xs i d)
each_next g xs i d short = ap (flat_map g) (take_more xs i d short)
    ∙ each_last g (take i xs) (get_or xs i d)

-- all items are there once the others are
pub joined_all : {X : Type 0} (c : ℕ) (f : X → List ℕ) (x : X) (xs ys : List X) (i : ℕ)
    (old first text : List ℕ)
    → ys ≡ x ∷ xs → first ≡ old ++ f x → text ≡ first ++ flat_map (λ y. c ∷ f y) (take i xs)
    → length xs ≤ i
    → text ≡ old ++ join_with_byte c (map f ys)
joined_all c f x xs ys i old first text all e more over =
    more ∙ ap (λ t. t ++ flat_map (λ y. c ∷ f y) (take i xs)) e
    ∙ ap (λ zs. (old ++ f x) ++ flat_map (λ y. c ∷ f y) zs) (take_all i xs over)
    ∙ append_assoc old (f x) (flat_map (λ y. c ∷ f y) xs)
    ∙ ap (λ t. old ++ t) (sym (joined_first c f x xs))
    ∙ ap (λ zs. old ++ join_with_byte c (map f zs)) (sym all)

-- the rest of a text whose remaining items are these: with the first, or after others
abbrev pub left_text : {X : Type 0} → ℕ → (X → List ℕ) → Bool → List X → List ℕ
left_text c f true xs = join_with_byte c (map f xs)
left_text c f false xs = flat_map (λ y. c ∷ f y) xs

pub left_next : {X : Type 0} (c : ℕ) (f : X → List ℕ) (first : Bool) (x : X) (xs : List X)
    → left_text c f first (x ∷ xs) ≡ behind_others c first (f x) ++ left_text c f false xs
left_next c f true x xs = joined_first c f x xs
left_next c f false x xs = refl

pub left_none : {X : Type 0} (c : ℕ) (f : X → List ℕ) (first : Bool) → left_text c f first [] ≡ []
left_none c f true = refl
left_none c f false = refl

-- a hasher that has the front of a text; this is the rest of it
pub record IsAhead {H : Type 0} (Holds : H → List ℕ → Type 0) (h : H)
    (whole rest : List ℕ) : Type 0 where
  pub text : List ℕ
  pub holds : Holds h text
  pub joins : text ++ rest ≡ whole

pub ahead_begins : {H : Type 0} (Holds : H → List ℕ → Type 0) (h : H) (m all rest : List ℕ)
    → Holds h m → rest ≡ all
    → IsAhead Holds h (m ++ all) rest
ahead_begins Holds h m all rest held e =
    record { text = m; holds = held; joins = ap (λ t. m ++ t) e }

pub ahead_stays : {H : Type 0} (Holds : H → List ℕ → Type 0) (h : H) (whole rest others : List ℕ)
    → IsAhead Holds h whole rest → rest ≡ others → IsAhead Holds h whole others
ahead_stays Holds h whole rest others a e = subst (IsAhead Holds h whole) e a

pub ahead_goes_on : {H : Type 0} (Holds : H → List ℕ → Type 0) (h g : H)
    (whole rest piece others : List ℕ)
    → IsAhead Holds h whole rest → rest ≡ piece ++ others
    → ((m : List ℕ) → Holds h m → Holds g (m ++ piece))
    → IsAhead Holds g whole others
ahead_goes_on Holds h g whole rest piece others a e fed = record {
  text = a.text ++ piece;
  holds = fed a.text a.holds;
  joins = append_assoc a.text piece others ∙ ap (λ t. a.text ++ t) (sym e) ∙ a.joins;
}

pub ahead_ends : {H : Type 0} (Holds : H → List ℕ → Type 0) (h : H) (whole rest : List ℕ)
    → IsAhead Holds h whole rest
    → rest ≡ [] → Holds h whole
ahead_ends Holds h whole rest a e =
    subst (Holds h) (sym (append-nil a.text) ∙ ap (λ t. a.text ++ t) (sym e) ∙ a.joins) a.holds

-- the rest of the algorithms: `_` and all of them, or each after `,`
abbrev pub algorithms_left : Bool → List ℕ → List ℕ
algorithms_left true ns = with_algorithms [] ns
algorithms_left false ns = flat_map (λ n. 44 ∷ four_digits n) ns

pub algorithms_next : (first : Bool) (n : ℕ) (ns : List ℕ)
    → algorithms_left first (n ∷ ns) ≡ (lead_byte first ∷ four_digits n) ++ algorithms_left false ns
algorithms_next true n ns = ap (λ t. 95 ∷ t) (joined_first 44 four_digits n ns)
algorithms_next false n ns = refl

pub algorithms_none : (first : Bool) → algorithms_left first [] ≡ []
algorithms_none true = refl
algorithms_none false = refl

algorithms_behind : (m ns : List ℕ) → m ++ algorithms_left true ns ≡ with_algorithms m ns
algorithms_behind m [] = append-nil m
algorithms_behind m (n ∷ ns) = refl

pub algorithms_begin : {H : Type 0} (Holds : H → List ℕ → Type 0) (h : H) (m all ns : List ℕ)
    → Holds h m → ns ≡ all
    → IsAhead Holds h (with_algorithms m all) (algorithms_left true ns)
algorithms_begin Holds h m all ns held e =
    record { text = m; holds = held; joins = algorithms_behind m ns ∙ ap (with_algorithms m) e }

-- whether there are any, if these remain
abbrev pub any_left : Bool → List ℕ → Bool
any_left true ns = has_any ns
any_left false ns = true

pub any_none : (first : Bool) → any_left first [] ≡ not first
any_none true = refl
any_none false = refl

pub any_next : (first : Bool) (n : ℕ) (ns : List ℕ) → any_left first (n ∷ ns) ≡ any_left false ns
any_next true n ns = refl
any_next false n ns = refl

-- the first number is skipped, or kept
pub kept_skips : (ns others : List ℕ) (n : ℕ) → ns ≡ n ∷ others → is_grease n ≡ true
    → without_grease ns ≡ without_grease others
kept_skips ns others n e grease =
    ap without_grease e
    ∙ ap (λ b. cond (not b) (n ∷ without_grease others) (without_grease others)) grease

pub kept_keeps : (ns others : List ℕ) (n : ℕ) → ns ≡ n ∷ others → is_grease n ≡ false
    → without_grease ns ≡ n ∷ without_grease others
kept_keeps ns others n e other =
    ap without_grease e
    ∙ ap (λ b. cond (not b) (n ∷ without_grease others) (without_grease others)) other
