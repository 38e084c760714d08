-- Where TLS begins, byte by byte.
use Rattle.std.proofs.Common.{◌≡◌, ℕ, zero, suc, ◌+◌, ◌-◌, ◌<◌, ◌≤◌, Bool, true, false, cond, not, List, [], ◌∷◌, ◌++◌, length, take, drop, get_or, Option, Some, None, refl, sym, ◌∙◌, ap, subst, arith, nat_le}
use Rattle.std.proofs.Math.Seq.{drop-cons}
use Rattle.std.proofs.lemmas.List.{drop_all, take-append-le, length-append}
use Rattle.std.proofs.lemmas.Bool.{leb-true, leb-false, le-leb, lt-leb}
use Rattle.std.specs.Option.{option_map}
use Rattle.tls_detection.specs.Place.{begins_behind, place_behind, is_answer, is_hello}

-- where it begins
pub begins_there : (a : Bool) (x : ℕ) (b : List ℕ) → begins_behind a (x ∷ b) ≡ true
    → place_behind a (x ∷ b) ≡ Some 0
unfolding place_behind
begins_there a x b e = ap (λ t. cond t (Some 0) (option_map suc (place_behind a b))) e

-- and where it doesn't
pub begins_later : (a : Bool) (x : ℕ) (b : List ℕ) → begins_behind a (x ∷ b) ≡ false
    → place_behind a (x ∷ b) ≡ option_map suc (place_behind a b)
unfolding place_behind
begins_later a x b e = ap (λ t. cond t (Some 0) (option_map suc (place_behind a b))) e

pub none_at_end : (a : Bool) → place_behind a [] ≡ None
unfolding place_behind
none_at_end a = refl

test : Bool → List ℕ → Bool
test a w = cond a (is_answer w) (is_hello 1 w)

begins_is : (a : Bool) (b : List ℕ)
    → begins_behind a b ≡ cond (nat_le 11 (length b)) (test a (take 11 b)) false
unfolding begins_behind test
begins_is a b = refl

-- more bytes don't change what 11 bytes decide
begins_same : (a : Bool) (b c : List ℕ) → 11 ≤ length b
    → begins_behind a (b ++ c) ≡ begins_behind a b
begins_same a b c h =
    begins_is a (b ++ c)
    ∙ ap (λ t. cond t (test a (take 11 (b ++ c))) false)
    (le-leb 11 (length (b ++ c)) (omega (arith, h, length-append b c)))
    ∙ ap (test a) (take-append-le 11 b c h)
    ∙ sym (ap (λ t. cond t (test a (take 11 b)) false) (le-leb 11 (length b) h))
    ∙ sym (begins_is a b)

short_begins : (a : Bool) (b : List ℕ) → length b < 11 → begins_behind a b ≡ false
short_begins a b h =
    begins_is a b ∙ ap (λ t. cond t (test a (take 11 b)) false) (lt-leb 11 (length b) h)

short_none : (a : Bool) (b : List ℕ) → length b < 11 → place_behind a b ≡ None
short_none a [] h = none_at_end a
short_none a (x ∷ b) h =
    begins_later a x b (short_begins a (x ∷ b) h)
    ∙ ap (option_map suc) (short_none a b (omega (arith, h)))

suc_none : (o : Option ℕ) → option_map suc o ≡ None → o ≡ None
suc_none None e = refl
suc_none (Some n) e = cc

suc_some : (o : Option ℕ) (n : ℕ) → option_map suc o ≡ Some n → (m : ℕ) × (o ≡ Some m) × (suc m ≡ n)
suc_some None n e = cc
suc_some (Some m) n e = (m, refl, cc)

Stands : Bool → List ℕ → List ℕ → Type 0
Stands a b c = (n : ℕ) → place_behind a b ≡ Some n → place_behind a (b ++ c) ≡ Some n

stands_on : (a : Bool) (x : ℕ) (b c : List ℕ) → Stands a b c → (t : Bool)
    → begins_behind a (x ∷ b) ≡ t
    → 11 ≤ length (x ∷ b) → Stands a (x ∷ b) c
unfolding Stands
stands_on a x b c rest true e' h n e =
    begins_there a x (b ++ c) (begins_same a (x ∷ b) c h ∙ e') ∙ sym (begins_there a x b e') ∙ e
stands_on a x b c rest false e' h n e =
    let s = suc_some (place_behind a b) n (sym (begins_later a x b e') ∙ e) in
    begins_later a x (b ++ c) (begins_same a (x ∷ b) c h ∙ e')
    ∙ ap (option_map suc) (rest s.0 s.1)
    ∙ ap Some s.2

stands_by : (a : Bool) (x : ℕ) (b c : List ℕ) → Stands a b c → (t : Bool)
    → nat_le 11 (length (x ∷ b)) ≡ t → Stands a (x ∷ b) c
unfolding Stands
stands_by a x b c rest true h n e =
    stands_on a x b c rest (begins_behind a (x ∷ b)) refl (leb-true 11 (length (x ∷ b)) h) n e
stands_by a x b c rest false h n e =
    let none = short_none a (x ∷ b) (leb-false 11 (length (x ∷ b)) h) in cc

pub place_stands : (a : Bool) (b c : List ℕ) (n : ℕ) → place_behind a b ≡ Some n
    → place_behind a (b ++ c) ≡ Some n
unfolding Stands
place_stands a [] c n e = let none = none_at_end a in cc
place_stands a (x ∷ b) c n e =
    stands_by a x b c (place_stands a b c) (nat_le 11 (length (x ∷ b))) refl n e

same_map : (o : Option ℕ) (k : ℕ) → k ≡ 0 → o ≡ option_map (λ n. k + n) o
same_map None k e = refl
same_map (Some n) k e = ap Some (omega (arith, e))

suc_map : (o : Option ℕ) (k : ℕ)
    → option_map suc (option_map (λ n. k + n) o) ≡ option_map (λ n. suc k + n) o
suc_map None k = refl
suc_map (Some n) k = ap Some (let e : suc (k + n) ≡ suc k + n = omega arith in e)

Moves : Bool → List ℕ → List ℕ → ℕ → Type 0
Moves a b c k = place_behind a (b ++ c) ≡ option_map (λ n. k + n) (place_behind a (drop k b ++ c))

moves_on : (a : Bool) (x : ℕ) (b c : List ℕ) → place_behind a (x ∷ b) ≡ None
    → (place_behind a b ≡ None → Moves a b c (length b - 10))
    → (t : Bool) → begins_behind a (x ∷ b) ≡ t → 11 ≤ length (x ∷ b)
    → Moves a (x ∷ b) c (suc (length b - 10))
unfolding Moves
moves_on a x b c e rest true e' h = let there = begins_there a x b e' in cc
moves_on a x b c e rest false e' h =
    let none = suc_none (place_behind a b) (sym (begins_later a x b e') ∙ e) in
    begins_later a x (b ++ c) (begins_same a (x ∷ b) c h ∙ e')
    ∙ ap (option_map suc) (rest none)
    ∙ suc_map (place_behind a (drop (length b - 10) b ++ c)) (length b - 10)

at_zero : (a : Bool) (b c : List ℕ) → Moves a b c 0
unfolding Moves
at_zero a b c = same_map (place_behind a (b ++ c)) 0 refl

moves_by : (a : Bool) (x : ℕ) (b c : List ℕ) → place_behind a (x ∷ b) ≡ None
    → (place_behind a b ≡ None → Moves a b c (length b - 10))
    → (t : Bool) → nat_le 11 (length (x ∷ b)) ≡ t → Moves a (x ∷ b) c (length (x ∷ b) - 10)
moves_by a x b c e rest true h =
    let long = leb-true 11 (length (x ∷ b)) h in
    let one : suc (length b - 10) ≡ length (x ∷ b) - 10 = omega (arith, long) in
    subst (Moves a (x ∷ b) c) one (moves_on a x b c e rest (begins_behind a (x ∷ b)) refl long)
moves_by a x b c e rest false h =
    let short = leb-false 11 (length (x ∷ b)) h in
    let none : 0 ≡ length (x ∷ b) - 10 = omega (arith, short) in
    subst (Moves a (x ∷ b) c) none (at_zero a (x ∷ b) c)

pub place_moves : (a : Bool) (b c : List ℕ) → place_behind a b ≡ None
    → place_behind a (b ++ c) ≡ option_map (λ n. (length b - 10) + n)
    (place_behind a (drop (length b - 10) b ++ c))
unfolding Moves
place_moves a [] c e = same_map (place_behind a c) (0 - 10) refl
place_moves a (x ∷ b) c e = moves_by a x b c e (place_moves a b c) (nat_le 11 (length (x ∷ b))) refl

-- the search at one place
pub found : (a : Bool) (b : List ℕ) (k : ℕ) → k < length b → begins_behind a (drop k b) ≡ true
    → option_map (λ n. k + n) (place_behind a (drop k b)) ≡ place_behind a b
    → Some k ≡ place_behind a b
found a b k h e inv =
    let next = drop-cons b k 0 h in
    let there : place_behind a (drop k b) ≡ Some 0 =
    ap (place_behind a) next
    ∙ begins_there a (get_or b k 0) (drop (suc k) b) (ap (begins_behind a) (sym next) ∙ e) in
    (let same : k ≡ k + 0 = omega arith in ap Some same)
    ∙ sym (ap (option_map (λ n. k + n)) there) ∙ inv

pub passed : (a : Bool) (b : List ℕ) (k : ℕ) → k < length b → begins_behind a (drop k b) ≡ false
    → option_map (λ n. k + n) (place_behind a (drop k b)) ≡ place_behind a b
    → option_map (λ n. (k + 1) + n) (place_behind a (drop (k + 1) b)) ≡ place_behind a b
passed a b k h e inv =
    let next = drop-cons b k 0 h in
    let later : place_behind a (drop k b) ≡ option_map suc (place_behind a (drop (suc k) b)) =
    ap (place_behind a) next
    ∙ begins_later a (get_or b k 0) (drop (suc k) b) (ap (begins_behind a) (sym next) ∙ e) in
    let one : k + 1 ≡ suc k = omega arith in
    ap (λ m. option_map (λ n. m + n) (place_behind a (drop m b))) one
    ∙ moved (place_behind a (drop (suc k) b)) k
    ∙ sym (ap (option_map (λ n. k + n)) later)
    ∙ inv
  where
    moved : (o : Option ℕ) (k : ℕ)
        → option_map (λ n. suc k + n) o ≡ option_map (λ n. k + n) (option_map suc o)
    moved None k = refl
    moved (Some n) k = ap Some (let e : suc k + n ≡ k + suc n = omega arith in e)

pub none_left : (a : Bool) (b : List ℕ) (k : ℕ) → length b ≤ k
    → option_map (λ n. k + n) (place_behind a (drop k b)) ≡ place_behind a b
    → None ≡ place_behind a b
none_left a b k h inv =
    let none : drop k b ≡ [] = drop_all k b h in
    sym (ap (λ l. option_map (λ n. k + n) (place_behind a l)) none
    ∙ ap (option_map (λ n. k + n)) (none_at_end a)) ∙ inv
