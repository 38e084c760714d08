-- Options, one by one.
use Rattle.std.proofs.Common.{◌≡◌, ◌≢◌, ℕ, zero, suc, ◌-◌, ◌<◌, ◌≤◌, [], ◌∷◌, length, take, drop, get_or, Some, None, refl, ap, arith}
use Rattle.std.specs.Prelude.{◌==◌, ◌||◌, nat_lt, if◌then◌else◌}
use Rattle.layouts.specs.Bytes.{Bytes}
use Rattle.capture.specs.Options.{option_in}

pub none_left : (n kind : ℕ) (xs : Bytes) → n ≡ 0 → None ≡ option_in n kind xs
unfolding option_in
none_left zero kind xs h = refl
none_left (suc n) kind xs h = absurd (omega arith)

-- A single byte has no length behind its kind.
pub short : (n kind : ℕ) (xs : Bytes) → length xs < 2 → None ≡ option_in n kind xs
unfolding option_in
short zero kind xs h = refl
short (suc n) kind [] h = refl
short (suc n) kind (k ∷ []) h = refl
short (suc n) kind (k ∷ l ∷ xs) h = absurd (omega arith)

-- The first of two bytes is a kind, and the second may be its length.
pub one_more : (n kind : ℕ) (xs : Bytes) → n ≢ 0 → 2 ≤ length xs
    → option_in n kind xs
    ≡ (if get_or xs 0 0 == 0 then None
    else if get_or xs 0 0 == 1 then option_in (n - 1) kind (drop 1 xs)
    else if nat_lt (get_or xs 1 0) 2 || nat_lt (length (drop 2 xs)) (get_or xs 1 0 - 2) then None
    else if get_or xs 0 0 == kind then Some (take (get_or xs 1 0 - 2) (drop 2 xs))
    else option_in (n - 1) kind (drop (get_or xs 1 0 - 2) (drop 2 xs)))
unfolding option_in
one_more zero kind xs some h = absurd (some refl)
one_more (suc n) kind (k ∷ len ∷ b) some h =
    let same : n ≡ suc n - 1 = omega arith in
    ap
    (λ (m : ℕ).
    if k == 0 then None
    else if k == 1 then option_in m kind (len ∷ b)
    else if nat_lt len 2 || nat_lt (length b) (len - 2) then None
    else if k == kind then Some (take (len - 2) b)
    else option_in m kind (drop (len - 2) b))
    same
one_more n kind xs some h = absurd (omega arith)

-- An option of another kind is skipped.
pub another : (n kind : ℕ) (xs : Bytes) → n ≢ 0 → 2 ≤ length xs → get_or xs 0 0 ≢ 0
    → get_or xs 0 0 ≢ 1
    → 2 ≤ get_or xs 1 0 → get_or xs 1 0 - 2 ≤ length (drop 2 xs) → get_or xs 0 0 ≢ kind
    → option_in n kind xs ≡ option_in (n - 1) kind (drop (get_or xs 1 0 - 2) (drop 2 xs))
another n kind xs some h end padding len whole other =
    let step = one_more n kind xs some h in grind (arith, step)
