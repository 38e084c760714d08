-- Numbers in base 128, byte by byte.
use Rattle.std.proofs.Common.{◌≡◌, ℕ, ◌+◌, ◌*◌, ◌%◌, ◌^◌, ◌<◌, ◌≤◌, List, [], ◌∷◌, length, drop, get_or, Some, None, sym, ◌∙◌, ap, arith, add-one, drop-cons}
use Rattle.std.proofs.lemmas.Bool.Decides.{nat_tests}
use Rattle.std.proofs.lemmas.List.{length-drop, drop_all}
use Rattle.der.specs.ObjectIdentifier.{base128_from, in_range}

-- one more byte
pub base128-step : (n i : ℕ) (bytes : List ℕ) (b total : ℕ) → i < length bytes
    → b ≡ get_or bytes i 0
    → base128_from n (drop i bytes) ≡ total
    → base128_from (n * 128 + b % 128) (drop (i + 1) bytes) ≡ total
base128-step n i bytes b total h is e =
    let cut : drop i bytes ≡ get_or bytes i 0 ∷ drop (i + 1) bytes =
    rw add-one (drop-cons bytes i 0 h) in
    rw is (sym (ap (λ xs. base128_from n xs) cut) ∙ e)

-- more bytes make it no smaller
base128-least : (n : ℕ) (bytes : List ℕ) → n ≤ base128_from n bytes
base128-least n [] = omega arith
base128-least n (b ∷ bs) = omega (arith, base128-least (n * 128 + b % 128) bs)

base128-some : (n : ℕ) (bytes : List ℕ) → 1 ≤ length bytes → n * 128 ≤ base128_from n bytes
base128-some n [] h = absurd (omega arith)
base128-some n (b ∷ bs) h = omega (arith, base128-least (n * 128 + b % 128) bs)

-- the number is below 2^128, or it isn't
pub fits_range : (n : ℕ) → n < 2 ^ 128 → in_range n ≡ Some n
fits_range n h = grind (arith, nat_tests)

past_range : (n : ℕ) → 2 ^ 128 ≤ n → in_range n ≡ None
past_range n h = grind (arith, nat_tests)

pub base128-large : (n i : ℕ) (bytes : List ℕ) (total : ℕ) → i < length bytes → 2 ^ 121 ≤ n
    → base128_from n (drop i bytes) ≡ total → in_range total ≡ None
base128-large n i bytes total h wide e =
    let more : n * 128 ≤ base128_from n (drop i bytes) =
    base128-some n (drop i bytes) (omega (arith, length-drop i bytes)) in
    past_range total (omega arith)

pub base128-whole : (n i : ℕ) (bytes : List ℕ) (total : ℕ) → length bytes ≤ i
    → base128_from n (drop i bytes) ≡ total
    → n < 2 ^ 128 → in_range total ≡ Some n
base128-whole n i bytes total h e small =
    let none : drop i bytes ≡ [] = drop_all i bytes h in
    let is : n ≡ total = sym (ap (λ xs. base128_from n xs) none) ∙ e in
    rw (← is) (fits_range n small)

pub ruleset number_steps = (base128-step, base128-large, base128-whole)
