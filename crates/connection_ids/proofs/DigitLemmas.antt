-- The digits of a number in base 62, one by one.
use Rattle.std.proofs.Common.{◌≡◌, ℕ, zero, suc, ◌-◌, ◌/◌, ◌%◌, ◌<◌, List, [], ◌∷◌, ◌++◌, ◌+◌, ◌*◌, ◌^◌, Result, Ok, Err, OnOk, refl, sym, ◌∙◌, ap, arith, append_assoc}
use Rattle.std.proofs.lemmas.List.{append-nil}
use Rattle.std.proofs.Math.Nat.{pow-suc, pow-succ', div-div-eq-div-mul}
use Rattle.std.proofs.Math.Arith.{mod-mul}
use Rattle.connection_ids.specs.Uid.{base62, digit}

none_left : (k n : ℕ) → k ≡ 0 → base62 k n ≡ []
unfolding base62
none_left zero n e = refl
none_left (suc k) n e = absurd (omega (arith, e))

-- Without digits nothing is appended.
pub none_added : (text : List ℕ) (k n : ℕ) → k ≡ 0 → text ≡ text ++ base62 k n
none_added text k n e = sym (append-nil text) ∙ ap (λ d. text ++ d) (sym (none_left k n e))

one_more : (k n : ℕ) → 0 < k → base62 k n ≡ digit (n % 62) ∷ base62 (k - 1) (n / 62)
unfolding base62
one_more zero n l = absurd (omega (arith, l))
one_more (suc k) n l = ap (λ j. digit (n % 62) ∷ base62 j (n / 62)) (omega arith)

-- The lowest digit is appended, and then the others.
pub digits_added : {T E : Type 0} (r : Result T E) (before behind after : List ℕ) (k n : ℕ) → 0 < k
    → behind ≡ before ++ digit (n % 62) ∷ []
    → OnOk r (after ≡ behind ++ base62 (k - 1) (n / 62))
    → OnOk r (after ≡ before ++ base62 k n)
digits_added (Ok u) before behind after k n l first others =
    others
    ∙ ap (λ m. m ++ base62 (k - 1) (n / 62)) first
    ∙ append_assoc before (digit (n % 62) ∷ []) (base62 (k - 1) (n / 62))
    ∙ ap (λ d. before ++ d) (sym (one_more k n l))
digits_added (Err e) before behind after k n l first others = others

none_and_more : (k : ℕ) → 0 + k ≡ k
none_and_more k = omega arith

one_and_more : (j k : ℕ) → suc j + k ≡ suc (j + k)
one_and_more j k = omega arith

undivided : (n : ℕ) → n ≡ n / 62 ^ 0
undivided n = omega arith

divided_on : (j n : ℕ) → n / 62 / 62 ^ j ≡ n / 62 ^ suc j
divided_on j n = div-div-eq-div-mul n 62 (62 ^ j) ∙ ap (λ p. n / p) (sym (pow-succ' 62 j))

-- The lower digits, and those above them.
in_two : (j k n : ℕ) → base62 (j + k) n ≡ base62 j n ++ base62 k (n / 62 ^ j)
unfolding base62
in_two zero k n = ap (λ m. base62 m n) (none_and_more k) ∙ ap (base62 k) (undivided n)
in_two (suc j) k n =
    ap (λ m. base62 m n) (one_and_more j k)
    ∙ ap (λ d. digit (n % 62) ∷ d) (in_two j k (n / 62))
    ∙ ap (λ m. digit (n % 62) ∷ (base62 j (n / 62) ++ base62 k m)) (divided_on j n)

lowest_kept : (a b : ℕ) → b < 62 → (a * 62 + b) % 62 ≡ b
lowest_kept a b l = omega (arith, l)

others_kept : (a b : ℕ) → b < 62 → (a * 62 + b) / 62 ≡ a
others_kept a b l = omega (arith, l)

one_digit : (k a b : ℕ) → b < 62 → base62 (suc k) (a * 62 + b) ≡ digit b ∷ base62 k a
unfolding base62
one_digit k a b l =
    ap (λ d. digit d ∷ base62 k ((a * 62 + b) / 62)) (lowest_kept a b l)
    ∙ ap (λ m. digit b ∷ base62 k m) (others_kept a b l)

positive : (k : ℕ) → 0 < 62 ^ k
positive zero = omega arith
positive (suc k) = omega (arith, positive k, pow-suc 62 k)

lowest : (n : ℕ) → n % 62 < 62
lowest n = omega arith

some_base : 0 < 62
some_base = omega arith

-- The k lowest digits are those of the number modulo 62^k.
of_rest : (k n : ℕ) → base62 k (n % 62 ^ k) ≡ base62 k n
unfolding base62
of_rest zero n = refl
of_rest (suc k) n =
    ap (base62 (suc k)) (ap (λ p. n % p) (pow-suc 62 k) ∙ mod-mul n (positive k) some_base)
    ∙ one_digit k (n / 62 % 62 ^ k) (n % 62) (lowest n)
    ∙ ap (λ d. digit (n % 62) ∷ d) (of_rest k (n / 62))

-- 17 digits from two numbers.
in_halves : (n : ℕ) → base62 17 n ≡ base62 10 (n % 62 ^ 10) ++ base62 7 (n / 62 ^ 10 % 62 ^ 7)
in_halves n =
    in_two 10 7 n
    ∙ ap (λ d. d ++ base62 7 (n / 62 ^ 10)) (sym (of_rest 10 n))
    ∙ ap (λ d. base62 10 (n % 62 ^ 10) ++ d) (sym (of_rest 7 (n / 62 ^ 10)))

-- The lower digits are appended, and then the upper ones.
pub both_added : {T E : Type 0} (r : Result T E) (before behind after : List ℕ) (n : ℕ)
    → behind ≡ before ++ base62 10 (n % 62 ^ 10)
    → OnOk r (after ≡ behind ++ base62 7 (n / 62 ^ 10 % 62 ^ 7))
    → OnOk r (after ≡ before ++ base62 17 n)
both_added (Ok u) before behind after n lower upper =
    upper
    ∙ ap (λ m. m ++ base62 7 (n / 62 ^ 10 % 62 ^ 7)) lower
    ∙ append_assoc before (base62 10 (n % 62 ^ 10)) (base62 7 (n / 62 ^ 10 % 62 ^ 7))
    ∙ ap (λ d. before ++ d) (sym (in_halves n))
both_added (Err e) before behind after n lower upper = upper
