-- Digits, a point and digits are a number of JSON.
use Rattle.std.proofs.Common.{◌≡◌, ◌≤◌, ◌<◌, ◌+◌, ◌/◌, ◌%◌, ◌^◌, ℕ, zero, suc, Bool, true, false, cond, ◌==◌, List, [], ◌∷◌, ◌++◌, length, get_or, Some, option_and_then, decimal, append-nil, refl, sym, ap, ◌∙◌, arith}
use Rattle.std.proofs.lemmas.Bool.{ne_eqb, le-leb, and_from}
use Rattle.std.proofs.lemmas.List.{drop_all}
use Rattle.std.proofs.Math.Seq.{drop-append_seam}
use Rattle.std.proofs.lemmas.Fmt.{decimal_is_IsNumeral, decimal_digit, first_decimal}
use Rattle.std.proofs.lemmas.Str.Parse.{digit_at}
use Rattle.std.specs.List.{prefix_len}
use Rattle.std.specs.Char.{is_ascii_digit}
use Rattle.json.specs.Word.{after_digits, after_whole, after_minus, after_fraction, after_exponent, after_number}
use Rattle.json.specs.Print.{IsNumber}
use Rattle.json_objects.specs.Seconds.{digit, fraction, seconds_text}

pub record IsDigit (d : ℕ) : Type 0 where
  pub least : 48 ≤ d
  pub greatest : d ≤ 57

abbrev pub AreDigits : List ℕ → Type 0
AreDigits [] = Unit {0}
AreDigits (d ∷ ds) = IsDigit d × AreDigits ds

digit-test : (d : ℕ) → IsDigit d → is_ascii_digit d ≡ true
digit-test d h = and_from _ _ (le-leb 48 d h.least) (le-leb d 57 h.greatest)

-- digits run up to a point, or to the end
digits-run : (ds rest : List ℕ) → AreDigits ds → prefix_len is_ascii_digit rest ≡ 0 → prefix_len is_ascii_digit (ds ++ rest) ≡ length ds
digits-run [] rest h stop = stop
digits-run (d ∷ ds) rest h stop =
    ap (λ b. cond b (1 + prefix_len is_ascii_digit (ds ++ rest)) 0) (digit-test d h.0) ∙ ap (λ n. 1 + n) (digits-run ds rest h.1 stop) ∙ omega arith

digits-after : (d : ℕ) (ds rest : List ℕ) → AreDigits (d ∷ ds) → prefix_len is_ascii_digit rest ≡ 0 → after_digits ((d ∷ ds) ++ rest) ≡ Some rest
digits-after d ds rest h stop =
    rw (digits-run (d ∷ ds) rest h stop, ne_eqb (suc (length ds)) 0 (λ e. omega arith)) (ap Some (drop-append_seam (d ∷ ds) rest))

fraction-after : (f : ℕ) (fs : List ℕ) → AreDigits (f ∷ fs) → after_fraction (46 ∷ f ∷ fs) ≡ Some []
fraction-after f fs h =
    rw (all, ne_eqb (suc (length fs)) 0 (λ e. omega arith)) (ap Some (drop_all (length (f ∷ fs)) (f ∷ fs) (omega arith)))
  where
    all : prefix_len is_ascii_digit (f ∷ fs) ≡ length (f ∷ fs)
    all = ap (λ l. prefix_len is_ascii_digit l) (sym (append-nil (f ∷ fs))) ∙ digits-run (f ∷ fs) [] h refl

digits-of : (ds : List ℕ) → ((i : ℕ) → i < length ds → (48 ≤ get_or ds i 0) × (get_or ds i 0 ≤ 57)) → AreDigits ds
digits-of [] h = tt
digits-of (d ∷ ds) h = let first = h 0 (omega arith) in (record { least = first.0; greatest = first.1 }, digits-of ds (λ i l. h (suc i) (omega arith)))

pub decimal-digits : (n : ℕ) → n < 2 ^ 64 → AreDigits (decimal n)
decimal-digits n h = digits-of (decimal n) (λ i l. digit_at _ i (decimal_is_IsNumeral n h).0.1 l)

-- whole digits that do not begin with 0, in front of a point
whole-after : (ds rest : List ℕ) → AreDigits ds → 48 < get_or ds 0 0 → prefix_len is_ascii_digit rest ≡ 0 → after_whole (after_minus (ds ++ rest)) ≡ Some rest
whole-after [] rest h first stop = absurd (omega arith)
whole-after (d ∷ ds) rest h first stop =
    rw (ne_eqb d 45 (λ e. omega arith), ne_eqb d 48 (λ e. omega arith)) (digits-after d ds rest h stop)

zero-after : (ds rest : List ℕ) → ds ≡ 48 ∷ [] → after_whole (after_minus (ds ++ rest)) ≡ Some rest
zero-after ds rest e = ap (λ l. after_whole (after_minus (l ++ rest))) e

decimal-after : (n : ℕ) (rest : List ℕ) → n < 2 ^ 64 → prefix_len is_ascii_digit rest ≡ 0 → after_whole (after_minus (decimal n ++ rest)) ≡ Some rest
decimal-after zero rest h stop = zero-after (decimal 0) rest (decimal_digit 0 (omega arith))
decimal-after (suc n) rest h stop = whole-after (decimal (suc n)) rest (decimal-digits (suc n) h) (first_decimal (suc n) (omega arith) h) stop

pub IsNumber-fraction : (n f : ℕ) (fs : List ℕ) → n < 2 ^ 64 → AreDigits (f ∷ fs) → IsNumber (decimal n ++ 46 ∷ f ∷ fs)
unfolding after_number
IsNumber-fraction n f fs h digits =
    ap (λ o. option_and_then after_exponent (option_and_then after_fraction o)) (decimal-after n (46 ∷ f ∷ fs) h refl)
    ∙ ap (λ o. option_and_then after_exponent o) (fraction-after f fs digits)

one-digit : (m worth : ℕ) → IsDigit (digit m worth)
one-digit m worth = record { least = omega arith; greatest = omega arith }

digits-cond : (b : Bool) (ds : List ℕ) → AreDigits ds → AreDigits (cond b [] ds)
digits-cond true ds h = tt
digits-cond false ds h = h

pub fraction-digits : (m : ℕ) → AreDigits (fraction m)
fraction-digits m = (
  one-digit m 100000,
  digits-cond (m % 100000 == 0) _ (
    one-digit m 10000,
    digits-cond (m % 10000 == 0) _
        (one-digit m 1000, digits-cond (m % 1000 == 0) _ (one-digit m 100, digits-cond (m % 100 == 0) _ (one-digit m 10, digits-cond (m % 10 == 0) _ (one-digit m 1, tt)))),
  ),
)

pub IsNumber-seconds : (n : ℕ) → n < 2 ^ 64 → IsNumber (seconds_text n)
IsNumber-seconds n h = IsNumber-fraction (n / 1000000) _ _ (omega arith) (fraction-digits (n % 1000000))
