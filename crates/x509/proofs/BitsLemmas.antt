-- The bit length of a number, from its bytes.
use Rattle.std.proofs.Common.{◌≡◌, ◌≢◌, ℕ, zero, suc, ◌+◌, ◌-◌, ◌*◌, ◌^◌, ◌<◌, ◌≤◌, [], ◌∷◌, length, Ok, Err, Bool, true, false, cond, ltb, leb, eqb, refl, sym, ◌∙◌, ap, subst, arith}
use Rattle.std.specs.Prelude.{⊤}
use Rattle.std.proofs.lemmas.Bool.{ltb-true, ltb-false, eqb-true, eqb-false}
use Rattle.std.proofs.lemmas.Nat.{pow-add, mul-le}
use Rattle.std.proofs.Math.Nat.{pow-suc}
use Rattle.layouts.specs.Bytes.{Bytes, AreBytes, number_from, number_of}
use Rattle.layouts.specs.Layout.{number, test, chain, rest, done}
use Rattle.layouts.specs.Meaning.{Broken, Answer}
use Rattle.layouts.specs.Reading.{reading, split_at, number_at, ◌and_then◌}
use Rattle.layouts.specs.Items.{left_in}
use Rattle.layouts.specs.declared.result.ErrorKind.TheVariants.{TooLarge, Tag}
use Rattle.layouts.proofs.OneAnswerLemmas.{number_read, eqb_other}
use Rattle.layouts.proofs.ItemsLemmas.{left_first, left_none, left_over}
use Rattle.x509.specs.PublicKey.{HasBits, byte_bits, zero_byte, behind_bits, significant_bits, bit_length}

one_read : (x : ℕ) (xs : Bytes) → reading (number 1) (x ∷ xs) ≡ Ok (x, xs)
one_read x xs = number_read 1 (x ∷ xs) (x ∷ []) xs x (omega arith) refl refl (omega arith)

behind_one : Answer ℕ → Answer Unit
behind_one a = a and_then λ x. reading (test (eqb x.0 0) Tag) x.1

zero_read : (xs : Bytes) → reading zero_byte (0 ∷ xs) ≡ Ok (tt, xs)
unfolding zero_byte behind_one
zero_read xs = ap behind_one (one_read 0 xs)

zero_refused : (x : ℕ) (xs : Bytes) → x ≢ 0 → reading zero_byte (x ∷ xs) ≡ Err (Broken Tag)
unfolding zero_byte behind_one
zero_refused x xs some =
    ap behind_one (one_read x xs) ∙ ap (λ t. reading (test t Tag) xs) (eqb_other x 0 some)

-- no leading zero
abbrev StartsSome : Bytes → Type 0
StartsSome [] = ⊤
StartsSome (x ∷ xs) = x ≢ 0

record Skips (b c : Bytes) : Type 0 where
  same : number_of c ≡ number_of b
  bytes : AreBytes c
  some : StartsSome c

skips : (b : Bytes) → AreBytes b → Skips b (left_in zero_byte b)
skips [] h =
    subst (λ c. Skips [] c) (sym (left_over zero_byte [] (omega arith)))
    (record { same = refl; bytes = h; some = tt })
skips (x ∷ xs) h = go (skips xs (λ i. h (suc i))) (eqb x 0) refl
  where
    go : Skips xs (left_in zero_byte xs) → (t : Bool) → eqb x 0 ≡ t
        → Skips (x ∷ xs) (left_in zero_byte (x ∷ xs))
    go more true e =
        let is : x ≡ 0 = eqb-true x 0 e in
        let read : reading zero_byte (x ∷ xs) ≡ Ok (tt, xs) = rw is (zero_read xs) in
        let step : left_in zero_byte (x ∷ xs) ≡ left_in zero_byte xs =
        left_first zero_byte (x ∷ xs) tt xs read (omega arith) in
        let first : number_of xs ≡ number_of (x ∷ xs) = rw is refl in
        subst (λ c. Skips (x ∷ xs) c) (sym step)
        (record { same = more.same ∙ first; bytes = more.bytes; some = more.some })
    go more false e =
        let no : x ≢ 0 = eqb-false x 0 e in
        subst (λ c. Skips (x ∷ xs) c)
        (sym (left_none zero_byte (x ∷ xs) (Broken Tag) (zero_refused x xs no)))
        (record { same = refl; bytes = h; some = no })

from_least : (n : ℕ) (xs : Bytes) → n * 256 ^ length xs ≤ number_from n xs
from_least n [] = omega arith
from_least n (x ∷ xs) =
    let more : (n * 256 + x) * 256 ^ length xs ≤ number_from (n * 256 + x) xs =
    from_least (n * 256 + x) xs in
    let p : ℕ = 256 ^ length xs in
    let wide : n * 256 * 256 ^ length xs ≤ (n * 256 + x) * 256 ^ length xs =
    mul-le (n * 256) (256 ^ length xs) (n * 256 + x) (256 ^ length xs) (omega arith)
    (omega arith) in
    rw pow-suc (omega arith)

widen : (m n p x : ℕ) → x < m * p → m ≤ n * 256 → x < n * (p * 256)
widen m n p x h k = omega (arith, mul-le m p (n * 256) p k (omega arith))

from_below : (n : ℕ) (xs : Bytes) → AreBytes xs → number_from n xs < (n + 1) * 256 ^ length xs
from_below n [] h = omega arith
from_below n (x ∷ xs) h =
    let here : x < 256 = h 0 in
    let more : number_from (n * 256 + x) xs < (n * 256 + x + 1) * 256 ^ length xs =
    from_below (n * 256 + x) xs (λ i. h (suc i)) in
    rw pow-suc (widen (n * 256 + x + 1) (n + 1) (256 ^ length xs) _ more (omega arith))

pick : (t : Bool) (k m f : ℕ) → (t ≡ true → HasBits k f) → (t ≡ false → HasBits m f)
    → HasBits (cond t k m) f
pick true k m f small large = small refl
pick false k m f small large = large refl

byte_has : (f : ℕ) → f ≢ 0 → f < 256 → HasBits (byte_bits f) f
byte_has f some h =
    pick (ltb f 2) 1 _ f (λ e. let a : f < 2 = ltb-true f 2 e in (omega arith, omega arith))
    (λ e2. let b2 : 2 ≤ f = ltb-false f 2 e2 in
    pick (ltb f 4) 2 _ f (λ e. let a : f < 4 = ltb-true f 4 e in (omega arith, omega arith))
    (λ e4. let b4 : 4 ≤ f = ltb-false f 4 e4 in
    pick (ltb f 8) 3 _ f (λ e. let a : f < 8 = ltb-true f 8 e in (omega arith, omega arith))
    (λ e8. let b8 : 8 ≤ f = ltb-false f 8 e8 in
    pick (ltb f 16) 4 _ f (λ e. let a : f < 16 = ltb-true f 16 e in (omega arith, omega arith))
    (λ e16. let b16 : 16 ≤ f = ltb-false f 16 e16 in
    pick (ltb f 32) 5 _ f (λ e. let a : f < 32 = ltb-true f 32 e in (omega arith, omega arith))
    (λ e32. let b32 : 32 ≤ f = ltb-false f 32 e32 in
    pick (ltb f 64) 6 _ f (λ e. let a : f < 64 = ltb-true f 64 e in (omega arith, omega arith))
    (λ e64. let b64 : 64 ≤ f = ltb-false f 64 e64 in
    pick (ltb f 128) 7 8 f (λ e. let a : f < 128 = ltb-true f 128 e in (omega arith, omega arith))
    (λ e128. let b128 : 128 ≤ f = ltb-false f 128 e128 in
    (omega arith, omega arith))))))))

some_bits : (t : Bool) (k m : ℕ) → 1 ≤ k → 1 ≤ m → 1 ≤ cond t k m
some_bits true k m a b = a
some_bits false k m a b = b

byte_some : (f : ℕ) → 1 ≤ byte_bits f
byte_some f =
    some_bits (ltb f 2) 1 _ (omega arith)
    (some_bits (ltb f 4) 2 _ (omega arith) (some_bits (ltb f 8) 3 _ (omega arith) (
    some_bits (ltb f 16) 4 _ (omega arith)
    (some_bits (ltb f 32) 5 _ (omega arith) (some_bits (ltb f 64) 6 _ (omega arith) (
    some_bits (ltb f 128) 7 8 (omega arith) (omega arith)))))))

powers : (n : ℕ) → 2 ^ (n * 8) ≡ 256 ^ n
powers zero = refl
powers (suc n) =
    let e : suc n * 8 ≡ n * 8 + 8 = omega arith in
    rw e (rw (pow-add 2 (n * 8) 8, powers n) (sym (pow-suc 256 n)))

wide_has : (f k m n : ℕ) → HasBits k f → 1 ≤ k → f * 256 ^ m ≤ n → n < (f + 1) * 256 ^ m
    → HasBits (m * 8 + k) n
wide_has f k m n has some low high =
    let e : m * 8 + k - 1 ≡ m * 8 + (k - 1) = omega arith in
    let a : 2 ^ (m * 8 + (k - 1)) ≡ 256 ^ m * 2 ^ (k - 1) =
    rw (pow-add 2 (m * 8) (k - 1), powers m) refl in
    let b : 2 ^ (m * 8 + k) ≡ 256 ^ m * 2 ^ k = rw (pow-add 2 (m * 8) k, powers m) refl in
    let c : 256 ^ m * 2 ^ (k - 1) ≤ 256 ^ m * f =
    mul-le (256 ^ m) (2 ^ (k - 1)) (256 ^ m) f (omega arith) has.0 in
    let d : 256 ^ m * (f + 1) ≤ 256 ^ m * 2 ^ k =
    mul-le (256 ^ m) (f + 1) (256 ^ m) (2 ^ k) (omega arith) (omega arith) in
    (rw (e, a) (omega arith), rw b (omega arith))

number_has : (f : ℕ) (t : Bytes) → AreBytes (f ∷ t) → f ≢ 0
    → HasBits (length t * 8 + byte_bits f) (number_of (f ∷ t))
number_has f t h some =
    let e : number_of (f ∷ t) ≡ number_from f t = ap (λ x. number_from x t) (omega arith) in
    rw e (wide_has f (byte_bits f) (length t) (number_from f t) (byte_has f some (h 0))
    (byte_some f)
    (from_least f t) (from_below f t (λ i. h (suc i))))

abbrev value_or_zero : Answer ℕ → ℕ
value_or_zero (Ok x) = x.0
value_or_zero (Err e) = 0

taken : (n k : ℕ) (r : Bytes) (s : Answer Bytes)
    → ◌≡◌ {A = Answer ℕ} (s and_then λ x. Ok (n, x.1)) (Ok (k, r)) → n ≡ k
taken n k r (Ok x) e = ap value_or_zero e
taken n k r (Err x) e = cc

tested : (n k : ℕ) (t r : Bytes) (s : Bool)
    → reading (chain (test s TooLarge) (λ _. chain rest (λ _. done n))) t ≡ Ok (k, r) → n ≡ k
tested n k t r true e = taken n k r (split_at (length t) t) e
tested n k t r false e = cc

behind_first : Answer ℕ → Answer ℕ
behind_first a = a and_then λ x. reading (behind_bits x.0) x.1

behind_zeros : (c r : Bytes) (k : ℕ) → AreBytes c → StartsSome c
    → reading significant_bits c ≡ Ok (k, r) → HasBits k (number_of c)
unfolding significant_bits behind_bits split_at number_at behind_first
behind_zeros [] r k h some e = cc
behind_zeros (f ∷ t) r k h some e =
    let there : reading (behind_bits f) t ≡ Ok (k, r) = sym (ap behind_first (one_read f t)) ∙ e in
    let is : length t * 8 + byte_bits f ≡ k =
    tested (length t * 8 + byte_bits f) k t r (leb (length t) 65535) there in
    subst (λ n. HasBits n (number_of (f ∷ t))) is (number_has f t h some)

pub bits_are_right : (b r : Bytes) (k : ℕ) → AreBytes b → reading bit_length b ≡ Ok (k, r)
    → HasBits k (number_of b)
unfolding bit_length
bits_are_right b r k h e =
    let s : Skips b (left_in zero_byte b) = skips b h in
    subst (λ n. HasBits k n) s.same (behind_zeros (left_in zero_byte b) r k s.bytes s.some e)
