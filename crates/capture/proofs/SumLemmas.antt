-- Sums of words, modulo 65,535.
use Rattle.std.proofs.Common.{
  ◌≡◌,
  ◌≢◌,
  ℕ,
  ◌+◌,
  ◌-◌,
  ◌*◌,
  ◌/◌,
  ◌%◌,
  ◌^◌,
  ◌<◌,
  ◌≤◌,
  List,
  [],
  ◌∷◌,
  length,
  take,
  drop,
  get_or,
  refl,
  sym,
  ◌∙◌,
  ap,
  arith,
}
use Rattle.std.specs.Prelude.{◌==◌, if◌then◌else◌}
use Rattle.std.specs.Int.{w16, w32, from_be_bytes, from_le_bytes}
use Rattle.std.proofs.lemmas.List.{take_rest}
use Rattle.std.proofs.Math.Nat.{add-mod, add-mul-mod_self_left}
use Rattle.capture.specs.Words.{words}
use Rattle.capture.specs.Checksum.{checksum_by}

-- Equal numbers stay equal with the same number added.
pub same_more : (x y w : ℕ) → x % 65535 ≡ y % 65535 → (x + w) % 65535 ≡ (y + w) % 65535
same_more x y w h =
    add-mod x w 65535 ∙ (ap (λ (k : ℕ). (k + w % 65535) % 65535) h ∙ sym (add-mod y w 65535))

pub same_sums : (x y v w : ℕ) → x % 65535 ≡ y % 65535 → v % 65535 ≡ w % 65535
    → (x + v) % 65535 ≡ (y + w) % 65535
same_sums x y v w h k = same_more x y v h
    ∙ (add-mod y v 65535 ∙ (ap (λ (n : ℕ). (y % 65535 + n) % 65535) k ∙ sym (add-mod y w 65535)))

-- Multiples of 65,535 don't count.
pub same_but : (x y k : ℕ) → x ≡ y + 65535 * k → x % 65535 ≡ y % 65535
same_but x y k h = ap (λ (n : ℕ). n % 65535) h ∙ add-mul-mod_self_left y 65535 k

-- The sum of the two words of a 32-bit number is equal to the number.
pub same_words4 : (n : ℕ) → (n / 2 ^ 16 + n % 2 ^ 16) % 65535 ≡ n % 65535
same_words4 n = sym (same_but n (n / 2 ^ 16 + n % 2 ^ 16) (n / 2 ^ 16) (omega arith))

-- A byte-swapped 32-bit number is equal to the sum of its two words.
pub four_words : (t n a b c d : ℕ) (ys : List ℕ) → n ≡ from_le_bytes w32 (a ∷ b ∷ c ∷ d ∷ [])
    → ((t + n) * 256 + words ys) % 65535 ≡ (t * 256 + words (a ∷ b ∷ c ∷ d ∷ ys)) % 65535
unfolding words
four_words t n a b c d ys p =
    same_but ((t + n) * 256 + words ys) (t * 256 + words (a ∷ b ∷ c ∷ d ∷ ys))
    (b + 256 * c + 65537 * d) (omega (arith, p))

-- Sixteen bytes, in four sums, and the words behind them.
pub sixteen_bytes : (s t u v k l m n : ℕ) (xs : List ℕ) → 16 ≤ length xs
    → k ≡ from_le_bytes w32 (get_or xs 0 0 ∷ get_or xs 1 0 ∷ get_or xs 2 0 ∷ get_or xs 3 0 ∷ [])
    → l ≡ from_le_bytes w32 (get_or xs 4 0 ∷ get_or xs 5 0 ∷ get_or xs 6 0 ∷ get_or xs 7 0 ∷ [])
    → m ≡ from_le_bytes w32 (get_or xs 8 0 ∷ get_or xs 9 0 ∷ get_or xs 10 0 ∷ get_or xs 11 0 ∷ [])
    → n ≡ from_le_bytes w32 (get_or xs 12 0 ∷ get_or xs 13 0 ∷ get_or xs 14 0 ∷ get_or xs 15 0 ∷ [])
    → (((s + k) + (t + l) + (u + m) + (v + n)) * 256 + words (take (length xs - 16) (drop 16 xs))) %
    65535
    ≡ ((s + t + u + v) * 256 + words xs) % 65535
sixteen_bytes s t u v k l m n
    (x0 ∷ x1 ∷ x2 ∷ x3 ∷ x4 ∷ x5 ∷ x6 ∷ x7 ∷ x8 ∷ x9 ∷ x10 ∷ x11 ∷ x12 ∷ x13 ∷ x14 ∷ x15 ∷ ys) _
    pk pl pm pn =
    let xs : List ℕ =
    x0 ∷ x1 ∷ x2 ∷ x3 ∷ x4 ∷ x5 ∷ x6 ∷ x7 ∷ x8 ∷ x9 ∷ x10 ∷ x11 ∷ x12 ∷ x13 ∷ x14 ∷ x15 ∷ ys in
    let rest : take (length xs - 16) (drop 16 xs) ≡ ys = take_rest xs 16 in
    let before : ℕ = s + t + u + v in
    let order : (s + k) + (t + l) + (u + m) + (v + n) ≡ before + k + l + m + n = omega arith in
    ap (λ (zs : List ℕ). (((s + k) + (t + l) + (u + m) + (v + n)) * 256 + words zs) % 65535) rest
    ∙ (ap (λ (w : ℕ). (w * 256 + words ys) % 65535) order
    ∙ (four_words (before + k + l + m) n x12 x13 x14 x15 ys pn
    ∙ (four_words (before + k + l) m x8 x9 x10 x11 (x12 ∷ x13 ∷ x14 ∷ x15 ∷ ys) pm
    ∙ (four_words (before + k) l x4 x5 x6 x7 (x8 ∷ x9 ∷ x10 ∷ x11 ∷ x12 ∷ x13 ∷ x14 ∷ x15 ∷ ys) pl
    ∙ four_words before k x0 x1 x2 x3
    (x4 ∷ x5 ∷ x6 ∷ x7 ∷ x8 ∷ x9 ∷ x10 ∷ x11 ∷ x12 ∷ x13 ∷ x14 ∷ x15 ∷ ys) pk))))
sixteen_bytes s t u v k l m n xs many _ _ _ _ = absurd (omega arith)

-- Four bytes, and the words behind them.
pub four_bytes : (t n r : ℕ) (xs : List ℕ) → 4 ≤ length xs
    → n ≡ from_le_bytes w32 (get_or xs 0 0 ∷ get_or xs 1 0 ∷ get_or xs 2 0 ∷ get_or xs 3 0 ∷ [])
    → r % 65535 ≡ (t + n * 256) % 65535
    → (r + words (take (length xs - 4) (drop 4 xs))) % 65535 ≡ (t + words xs) % 65535
unfolding words
four_bytes t n r (a ∷ b ∷ c ∷ d ∷ ys) _ p q =
    let xs : List ℕ = a ∷ b ∷ c ∷ d ∷ ys in
    let rest : take (length xs - 4) (drop 4 xs) ≡ ys = take_rest xs 4 in
    ap (λ (l : List ℕ). (r + words l) % 65535) rest
    ∙ (same_more r (t + n * 256) (words ys) q
    ∙ same_but (t + n * 256 + words ys) (t + words xs) (b + 256 * c + 65537 * d) (omega (arith, p)))
four_bytes t n r xs many _ _ = absurd (omega arith)

-- Two bytes, and the words behind them.
pub two_bytes : (t r : ℕ) (xs : List ℕ) → 2 ≤ length xs
    → r % 65535 ≡ (t + from_be_bytes w16 (get_or xs 0 0 ∷ get_or xs 1 0 ∷ [])) % 65535
    → (r + words (take (length xs - 2) (drop 2 xs))) % 65535 ≡ (t + words xs) % 65535
unfolding words
two_bytes t r (a ∷ b ∷ ys) n p =
    let xs : List ℕ = a ∷ b ∷ ys in
    let rest : take (length xs - 2) (drop 2 xs) ≡ ys = take_rest xs 2 in
    ap (λ (l : List ℕ). (r + words l) % 65535) rest
    ∙ (same_more r _ (words ys) p ∙ ap (λ (n : ℕ). n % 65535) (omega arith))
two_bytes t r xs n p = absurd (omega arith)

-- A last odd byte is an upper half.
pub one_byte : (t : ℕ) (xs : List ℕ) → 1 ≤ length xs → length xs < 2
    → t + get_or xs 0 0 * 256 ≡ t + words xs
unfolding words
one_byte t (a ∷ []) n p = refl
one_byte t xs n p = absurd (omega arith)

pub no_byte : (t : ℕ) (xs : List ℕ) → length xs < 1 → t ≡ t + words xs
unfolding words
no_byte t [] n = omega arith
no_byte t xs n = absurd (omega arith)

-- A checksum's verification depends only on the sums modulo 65,535.
pub same_checksum : (p q v w c : ℕ) → p % 65535 ≡ q % 65535 → v % 65535 ≡ w % 65535
    → checksum_by p v c ≡ checksum_by q w c
unfolding checksum_by
same_checksum p q v w c h k = rw (same_sums p q v w h k, h)

-- Equal lengths give equal sums of the pseudo-header.
pub same_pseudo : (a p n m : ℕ) → n % 65535 ≡ m % 65535
    → (a + (p + (n / 2 ^ 16 + n % 2 ^ 16))) % 65535 ≡ (a + (p + (m / 2 ^ 16 + m % 2 ^ 16))) % 65535
same_pseudo a p n m h =
    let halves : (n / 2 ^ 16 + n % 2 ^ 16) % 65535 ≡ (m / 2 ^ 16 + m % 2 ^ 16) % 65535 =
    same_words4 n ∙ (h ∙ sym (same_words4 m)) in
    same_sums a a _ _ refl (same_sums p p _ _ refl halves)

-- A conditional on 0, for another number.
pub otherwise : {A : Type 0} (n : ℕ) (a b : A) → n ≢ 0 → (if n == 0 then a else b) ≡ b
otherwise n a b some = grind arith
