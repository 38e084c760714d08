-- Numbers and their bytes.
use Rattle.std.proofs.Common.{
  ◌≡◌,
  ℕ,
  zero,
  suc,
  ◌+◌,
  ◌*◌,
  ◌/◌,
  ◌%◌,
  ◌^◌,
  ◌<◌,
  ◌≤◌,
  [],
  ◌∷◌,
  ◌++◌,
  length,
  get_or,
  refl,
  ◌∙◌,
  arith,
  append_assoc,
  append-nil,
}
use Rattle.std.specs.Int.{w64, from_be_bytes}
use Rattle.std.proofs.lemmas.List.{length-append}
use Rattle.std.proofs.lemmas.Nat.{div-mul-add, mod-mul-add, div_below, mul-le}
use Rattle.std.proofs.Math.Nat.{pow-suc, add-suc, suc-add, add-zero, zero-add}
use Rattle.layouts.specs.Bytes.{Bytes, AreBytes, bytes_of, number_from, number_of}

-- a suffix of bytes is bytes
pub AreBytes-back : (xs ys : Bytes) → AreBytes (xs ++ ys) → AreBytes ys
AreBytes-back [] ys h = h
AreBytes-back (x ∷ xs) ys h = AreBytes-back xs ys (λ i. h (suc i))

pub AreBytes-front : (xs ys : Bytes) → AreBytes (xs ++ ys) → AreBytes xs
AreBytes-front [] ys h = λ i. omega arith
AreBytes-front (x ∷ xs) ys h = elim [ zero ↦ h 0 | suc i ↦ AreBytes-front xs ys (λ j. h (suc j)) i ]

pub AreBytes-append : (xs ys : Bytes) → AreBytes xs → AreBytes ys → AreBytes (xs ++ ys)
AreBytes-append [] ys h g = g
AreBytes-append (x ∷ xs) ys h g =
    elim [ zero ↦ h 0 | suc i ↦ AreBytes-append xs ys (λ j. h (suc j)) g i ]

pub length-bytes_of : (k x : ℕ) → length (bytes_of k x) ≡ k
length-bytes_of zero x = refl
length-bytes_of (suc k) x =
    length-append (bytes_of k (x / 256)) (x % 256 ∷ []) ∙ omega (arith, length-bytes_of k (x / 256))

number_from-append : (n : ℕ) (xs ys : Bytes)
    → number_from n (xs ++ ys) ≡ number_from (number_from n xs) ys
number_from-append n [] ys = refl
number_from-append n (x ∷ xs) ys = number_from-append (n * 256 + x) xs ys

-- encoding a number and decoding it gives the number
pub number_of-bytes_of : (k x : ℕ) → x < 256 ^ k → number_of (bytes_of k x) ≡ x
number_of-bytes_of zero x h = omega arith
number_of-bytes_of (suc k) x h =
    number_from-append 0 (bytes_of k (x / 256)) (x % 256 ∷ [])
    ∙ rw (number_of-bytes_of k (x / 256)
    (div_below x 256 (256 ^ k) (omega arith) (rw pow-suc at h))) (omega arith)

-- decoding bytes and encoding the number gives the bytes, also after those of a prefix
bytes_of-number_from : (j n : ℕ) (xs : Bytes) → AreBytes xs
    → bytes_of (j + length xs) (number_from n xs) ≡ bytes_of j n ++ xs
bytes_of-number_from j n [] h = rw (add-zero, append-nil)
bytes_of-number_from j n (x ∷ xs) h =
    let here : x < 256 = h 0 in
    let more : bytes_of (suc j + length xs) (number_from (n * 256 + x) xs) ≡ bytes_of (suc j)
    (n * 256 + x) ++ xs =
    bytes_of-number_from (suc j) (n * 256 + x) xs (λ i. h (suc i)) in
    rw add-suc (rw (div-mul-add n 256 x here, mod-mul-add n 256 x here, append_assoc, suc-add) at
    more)

pub bytes_of-number_of : (xs : Bytes) → AreBytes xs → bytes_of (length xs) (number_of xs) ≡ xs
bytes_of-number_of xs h = rw zero-add at (bytes_of-number_from 0 0 xs h)

widen : (m n p x : ℕ) → x < m * p → m ≤ n * 256 → x < n * (p * 256)
widen m n p x h k = omega (arith, mul-le m p (n * 256) p k (omega arith))

number_from-below : (n : ℕ) (xs : Bytes) → AreBytes xs
    → number_from n xs < (n + 1) * 256 ^ length xs
number_from-below n [] h = omega arith
number_from-below n (x ∷ xs) h =
    let here : x < 256 = h 0 in
    let more : number_from (n * 256 + x) xs < (n * 256 + x + 1) * 256 ^ length xs =
    number_from-below (n * 256 + x) xs (λ i. h (suc i)) in
    rw pow-suc (widen (n * 256 + x + 1) (n + 1) (256 ^ length xs) _ more (omega arith))

pub number_of-below : (xs : Bytes) → AreBytes xs → number_of xs < 256 ^ length xs
number_of-below xs h = omega (arith, number_from-below 0 xs h)

-- the number in eight bytes, one by one
pub number_of_8 : (b : Bytes) → length b ≡ 8
    → number_of b ≡ from_be_bytes w64
    (get_or b 0 0 ∷ get_or b 1 0 ∷ get_or b 2 0 ∷ get_or b 3 0 ∷ get_or b 4 0 ∷ get_or b 5
    0 ∷ get_or b 6 0 ∷
    get_or b 7 0 ∷ [])
number_of_8 (a ∷ b ∷ c ∷ d ∷ e ∷ f ∷ g ∷ h ∷ []) l = omega arith
number_of_8 b l = absurd (omega arith)
