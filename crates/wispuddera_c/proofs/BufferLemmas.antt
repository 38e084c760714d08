-- Moving bytes within a buffer.
use Rattle.std.proofs.Common.{◌≡◌, ℕ, ◌+◌, ◌-◌, ◌≤◌, ◌++◌, [], length, take, drop, refl, sym, ◌∙◌, ap, arith, zero-add}
use Rattle.std.specs.List.{between}
use Rattle.std.proofs.Math.Seq.{paste}
use Rattle.std.proofs.lemmas.List.{
  drop-append-le,
  drop-drop,
  drop-take,
  length-drop,
  length-take-le,
  take-append-le,
  take-take,
  take_all,
  length-take,
}
use Rattle.std.proofs.lemmas.List.Edits.{between_none, drop-paste, length-between, length-paste, take-paste}
use Rattle.std.proofs.lemmas.Slice.{between_from_start, between_is}
use Rattle.layouts.specs.Bytes.{Bytes}

-- Without its first bytes.
pub front_off : (b : Bytes) (i j k : ℕ) → between (i + k) j b ≡ drop k (between i j b)
front_off b i j k =
    between_is b (i + k) j ∙ sym (drop-drop k i (take j b)) ∙ ap (drop k) (sym (between_is b i j))

-- k bytes of s are written at the offset e: the bytes before it, through it and after it.
module _ (b s : Bytes) (e k : ℕ) (high : e ≤ length b) (few : k ≤ length s) where
  same_front : (j : ℕ) → j ≤ e → take j (paste b e s k) ≡ take j b
  same_front j low =
      sym (take-take j (e + k) (paste b e s k) (omega (arith, low)))
      ∙ ap (take j) (take-paste b e s k high few)
      ∙ take-append-le j (take e b) (take k s) (omega (arith, low, length-take-le e b high))
      ∙ take-take j e b low

  pub before_put : (i j : ℕ) → j ≤ e → between i j (paste b e s k) ≡ between i j b
  before_put i j low =
      between_is (paste b e s k) i j ∙ ap (drop i) (same_front j low) ∙ sym (between_is b i j)

  pub behind_put : (i : ℕ) → i ≤ e → between i (e + k) (paste b e s k) ≡ between i e b ++ take k s
  behind_put i low =
      between_is (paste b e s k) i (e + k)
      ∙ ap (drop i) (take-paste b e s k high few)
      ∙ drop-append-le i (take e b) (take k s) (omega (arith, low, length-take-le e b high))
      ∙ ap (λ x. x ++ take k s) (sym (between_is b i e))

  pub after_put : (i j : ℕ) → e + k ≤ i → between i j (paste b e s k) ≡ between i j b
  after_put i j far =
      let all : i ≡ (e + k) + (i - (e + k)) = omega (arith, far) in
      ap (take (j - i))
      (ap (λ n. drop n (paste b e s k)) all
      ∙ sym (drop-drop (i - (e + k)) (e + k) (paste b e s k))
      ∙ ap (drop (i - (e + k))) (drop-paste b e s k high few)
      ∙ drop-drop (i - (e + k)) (e + k) b
      ∙ ap (λ n. drop n b) (sym all))

-- A fragment of n bytes after the header of 5 at u is written at the end e of the part, which
-- starts at p.
module _ (b : Bytes) (p e u end n : ℕ) (low : p ≤ e) (mid : e ≤ u) (whole : u + 5 + n ≤ end)
    (high : end ≤ length b) where
  abbrev source : Bytes
  source = drop (u + 5) b

  abbrev joined : Bytes
  joined = paste b e source n

  reaches : e ≤ length b
  reaches = omega (arith, mid, whole, high)

  enough : n ≤ length source
  enough = omega (arith, whole, high, length-drop (u + 5) b)

  fragment_is : take n (drop 5 (between u end b)) ≡ take n source
  fragment_is =
      let all : end - u ≡ 5 + (end - u - 5) = omega (arith, whole) in
      ap (λ k. take n (drop 5 (take k (drop u b)))) all
      ∙ ap (take n) (drop-take 5 (end - u - 5) (drop u b))
      ∙ take-take n (end - u - 5) (drop 5 (drop u b)) (omega (arith, whole))
      ∙ ap (take n) (drop-drop 5 u b)

  pub joined_part : between p (e + n) joined ≡ between p e b ++ take n (drop 5 (between u end b))
  joined_part = behind_put b source e n reaches enough p low
      ∙ ap (λ x. between p e b ++ x) (sym fragment_is)

  pub joined_unread : between (u + 5 + n) end joined ≡ drop (5 + n) (between u end b)
  joined_unread =
      let same : u + 5 + n ≡ u + (5 + n) = omega arith in
      after_put b source e n reaches enough (u + 5 + n) end (omega (arith, mid))
      ∙ ap (λ k. between k end b) same ∙ front_off b u end (5 + n)

-- The bytes in use are moved to the beginning.
module _ (b : Bytes) (p e u end : ℕ) (low : p ≤ e) (mid : e ≤ u) (top : u ≤ end)
    (high : end ≤ length b) where
  abbrev first_moved : Bytes
  first_moved = paste b 0 (drop p b) (e - p)

  abbrev both_moved : Bytes
  both_moved = paste first_moved (e - p) (drop u first_moved) (end - u)

  part_there : e - p ≤ length (drop p b)
  part_there = omega (arith, low, mid, top, high, length-drop p b)

  same_length : length first_moved ≡ length b
  same_length = length-paste b 0 (drop p b) (e - p) (omega (arith, low, mid, top, high)) part_there

  unread_there : end - u ≤ length (drop u first_moved)
  unread_there = omega (arith, top, high, same_length, length-drop u first_moved)

  part_reaches : e - p ≤ length first_moved
  part_reaches = omega (arith, low, mid, top, high, same_length)

  first_part : take (e - p) first_moved ≡ take (e - p) (drop p b)
  first_part =
      let zero : e - p ≡ 0 + (e - p) = omega arith in
      ap (λ k. take k first_moved) zero ∙ take-paste b 0 (drop p b) (e - p) (omega arith) part_there

  pub moved_part : between 0 (e - p) both_moved ≡ between p e b
  moved_part =
      before_put first_moved (drop u first_moved) (e - p) (end - u) part_reaches unread_there 0
      (e - p) (omega arith)
      ∙ between_from_start first_moved (e - p) ∙ first_part

  pub moved_unread : between (e - p) (e - p + (end - u)) both_moved ≡ between u end b
  moved_unread =
      behind_put first_moved (drop u first_moved) (e - p) (end - u) part_reaches unread_there
      (e - p) (omega arith)
      ∙ ap (λ x. x ++ take (end - u) (drop u first_moved)) (between_none first_moved (e - p))
      ∙ after_put b (drop p b) 0 (e - p) (omega arith) part_there u end (omega (arith, low, mid))

-- A piece is appended.
module _ (b piece : Bytes) (end n : ℕ) (all : n ≡ length piece) (high : end ≤ length b) where
  pub fed_unread : (u : ℕ) → u ≤ end
      → between u (end + n) (paste b end piece n) ≡ between u end b ++ piece
  fed_unread u top =
      behind_put b piece end n high (omega (arith, all)) u top
      ∙ ap (λ x. between u end b ++ x) (take_all n piece (omega (arith, all)))

  pub fed_part : (p e : ℕ) → e ≤ end → between p e (paste b end piece n) ≡ between p e b
  fed_part p e low = before_put b piece end n high (omega (arith, all)) p e low

-- Bytes at the front of those between two offsets.
module _ (b y : Bytes) (p e : ℕ) (front : take (length y) (between p e b) ≡ y)
    (high : e ≤ length b) where
  pub front_fits : length y ≤ e - p
  front_fits =
      omega (
        arith,
        ap length front,
        length-take (length y) (between p e b),
        length-between b p e high,
      )

  pub front_stands : take (length y) (drop p b) ≡ y
  front_stands = sym (take-take (length y) (e - p) (drop p b) front_fits) ∙ front

-- How far the bytes between two offsets reach.
pub reaches_behind : (b : Bytes) (u end n : ℕ) → end ≤ length b → 5 + n ≤ length (between u end b)
    → u + 5 + n ≤ end
reaches_behind b u end n high whole = omega (arith, whole, length-between b u end high)
