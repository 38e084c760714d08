-- Numbers written into a buffer, one after the other.
use Rattle.std.proofs.Common.{◌≡◌, ℕ, ◌+◌, ◌<◌, ◌≤◌, List, [], ◌∷◌, ◌++◌, true, false, not, cond, length, take, set, sym, ◌∙◌, ap, arith}
use Rattle.std.proofs.Common.{append_assoc, append-nil, length-append}
use Rattle.std.proofs.lemmas.List.{length-take, take_more_set}
use Rattle.tls_fingerprints.specs.Ja4.{is_in_first_part, other_types}

-- one more is written: the first of those that remain
pub room_filled : (room : List ℕ) (count n : ℕ) (rest others all : List ℕ) → count < length room
    → rest ≡ n ∷ others
    → take count room ++ rest ≡ all → take (count + 1) (set room count n) ++ others ≡ all
room_filled room count n rest others all short first before =
    ap (λ t. t ++ others) (take_more_set room count n short)
    ∙ append_assoc (take count room) (n ∷ []) others
    ∙ ap (λ t. take count room ++ t) (sym first) ∙ before

-- none remain
pub room_ends : (room : List ℕ) (count : ℕ) (rest all : List ℕ) → rest ≡ []
    → take count room ++ rest ≡ all
    → take count room ≡ all
room_ends room count rest all none before =
    sym (append-nil (take count room)) ∙ ap (λ t. take count room ++ t) (sym none) ∙ before

-- the buffer is full, and one remains
pub room_full : (room : List ℕ) (count n : ℕ) (rest others all : List ℕ) → length room ≤ count
    → count ≤ length room
    → rest ≡ n ∷ others → take count room ++ rest ≡ all → length room < length all
room_full room count n rest others all full within first before =
    let whole : length (take count room ++ rest) ≡ length all = ap length before in
    let parts : length (take count room ++ rest) ≡ length (take count room) + length rest =
    length-append (take count room) rest in
    let more : length rest ≡ length (n ∷ others) = ap length first in
    let front = length-take count room in
    omega (arith, whole, parts, more, front, full, within)

-- the first number is skipped, or kept
pub others_skip : (ns others : List ℕ) (n : ℕ) → ns ≡ n ∷ others → is_in_first_part n ≡ true
    → other_types ns ≡ other_types others
others_skip ns others n e is_front =
    ap other_types e ∙ ap (λ b. cond (not b) (n ∷ other_types others) (other_types others)) is_front

pub others_keep : (ns others : List ℕ) (n : ℕ) → ns ≡ n ∷ others → is_in_first_part n ≡ false
    → other_types ns ≡ n ∷ other_types others
others_keep ns others n e other =
    ap other_types e ∙ ap (λ b. cond (not b) (n ∷ other_types others) (other_types others)) other

-- one of those that remain is counted
pub counted_more : (count n : ℕ) (rest others all : List ℕ) → rest ≡ n ∷ others
    → count + length rest ≡ length all
    → (count + 1) + length others ≡ length all
counted_more count n rest others all first before =
    let more : length rest ≡ length (n ∷ others) = ap length first in
    omega (arith, more, before)

-- all are counted, and one remains
pub counted_full : (size count n : ℕ) (rest others all : List ℕ) → size ≤ count → rest ≡ n ∷ others
    → count + length rest ≡ length all → size < length all
counted_full size count n rest others all full first before =
    let more : length rest ≡ length (n ∷ others) = ap length first in
    omega (arith, more, before, full)

pub counted_all : (count : ℕ) (rest all : List ℕ) → rest ≡ [] → count + length rest ≡ length all
    → count ≡ length all
counted_all count rest all none before =
    let no : length rest ≡ 0 = ap length none in
    omega (arith, no, before)
