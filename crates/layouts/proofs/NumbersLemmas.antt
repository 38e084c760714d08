-- Numbers in place.
use Rattle.std.proofs.Common.{
  ◌≡◌,
  ℕ,
  zero,
  suc,
  ◌+◌,
  ◌-◌,
  ◌*◌,
  ◌/◌,
  ◌<◌,
  ◌≤◌,
  List,
  [],
  ◌∷◌,
  ◌++◌,
  length,
  take,
  drop,
  Some,
  slice_get,
  Ok,
  Err,
  Bool,
  true,
  false,
  cond,
  ltb,
  refl,
  sym,
  subst,
  ◌∙◌,
  ap,
  ap₂,
  arith,
}
use Rattle.std.proofs.Math.Nat.{div-eq-sub-div, div-eq_of_lt, mul-suc, mul-zero}
use Rattle.std.proofs.lemmas.Bool.{ltb-true, ltb-false}
use Rattle.std.proofs.Math.Numerals.{add-one}
use Rattle.std.proofs.lemmas.List.{
  length-append,
  length-drop,
  length-take-le,
  take-append-drop,
  take-append-le,
  drop-append-le,
  drop-drop,
}
use Rattle.layouts.specs.Bytes.{Bytes, number_of}
use Rattle.layouts.specs.Layout.{number, times}
use Rattle.layouts.specs.Meaning.{Refusal, Answer, Lacks}
use Rattle.layouts.specs.Reading.{items_at, number_at, split_at, reading, ◌and_then◌}
use Rattle.layouts.proofs.OneAnswerLemmas.{number_read, ltb_yes}
use Rattle.layouts.specs.Items.{items_in}
use Rattle.layouts.proofs.ItemsLemmas.{items_first, items_none, items_still, none_in}

-- n numbers of w bytes each are the items in their bytes
numbers_front : (w n : ℕ) (c r : Bytes) → 0 < w → length c ≡ w * n
    → reading (times n (number w)) (c ++ r) ≡ Ok (items_in (number w) c, r)
unfolding items_at
numbers_front w zero [] r some e = refl
numbers_front w zero (x ∷ c) r some e = absurd (omega arith)
numbers_front w (suc n) c r some e =
    let whole : w ≤ length c = omega arith in
    let here : reading (number w) c ≡ Ok (number_of (take w c), drop w c) =
    number_read w c (take w c) (drop w c) _ whole refl refl refl in
    let there : reading (number w) (c ++ r) ≡ Ok (number_of (take w c), drop w c ++ r) =
    number_read w (c ++ r) (take w c) (drop w c ++ r) _ (omega (arith, length-append c r))
    (sym (take-append-le w c r whole)) (sym (drop-append-le w c r whole)) refl in
    let list : items_in (number w) c ≡ number_of (take w c) ∷ items_in (number w) (drop w c) =
    items_first (number w) c _ _ here (omega (arith, length-drop w c)) in
    let more : reading (times n (number w)) (drop w c ++ r) ≡ Ok
    (items_in (number w) (drop w c), r) =
    numbers_front w n (drop w c) r some (omega (arith, length-drop w c)) in
    ap (λ a. ◌and_then◌ {Y = List ℕ × Bytes} a
    (λ x. reading (times n (number w)) x.1 and_then λ y. Ok (x.0 ∷ y.0, y.1))) there
    ∙ ap (λ a. ◌and_then◌ {Y = List ℕ × Bytes} a (λ y. Ok (number_of (take w c) ∷ y.0, y.1))) more
    ∙ ap (λ ys. Ok (ys, r)) (sym list)

pub numbers_in : (w n : ℕ) (b c r : Bytes) → 0 < w → w * n ≤ length b → c ≡ take (w * n) b
    → r ≡ drop (w * n) b
    → reading (times n (number w)) b ≡ Ok (items_in (number w) c, r)
numbers_in w n b c r some fits is behind =
    let size : length c ≡ w * n = ap length is ∙ length-take-le (w * n) b fits in
    let whole : c ++ r ≡ b = ap₂ ◌++◌ is behind ∙ take-append-drop (w * n) b in
    subst (λ m. reading (times n (number w)) m ≡ Ok (items_in (number w) c, r)) whole
    (numbers_front w n c r some size)

-- two bytes hold one number
pub one_in : (b : Bytes) (v : ℕ) (r : Bytes) → length b ≡ 2 → reading (number 2) b ≡ Ok (v, r)
    → items_in (number 2) b ≡ v ∷ []
one_in b v r two e =
    let is : reading (number 2) b ≡ Ok (number_of (take 2 b), drop 2 b) =
    number_read 2 b (take 2 b) (drop 2 b) _ (omega arith) refl refl refl in
    let same : ◌≡◌ {A = ℕ × Bytes} (v, r) (number_of (take 2 b), drop 2 b) =
    (let both : ◌≡◌ {A = Answer ℕ} (Ok (v, r)) (Ok (number_of (take 2 b), drop 2 b)) =
    sym e ∙ is in cc) in
    let behind : length r ≡ 0 = ap (λ x. length x.1) same ∙ omega (arith, length-drop 2 b) in
    items_first (number 2) b v r e (omega arith)
    ∙ ap (λ xs. v ∷ xs) (none_in (number 2) r (omega arith))

-- the first number, and none if there are fewer than w bytes
first_number : (w : ℕ) (b : Bytes) → 0 < w → w ≤ length b
    → items_in (number w) b ≡ number_of (take w b) ∷ items_in (number w) (drop w b)
first_number w b some whole = items_first (number w) b _ _
    (number_read w b (take w b) (drop w b) _ whole refl refl refl) (omega (arith, length-drop w b))

number_lacks : (w : ℕ) (b : Bytes) → length b < w
    → reading (number w) b ≡ Err (Lacks (w - length b))
unfolding number_at split_at
number_lacks w b short = ap (λ t. ◌and_then◌ {Y = ℕ × Bytes}
    (cond {A = Answer Bytes} t (Err (Lacks (w - length b))) (Ok (take w b, drop w b)))
    (λ x. Ok (number_of x.0, x.1)))
    (ltb_yes (length b) w short)

-- the count of numbers of w bytes
count_below : (n w : ℕ) (b : Bytes) → length b < n → 0 < w
    → length (items_in (number w) b) ≡ length b / w
count_below zero w b short some = absurd (omega arith)
count_below (suc n) w b short some =
    go (ltb (length b) w) refl (λ fewer. count_below n w (drop w b) fewer some)
  where
    go : (t : Bool) → ltb (length b) w ≡ t → (length (drop w b) < n
        → length (items_in (number w) (drop w b)) ≡ length (drop w b) / w)
        → length (items_in (number w) b) ≡ length b / w
    go true few more =
        ap length (items_none (number w) b _ (number_lacks w b (ltb-true (length b) w few)))
        ∙ sym (div-eq_of_lt (ltb-true (length b) w few))
    go false enough more =
        let whole : w ≤ length b = ltb-false (length b) w enough in
        let rest : length (drop w b) ≡ length b - w = length-drop w b in
        let count : length (items_in (number w) b) ≡ suc (length (items_in (number w) (drop w b))) =
        ap length (first_number w b some whole) in
        count ∙ ap suc (more (omega (arith, rest)) ∙ ap (λ k. k / w) rest)
        ∙ sym (add-one ((length b - w) / w))
        ∙ sym (div-eq-sub-div some whole)

pub numbers_count : (w : ℕ) (b : Bytes) → 0 < w → length (items_in (number w) b) ≡ length b / w
numbers_count w b some = count_below (suc (length b)) w b (omega arith) some

-- there are no numbers of no bytes: such an item is empty
pub no_width : (b : Bytes) → length (items_in (number 0) b) ≡ 0
no_width b =
    ap length (items_still (number 0) b _ _ (number_read 0 b [] b 0 (omega arith) refl refl refl)
    (omega arith))

-- if there is a number at a position, its bytes are there
holds_first : (w : ℕ) (b : Bytes) → 0 < w → 0 < length (items_in (number w) b) → w ≤ length b
holds_first w b some there = go (ltb (length b) w) refl
  where
    go : (t : Bool) → ltb (length b) w ≡ t → w ≤ length b
    go true few = absurd (let none : length (items_in (number w) b) ≡ 0 =
        ap length (items_none (number w) b _ (number_lacks w b (ltb-true (length b) w few))) in
        omega
        (arith, none, there))
    go false enough = ltb-false (length b) w enough

place_there : (w i : ℕ) (b : Bytes) → 0 < w → i < length (items_in (number w) b)
    → w * i + w ≤ length b
place_there w zero b some there =
    omega (arith, mul-zero w, holds_first w b some (omega (arith, there)))
place_there w (suc i) b some there =
    let whole : w ≤ length b = holds_first w b some (omega (arith, there)) in
    let count : length (items_in (number w) b) ≡ suc (length (items_in (number w) (drop w b))) =
    ap length (first_number w b some whole) in
    let more : w * i + w ≤ length (drop w b) =
    place_there w i (drop w b) some (omega (arith, there, count)) in
    omega (arith, more, mul-suc w i, length-drop w b, whole)

some_width : (w i : ℕ) (b : Bytes) → i < length (items_in (number w) b) → 0 < w
some_width zero i b there = absurd (omega (arith, there, no_width b))
some_width (suc w) i b there = omega arith

pub place_fits : (w i : ℕ) (b : Bytes) → i < length (items_in (number w) b) → w * i + w ≤ length b
place_fits w i b there = place_there w i b (some_width w i b there) there

-- the number at a position
number_in : (w i : ℕ) (b : Bytes) → 0 < w → i < length (items_in (number w) b)
    → slice_get (items_in (number w) b) i ≡ Some (number_of (take w (drop (w * i) b)))
number_in w zero b some there =
    ap (λ xs. slice_get xs 0) (first_number w b some (holds_first w b some (omega (arith, there))))
    ∙ ap (λ k. Some (number_of (take w (drop k b)))) (sym (mul-zero w))
number_in w (suc i) b some there =
    let whole : w ≤ length b = holds_first w b some (omega (arith, there)) in
    let first : items_in (number w) b ≡ number_of (take w b) ∷ items_in (number w) (drop w b) =
    first_number w b some whole in
    let count : length (items_in (number w) b) ≡ suc (length (items_in (number w) (drop w b))) =
    ap length first in
    let step : w + w * i ≡ w * suc i = omega (arith, mul-suc w i) in
    ap (λ xs. slice_get xs (suc i)) first
    ∙ number_in w i (drop w b) some (omega (arith, there, count))
    ∙ ap (λ c. Some (number_of (take w c))) (drop-drop (w * i) w b ∙ ap (λ k. drop k b) step)

pub number_at_place : (w i : ℕ) (b : Bytes) (v : ℕ) (r : Bytes) → i < length (items_in (number w) b)
    → reading (number w) (drop (w * i) b) ≡ Ok (v, r) → slice_get (items_in (number w) b) i ≡ Some v
number_at_place w i b v r there e =
    let c : Bytes = drop (w * i) b in
    let fits : w ≤ length c = omega (arith, place_fits w i b there, length-drop (w * i) b) in
    let is : reading (number w) c ≡ Ok (number_of (take w c), drop w c) =
    number_read w c (take w c) (drop w c) _ fits refl refl refl in
    let same : ◌≡◌ {A = ℕ × Bytes} (number_of (take w c), drop w c) (v, r) =
    (let both : ◌≡◌ {A = Answer ℕ} (Ok (number_of (take w c), drop w c)) (Ok (v, r)) =
    sym is ∙ e in cc) in
    number_in w i b (some_width w i b there) there ∙ ap (λ x. Some x.0) same
