-- The numbers in bytes, read at once.
use Rattle.std.proofs.Common.{
  ◌≡◌,
  ℕ,
  zero,
  suc,
  ◌+◌,
  ◌-◌,
  ◌*◌,
  ◌/◌,
  ◌%◌,
  ◌<◌,
  ◌≤◌,
  List,
  [],
  ◌∷◌,
  ◌++◌,
  length,
  take,
  drop,
  Ok,
  Err,
  Bool,
  cond,
  refl,
  sym,
  ◌∙◌,
  ap,
  arith,
}
use Rattle.std.proofs.lemmas.Nat.{div-add-mod', mod_below}
use Rattle.std.proofs.lemmas.List.{length-append, length-drop, take-append-drop, take-append-le, drop-append-le, length-take-le}
use Rattle.layouts.specs.Bytes.{Bytes, number_of}
use Rattle.layouts.specs.Items.{items_in}
use Rattle.layouts.specs.Layout.{number, times}
use Rattle.layouts.specs.Meaning.{Answer, Lacks}
use Rattle.layouts.specs.Reading.{items_at, number_at, split_at, reading, ◌and_then◌}
use Rattle.layouts.proofs.ItemsLemmas.{items_first, items_none, none_in}
use Rattle.layouts.proofs.NumbersLemmas.{numbers_in}
use Rattle.layouts.proofs.OneAnswerLemmas.{number_read, ltb_yes}

number_lacks : (w : ℕ) (b : Bytes) → length b < w
    → reading (number w) b ≡ Err (Lacks (w - length b))
unfolding number_at split_at
number_lacks w b short = ap (λ t. ◌and_then◌ {Y = ℕ × Bytes}
    (cond {A = Answer Bytes} t (Err (Lacks (w - length b))) (Ok (take w b, drop w b)))
    (λ x. Ok (number_of x.0, x.1)))
    (ltb_yes (length b) w short)

-- bytes after the last complete number hold none
whole_numbers : (w n : ℕ) (c r : Bytes) → 0 < w → length c ≡ w * n → length r < w
    → items_in (number w) (c ++ r) ≡ items_in (number w) c
whole_numbers w zero [] r some e short =
    items_none (number w) r _ (number_lacks w r short) ∙ sym (none_in (number w) [] (omega arith))
whole_numbers w zero (x ∷ c) r some e short = absurd (omega arith)
whole_numbers w (suc n) c r some e short =
    let whole : w ≤ length c = omega arith in
    let here : reading (number w) c ≡ Ok (number_of (take w c), drop w c) =
    number_read w c (take w c) (drop w c) _ whole refl refl refl in
    let there : reading (number w) (c ++ r) ≡ Ok (number_of (take w c), drop w c ++ r) =
    number_read w (c ++ r) (take w c) (drop w c ++ r) _ (omega (arith, length-append c r))
    (sym (take-append-le w c r whole)) (sym (drop-append-le w c r whole)) refl in
    items_first (number w) (c ++ r) _ _ there
    (omega (arith, length-append c r, length-append (drop w c) r, length-drop w c))
    ∙ ap (λ xs. number_of (take w c) ∷ xs)
    (whole_numbers w n (drop w c) r some (omega (arith, length-drop w c)) short)
    ∙ sym (items_first (number w) c _ _ here (omega (arith, length-drop w c)))

pub listed : (w : ℕ) (b : Bytes) (xs : List ℕ) (r : Bytes) → 0 < w
    → reading (times (length b / w) (number w)) b ≡ Ok (xs, r) → xs ≡ items_in (number w) b
listed w b xs r some e =
    let n = length b / w in
    let cut : length b / w * w + length b % w ≡ length b = div-add-mod' (length b) w in
    let left : length b % w < w = mod_below (length b) w some in
    let fits : w * n ≤ length b = omega (arith, cut) in
    let c = take (w * n) b in
    let size : length c ≡ w * n = length-take-le (w * n) b fits in
    let is : reading (times n (number w)) b ≡ Ok (items_in (number w) c, drop (w * n) b) =
    numbers_in w n b c (drop (w * n) b) some fits refl refl in
    let same : ◌≡◌ {A = List ℕ × Bytes} (xs, r) (items_in (number w) c, drop (w * n) b) =
    (let both : ◌≡◌ {A = Answer (List ℕ)} (Ok (xs, r))
    (Ok (items_in (number w) c, drop (w * n) b)) = sym e ∙ is in
    cc) in
    let short : length (drop (w * n) b) < w = omega (arith, cut, left, length-drop (w * n) b) in
    ap (λ x. x.0) same ∙ sym (whole_numbers w n c (drop (w * n) b) some size short)
    ∙ ap (items_in (number w)) (take-append-drop (w * n) b)
