-- Parts of a page.
use Rattle.std.proofs.Common.{◌≡◌, ℕ, zero, suc, ◌+◌, ◌≤◌, List, [], ◌∷◌, ◌++◌, length, take, drop}
use Rattle.std.proofs.Common.{Bool, refl, sym, ◌∙◌, ap, arith}
use Rattle.std.proofs.lemmas.List.{drop_at, length-append, length-drop, length-take-le, take_at, take-append-drop}
use Rattle.segments.specs.Cells.{Bytes, Cells, fill, fill_at, known, or_else, put, run}
use Rattle.segments.specs.Pages.{marked, set_marks}
use Rattle.segments.proofs.MarkLemmas.{known_marked, marked_append, marked_drop, marked_length, marked_take}
use Rattle.segments.proofs.MarkLemmas.{run_all, set_marks_append, set_marks_low, set_marks_split}

pub part_is : (ms : List Bool) (bs : Bytes) (a k n : ℕ) → k ≡ n
    → marked (take k (drop a ms)) (take k (drop a bs)) ≡ take n (drop a (marked ms bs))
part_is ms bs a k n e =
    marked_take k (drop a ms) (drop a bs) ∙ ap (take k) (marked_drop a ms bs)
    ∙ ap (λ j. take j (drop a (marked ms bs))) e

pub part_length : {X : Type 0} (xs : List X) (a k : ℕ) → a + k ≤ length xs
    → length (take k (drop a xs)) ≡ k
part_length xs a k h =
    length-take-le k (drop a xs) (let d = length-drop a xs in omega (arith, d, h))

fill_front : (cs : Cells) (ys : Bytes) → length ys ≤ length cs
    → fill (take (length ys) cs) ys ++ drop (length ys) cs ≡ fill cs ys
fill_front [] [] h = refl
fill_front [] (y ∷ ys) h = absurd (omega (arith, h))
fill_front (c ∷ cs) [] h = refl
fill_front (c ∷ cs) (y ∷ ys) h = ap (λ r. or_else c y ∷ r) (fill_front cs ys (omega (arith, h)))

fill_part : (a : ℕ) (cs : Cells) (ys : Bytes) → a + length ys ≤ length cs
    → take a cs ++ (fill (take (length ys) (drop a cs)) ys ++ drop (length ys) (drop a cs))
    ≡ fill_at a cs ys
fill_part zero cs ys h = fill_front cs ys (omega (arith, h))
fill_part (suc a) [] ys h = absurd (omega (arith, h))
fill_part (suc a) (c ∷ cs) ys h = ap (λ r. c ∷ r) (fill_part a cs ys (omega (arith, h)))

put_part : (a : ℕ) (cs : Cells) (ys : Bytes) → a + length ys ≤ length cs
    → take a cs ++ (fill (take (length ys) (drop a cs)) ys ++ drop (length ys) (drop a cs))
    ≡ put a ys cs
put_part a cs [] h = take-append-drop a cs
put_part a cs (y ∷ ys) h = fill_part a cs (y ∷ ys) h

-- Bytes are written to a part.
replaced_part : (ms ms' : List Bool) (bs bs' : Bytes) (a k : ℕ) → length bs ≡ length ms
    → a + k ≤ length ms
    → length ms' ≡ k → length bs' ≡ k
    → marked (take a ms ++ (ms' ++ drop k (drop a ms))) (take a bs ++ (bs' ++ drop k (drop a bs)))
    ≡ take a (marked ms bs) ++ (marked ms' bs' ++ drop k (drop a (marked ms bs)))
replaced_part ms ms' bs bs' a k l h m n =
    marked_append (take a ms) (ms' ++ drop k (drop a ms)) (take a bs) (bs' ++ drop k (drop a bs))
    (length-take-le a bs (omega (arith, h, l)) ∙ sym (length-take-le a ms (omega (arith, h))))
    ∙ ap (λ r. marked (take a ms) (take a bs) ++ r)
    (marked_append ms' (drop k (drop a ms)) bs' (drop k (drop a bs)) (n ∙ sym m)
    ∙ ap (λ r. marked ms' bs' ++ r)
    (marked_drop k (drop a ms) (drop a bs) ∙ ap (drop k) (marked_drop a ms bs)))
    ∙ ap (λ r. r ++ (marked ms' bs' ++ drop k (drop a (marked ms bs)))) (marked_take a ms bs)

pub written_part : (ms ms' : List Bool) (bs bs' ys : Bytes) (a k : ℕ) → length bs ≡ length ms
    → k ≡ length ys
    → a + length ys ≤ length ms → length ms' ≡ k → length bs' ≡ k
    → marked ms' bs' ≡ fill (marked (take k (drop a ms)) (take k (drop a bs))) ys
    → marked (take a ms ++ (ms' ++ drop k (drop a ms))) (take a bs ++ (bs' ++ drop k (drop a bs)))
    ≡ put a ys (marked ms bs)
written_part ms ms' bs bs' ys a k l e h m n filled =
    replaced_part ms ms' bs bs' a k l (omega (arith, e, h)) m n
    ∙ ap (λ r. take a (marked ms bs) ++ (r ++ drop k (drop a (marked ms bs))))
    (filled ∙ ap (λ c. fill c ys) (part_is ms bs a k (length ys) e))
    ∙ ap (λ j. take a (marked ms bs)
    ++ (fill (take (length ys) (drop a (marked ms bs))) ys ++ drop j (drop a (marked ms bs)))) e
    ∙ put_part a (marked ms bs) ys (let long = marked_length ms bs l in omega (arith, h, long))

pub counted_part : (ms ms' : List Bool) (bs bs' : Bytes) (a k n count : ℕ)
    → length bs ≡ length ms → k ≡ n
    → a + n ≤ length ms → length ms' ≡ k → length bs' ≡ k
    → known (marked ms' bs') ≡ known (marked (take k (drop a ms)) (take k (drop a bs))) + count
    → known (take n
    (drop a (marked (take a ms ++ (ms' ++ drop k (drop a ms)))
    (take a bs ++ (bs' ++ drop k (drop a bs))))))
    ≡ known (take n (drop a (marked ms bs))) + count
counted_part ms ms' bs bs' a k n count l e h m m' counted =
    ap (λ c. known (take n (drop a c)))
    (replaced_part ms ms' bs bs' a k l (omega (arith, e, h)) m m')
    ∙ ap (λ c. known (take n c))
    (drop_at (take a (marked ms bs)) (marked ms' bs' ++ drop k (drop a (marked ms bs))) a
    (length-take-le a (marked ms bs) (let long = marked_length ms bs l in omega (arith, h, long))))
    ∙ ap known (take_at (marked ms' bs') (drop k (drop a (marked ms bs))) n
    (marked_length ms' bs' (m' ∙ sym m) ∙ m ∙ e))
    ∙ counted
    ∙ ap (λ c. known c + count) (part_is ms bs a k n e)

-- How many bytes are present in a part, by the marks.
pub known_part : (ms : List Bool) (bs : Bytes) (a k n : ℕ) → k ≡ n → a + n ≤ length ms
    → length bs ≡ length ms
    → known (take n (drop a (marked ms bs))) ≡ set_marks (take k (drop a ms))
known_part ms bs a k n e h l =
    ap known (sym (part_is ms bs a k n e))
    ∙ known_marked (take k (drop a ms)) (take k (drop a bs))
    (part_length bs a k (omega (arith, e, h, l)) ∙ sym (part_length ms a k (omega (arith, e, h))))

pub none_in_part : (ms : List Bool) (bs : Bytes) (a n : ℕ) → a + n ≤ length ms
    → length bs ≡ length ms
    → set_marks ms ≡ 0 → 0 ≡ known (take n (drop a (marked ms bs)))
none_in_part ms bs a n h l none =
    let p = known_part ms bs a n n refl h l in
    let s = set_marks_split a ms in
    let t = set_marks_split n (drop a ms) in
    omega (arith, p, s, t, none)

pub all_in_part : (ms : List Bool) (bs : Bytes) (a n : ℕ) → a + n ≤ length ms
    → length bs ≡ length ms
    → set_marks ms ≡ length ms → n ≡ known (take n (drop a (marked ms bs)))
all_in_part ms bs a n h l all =
    let p = known_part ms bs a n n refl h l in
    let s = set_marks_split a ms in
    let t = set_marks_split n (drop a ms) in
    let front = set_marks_low (take a ms) in
    let here = set_marks_low (take n (drop a ms)) in
    let behind = set_marks_low (drop n (drop a ms)) in
    let f = length-take-le a ms (omega (arith, h)) in
    let g = part_length ms a n h in
    let d = length-drop a ms in
    let e = length-drop n (drop a ms) in
    omega (arith, p, s, t, front, here, behind, f, g, d, e, all)

-- How many marks are set after a part is replaced.
pub marks_replaced : (ms ms' : List Bool) (bs bs' : Bytes) (a k n count : ℕ)
    → length bs ≡ length ms → k ≡ n
    → a + n ≤ length ms → length ms' ≡ k → length bs' ≡ k
    → known (marked ms' bs') ≡ known (marked (take k (drop a ms)) (take k (drop a bs))) + count
    → set_marks (take a ms ++ (ms' ++ drop k (drop a ms))) ≡ set_marks ms + count
marks_replaced ms ms' bs bs' a k n count l e h m m' counted =
    let new = known_marked ms' bs' (m' ∙ sym m) in
    let old = known_marked (take k (drop a ms)) (take k (drop a bs))
    (part_length bs a k (omega (arith, e, h, l))
    ∙ sym (part_length ms a k (omega (arith, e, h)))) in
    let one = set_marks_append (take a ms) (ms' ++ drop k (drop a ms)) in
    let two = set_marks_append ms' (drop k (drop a ms)) in
    let s = set_marks_split a ms in
    let t = set_marks_split k (drop a ms) in
    omega (arith, counted, new, old, one, two, s, t)

pub front_whole : (ms : List Bool) (bs : Bytes) (a k n : ℕ) → k ≡ n → a + n ≤ length ms
    → length bs ≡ length ms
    → n ≡ known (take n (drop a (marked ms bs)))
    → take k (drop a bs) ≡ run (take n (drop a (marked ms bs)))
front_whole ms bs a k n e h l all =
    let ml = part_length ms a k (omega (arith, e, h)) in
    let bl = part_length bs a k (omega (arith, e, h, l)) in
    sym (ap run (sym (part_is ms bs a k n e))
    ∙ run_all (take k (drop a ms)) (take k (drop a bs)) (bl ∙ sym ml)
    (sym (known_part ms bs a k n e h l) ∙ sym all ∙ sym e ∙ sym ml))

pub replaced_long : {X : Type 0} (xs ys : List X) (a k : ℕ) → a + k ≤ length xs → length ys ≡ k
    → length (take a xs ++ (ys ++ drop k (drop a xs))) ≡ length xs
replaced_long xs ys a k h e =
    let one = length-append (take a xs) (ys ++ drop k (drop a xs)) in
    let two = length-append ys (drop k (drop a xs)) in
    let t = length-take-le a xs (omega (arith, h)) in
    let d = length-drop a xs in
    let b = length-drop k (drop a xs) in
    omega (arith, one, two, t, d, b, h, e)
