-- Bytes that are present if a mark is set.
use Rattle.std.proofs.Common.{◌≡◌, ℕ, zero, suc, ◌+◌, ◌<◌, ◌≤◌, List, [], ◌∷◌, ◌++◌, length, take, drop, get_or, set}
use Rattle.std.proofs.Common.{replicate, Some, None, Bool, true, false, cond, refl, sym, ◌∙◌, ap, arith, append-nil, append_assoc}
use Rattle.std.proofs.Common.{if◌then◌else◌, inr, not, ◌==◌, eqb}
use Rattle.std.proofs.Math.Seq.{take-suc}
use Rattle.std.proofs.lemmas.Bool.{eqb-true, eqb-false}
use Rattle.std.proofs.lemmas.List.{drop_all, length-replicate, take_all, take-append-drop}
use Rattle.segments.specs.Cells.{Bytes, Cells, cell, differing, differs, fill, known, or_else, run}
use Rattle.segments.specs.Pages.{marked, set_marks}
use Rattle.segments.specs.Places.{over, standing}
use Rattle.segments.proofs.CellLemmas.{fill_nil, run_next, run_stops}
use Rattle.segments.proofs.PlaceLemmas.{IsAppending, appended_all, appended_one, differing_one, over_end, over_next}

pub marked_length : (ms : List Bool) (bs : Bytes) → length bs ≡ length ms
    → length (marked ms bs) ≡ length ms
marked_length [] bs e = refl
marked_length (m ∷ ms) [] e = absurd (omega (arith, e))
marked_length (m ∷ ms) (b ∷ bs) e = let r = marked_length ms bs (omega (arith, e)) in
    omega (arith, r)

pub marked_take : (n : ℕ) (ms : List Bool) (bs : Bytes)
    → marked (take n ms) (take n bs) ≡ take n (marked ms bs)
marked_take zero ms bs = refl
marked_take (suc n) [] bs = refl
marked_take (suc n) (m ∷ ms) [] = refl
marked_take (suc n) (m ∷ ms) (b ∷ bs) = ap (λ r. (cond m (Some b) None) ∷ r) (marked_take n ms bs)

nothing_marked : (ms : List Bool) → marked ms [] ≡ []
nothing_marked [] = refl
nothing_marked (m ∷ ms) = refl

pub marked_drop : (n : ℕ) (ms : List Bool) (bs : Bytes)
    → marked (drop n ms) (drop n bs) ≡ drop n (marked ms bs)
marked_drop zero ms bs = refl
marked_drop (suc n) [] bs = refl
marked_drop (suc n) (m ∷ ms) [] = nothing_marked (drop n ms)
marked_drop (suc n) (m ∷ ms) (b ∷ bs) = marked_drop n ms bs

pub marked_append : (ms ns : List Bool) (bs cs : Bytes) → length bs ≡ length ms
    → marked (ms ++ ns) (bs ++ cs) ≡ marked ms bs ++ marked ns cs
marked_append [] ns [] cs e = refl
marked_append [] ns (b ∷ bs) cs e = absurd (omega (arith, e))
marked_append (m ∷ ms) ns [] cs e = absurd (omega (arith, e))
marked_append (m ∷ ms) ns (b ∷ bs) cs e =
    ap (λ r. (cond m (Some b) None) ∷ r) (marked_append ms ns bs cs (omega (arith, e)))

-- The byte at a position.
pub cell_unmarked : (ms : List Bool) (bs : Bytes) (i : ℕ) → get_or ms i false ≡ false
    → cell (marked ms bs) i ≡ None
cell_unmarked [] bs i e = refl
cell_unmarked (m ∷ ms) [] i e = refl
cell_unmarked (m ∷ ms) (b ∷ bs) zero e = ap (λ (t : Bool). cond t (Some b) None) e
cell_unmarked (m ∷ ms) (b ∷ bs) (suc i) e = cell_unmarked ms bs i e

pub cell_marked : (ms : List Bool) (bs : Bytes) (i : ℕ) → get_or ms i false ≡ true
    → length bs ≡ length ms
    → cell (marked ms bs) i ≡ Some (get_or bs i 0)
cell_marked [] bs i e l = absurd cc
cell_marked (m ∷ ms) [] i e l = absurd (omega (arith, l))
cell_marked (m ∷ ms) (b ∷ bs) zero e l = ap (λ (t : Bool). cond t (Some b) None) e
cell_marked (m ∷ ms) (b ∷ bs) (suc i) e l = cell_marked ms bs i e (omega (arith, l))

pub empty_page : (n : ℕ) → marked (replicate n false) (replicate n 0) ≡ replicate n None
empty_page zero = refl
empty_page (suc n) = ap (λ r. None ∷ r) (empty_page n)

-- How many marks are set.
pub set_marks_low : (ms : List Bool) → set_marks ms ≤ length ms
set_marks_low [] = omega arith
set_marks_low (true ∷ ms) = let r = set_marks_low ms in omega (arith, r)
set_marks_low (false ∷ ms) = let r = set_marks_low ms in omega (arith, r)

pub known_marked : (ms : List Bool) (bs : Bytes) → length bs ≡ length ms
    → known (marked ms bs) ≡ set_marks ms
known_marked [] bs l = refl
known_marked (m ∷ ms) [] l = absurd (omega (arith, l))
known_marked (true ∷ ms) (b ∷ bs) l = let r = known_marked ms bs (omega (arith, l)) in
    omega (arith, r)
known_marked (false ∷ ms) (b ∷ bs) l = let r = known_marked ms bs (omega (arith, l)) in
    omega (arith, r)

pub standing_marks : (ms : List Bool) (bs : Bytes) (n : ℕ) → length bs ≡ length ms
    → n ≡ known (marked ms bs)
    → set_marks ms ≡ n
standing_marks ms bs n l e = sym (e ∙ known_marked ms bs l)

pub set_marks_append : (a b : List Bool) → set_marks (a ++ b) ≡ set_marks a + set_marks b
set_marks_append [] b = let e : set_marks b ≡ 0 + set_marks b = omega arith in e
set_marks_append (true ∷ a) b = let r = set_marks_append a b in omega (arith, r)
set_marks_append (false ∷ a) b = let r = set_marks_append a b in omega (arith, r)

pub set_marks_split : (n : ℕ) (ms : List Bool)
    → set_marks (take n ms) + set_marks (drop n ms) ≡ set_marks ms
set_marks_split n ms = sym (set_marks_append (take n ms) (drop n ms))
    ∙ ap set_marks (take-append-drop n ms)

pub set_marks_next : (ms : List Bool) (i : ℕ) → i < length ms
    → set_marks (take (i + 1) ms) ≡ set_marks (take i ms) + (cond (get_or ms i false) 1 0)
set_marks_next ms i h = let n : i + 1 ≡ suc i = omega arith in
    ap (λ k. set_marks (take k ms)) n ∙ go ms i h
  where
    go : (ms : List Bool) (i : ℕ) → i < length ms
        → set_marks (take (suc i) ms) ≡ set_marks (take i ms) + (cond (get_or ms i false) 1 0)
    go [] i h = absurd (omega (arith, h))
    go (m ∷ ms) zero h = omega arith
    go (m ∷ ms) (suc i) h = let r = go ms i (omega (arith, h)) in omega (arith, r)

-- If none is present, and if all are.
pub over_none : (ms : List Bool) (bs ys : Bytes) → set_marks ms ≡ 0 → over (marked ms bs) ys ≡ ys
over_none [] bs ys e = refl
over_none (m ∷ ms) [] ys e = refl
over_none (m ∷ ms) (b ∷ bs) [] e = refl
over_none (true ∷ ms) (b ∷ bs) (y ∷ ys) e = absurd (omega (arith, e))
over_none (false ∷ ms) (b ∷ bs) (y ∷ ys) e = ap (λ r. y ∷ r) (over_none ms bs ys (omega (arith, e)))

pub over_all : (ms : List Bool) (bs ys : Bytes) → length bs ≡ length ms → length ys ≡ length ms
    → set_marks ms ≡ length ms → over (marked ms bs) ys ≡ bs
over_all [] [] [] l k e = refl
over_all [] [] (y ∷ ys) l k e = absurd (omega (arith, k))
over_all [] (b ∷ bs) ys l k e = absurd (omega (arith, l))
over_all (m ∷ ms) [] ys l k e = absurd (omega (arith, l))
over_all (m ∷ ms) (b ∷ bs) [] l k e = absurd (omega (arith, k))
over_all (true ∷ ms) (b ∷ bs) (y ∷ ys) l k e =
    ap (λ r. b ∷ r) (over_all ms bs ys (omega (arith, l)) (omega (arith, k)) (omega (arith, e)))
over_all (false ∷ ms) (b ∷ bs) (y ∷ ys) l k e = let low = set_marks_low ms in
    absurd (omega (arith, e, low))

pub run_all : (ms : List Bool) (bs : Bytes) → length bs ≡ length ms → set_marks ms ≡ length ms
    → run (marked ms bs) ≡ bs
run_all [] [] l e = refl
run_all [] (b ∷ bs) l e = absurd (omega (arith, l))
run_all (m ∷ ms) [] l e = absurd (omega (arith, l))
run_all (true ∷ ms) (b ∷ bs) l e =
    ap (λ r. b ∷ r) (run_all ms bs (omega (arith, l)) (omega (arith, e)))
run_all (false ∷ ms) (b ∷ bs) l e = let low = set_marks_low ms in absurd (omega (arith, e, low))

pub fill_all : (ms : List Bool) (bs ys : Bytes) → length bs ≡ length ms → length ys ≡ length ms
    → set_marks ms ≡ length ms → fill (marked ms bs) ys ≡ marked ms bs
fill_all [] bs [] l k e = refl
fill_all [] bs (y ∷ ys) l k e = absurd (omega (arith, k))
fill_all (m ∷ ms) [] ys l k e = absurd (omega (arith, l))
fill_all (m ∷ ms) (b ∷ bs) [] l k e = absurd (omega (arith, k))
fill_all (true ∷ ms) (b ∷ bs) (y ∷ ys) l k e =
    ap (λ r. Some b ∷ r)
    (fill_all ms bs ys (omega (arith, l)) (omega (arith, k)) (omega (arith, e)))
fill_all (false ∷ ms) (b ∷ bs) (y ∷ ys) l k e = let low = set_marks_low ms in
    absurd (omega (arith, e, low))

pub fill_none : (ms : List Bool) (bs ys : Bytes) → length bs ≡ length ms → length ys ≡ length ms
    → set_marks ms ≡ 0 → marked (replicate (length ms) true) ys ≡ fill (marked ms bs) ys
fill_none [] bs [] l k e = refl
fill_none [] bs (y ∷ ys) l k e = absurd (omega (arith, k))
fill_none (m ∷ ms) [] ys l k e = absurd (omega (arith, l))
fill_none (m ∷ ms) (b ∷ bs) [] l k e = absurd (omega (arith, k))
fill_none (true ∷ ms) (b ∷ bs) (y ∷ ys) l k e = absurd (omega (arith, e))
fill_none (false ∷ ms) (b ∷ bs) (y ∷ ys) l k e =
    ap (λ r. Some y ∷ r)
    (fill_none ms bs ys (omega (arith, l)) (omega (arith, k)) (omega (arith, e)))

pub set_marks_all : (n : ℕ) → set_marks (replicate n true) ≡ n
set_marks_all zero = refl
set_marks_all (suc n) = let r = set_marks_all n in omega (arith, r)

-- The bytes up to the first gap, one by one.
pub run_so_far : (ms : List Bool) (bs : Bytes) (i : ℕ) → length bs ≡ length ms → i < length ms
    → get_or ms i false ≡ true → run (marked ms bs) ≡ take i bs ++ run (drop i (marked ms bs))
    → run (marked ms bs) ≡ take (i + 1) bs ++ run (drop (i + 1) (marked ms bs))
run_so_far ms bs i l h e so =
    let n : suc i ≡ i + 1 = omega arith in
    so
    ∙ ap (λ r. take i bs ++ r) (run_next (marked ms bs) i (get_or bs i 0) (cell_marked ms bs i e l))
    ∙ sym (append_assoc (take i bs) (get_or bs i 0 ∷ []) (run (drop (i + 1) (marked ms bs))))
    ∙ ap (λ r. r ++ run (drop (i + 1) (marked ms bs)))
    (sym (take-suc bs i 0 (omega (arith, h, l))) ∙ ap (λ k. take k bs) n)

pub run_ends : (ms : List Bool) (bs : Bytes) (i : ℕ) → get_or ms i false ≡ false
    → run (marked ms bs) ≡ take i bs ++ run (drop i (marked ms bs)) → take i bs ≡ run (marked ms bs)
run_ends ms bs i e so =
    sym (so ∙ ap (λ r. take i bs ++ r) (run_stops (marked ms bs) i (cell_unmarked ms bs i e))
    ∙ append-nil (take i bs))

pub run_ended : (ms : List Bool) (bs : Bytes) (i : ℕ) → length bs ≡ length ms → length ms ≤ i
    → run (marked ms bs) ≡ take i bs ++ run (drop i (marked ms bs)) → bs ≡ run (marked ms bs)
run_ended ms bs i l h so =
    sym (so
    ∙ ap (λ c. take i bs ++ run c)
    (drop_all i (marked ms bs) (let r = marked_length ms bs l in omega (arith, r, h)))
    ∙ append-nil (take i bs) ∙ take_all i bs (omega (arith, l, h)))

-- Bytes written one by one.
pub record IsFilling (cs : Cells) (ys : Bytes) (i count : ℕ) (now : Cells) : Type 0 where
  pub is : now ≡ fill cs (take i ys)
  pub counted : known now ≡ known cs + count
  pub low : count ≤ i

fill_cell : (cs : Cells) (ys : Bytes) (i : ℕ) → i < length cs
    → cell (fill cs (take i ys)) i ≡ cell cs i
fill_cell [] ys i h = absurd (omega (arith, h))
fill_cell (c ∷ cs) [] zero h = refl
fill_cell (c ∷ cs) [] (suc i) h = refl
fill_cell (c ∷ cs) (y ∷ ys) zero h = refl
fill_cell (c ∷ cs) (y ∷ ys) (suc i) h = fill_cell cs ys i (omega (arith, h))

fill_step : (cs : Cells) (ys : Bytes) (i d : ℕ) → i < length cs → i < length ys
    → fill cs (take (suc i) ys) ≡ set (fill cs (take i ys)) i (or_else (cell cs i) (get_or ys i d))
fill_step [] ys i d h g = absurd (omega (arith, h))
fill_step (c ∷ cs) [] i d h g = absurd (omega (arith, g))
fill_step (c ∷ cs) (y ∷ ys) zero d h g = ap (λ r. or_else c y ∷ r) (fill_nil cs)
fill_step (c ∷ cs) (y ∷ ys) (suc i) d h g =
    ap (λ r. or_else c y ∷ r) (fill_step cs ys i d (omega (arith, h)) (omega (arith, g)))

marked_set : (ms : List Bool) (bs : Bytes) (i y : ℕ)
    → marked (set ms i true) (set bs i y) ≡ set (marked ms bs) i (Some y)
marked_set [] bs i y = refl
marked_set (m ∷ ms) [] zero y = refl
marked_set (m ∷ ms) [] (suc i) y = refl
marked_set (m ∷ ms) (b ∷ bs) zero y = refl
marked_set (m ∷ ms) (b ∷ bs) (suc i) y = ap (λ r. (cond m (Some b) None) ∷ r) (marked_set ms bs i y)

known_more : (cs : Cells) (i y : ℕ) → i < length cs → cell cs i ≡ None
    → known (set cs i (Some y)) ≡ known cs + 1
known_more [] i y h e = absurd (omega (arith, h))
known_more (None ∷ cs) zero y h e = omega arith
known_more (Some x ∷ cs) zero y h e = absurd cc
known_more (None ∷ cs) (suc i) y h e = known_more cs i y (omega (arith, h)) e
known_more (Some x ∷ cs) (suc i) y h e = let r = known_more cs i y (omega (arith, h)) e in
    omega (arith, r)

set_same : (cs : Cells) (i y b : ℕ) → cell cs i ≡ Some b → set cs i (or_else (cell cs i) y) ≡ cs
set_same [] i y b e = refl
set_same (c ∷ cs) zero y b e = ap (λ o. o ∷ cs) (ap (λ o. or_else o y) e ∙ sym e)
set_same (c ∷ cs) (suc i) y b e = ap (λ r. c ∷ r) (set_same cs i y b e)

pub filling_starts : (cs : Cells) (ys : Bytes) → IsFilling cs ys 0 0 cs
filling_starts cs ys = record {
  is = sym (fill_nil cs);
  counted = (let e : known cs ≡ known cs + 0 = omega arith in e);
  low = omega arith;
}

pub filling_put : (cs : Cells) (ys : Bytes) (i count count' : ℕ) (ms ms' : List Bool)
    (bs bs' : Bytes)
    → IsFilling cs ys i count (marked ms bs) → i < length ms → length bs ≡ length ms
    → length cs ≡ length ms
    → length ys ≡ length ms → get_or ms i false ≡ false
    → ms' ≡ set ms i true → bs' ≡ set bs i (get_or ys i 0) → count' ≡ count + 1
    → IsFilling cs ys (i + 1) count' (marked ms' bs')
filling_put cs ys i count count' ms ms' bs bs' so h l k m e ms_is bs_is more = record {
  is =
      (let n : suc i ≡ i + 1 = omega arith in
      now
      ∙ ap (λ c. set c i (Some (get_or ys i 0))) so.is
      ∙ ap (λ o. set (fill cs (take i ys)) i (or_else o (get_or ys i 0))) (sym none)
      ∙ sym (fill_step cs ys i 0 (omega (arith, h, k)) (omega (arith, h, m)))
      ∙ ap (λ j. fill cs (take j ys)) n);
  counted =
      (let long = marked_length ms bs l in
      let one = ap known now
      ∙ known_more (marked ms bs) i (get_or ys i 0) (omega (arith, h, long))
      (cell_unmarked ms bs i e) in
      let c = so.counted in
      omega (arith, one, c, more));
  low = (let c = so.low in omega (arith, c, more));
}
  where
    now : marked ms' bs' ≡ set (marked ms bs) i (Some (get_or ys i 0))
    now = ap (λ (m : List Bool). marked m bs') ms_is ∙ ap (marked (set ms i true)) bs_is
        ∙ marked_set ms bs i (get_or ys i 0)

    none : cell cs i ≡ None
    none = sym (fill_cell cs ys i (omega (arith, h, k))) ∙ ap (λ c. cell c i) (sym so.is)
        ∙ cell_unmarked ms bs i e

pub filling_kept : (cs : Cells) (ys : Bytes) (i count count' : ℕ) (ms ms' : List Bool)
    (bs bs' : Bytes)
    → IsFilling cs ys i count (marked ms bs) → i < length ms → length bs ≡ length ms
    → length cs ≡ length ms
    → length ys ≡ length ms → get_or ms i false ≡ true
    → ms' ≡ ms → bs' ≡ bs → count' ≡ count
    → IsFilling cs ys (i + 1) count' (marked ms' bs')
filling_kept cs ys i count count' ms ms' bs bs' so h l k m e ms_is bs_is more = record {
  is =
      (let n : suc i ≡ i + 1 = omega arith in
      now ∙ so.is
      ∙ sym (set_same (fill cs (take i ys)) i (get_or ys i 0) (get_or bs i 0) stands)
      ∙ ap (λ o. set (fill cs (take i ys)) i (or_else o (get_or ys i 0)))
      (fill_cell cs ys i (omega (arith, h, k)))
      ∙ sym (fill_step cs ys i 0 (omega (arith, h, k)) (omega (arith, h, m)))
      ∙ ap (λ j. fill cs (take j ys)) n);
  counted = ap known now ∙ so.counted ∙ ap (λ n. known cs + n) (sym more);
  low = (let c = so.low in omega (arith, c, more));
}
  where
    now : marked ms' bs' ≡ marked ms bs
    now = ap (λ (m : List Bool). marked m bs') ms_is ∙ ap (marked ms) bs_is

    stands : cell (fill cs (take i ys)) i ≡ Some (get_or bs i 0)
    stands = ap (λ c. cell c i) (sym so.is) ∙ cell_marked ms bs i e l

pub filling_ends : (cs : Cells) (ys : Bytes) (i count : ℕ) (now : Cells)
    → IsFilling cs ys i count now → length ys ≤ i
    → now ≡ fill cs ys
filling_ends cs ys i count now so h = so.is ∙ ap (fill cs) (take_all i ys h)

-- The byte that is appended for a position.
pub standing_marked : (ms : List Bool) (bs : Bytes) (i y : ℕ) → length bs ≡ length ms
    → get_or ms i false ≡ true
    → get_or bs i 0 ≡ standing (cell (marked ms bs) i) y
standing_marked ms bs i y l e = sym (ap (λ o. standing o y) (cell_marked ms bs i e l))

pub standing_unmarked : (ms : List Bool) (bs : Bytes) (i y : ℕ) → get_or ms i false ≡ false
    → y ≡ standing (cell (marked ms bs) i) y
standing_unmarked ms bs i y e = sym (ap (λ o. standing o y) (cell_unmarked ms bs i e))

pub over_one : (out out' out0 : Bytes) (ms : List Bool) (bs ys : Bytes) (i b : ℕ)
    → length bs ≡ length ms
    → length ys ≡ length ms → i < length ms
    → IsAppending out out0 (over (drop i (marked ms bs)) (drop i ys)) (over (marked ms bs) ys)
    → out' ≡ out ++ b ∷ [] → b ≡ standing (cell (marked ms bs) i) (get_or ys i 0)
    → IsAppending out' out0 (over (drop (i + 1) (marked ms bs)) (drop (i + 1) ys))
    (over (marked ms bs) ys)
over_one out out' out0 ms bs ys i b l k h so put is =
    appended_one out out' out0 (over (marked ms bs) ys) (over (drop i (marked ms bs)) (drop i ys))
    (over (drop (i + 1) (marked ms bs)) (drop (i + 1) ys)) b so
    (over_next (marked ms bs) ys i 0 (let r = marked_length ms bs l in omega (arith, r, h))
    (omega (arith, h, k))
    ∙ ap (λ c. c ∷ over (drop (i + 1) (marked ms bs)) (drop (i + 1) ys)) (sym is))
    put

pub over_done : (out out0 : Bytes) (cs : Cells) (ys : Bytes) (i : ℕ) → length ys ≤ i
    → IsAppending out out0 (over (drop i cs) (drop i ys)) (over cs ys) → out ≡ out0 ++ over cs ys
over_done out out0 cs ys i h so =
    appended_all out out0 (over cs ys) (over (drop i cs) (drop i ys)) so
    (over_end cs ys i (inr h) ∙ drop_all i ys h)

pub unlike_one : (ms : List Bool) (bs ys : Bytes) (i count count' all : ℕ) (t u : Bool)
    → length bs ≡ length ms
    → length ys ≡ length ms → i < length ys → get_or ms i false ≡ t
    → not (get_or bs i 0 == get_or ys i 0) ≡ u
    → count' ≡ count + cond t (cond u 1 0) 0
    → count + differing (0 + i) (drop i ys) (marked ms bs) ≡ all
    → count' + differing (0 + (i + 1)) (drop (i + 1) ys) (marked ms bs) ≡ all
unlike_one ms bs ys i count count' all t u l k h mark unlike more so =
    let next = differing_one (marked ms bs) ys 0 i h in
    let here = emitted t mark in
    omega (arith, next, here, more, so)
  where
    zero_at : 0 + i ≡ i
    zero_at = omega arith

    emitted : (s : Bool) → get_or ms i false ≡ s
        → ◌≡◌ {A = ℕ} (if differs (cell (marked ms bs) (0 + i)) (get_or ys i 0) then 1 else 0)
        (cond s (cond u 1 0) 0)
    emitted true e =
        ap (λ j. if differs (cell (marked ms bs) j) (get_or ys i 0) then 1 else 0) zero_at
        ∙ ap (λ o. if differs o (get_or ys i 0) then 1 else 0) (cell_marked ms bs i e l)
        ∙ ap (λ (v : Bool). cond v 1 0) unlike
    emitted false e =
        ap (λ j. if differs (cell (marked ms bs) j) (get_or ys i 0) then 1 else 0) zero_at
        ∙ ap (λ o. if differs o (get_or ys i 0) then 1 else 0) (cell_unmarked ms bs i e)

pub counted_mark : (ms : List Bool) (i count count' : ℕ) (t : Bool) → i < length ms
    → get_or ms i false ≡ t
    → count ≡ set_marks (take i ms) → count' ≡ count + cond t 1 0
    → count' ≡ set_marks (take (i + 1) ms)
counted_mark ms i count count' t h e so more =
    more ∙ ap (λ c. c + cond t 1 0) so
    ∙ ap (λ (v : Bool). set_marks (take i ms) + cond v 1 0) (sym e)
    ∙ sym (set_marks_next ms i h)

pub unlike_is : (a b : ℕ) → (a ≡ b → ⊥) → not (a == b) ≡ true
unlike_is a b apart = go (eqb a b) refl
  where
    go : (t : Bool) → eqb a b ≡ t → not t ≡ true
    go true e = absurd (apart (eqb-true a b e))
    go false e = refl

pub alike_is : (a b : ℕ) → a ≡ b → not (a == b) ≡ false
alike_is a b same = go (eqb a b) refl
  where
    go : (t : Bool) → eqb a b ≡ t → not t ≡ false
    go true e = refl
    go false e = absurd (eqb-false a b e same)

-- All are written at once.
pub none_filled : (ms ms' : List Bool) (bs bs' ys : Bytes) → length bs ≡ length ms
    → length ys ≡ length ms
    → set_marks ms ≡ 0 → ms' ≡ replicate (length ms) true → bs' ≡ ys
    → marked ms' bs' ≡ fill (marked ms bs) ys
none_filled ms ms' bs bs' ys l k e all put =
    ap (λ (m : List Bool). marked m bs') all ∙ ap (marked (replicate (length ms) true)) put
    ∙ fill_none ms bs ys l k e

pub none_counted : (ms ms' : List Bool) (bs bs' ys : Bytes) → length bs ≡ length ms
    → length ys ≡ length ms
    → set_marks ms ≡ 0 → ms' ≡ replicate (length ms) true → bs' ≡ ys
    → known (marked ms' bs') ≡ known (marked ms bs) + length ys
none_counted ms ms' bs bs' ys l k e all put =
    let long = length-replicate {A = Bool} (length ms) true in
    let new = ap (λ (m : List Bool). marked m bs') all
    ∙ ap (marked (replicate (length ms) true)) put in
    let count = ap known new ∙ known_marked (replicate (length ms) true) ys (omega (arith, long, k))
    ∙ set_marks_all (length ms) in
    let old = known_marked ms bs l in
    omega (arith, count, old, e, k)
