-- Cells that are filled.
use Rattle.std.proofs.Common.{◌≡◌, ℕ, zero, suc, ◌+◌, ◌<◌, ◌≤◌, [], ◌∷◌, ◌++◌, length, take, drop, get_or, map}
use Rattle.std.proofs.Common.{Option, Some, None, Bool, true, false, cond, ltb, refl, sym, ◌∙◌, ap, arith}
use Rattle.std.specs.Option.{is_some}
use Rattle.segments.specs.Cells.{Bytes, Cells, fill, fill_at, put, run, known, empties, known_behind, gap, cell}

pub fill_nil : (c : Cells) → fill c [] ≡ c
fill_nil [] = refl
fill_nil (x ∷ c) = refl

-- from a later position on
pub fill_at_behind : (b : Cells) (cs : Cells) (k : ℕ) (ys : Bytes)
    → fill_at (length b + k) (b ++ cs) ys ≡ b ++ fill_at k cs ys
fill_at_behind [] cs k ys = ap (λ n. fill_at n cs ys) (omega arith)
fill_at_behind (c ∷ b) cs k ys =
    let n : suc (length b) + k ≡ suc (length b + k) = omega arith in
    ap (λ m. fill_at m (c ∷ (b ++ cs)) ys) n ∙ ap (λ r. c ∷ r) (fill_at_behind b cs k ys)

pub put_at : (k : ℕ) (ys : Bytes) (cs : Cells) → 0 < length ys → put k ys cs ≡ fill_at k cs ys
put_at k [] cs h = absurd (omega (arith, h))
put_at k (y ∷ ys) cs h = refl

pub put_now : (ys : Bytes) (cs : Cells) → put 0 ys cs ≡ fill cs ys
put_now [] cs = sym (fill_nil cs)
put_now (y ∷ ys) cs = refl

pub put_behind : (b : Cells) (cs : Cells) (k : ℕ) (ys : Bytes)
    → put (length b + k) ys (b ++ cs) ≡ b ++ put k ys cs
put_behind b cs k [] = refl
put_behind b cs k (y ∷ ys) = fill_at_behind b cs k (y ∷ ys)

-- the prefix of present bytes
pub run_some : (b : Bytes) (cs : Cells) → run (map Some b ++ cs) ≡ b ++ run cs
run_some [] cs = refl
run_some (x ∷ b) cs = ap (λ r. x ∷ r) (run_some b cs)

pub run_split : (cs : Cells) → cs ≡ map Some (run cs) ++ drop (length (run cs)) cs
run_split [] = refl
run_split (None ∷ cs) = refl
run_split (Some x ∷ cs) = ap (λ c. Some x ∷ c) (run_split cs)

pub run_drop : (cs : Cells) → run (drop (length (run cs)) cs) ≡ []
run_drop [] = refl
run_drop (None ∷ cs) = refl
run_drop (Some x ∷ cs) = run_drop cs

pub run_low : (cs : Cells) → length (run cs) ≤ length cs
run_low [] = omega arith
run_low (None ∷ cs) = omega arith
run_low (Some x ∷ cs) = let r = run_low cs in omega (arith, r)

-- bytes at the first positions are part of the prefix, and nothing changes after them
pub run_fill_long : (cs : Cells) (ys : Bytes) → length ys ≤ length (run (fill cs ys))
run_fill_long [] [] = omega arith
run_fill_long [] (y ∷ ys) = let r = run_fill_long [] ys in omega (arith, r)
run_fill_long (c ∷ cs) [] = omega arith
run_fill_long (None ∷ cs) (y ∷ ys) = let r = run_fill_long cs ys in omega (arith, r)
run_fill_long (Some x ∷ cs) (y ∷ ys) = let r = run_fill_long cs ys in omega (arith, r)

pub drop_fill : (n : ℕ) (cs : Cells) (ys : Bytes) → length ys ≤ n → drop n (fill cs ys) ≡ drop n cs
drop_fill zero cs [] h = fill_nil cs
drop_fill zero cs (y ∷ ys) h = absurd (omega (arith, h))
drop_fill (suc n) [] [] h = refl
drop_fill (suc n) [] (y ∷ ys) h = drop_fill n [] ys (omega (arith, h)) ∙ nothing n
  where
    nothing : (n : ℕ) → drop {A = Option ℕ} n [] ≡ []
    nothing zero = refl
    nothing (suc n) = refl
drop_fill (suc n) (c ∷ cs) [] h = refl
drop_fill (suc n) (c ∷ cs) (y ∷ ys) h = drop_fill n cs ys (omega (arith, h))

-- no position is added beyond the bytes written
pub fill_low : (cs : Cells) (ys : Bytes) (n : ℕ) → length cs ≤ n → length ys ≤ n
    → length (fill cs ys) ≤ n
fill_low [] [] n h g = h
fill_low [] (y ∷ ys) zero h g = absurd (omega (arith, g))
fill_low [] (y ∷ ys) (suc n) h g = let r = fill_low [] ys n (omega arith) (omega (arith, g)) in
    omega (arith, r)
fill_low (c ∷ cs) [] n h g = h
fill_low (c ∷ cs) (y ∷ ys) zero h g = absurd (omega (arith, h))
fill_low (c ∷ cs) (y ∷ ys) (suc n) h g = let r =
    fill_low cs ys n (omega (arith, h)) (omega (arith, g)) in
    omega (arith, r)

pub fill_at_low : (k : ℕ) (cs : Cells) (ys : Bytes) (n : ℕ) → length cs ≤ n → k + length ys ≤ n
    → length (fill_at k cs ys) ≤ n
fill_at_low zero cs ys n h g = fill_low cs ys n h (omega (arith, g))
fill_at_low (suc k) [] ys zero h g = absurd (omega (arith, g))
fill_at_low (suc k) [] ys (suc n) h g = let r =
    fill_at_low k [] ys n (omega arith) (omega (arith, g)) in
    omega (arith, r)
fill_at_low (suc k) (c ∷ cs) ys zero h g = absurd (omega (arith, h))
fill_at_low (suc k) (c ∷ cs) ys (suc n) h g = let r =
    fill_at_low k cs ys n (omega (arith, h)) (omega (arith, g)) in
    omega (arith, r)

-- an empty first position stays empty if bytes are written after it
pub fill_at_run : (k : ℕ) (cs : Cells) (ys : Bytes) → 0 < k → run cs ≡ []
    → run (fill_at k cs ys) ≡ []
fill_at_run zero cs ys h e = absurd (omega (arith, h))
fill_at_run (suc k) [] ys h e = refl
fill_at_run (suc k) (None ∷ cs) ys h e = refl
fill_at_run (suc k) (Some x ∷ cs) ys h e = absurd cc

-- How many bytes are present.
pub known_low : (cs : Cells) → known cs ≤ length cs
known_low [] = omega arith
known_low (None ∷ cs) = let r = known_low cs in omega (arith, r)
known_low (Some x ∷ cs) = let r = known_low cs in omega (arith, r)

pub known_split : (n : ℕ) (cs : Cells) → known (take n cs) + known (drop n cs) ≡ known cs
known_split zero cs = omega arith
known_split (suc n) [] = refl
known_split (suc n) (None ∷ cs) = known_split n cs
known_split (suc n) (Some x ∷ cs) = let r = known_split n cs in omega (arith, r)

pub behind_some : (b : Bytes) (cs : Cells) → known_behind (map Some b ++ cs) ≡ known_behind cs
behind_some [] cs = refl
behind_some (x ∷ b) cs = behind_some b cs

pub behind_all : (cs : Cells) → run cs ≡ [] → known_behind cs ≡ known cs
behind_all [] e = refl
behind_all (None ∷ cs) e = refl
behind_all (Some x ∷ cs) e = absurd cc

pub empties_low : (cs : Cells) → empties cs ≤ length cs
empties_low [] = omega arith
empties_low (None ∷ cs) = let r = empties_low cs in omega (arith, r)
empties_low (Some x ∷ cs) = omega arith

-- A gap: no byte is present in it, and one after it.
pub gap_low : (cs : Cells) → gap cs ≤ length cs
gap_low cs = go (ltb 0 (known cs))
  where
    go : (t : Bool) → cond t (empties cs) 0 ≤ length cs
    go true = empties_low cs
    go false = omega arith

pub gap_first : (cs : Cells) → 0 < gap cs → run cs ≡ []
gap_first [] h = refl
gap_first (None ∷ cs) h = refl
gap_first (Some x ∷ cs) h = let n = none (ltb 0 (known (Some x ∷ cs))) in
    absurd (omega (arith, h, n))
  where
    none : (t : Bool) → ◌≡◌ {A = ℕ} (cond t 0 0) 0
    none true = refl
    none false = refl

-- The byte at a position.
pub cell_get : (cs : Cells) (i : ℕ) (d : Option ℕ) → i < length cs → cell cs i ≡ get_or cs i d
cell_get [] i d h = absurd (omega (arith, h))
cell_get (c ∷ cs) zero d h = refl
cell_get (c ∷ cs) (suc i) d h = cell_get cs i d (omega (arith, h))

pub cell_none : (cs : Cells) (i : ℕ) → length cs ≤ i → cell cs i ≡ None
cell_none [] i h = refl
cell_none (c ∷ cs) zero h = absurd (omega (arith, h))
cell_none (c ∷ cs) (suc i) h = cell_none cs i (omega (arith, h))

-- The prefix from a position on.
pub run_next : (cs : Cells) (i b : ℕ) → cell cs i ≡ Some b
    → run (drop i cs) ≡ b ∷ run (drop (i + 1) cs)
run_next cs i b e = let n : suc i ≡ i + 1 = omega arith in
    go cs i e ∙ ap (λ k. b ∷ run (drop k cs)) n
  where
    go : (cs : Cells) (i : ℕ) → cell cs i ≡ Some b → run (drop i cs) ≡ b ∷ run (drop (suc i) cs)
    go [] i e = absurd cc
    go (None ∷ cs) zero e = absurd cc
    go (Some x ∷ cs) zero e = let same : x ≡ b = cc in ap (λ y. y ∷ run cs) same
    go (c ∷ cs) (suc i) e = go cs i e

pub run_stops : (cs : Cells) (i : ℕ) → cell cs i ≡ None → run (drop i cs) ≡ []
run_stops [] zero e = refl
run_stops [] (suc i) e = refl
run_stops (None ∷ cs) zero e = refl
run_stops (Some x ∷ cs) zero e = absurd cc
run_stops (c ∷ cs) (suc i) e = run_stops cs i e

pub empties_next : (cs : Cells) (i : ℕ) → i < length cs → cell cs i ≡ None
    → empties (drop i cs) ≡ 1 + empties (drop (i + 1) cs)
empties_next cs i h e =
    let n : suc i ≡ i + 1 = omega arith in
    let m : suc (empties (drop (suc i) cs)) ≡ 1 + empties (drop (suc i) cs) = omega arith in
    go cs i h e ∙ m ∙ ap (λ k. 1 + empties (drop k cs)) n
  where
    go : (cs : Cells) (i : ℕ) → i < length cs → cell cs i ≡ None
        → empties (drop i cs) ≡ suc (empties (drop (suc i) cs))
    go [] i h e = absurd (omega (arith, h))
    go (None ∷ cs) zero h e = refl
    go (Some x ∷ cs) zero h e = absurd cc
    go (c ∷ cs) (suc i) h e = go cs i (omega (arith, h)) e

pub empties_stop : (cs : Cells) (i b : ℕ) → cell cs i ≡ Some b → empties (drop i cs) ≡ 0
empties_stop [] i b e = absurd cc
empties_stop (None ∷ cs) zero b e = absurd cc
empties_stop (Some x ∷ cs) zero b e = refl
empties_stop (c ∷ cs) (suc i) b e = empties_stop cs i b e

pub empties_end : (cs : Cells) (i : ℕ) → length cs ≤ i → empties (drop i cs) ≡ 0
empties_end [] zero h = refl
empties_end [] (suc i) h = refl
empties_end (c ∷ cs) zero h = absurd (omega (arith, h))
empties_end (c ∷ cs) (suc i) h = empties_end cs i (omega (arith, h))

pub some_of : (o : Option ℕ) → is_some o ≡ true → (b : ℕ) × (o ≡ Some b)
some_of None e = absurd cc
some_of (Some b) e = (b, refl)

pub none_of : (o : Option ℕ) → is_some o ≡ false → o ≡ None
none_of None e = refl
none_of (Some b) e = absurd cc
