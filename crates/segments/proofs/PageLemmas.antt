-- Positions in pages.
use Rattle.std.proofs.Common.{◌≡◌, ℕ, zero, suc, ◌+◌, ◌-◌, ◌<◌, ◌≤◌, [], ◌∷◌, ◌++◌, length, drop, map}
use Rattle.std.proofs.Common.{◌^◌, Option, Some, None, Bool, true, false, cond, ltb, refl, sym, ◌∙◌, ap, arith}
use Rattle.std.proofs.Common.{max}
use Rattle.std.proofs.lemmas.Bool.{ltb-true, ltb-false}
use Rattle.std.proofs.lemmas.List.{length-append, length-map}
use Rattle.segments.specs.Cells.{Bytes, Cells, byte_at, cell, earlier, fill, fill_at, known, put}
use Rattle.segments.specs.Pages.{AreWhole, IsPaged, IsWritten, Pages, place, places, written}
use Rattle.segments.proofs.CellLemmas.{cell_none, put_at}
use Rattle.segments.proofs.LawLemmas.{cell_put, cell_put_low}

-- Cells, position by position.
pub cells_eq : (a b : Cells) → length a ≡ length b → ((i : ℕ) → cell a i ≡ cell b i) → a ≡ b
cells_eq [] [] e h = refl
cells_eq [] (y ∷ b) e h = absurd (omega (arith, e))
cells_eq (x ∷ a) [] e h = absurd (omega (arith, e))
cells_eq (x ∷ a) (y ∷ b) e h =
    let first : x ≡ y = h 0 in
    let others : a ≡ b = cells_eq a b (omega (arith, e)) (λ i. h (suc i)) in
    cc

pub earlier_none : (o : Option ℕ) → earlier o None ≡ o
earlier_none None = refl
earlier_none (Some x) = refl

earlier_on : (a b c : Option ℕ) → earlier (earlier a b) c ≡ earlier a (earlier b c)
earlier_on None b c = refl
earlier_on (Some x) b c = refl

pub known_cons : (c : Option ℕ) (xs ys : Cells) (n : ℕ) → known xs ≡ known ys + n
    → known (c ∷ xs) ≡ known (c ∷ ys) + n
known_cons None xs ys n e = e
known_cons (Some x) xs ys n e = omega (arith, e)

-- The number of positions, and their bytes.
pub places_length : (n k : ℕ) (m : Pages) → length (places n k m) ≡ n
places_length zero k m = refl
places_length (suc n) k m = let r = places_length n (suc k) m in omega (arith, r)

pub cell_within : (n k : ℕ) (m : Pages) (i : ℕ) → i < n → cell (places n k m) i ≡ place m (k + i)
cell_within zero k m i h = absurd (omega (arith, h))
cell_within (suc n) k m zero h = let e : k ≡ k + 0 = omega arith in ap (place m) e
cell_within (suc n) k m (suc i) h =
    let e : suc k + i ≡ k + suc i = omega arith in
    cell_within n (suc k) m i (omega (arith, h)) ∙ ap (place m) e

cell_places : (n k : ℕ) (m : Pages) (i : ℕ) → ((j : ℕ) → k + n ≤ j → place m j ≡ None)
    → cell (places n k m) i ≡ place m (k + i)
cell_places n k m i behind = go (ltb i n) refl
  where
    go : (t : Bool) → ltb i n ≡ t → cell (places n k m) i ≡ place m (k + i)
    go true e = cell_within n k m i (ltb-true i n e)
    go false e =
        let h = ltb-false i n e in
        let l = places_length n k m in
        cell_none (places n k m) i (omega (arith, h, l)) ∙ sym (behind (k + i) (omega (arith, h)))

pub places_drop : (a n k : ℕ) (m : Pages) → drop a (places n k m) ≡ places (n - a) (k + a) m
places_drop zero n k m =
    let e : n ≡ n - 0 = omega arith in
    let f : k ≡ k + 0 = omega arith in
    ap (λ x. places x k m) e ∙ ap (λ x. places (n - 0) x m) f
places_drop (suc a) zero k m = let e : 0 ≡ 0 - suc a = omega arith in
    ap (λ x. places x (k + suc a) m) e
places_drop (suc a) (suc n) k m =
    let e : n - a ≡ suc n - suc a = omega arith in
    let f : suc k + a ≡ k + suc a = omega arith in
    places_drop a n (suc k) m ∙ ap (λ x. places x (suc k + a) m) e
    ∙ ap (λ x. places (suc n - suc a) x m) f

pub places_split : (a b k : ℕ) (m : Pages) → places (a + b) k m ≡ places a k m ++ places b (k + a) m
places_split zero b k m =
    let e : 0 + b ≡ b = omega arith in
    let f : k ≡ k + 0 = omega arith in
    ap (λ x. places x k m) e ∙ ap (λ x. places b x m) f
places_split (suc a) b k m =
    let e : suc a + b ≡ suc (a + b) = omega arith in
    let f : suc k + a ≡ k + suc a = omega arith in
    ap (λ x. places x k m) e
    ∙ ap (λ r. place m k ∷ r)
    (places_split a b (suc k) m ∙ ap (λ x. places a (suc k) m ++ places b x m) f)

pub known_append : (a b : Cells) → known (a ++ b) ≡ known a + known b
known_append [] b = let e : known b ≡ 0 + known b = omega arith in e
known_append (None ∷ a) b = known_append a b
known_append (Some x ∷ a) b = let r = known_append a b in omega (arith, r)

pub known_split_at : (n a k : ℕ) (m : Pages)
    → known (places (n + a) k m) ≡ known (places n k m) + known (places a (k + n) m)
known_split_at n a k m = ap known (places_split n a k m)
    ∙ known_append (places n k m) (places a (k + n) m)

pub places_same : (n k : ℕ) (m m' : Pages) → ((j : ℕ) → k ≤ j → place m' j ≡ place m j)
    → places n k m' ≡ places n k m
places_same zero k m m' same = refl
places_same (suc n) k m m' same =
    let first = same k (omega arith) in
    let others = places_same n (suc k) m m' (λ j h. same j (omega (arith, h))) in
    ap (λ c. c ∷ places n (suc k) m') first ∙ ap (λ cs. place m k ∷ cs) others

known_none : (n k : ℕ) (m : Pages) → ((j : ℕ) → k ≤ j → place m j ≡ None) → known (places n k m) ≡ 0
known_none zero k m none = refl
known_none (suc n) k m none =
    ap (λ c. known (c ∷ places n (suc k) m)) (none k (omega arith))
    ∙ known_none n (suc k) m (λ j h. none j (omega (arith, h)))

-- After the last byte nothing is counted.
known_longer : (n a k : ℕ) (m : Pages) → ((j : ℕ) → k + n ≤ j → place m j ≡ None)
    → known (places (n + a) k m) ≡ known (places n k m)
known_longer zero a k m none =
    let e : 0 + a ≡ a = omega arith in
    ap (λ x. known (places x k m)) e ∙ known_none a k m (λ j h. none j (omega (arith, h)))
known_longer (suc n) a k m none =
    let e : suc n + a ≡ suc (n + a) = omega arith in
    let r = known_longer n a (suc k) m (λ j h. none j (omega (arith, h))) in
    let s = known_cons (place m k) (places (n + a) (suc k) m) (places n (suc k) m) 0
    (omega (arith, r)) in
    ap (λ x. known (places x k m)) e
    ∙ (let t : known (place m k ∷ places (n + a) (suc k) m) ≡ known
    (place m k ∷ places n (suc k) m) =
    omega (arith, s) in t)

pub known_all : (n l k : ℕ) (m : Pages) → n ≤ l → ((j : ℕ) → k + n ≤ j → place m j ≡ None)
    → known (places l k m) ≡ known (places n k m)
known_all n l k m h none =
    let e : l ≡ n + (l - n) = omega (arith, h) in
    ap (λ x. known (places x k m)) e ∙ known_longer n (l - n) k m none

-- The bytes written by one block after another.
byte_behind : (x y : Bytes) (i : ℕ)
    → byte_at (x ++ y) i ≡ earlier (byte_at x i)
    (cond (ltb i (length x)) None (byte_at y (i - length x)))
byte_behind [] y i = first (ltb i 0) refl
  where
    first : (t : Bool) → ltb i 0 ≡ t → byte_at y i ≡ cond t None (byte_at y (i - 0))
    first true e = let h = ltb-true i 0 e in absurd (omega (arith, h))
    first false e = let n : i ≡ i - 0 = omega arith in ap (byte_at y) n
byte_behind (c ∷ x) y zero = refl
byte_behind (c ∷ x) y (suc i) =
    let n : i - length x ≡ suc i - suc (length x) = omega arith in
    byte_behind x y i ∙ ap (earlier (byte_at x i))
    (ap (λ k. cond (ltb i (length x)) None (byte_at y k)) n
    ∙ ap (λ t. cond t None (byte_at y (suc i - suc (length x)))) (step i (length x)))
  where
    step : (a b : ℕ) → ltb a b ≡ ltb (suc a) (suc b)
    step a b = go (ltb a b) (ltb (suc a) (suc b)) refl refl
      where
        go : (s t : Bool) → ltb a b ≡ s → ltb (suc a) (suc b) ≡ t → ltb a b ≡ ltb (suc a) (suc b)
        go true true e f = e ∙ sym f
        go false false e f = e ∙ sym f
        go true false e f = let p = ltb-true a b e in let q = ltb-false (suc a) (suc b) f in
            absurd (omega (arith, p, q))
        go false true e f = let p = ltb-false a b e in let q = ltb-true (suc a) (suc b) f in
            absurd (omega (arith, p, q))

written_behind : (at : ℕ) (x y : Bytes) (j : ℕ)
    → earlier (written at x j) (written (at + length x) y j) ≡ written at (x ++ y) j
written_behind at x y j = go (ltb j at) refl
  where
    go : (t : Bool) → ltb j at ≡ t
        → earlier (cond t None (byte_at x (j - at))) (written (at + length x) y j)
        ≡ cond t None (byte_at (x ++ y) (j - at))
    go true e =
        let h = ltb-true j at e in
        front (ltb j (at + length x)) refl (omega (arith, h))
      where
        front : (t : Bool) → ltb j (at + length x) ≡ t → j < at + length x
            → cond t None (byte_at y (j - (at + length x))) ≡ None
        front true f low = refl
        front false f low = let g = ltb-false j (at + length x) f in absurd (omega (arith, g, low))
    go false e =
        let h = ltb-false j at e in
        ap (earlier (byte_at x (j - at)))
        (behind (ltb j (at + length x)) (ltb (j - at) (length x)) refl refl h)
        ∙ sym (byte_behind x y (j - at))
      where
        behind : (s t : Bool) → ltb j (at + length x) ≡ s → ltb (j - at) (length x) ≡ t → at ≤ j
            → cond s None (byte_at y (j - (at + length x))) ≡ cond t None
            (byte_at y (j - at - length x))
        behind true true f g h = refl
        behind false false f g h = let n : j - (at + length x) ≡ j - at - length x = omega arith in
            ap (byte_at y) n
        behind true false f g h =
            let p = ltb-true j (at + length x) f in let q = ltb-false (j - at) (length x) g in
            absurd (omega (arith, p, q, h))
        behind false true f g h =
            let p = ltb-false j (at + length x) f in let q = ltb-true (j - at) (length x) g in
            absurd (omega (arith, p, q, h))

pub written_on : (at at' c d : ℕ) (x y : Bytes) (m n o : Pages) → at' ≡ at + length x
    → IsWritten at x m n c
    → IsWritten at' y n o d → IsWritten at (x ++ y) m o (c + d)
written_on at at' c d x y m n o is first last = record {
  whole = last.whole;
  stands = λ j.
      last.stands j
      ∙ ap (λ p. earlier p (written at' y j)) (first.stands j)
      ∙ earlier_on (place m j) (written at x j) (written at' y j)
      ∙ ap (λ a. earlier (place m j) (earlier (written at x j) (written a y j))) is
      ∙ ap (earlier (place m j)) (written_behind at x y j);
  there = λ k h. last.there k (first.there k h);
  counted = λ k l low high.
      let e = length-append x y in
      let p = first.counted k l low (omega (arith, high, e)) in
      let q = last.counted k l (omega (arith, low, is)) (omega (arith, high, e, is)) in
      omega (arith, p, q);
}

-- Bytes that are written to positions of a window.
fill_long : (cs : Cells) (ys : Bytes) → length (fill cs ys) ≡ max (length cs) (length ys)
fill_long [] ys = length-map ys Some ∙ (let e : length ys ≡ max 0 (length ys) = omega arith in e)
fill_long (c ∷ cs) [] = omega arith
fill_long (c ∷ cs) (y ∷ ys) = let r = fill_long cs ys in omega (arith, r)

pub fill_at_long : (k : ℕ) (cs : Cells) (ys : Bytes) → 0 < length ys
    → length (fill_at k cs ys) ≡ max (length cs) (k + length ys)
fill_at_long zero cs ys some = let r = fill_long cs ys in omega (arith, r)
fill_at_long (suc k) [] ys some = let r = fill_at_long k [] ys some in omega (arith, r, some)
fill_at_long (suc k) (c ∷ cs) ys some = let r = fill_at_long k cs ys some in omega (arith, r)

-- What a Window keeps, and its value, after bytes were written.
pub record IsFuller (begin len held at : ℕ) (ys : Bytes) (m n : Pages)
    (len' held' : ℕ) : Type 0 where
  pub paged : IsPaged begin len' held' n
  pub shows : places len' begin n ≡ fill_at at (places len begin m) ys

pub filled : (begin len held at first count len' : ℕ) (ys : Bytes) (m n : Pages)
    → IsPaged begin len held m
    → IsWritten first ys m n count
    → first ≡ begin + at → len' ≡ max len (at + length ys) → 0 < length ys
    → begin + at + length ys < 2 ^ 64
    → IsFuller begin len held at ys m n len' (held + count)
filled begin len held at first count len' ys m n p w first_is len_is some small = record {
  paged = record {
    whole = w.whole;
    held_is =
        (let c = w.counted begin len' (omega (arith, first_is)) (omega (arith, first_is, len_is)) in
        let a = known_all len len' begin m (omega (arith, len_is)) p.empty_behind in
        let h = p.held_is in
        omega (arith, c, a, h));
    empty_behind = empty;
    small = (let s = p.small in omega (arith, s, small, len_is));
  };
  shows =
      cells_eq (places len' begin n) (fill_at at (places len begin m) ys)
      (let l = places_length len' begin n in let k = places_length len begin m in
      let r = fill_at_long at (places len begin m) ys some in omega (arith, l, k, r, len_is))
      (λ i. cell_places len' begin n i empty ∙ w.stands (begin + i) ∙ same i (ltb i at) refl
      ∙ ap (λ cs. cell cs i) (put_at at ys (places len begin m) some));
}
  where
    written_at : (i : ℕ) (t : Bool) → ltb (begin + i) first ≡ t → first + length ys ≤ begin + i
        → cond t None (byte_at ys (begin + i - first)) ≡ None
    written_at i true e h = refl
    written_at i false e h = cell_none (map Some ys) (begin + i - first)
        (let l = length-map ys Some in omega (arith, l, h))

    written_low : (j : ℕ) → first + length ys ≤ j → (t : Bool)
        → cond t None (byte_at ys (j - first)) ≡ None
    written_low j h true = refl
    written_low j h false =
        cell_none (map Some ys) (j - first) (let l = length-map ys Some in omega (arith, l, h))

    empty : (j : ℕ) → begin + len' ≤ j → place n j ≡ None
    empty j h =
        w.stands j
        ∙ ap (λ o. earlier o (written first ys j)) (p.empty_behind j (omega (arith, h, len_is)))
        ∙ written_low j (omega (arith, h, len_is, first_is)) (ltb j first)

    shown : (i : ℕ) → cell (places len begin m) i ≡ place m (begin + i)
    shown i = cell_places len begin m i p.empty_behind

    in_front : (i : ℕ) → i < at → (t : Bool) → ltb (begin + i) first ≡ t
        → cond t None (byte_at ys (begin + i - first)) ≡ None
    in_front i h true e = refl
    in_front i h false e = let r = ltb-false (begin + i) first e in
        absurd (omega (arith, r, h, first_is))

    there : (i : ℕ) → at ≤ i → (t : Bool) → ltb (begin + i) first ≡ t
        → cond t None (byte_at ys (begin + i - first)) ≡ byte_at ys (i - at)
    there i h true e = let r = ltb-true (begin + i) first e in
        absurd (omega (arith, r, h, first_is))
    there i h false e = let k : begin + i - first ≡ i - at = omega (arith, first_is, h) in
        ap (byte_at ys) k

    same : (i : ℕ) (t : Bool) → ltb i at ≡ t
        → earlier (place m (begin + i)) (written first ys (begin + i)) ≡ cell
        (put at ys (places len begin m)) i
    same i true e =
        let h = ltb-true i at e in
        ap (earlier (place m (begin + i))) (in_front i h (ltb (begin + i) first) refl)
        ∙ earlier_none (place m (begin + i)) ∙ sym (shown i)
        ∙ sym (cell_put_low at ys (places len begin m) i h)
    same i false e =
        let h = ltb-false i at e in
        ap (earlier (place m (begin + i))) (there i h (ltb (begin + i) first) refl)
        ∙ ap (λ o. earlier o (byte_at ys (i - at))) (sym (shown i))
        ∙ sym (cell_put at ys (places len begin m) i h)

-- The first positions are removed.
pub fewer : (begin len held n count : ℕ) (m m' : Pages) → IsPaged begin len held m → AreWhole m'
    → ((j : ℕ) → begin + n ≤ j → place m' j ≡ place m j)
    → n ≤ len → count ≡ known (places n begin m) → IsPaged (begin + n) (len - n) (held - count) m'
fewer begin len held n count m m' p whole same few is = record {
  whole = whole;
  held_is =
      (let e : len ≡ n + (len - n) = omega (arith, few) in
      let s = ap (λ x. known (places x begin m)) e ∙ known_split_at n (len - n) begin m in
      let r = ap known (places_same (len - n) (begin + n) m m' (λ j h. same j h)) in
      let h = p.held_is in
      omega (arith, s, r, h, is));
  empty_behind = λ j h. same j (omega (arith, h)) ∙ p.empty_behind j (omega (arith, h, few));
  small = (let s = p.small in omega (arith, s, few));
}

pub few_known : (begin len held n count : ℕ) (m : Pages) → IsPaged begin len held m → n ≤ len
    → count ≡ known (places n begin m) → count ≤ held
few_known begin len held n count m p few is =
    let e : len ≡ n + (len - n) = omega (arith, few) in
    let s = ap (λ x. known (places x begin m)) e in
    let r = known_split_at n (len - n) begin m in
    let h = p.held_is in
    omega (arith, s, r, h, is)
