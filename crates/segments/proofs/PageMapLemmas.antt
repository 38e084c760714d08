-- Pages that are allocated and written.
use Rattle.std.proofs.Common.{◌≡◌, ℕ, zero, suc, ◌+◌, ◌-◌, ◌/◌, ◌%◌, ◌<◌, ◌≤◌, ◌⊎◌, inl, inr, [], ◌∷◌, length}
use Rattle.std.proofs.Common.{replicate, Option, Some, None, Result, Ok, Err, Bool, true, false, cond, ltb, eqb, refl}
use Rattle.std.proofs.Common.{drop, map, take, if◌then◌else◌, sym, ◌∙◌, ap, subst, arith}
use Rattle.std.specs.Prelude.{OnErr}
use Rattle.std.specs.Option.{is_some}
use Rattle.std.specs.Ordering.{is_eq, nat_cmp}
use Rattle.std.specs.declared.cmp.Ordering.TheVariants.{Less, Equal, Greater}
use Rattle.std.proofs.lemmas.Bool.{ltb-true, ltb-false, eqb-true, eqb-false, cases_eq}
use Rattle.std.proofs.lemmas.List.{length-map, length-replicate}
use Rattle.std.proofs.lemmas.Nat.{div-add-mod', mod_below}
use Rattle.segments.specs.Cells.{Bytes, Cells, byte_at, cell, differing, differs, earlier, known, put, run}
use Rattle.segments.specs.Pages.{AreWhole, IsPaged, IsSame, IsWritten, Page, Pages, cell_in, page, page_length, place}
use Rattle.segments.specs.Pages.{places, written}
use Rattle.segments.specs.Places.{over}
use Rattle.segments.proofs.CellLemmas.{cell_none}
use Rattle.segments.proofs.LawLemmas.{cell_put, cell_put_low}
use Rattle.segments.proofs.PageLemmas.{earlier_none, fill_at_long, known_split_at, places_same}

pub on_err : {A E : Type 0} (r : Result A E) (P : Type 0) → P → OnErr r P
on_err (Ok x) P p = tt
on_err (Err e) P p = p

-- The byte at a position of a page that is there.
pub place_in_page : (m : Pages) (j : ℕ) (p : Page) → page m (j / page_length) ≡ Some p
    → place m j ≡ cell p.value (j % page_length)
place_in_page m j p there = ap (λ o. cell_in o (j % page_length)) there

pub place_is : (m : Pages) (at : ℕ) (p : Page) (x : Option ℕ) → page m (at / page_length) ≡ Some p
    → x ≡ cell p.value (at % page_length) → x ≡ place m at
place_is m at p x there is = is ∙ sym (place_in_page m at p there)

-- Whether two page numbers are equal.
eq_of : (a b : ℕ) → is_eq (nat_cmp a b) ≡ true → a ≡ b
eq_of a b e = go (ltb a b) (eqb a b) refl e
  where
    go : (s t : Bool) → eqb a b ≡ t → is_eq (cond s Less (cond t Equal Greater)) ≡ true → a ≡ b
    go true t f e = absurd cc
    go false true f e = eqb-true a b f
    go false false f e = absurd cc

of_eq : (a b : ℕ) → a ≡ b → is_eq (nat_cmp a b) ≡ true
of_eq a b same = ap (λ c. is_eq (nat_cmp a c)) (sym same) ∙ itself
  where
    itself : is_eq (nat_cmp a a) ≡ true
    itself = go (ltb a a) (eqb a a) refl refl
      where
        go : (s t : Bool) → ltb a a ≡ s → eqb a a ≡ t
            → is_eq (cond s Less (cond t Equal Greater)) ≡ true
        go true t e f = absurd (omega (arith, ltb-true a a e))
        go false true e f = refl
        go false false e f = absurd (eqb-false a a f refl)

-- One page is replaced, or new.
abbrev pub IsReplaced : ℕ → Page → Pages → Pages → Type 0
IsReplaced k w m n = (q : ℕ) → page n q ≡ cond (is_eq (nat_cmp k q)) (Some w) (page m q)

pub replaced_whole : (k : ℕ) (w : Page) (m n : Pages) → IsReplaced k w m n → AreWhole m
    → length w.value ≡ page_length
    → AreWhole n
replaced_whole k w m n is whole len = λ q p e. go q p (is_eq (nat_cmp k q)) (sym (is q) ∙ e)
  where
    go : (q : ℕ) (p : Page) (t : Bool) → cond t (Some w) (page m q) ≡ Some p
        → length p.value ≡ page_length
    go q p true e = let same : w ≡ p = cc in ap (λ (v : Page). length v.value) (sym same) ∙ len
    go q p false e = whole q p e

pub replaced_there : (k : ℕ) (w : Page) (m n : Pages) → IsReplaced k w m n → (q : ℕ)
    → is_some (page m q) ≡ true
    → is_some (page n q) ≡ true
replaced_there k w m n is q there = ap is_some (is q) ∙ go (is_eq (nat_cmp k q))
  where
    go : (t : Bool) → is_some (cond t (Some w) (page m q)) ≡ true
    go true = refl
    go false = there

replaced_at : (k : ℕ) (w : Page) (m n : Pages) → IsReplaced k w m n → (j : ℕ) → j / page_length ≡ k
    → place n j ≡ cell w.value (j % page_length)
replaced_at k w m n is j same =
    place_in_page n j w
    (is (j / page_length) ∙ ap (λ t. cond t (Some w) (page m (j / page_length)))
    (of_eq k (j / page_length) (sym same)))

replaced_else : (k : ℕ) (w : Page) (m n : Pages) → IsReplaced k w m n → (j : ℕ)
    → (j / page_length ≡ k → ⊥)
    → place n j ≡ place m j
replaced_else k w m n is j apart =
    ap (λ o. cell_in o (j % page_length))
    (is (j / page_length) ∙ go (is_eq (nat_cmp k (j / page_length))) refl)
  where
    go : (t : Bool) → is_eq (nat_cmp k (j / page_length)) ≡ t
        → cond t (Some w) (page m (j / page_length)) ≡ page m (j / page_length)
    go true e = absurd (apart (sym (eq_of k (j / page_length) e)))
    go false e = refl

none_in : (n i : ℕ) → cell (replicate n None) i ≡ None
none_in zero i = refl
none_in (suc n) zero = refl
none_in (suc n) (suc i) = none_in n i

-- A page that wasn't there is allocated, without bytes.
pub page_made : (k : ℕ) (w : Page) (m n : Pages) → AreWhole m → IsReplaced k w m n
    → is_some (page m k) ≡ false
    → w.value ≡ replicate page_length None
    → IsSame m n
page_made k w m n whole is missing empty = record {
  whole = replaced_whole k w m n is whole
      (ap length empty ∙ length-replicate {A = Option ℕ} page_length None);
  stands = λ j. each j (cases_eq (j / page_length) k);
  there = replaced_there k w m n is;
}
  where
    none_of : (o : Option Page) (i : ℕ) → is_some o ≡ false → cell_in o i ≡ None
    none_of None i e = refl
    none_of (Some p) i e = absurd cc

    each : (j : ℕ) → (j / page_length ≡ k) ⊎ (j / page_length ≡ k → ⊥) → place n j ≡ place m j
    each j (inl same) =
        replaced_at k w m n is j same ∙ ap (λ cs. cell cs (j % page_length)) empty
        ∙ none_in page_length (j % page_length)
        ∙ sym (none_of (page m (j / page_length)) (j % page_length)
        (ap (λ q. is_some (page m q)) same ∙ missing))
    each j (inr apart) = replaced_else k w m n is j apart

pub paged_same : (begin len held : ℕ) (m n : Pages) → IsPaged begin len held m → IsSame m n
    → IsPaged begin len held n
paged_same begin len held m n p s = record {
  whole = s.whole;
  held_is = p.held_is ∙ sym (ap known (places_same len begin m n (λ j h. s.stands j)));
  empty_behind = λ j h. s.stands j ∙ p.empty_behind j h;
  small = p.small;
}

-- Positions of one page.
pub in_page : (at i : ℕ) → at % page_length + i < page_length
    → (at + i) / page_length ≡ at / page_length
in_page at i h =
    let one = div-add-mod' (at + i) page_length in
    let two = div-add-mod' at page_length in
    let low = mod_below (at + i) page_length (omega arith) in
    omega (arith, one, two, low, h)

pub at_in_page : (at i : ℕ) → at % page_length + i < page_length
    → (at + i) % page_length ≡ at % page_length + i
at_in_page at i h =
    let one = div-add-mod' (at + i) page_length in
    let two = div-add-mod' at page_length in
    let same = in_page at i h in
    omega (arith, one, two, same)

part_cons : (r n : ℕ) (v : Cells) → r < length v
    → take (suc n) (drop r v) ≡ cell v r ∷ take n (drop (suc r) v)
part_cons r n [] h = absurd (omega (arith, h))
part_cons zero n (c ∷ v) h = refl
part_cons (suc r) n (c ∷ v) h = part_cons r n v (omega (arith, h))

places_as : (n k : ℕ) (m : Pages) (r : ℕ) (v : Cells) → r + n ≤ length v
    → ((i : ℕ) → i < n → place m (k + i) ≡ cell v (r + i)) → places n k m ≡ take n (drop r v)
places_as zero k m r v long each = refl
places_as (suc n) k m r v long each =
    let e : k ≡ k + 0 = omega arith in
    let f : r + 0 ≡ r = omega arith in
    let first = ap (place m) e ∙ each 0 (omega arith) ∙ ap (cell v) f in
    ap (λ c. c ∷ places n (suc k) m) first
    ∙ ap (λ cs. cell v r ∷ cs) (places_as n (suc k) m (suc r) v (omega (arith, long))
    (λ i h. let a : suc k + i ≡ k + suc i = omega arith in
    let b : r + suc i ≡ suc r + i = omega arith in
    ap (place m) a ∙ each (suc i) (omega (arith, h)) ∙ ap (cell v) b))
    ∙ sym (part_cons r n v (omega (arith, long)))

pub places_there : (m : Pages) (at n : ℕ) (p : Page) → AreWhole m
    → page m (at / page_length) ≡ Some p
    → at % page_length + n ≤ page_length → places n at m ≡ take n (drop (at % page_length) p.value)
places_there m at n p whole there fits =
    places_as n at m (at % page_length) p.value
    (let l = whole (at / page_length) p there in omega (arith, l, fits))
    (λ i h. let low : at % page_length + i < page_length = omega (arith, fits, h) in
    place_in_page m (at + i) p (ap (page m) (in_page at i low) ∙ there)
    ∙ ap (cell p.value) (at_in_page at i low))

pub places_absent : (m : Pages) (at n : ℕ) → page m (at / page_length) ≡ None
    → at % page_length + n ≤ page_length → places n at m ≡ replicate n None
places_absent m at n missing fits =
    none n at (λ i h. ap (λ o. cell_in o ((at + i) % page_length))
    (ap (page m) (in_page at i (omega (arith, fits, h))) ∙ missing))
  where
    none : (n k : ℕ) → ((i : ℕ) → i < n → place m (k + i) ≡ None) → places n k m ≡ replicate n None
    none zero k each = refl
    none (suc n) k each =
        let e : k ≡ k + 0 = omega arith in
        ap (λ c. c ∷ places n (suc k) m) (ap (place m) e ∙ each 0 (omega arith))
        ∙ ap (λ cs. None ∷ cs) (none n (suc k)
        (λ i h. let a : suc k + i ≡ k + suc i = omega arith in ap (place m) a
        ∙ each (suc i) (omega (arith, h))))

-- The result of a look-up of a page.
pub found_is : (m : Pages) (at n k r : ℕ) (p : Page) (v : Cells) → k ≡ at / page_length
    → Some p ≡ page m k → v ≡ p.value
    → r ≡ at % page_length → AreWhole m → at % page_length + n ≤ page_length
    → take n (drop r v) ≡ places n at m
found_is m at n k r p v k_is there v_is r_is whole fits =
    ap (λ x. take n (drop r x)) v_is ∙ ap (λ x. take n (drop x p.value)) r_is
    ∙ sym (places_there m at n p whole (ap (page m) (sym k_is) ∙ sym there) fits)

pub missing_is : (m : Pages) (at n k : ℕ) → k ≡ at / page_length → None ≡ page m k
    → at % page_length + n ≤ page_length → places n at m ≡ replicate n None
missing_is m at n k k_is missing fits =
    places_absent m at n (ap (page m) (sym k_is) ∙ sym missing) fits

-- Positions without bytes.
pub nothing_known : (n : ℕ) → known (replicate n None) ≡ 0
nothing_known zero = refl
nothing_known (suc n) = nothing_known n

pub nothing_runs : (n : ℕ) → run (replicate n None) ≡ []
nothing_runs zero = refl
nothing_runs (suc n) = refl

pub nothing_over : (ys : Bytes) → over (replicate (length ys) None) ys ≡ ys
nothing_over [] = refl
nothing_over (y ∷ ys) = ap (λ r. y ∷ r) (nothing_over ys)

pub nothing_differs : (n k : ℕ) (ys : Bytes) → differing k ys (replicate n None) ≡ 0
nothing_differs n k [] = refl
nothing_differs n k (y ∷ ys) =
    let none : ◌≡◌ {A = ℕ} (if differs (cell (replicate n None) k) y then 1 else 0) 0 =
    ap (λ o. if differs o y then 1 else 0) (none_in n k) in
    let rest = nothing_differs n (suc k) ys in
    omega (arith, none, rest)

-- Bytes are written to positions of one page.
places_same_within : (n k : ℕ) (m m' : Pages)
    → ((j : ℕ) → k ≤ j → j < k + n → place m' j ≡ place m j)
    → places n k m' ≡ places n k m
places_same_within zero k m m' same = refl
places_same_within (suc n) k m m' same =
    let first = same k (omega arith) (omega arith) in
    let others =
    places_same_within n (suc k) m m' (λ j h g. same j (omega (arith, h)) (omega (arith, g))) in
    ap (λ c. c ∷ places n (suc k) m') first ∙ ap (λ cs. place m k ∷ cs) others

pub written_outside : (at : ℕ) (ys : Bytes) (j : ℕ) → (j < at) ⊎ (at + length ys ≤ j)
    → written at ys j ≡ None
written_outside at ys j (inl h) = go (ltb j at) refl
  where
    go : (t : Bool) → ltb j at ≡ t → cond t None (byte_at ys (j - at)) ≡ None
    go true e = refl
    go false e = let g = ltb-false j at e in absurd (omega (arith, h, g))
written_outside at ys j (inr h) = go (ltb j at)
  where
    go : (t : Bool) → cond t None (byte_at ys (j - at)) ≡ None
    go true = refl
    go false = cell_none (map Some ys) (j - at) (let l = length-map ys Some in omega (arith, l, h))

written_inside : (at : ℕ) (ys : Bytes) (j : ℕ) → at ≤ j → written at ys j ≡ byte_at ys (j - at)
written_inside at ys j h = go (ltb j at) refl
  where
    go : (t : Bool) → ltb j at ≡ t → cond t None (byte_at ys (j - at)) ≡ byte_at ys (j - at)
    go true e = let g = ltb-true j at e in absurd (omega (arith, h, g))
    go false e = refl

put_long : (r : ℕ) (ys : Bytes) (v : Cells) → r + length ys ≤ length v
    → length (put r ys v) ≡ length v
put_long r [] v h = refl
put_long r (y ∷ ys) v h = let l = fill_at_long r v (y ∷ ys) (omega arith) in omega (arith, l, h)

-- Some positions change and others don't: how many bytes are present.
counted_around : (m n : Pages) (at len count k l : ℕ)
    → ((j : ℕ) → (j < at) ⊎ (at + len ≤ j) → place n j ≡ place m j)
    → known (places len at n) ≡ known (places len at m) + count → k ≤ at → at + len ≤ k + l
    → known (places l k n) ≡ known (places l k m) + count
counted_around m n at len count k l outside here low high =
    let e : l ≡ (at - k) + (len + (k + l - (at + len))) = omega (arith, low, high) in
    let a : k + (at - k) ≡ at = omega (arith, low) in
    let parts = λ (q : Pages). ap (λ x. known (places x k q)) e
    ∙ known_split_at (at - k) (len + (k + l - (at + len))) k q
    ∙ ap (λ x. known (places (at - k) k q) + known (places (len + (k + l - (at + len))) x q)) a in
    let last = λ (q : Pages). known_split_at len (k + l - (at + len)) at q in
    let front = ap known
    (places_same_within (at - k) k m n (λ j h g. outside j (inl (omega (arith, g, low))))) in
    let behind =
    ap known (places_same_within (k + l - (at + len)) (at + len) m n
    (λ j h g. outside j (inr h))) in
    let pm = parts m in
    let pn = parts n in
    let lm = last m in
    let ln = last n in
    omega (arith, pm, pn, lm, ln, front, behind, here)

pub page_put : (at : ℕ) (ys : Bytes) (p w : Page) (m n : Pages) (count : ℕ) → AreWhole m
    → page m (at / page_length) ≡ Some p → w.value ≡ put (at % page_length) ys p.value
    → IsReplaced (at / page_length) w m n → at % page_length + length ys ≤ page_length
    → known (take (length ys) (drop (at % page_length) w.value))
    ≡ known (take (length ys) (drop (at % page_length) p.value)) + count
    → IsWritten at ys m n count
page_put at ys p w m n count whole there is_put is fits counts = record {
  whole = whole_after;
  stands = λ j. each j (cases_eq (j / page_length) k);
  there = replaced_there k w m n is;
  counted = λ a l low high.
      counted_around m n at (length ys) count a l (λ j apart. outside j apart)
      (ap known (places_there n at (length ys) w whole_after there_after fits) ∙ counts
      ∙ ap (λ v. known v + count)
      (sym (places_there m at (length ys) p whole there fits))) low high;
}
  where
    k : ℕ
    k = at / page_length

    r : ℕ
    r = at % page_length

    there_after : page n k ≡ Some w
    there_after = is k ∙ ap (λ t. cond t (Some w) (page m k)) (of_eq k k refl)

    whole_after : AreWhole n
    whole_after = replaced_whole k w m n is whole
        (ap length is_put
        ∙ put_long r ys p.value (let l = whole k p there in omega (arith, l, fits))
        ∙ whole k p there)

    within : (j : ℕ) → j / page_length ≡ k → (t : Bool) → ltb (j % page_length) r ≡ t
        → cell (put r ys p.value) (j % page_length) ≡ earlier (cell p.value (j % page_length))
        (written at ys j)
    within j same true e =
        let h = ltb-true (j % page_length) r e in
        let one = div-add-mod' j page_length in
        let two = div-add-mod' at page_length in
        cell_put_low r ys p.value (j % page_length) h
        ∙ sym (ap (earlier (cell p.value (j % page_length)))
        (written_outside at ys j (inl (omega (arith, one, two, same, h))))
        ∙ earlier_none (cell p.value (j % page_length)))
    within j same false e =
        let h = ltb-false (j % page_length) r e in
        let one = div-add-mod' j page_length in
        let two = div-add-mod' at page_length in
        let d : j % page_length - r ≡ j - at = omega (arith, one, two, same, h) in
        cell_put r ys p.value (j % page_length) h
        ∙ ap (λ i. earlier (cell p.value (j % page_length)) (byte_at ys i)) d
        ∙ sym (ap (earlier (cell p.value (j % page_length)))
        (written_inside at ys j (omega (arith, one, two, same, h))))

    each : (j : ℕ) → (j / page_length ≡ k) ⊎ (j / page_length ≡ k → ⊥)
        → place n j ≡ earlier (place m j) (written at ys j)
    each j (inl same) =
        replaced_at k w m n is j same ∙ ap (λ cs. cell cs (j % page_length)) is_put
        ∙ within j same (ltb (j % page_length) r) refl
        ∙ ap (λ o. earlier o (written at ys j))
        (sym (place_in_page m j p (ap (page m) same ∙ there)))
    each j (inr apart) =
        replaced_else k w m n is j apart
        ∙ sym (ap (earlier (place m j)) (written_outside at ys j (aside (ltb j at) refl))
        ∙ earlier_none (place m j))
      where
        aside : (t : Bool) → ltb j at ≡ t → (j < at) ⊎ (at + length ys ≤ j)
        aside true e = inl (ltb-true j at e)
        aside false e = inr (behind (ltb j (at + length ys)) refl)
          where
            behind : (t : Bool) → ltb j (at + length ys) ≡ t → at + length ys ≤ j
            behind false f = ltb-false j (at + length ys) f
            behind true f =
                let h = ltb-false j at e in
                let g = ltb-true j (at + length ys) f in
                let one = div-add-mod' j page_length in
                let two = div-add-mod' at page_length in
                let low = mod_below j page_length (omega arith) in
                absurd (apart (omega (arith, one, two, low, h, g, fits)))

    outside : (j : ℕ) → (j < at) ⊎ (at + length ys ≤ j) → place n j ≡ place m j
    outside j apart =
        each j (cases_eq (j / page_length) k)
        ∙ ap (earlier (place m j)) (written_outside at ys j apart) ∙ earlier_none (place m j)

-- Bytes are written to positions of a page that a look-up found.
pub found_put : (at : ℕ) (ys : Bytes) (p w : Page) (m n : Pages) (count k r : ℕ) (v : Cells)
    → k ≡ at / page_length
    → r ≡ at % page_length → Some p ≡ page m k → v ≡ p.value → AreWhole m → w.value ≡ put r ys v
    → IsReplaced k w m n
    → at % page_length + length ys ≤ page_length
    → known (take (length ys) (drop r w.value)) ≡ known (take (length ys) (drop r v)) + count
    → IsWritten at ys m n count
found_put at ys p w m n count k r v k_is r_is there v_is whole is_put is fits counts =
    page_put at ys p w m n count whole (ap (page m) (sym k_is) ∙ sym there)
    (is_put ∙ ap (put r ys) v_is ∙ ap (λ x. put x ys p.value) r_is)
    (subst (λ x. IsReplaced x w m n) k_is is)
    fits
    (ap (λ x. known (take (length ys) (drop x w.value))) (sym r_is) ∙ counts
    ∙ ap (λ x. known (take (length ys) (drop r x)) + count) v_is
    ∙ ap (λ x. known (take (length ys) (drop x p.value)) + count) r_is)
