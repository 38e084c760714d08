-- Streams, position by position.
use Rattle.std.proofs.Common.{◌≡◌, ◌↔◌, ◌⊎◌, inl, inr, ℕ, zero, suc, ◌+◌, ◌-◌, ◌*◌, ◌/◌, ◌%◌, ◌^◌, ◌<◌, ◌≤◌, List, []}
use Rattle.std.proofs.Common.{◌∷◌, ◌++◌, length, take, drop, Option, Some, None, Bool, true, false, cond, ltb, refl}
use Rattle.std.proofs.Common.{sym, ◌∙◌, ap, subst, arith, append_assoc, le_refl}
use Rattle.std.specs.Option.{IsSome}
use Rattle.std.proofs.lemmas.Bool.{ltb-true, ltb-false}
use Rattle.std.proofs.lemmas.List.{length-append, take_at, take-append-drop, length-take-le}
use Rattle.std.proofs.lemmas.Nat.{div-add-mod', mod_below, mod_low}
use Rattle.segments.specs.Cells.{Bytes, Cells, Held, byte_at, cell, earlier, fill, fill_at, put, run, wanted, ahead}
use Rattle.segments.specs.Cells.{located, with_located, with_segment, without_front}
use Rattle.segments.proofs.CellLemmas.{run_drop}
use Rattle.segments.specs.Law.{Segment, place_of, IsPart, AreParts, IsOver, IsCovered, IsLongestFront, IsMadeOf}
use Rattle.segments.specs.Law.{IsAmong}

-- Filled cells, position by position.
cell_fill : (cs : Cells) (ys : Bytes) (i : ℕ)
    → cell (fill cs ys) i ≡ earlier (cell cs i) (byte_at ys i)
cell_fill [] ys i = refl
cell_fill (None ∷ cs) [] zero = refl
cell_fill (Some x ∷ cs) [] zero = refl
cell_fill (c ∷ cs) [] (suc i) = none (cell cs i)
  where
    none : (o : Option ℕ) → o ≡ earlier o None
    none None = refl
    none (Some x) = refl
cell_fill (None ∷ cs) (y ∷ ys) zero = refl
cell_fill (Some x ∷ cs) (y ∷ ys) zero = refl
cell_fill (c ∷ cs) (y ∷ ys) (suc i) = cell_fill cs ys i

cell_fill_at : (k : ℕ) (cs : Cells) (ys : Bytes) (i : ℕ)
    → cell (fill_at k cs ys) (k + i) ≡ earlier (cell cs (k + i)) (byte_at ys i)
cell_fill_at zero cs ys i = let n : 0 + i ≡ i = omega arith in
    ap (cell (fill cs ys)) n ∙ cell_fill cs ys i
    ∙ ap (λ n. earlier (cell cs n) (byte_at ys i)) (sym n)
cell_fill_at (suc k) [] ys i = let n : suc k + i ≡ suc (k + i) = omega arith in
    ap (cell (None ∷ fill_at k [] ys)) n ∙ cell_fill_at k [] ys i
cell_fill_at (suc k) (c ∷ cs) ys i = let n : suc k + i ≡ suc (k + i) = omega arith in
    ap (cell (c ∷ fill_at k cs ys)) n ∙ cell_fill_at k cs ys i
    ∙ ap (λ m. earlier (cell (c ∷ cs) m) (byte_at ys i)) (sym n)

cell_fill_low : (k : ℕ) (cs : Cells) (ys : Bytes) (i : ℕ) → i < k
    → cell (fill_at k cs ys) i ≡ cell cs i
cell_fill_low zero cs ys i h = absurd (omega (arith, h))
cell_fill_low (suc k) [] ys zero h = refl
cell_fill_low (suc k) (c ∷ cs) ys zero h = refl
cell_fill_low (suc k) [] ys (suc i) h = cell_fill_low k [] ys i (omega (arith, h))
cell_fill_low (suc k) (c ∷ cs) ys (suc i) h = cell_fill_low k cs ys i (omega (arith, h))

pub cell_put : (k : ℕ) (ys : Bytes) (cs : Cells) (i : ℕ) → k ≤ i
    → cell (put k ys cs) i ≡ earlier (cell cs i) (byte_at ys (i - k))
cell_put k [] cs i h = none (cell cs i)
  where
    none : (o : Option ℕ) → o ≡ earlier o None
    none None = refl
    none (Some x) = refl
cell_put k (y ∷ ys) cs i h =
    let n : k + (i - k) ≡ i = omega (arith, h) in
    ap (cell (fill_at k cs (y ∷ ys))) (sym n) ∙ cell_fill_at k cs (y ∷ ys) (i - k)
    ∙ ap (λ m. earlier (cell cs m) (byte_at (y ∷ ys) (i - k))) n

pub cell_put_low : (k : ℕ) (ys : Bytes) (cs : Cells) (i : ℕ) → i < k
    → cell (put k ys cs) i ≡ cell cs i
cell_put_low k [] cs i h = refl
cell_put_low k (y ∷ ys) cs i h = cell_fill_low k cs (y ∷ ys) i h

cell_drop : (n : ℕ) (cs : Cells) (i : ℕ) → cell (drop n cs) i ≡ cell cs (n + i)
cell_drop zero cs i = let m : i ≡ 0 + i = omega arith in ap (cell cs) m
cell_drop (suc n) [] i = refl
cell_drop (suc n) (c ∷ cs) i = let m : suc (n + i) ≡ suc n + i = omega arith in
    cell_drop n cs i ∙ ap (cell (c ∷ cs)) m

pub byte_drop : (n : ℕ) (b : Bytes) (i : ℕ) → byte_at (drop n b) i ≡ byte_at b (n + i)
byte_drop zero b i = let m : i ≡ 0 + i = omega arith in ap (byte_at b) m
byte_drop (suc n) [] i = refl
byte_drop (suc n) (c ∷ b) i = let m : suc (n + i) ≡ suc n + i = omega arith in
    byte_drop n b i ∙ ap (byte_at (c ∷ b)) m

-- bytes are present at the positions below their count
byte_some : (b : Bytes) (i : ℕ) → i < length b → IsSome (byte_at b i)
byte_some [] i h = absurd (omega (arith, h))
byte_some (x ∷ b) zero h = refl
byte_some (x ∷ b) (suc i) h = byte_some b i (omega (arith, h))

byte_within : (b : Bytes) (i y : ℕ) → byte_at b i ≡ Some y → i < length b
byte_within [] i y h = absurd cc
byte_within (x ∷ b) zero y h = omega arith
byte_within (x ∷ b) (suc i) y h = let r = byte_within b i y h in omega (arith, r)

pub run_stands : (cs : Cells) (i : ℕ) → i < length (run cs) → IsSome (cell cs i)
run_stands [] i h = absurd (omega (arith, h))
run_stands (None ∷ cs) i h = absurd (omega (arith, h))
run_stands (Some x ∷ cs) zero h = refl
run_stands (Some x ∷ cs) (suc i) h = run_stands cs i (omega (arith, h))

run_ends : (cs : Cells) → cell cs (length (run cs)) ≡ None
run_ends [] = refl
run_ends (None ∷ cs) = refl
run_ends (Some x ∷ cs) = run_ends cs

-- the prefix of bytes that the cells agree with
run_front : (cs : Cells) (z : Bytes) → ((k y : ℕ) → cell cs k ≡ Some y → byte_at z k ≡ Some y)
    → z ≡ run cs ++ drop (length (run cs)) z
run_front [] z h = refl
run_front (None ∷ cs) z h = refl
run_front (Some x ∷ cs) [] h = let e = h 0 x refl in absurd cc
run_front (Some x ∷ cs) (y ∷ z) h =
    let e : Some y ≡ Some x = h 0 x refl in
    let s : y ≡ x = cc in
    ap (λ w. w ∷ z) s ∙ ap (λ r. x ∷ r) (run_front cs z (λ k w. h (suc k) w))

byte_append : (x y : Bytes) (i : ℕ) → byte_at (x ++ y) (length x + i) ≡ byte_at y i
byte_append [] y i = let n : 0 + i ≡ i = omega arith in ap (byte_at y) n
byte_append (c ∷ x) y i = let n : suc (length x) + i ≡ suc (length x + i) = omega arith in
    ap (byte_at (c ∷ (x ++ y))) n ∙ byte_append x y i

byte_left : (x y : Bytes) (i v : ℕ) → byte_at x i ≡ Some v → byte_at (x ++ y) i ≡ Some v
byte_left [] y i v h = absurd cc
byte_left (c ∷ x) y zero v h = h
byte_left (c ∷ x) y (suc i) v h = byte_left x y i v h

pub part_byte : (stream : Bytes) (place : ℕ) (b : Bytes) (i v : ℕ) → IsPart stream place b
    → byte_at b i ≡ Some v
    → byte_at stream (place + i) ≡ Some v
part_byte stream place b i v p h =
    ap (λ s. byte_at s (place + i)) p.is
    ∙ ap (λ n. byte_at (p.before ++ (b ++ p.behind)) (n + i)) (sym p.at)
    ∙ byte_append p.before (b ++ p.behind) i
    ∙ byte_left b p.behind i v h

-- Positions modulo 2^32.
unique : (x y r s : ℕ) → r < 2 ^ 32 → s < 2 ^ 32 → x * 2 ^ 32 + r ≡ y * 2 ^ 32 + s → r ≡ s
unique x y r s p q e = sym (mod_low x 32 r p) ∙ ap (λ n. n % 2 ^ 32) e ∙ mod_low y 32 s q

pub ahead_is : (first w p seq d : ℕ) → (first + p) % 2 ^ 32 ≡ seq → d < 2 ^ 32
    → (w + d ≡ p) ⊎ (w + d ≡ p + 2 ^ 32)
    → ahead first w seq ≡ d
ahead_is first w p seq d is low at =
    let m = 2 ^ 32 in
    let one = div-add-mod' (first + p) m in
    let two = div-add-mod' w m in
    let three = div-add-mod' (first + w % m) m in
    let four = div-add-mod' (seq + (m - (first + w % m) % m)) m in
    let below = mod_below (first + w % m) m (omega arith) in
    let last = mod_below (seq + (m - (first + w % m) % m)) m (omega arith) in
    go at one two three four below last
  where
    go : (w + d ≡ p) ⊎ (w + d ≡ p + 2 ^ 32)
        → (first + p) / 2 ^ 32 * 2 ^ 32 + (first + p) % 2 ^ 32 ≡ first + p
        → w / 2 ^ 32 * 2 ^ 32 + w % 2 ^ 32 ≡ w
        → (first + w % 2 ^ 32) / 2 ^ 32 * 2 ^ 32 + (first + w % 2 ^ 32) % 2 ^ 32 ≡ first
        + w % 2 ^ 32
        → (seq + (2 ^ 32 - (first + w % 2 ^ 32) % 2 ^ 32)) / 2 ^ 32 * 2 ^ 32 + ahead first w seq
        ≡ seq + (2 ^ 32 - (first + w % 2 ^ 32) % 2 ^ 32)
        → (first + w % 2 ^ 32) % 2 ^ 32 < 2 ^ 32 → ahead first w seq < 2 ^ 32
        → ahead first w seq ≡ d
    go (inl e) one two three four below last =
        unique ((seq + (2 ^ 32 - (first + w % 2 ^ 32) % 2 ^ 32)) / 2 ^ 32 + (first + p) / 2 ^ 32)
        (1 + w / 2 ^ 32 + (first + w % 2 ^ 32) / 2 ^ 32) (ahead first w seq) d last low
        (omega (arith, is, one, two, three, four, below, e))
    go (inr e) one two three four below last =
        unique ((seq + (2 ^ 32 - (first + w % 2 ^ 32) % 2 ^ 32)) / 2 ^ 32 + (first + p) / 2 ^ 32)
        (w / 2 ^ 32 + (first + w % 2 ^ 32) / 2 ^ 32) (ahead first w seq) d last low
        (omega (arith, is, one, two, three, four, below, e))

pub place_is : (first seq : ℕ) → seq < 2 ^ 32 → (first + ahead first 0 seq) % 2 ^ 32 ≡ seq
place_is first seq low =
    let m = 2 ^ 32 in
    let f = (first + 0 % m) % m in
    let t = ahead first 0 seq in
    let three = div-add-mod' (first + 0 % m) m in
    let four = div-add-mod' (seq + (m - f)) m in
    let five = div-add-mod' (first + t) m in
    let below = mod_below (first + 0 % m) m (omega arith) in
    let last = mod_below (first + t) m (omega arith) in
    unique ((seq + (2 ^ 32 - (first + 0 % 2 ^ 32) % 2 ^ 32)) / 2 ^ 32 + (first + t) / 2 ^ 32)
    (1 + (first + 0 % 2 ^ 32) / 2 ^ 32) ((first + t) % 2 ^ 32) seq last low
    (omega (arith, three, four, five, below))

abbrev pair : ℕ → Bytes → ℕ × Bytes
pair d b = (d, b)

-- A segment at a position does what its bytes from there on do.
pub located_ahead : (first w p seq : ℕ) (b : Bytes) → (first + p) % 2 ^ 32 ≡ seq → w ≤ p
    → p < w + 2 ^ 31
    → located (ahead first w seq) b ≡ pair (p - w) (drop 0 b)
located_ahead first w p seq b is order near =
    ap (λ d. located d b)
    (ahead_is first w p seq (p - w) is (omega (arith, near)) (inl (omega (arith, order))))
    ∙ go (ltb (p - w) (2 ^ 31)) refl
  where
    go : (t : Bool) → ltb (p - w) (2 ^ 31) ≡ t
        → cond t (pair (p - w) b) (pair 0 (drop (2 ^ 32 - (p - w)) b)) ≡ pair (p - w) b
    go true e = refl
    go false e = let f = ltb-false (p - w) (2 ^ 31) e in absurd (omega (arith, f, near, order))

pub located_behind : (first w p seq : ℕ) (b : Bytes) → (first + p) % 2 ^ 32 ≡ seq → p < w
    → w ≤ p + 2 ^ 31
    → located (ahead first w seq) b ≡ pair 0 (drop (w - p) b)
located_behind first w p seq b is order near =
    ap (λ d. located d b) (ahead_is first w p seq (2 ^ 32 - (w - p)) is (omega (arith, order))
    (inr (omega (arith, order, near))))
    ∙ go (ltb (2 ^ 32 - (w - p)) (2 ^ 31)) refl
  where
    go : (t : Bool) → ltb (2 ^ 32 - (w - p)) (2 ^ 31) ≡ t
        → cond t (pair (2 ^ 32 - (w - p)) b) (pair 0 (drop (2 ^ 32 - (2 ^ 32 - (w - p))) b)) ≡ pair
        0 (drop (w - p) b)
    go true e = let f = ltb-true (2 ^ 32 - (w - p)) (2 ^ 31) e in
        absurd (omega (arith, f, near, order))
    go false e = let n : 2 ^ 32 - (2 ^ 32 - (w - p)) ≡ w - p = omega (arith, near, order) in
        ap (λ n. pair 0 (drop n b)) n

some_earlier : (o q : Option ℕ) → IsSome o → IsSome (earlier o q)
some_earlier None q h = absurd cc
some_earlier (Some x) q h = refl

some_later : (o q : Option ℕ) → IsSome q → IsSome (earlier o q)
some_later None q h = h
some_later (Some x) q h = refl

some_is : (o : Option ℕ) → IsSome o → (y : ℕ) × (o ≡ Some y)
some_is None h = absurd cc
some_is (Some x) h = (x, refl)

made_located : (stream : Bytes) (K : ℕ → Type 0) (h : Held) (p : ℕ) (b : Bytes) (d m : ℕ)
    → IsMadeOf stream K h
    → IsPart stream p b → wanted h + d ≡ p + m → (m ≡ 0) ⊎ (d ≡ 0) →
    IsMadeOf stream (λ i. K i ⊎ IsOver p b i) (with_located (d, drop m b) h)
made_located stream K h p b d m made part at either = record {
  stands = λ k y e. stands k y e (ltb k from) refl;
  held = λ k known. held k known (ltb k from) refl;
  given = λ i low. inl (made.given i low);
}
  where
    from : ℕ
    from = length (run h.cells) + d

    new : Cells
    new = put from (drop m b) h.cells

    later : (k y : ℕ) → from ≤ k → (o : Option ℕ) → cell h.cells k ≡ o
        → earlier o (byte_at (drop m b) (k - from)) ≡ Some y →
        (K (h.taken + k) ⊎ IsOver p b (h.taken + k)) × (byte_at stream (h.taken + k) ≡ Some y)
    later k y low (Some x) is e = let s = made.stands k y (is ∙ e) in (inl s.0, s.1)
    later k y low None is e =
        let there : byte_at b (m + (k - from)) ≡ Some y = sym (byte_drop m b (k - from)) ∙ e in
        let n : p + (m + (k - from)) ≡ h.taken + k = omega (arith, at, low) in
        let in_b = byte_within b (m + (k - from)) y there in (
          inr (omega (arith, n), omega (arith, n, in_b)),
          ap (byte_at stream) (sym n) ∙ part_byte stream p b (m + (k - from)) y part there,
        )

    stands : (k y : ℕ) → cell new k ≡ Some y → (t : Bool) → ltb k from ≡ t
        → (K (h.taken + k) ⊎ IsOver p b (h.taken + k)) × (byte_at stream (h.taken + k) ≡ Some y)
    stands k y e true f =
        let s = made.stands k y
        (sym (cell_put_low from (drop m b) h.cells k (ltb-true k from f)) ∙ e) in (inl s.0, s.1)
    stands k y e false f =
        let low = ltb-false k from f in
        later k y low (cell h.cells k) refl (sym (cell_put from (drop m b) h.cells k low) ∙ e)

    front : (k : ℕ) → k < from → IsOver p b (h.taken + k) → (m ≡ 0) ⊎ (d ≡ 0)
        → IsSome (cell h.cells k)
    front k low over (inl e) = absurd (omega (arith, low, over.0, at, e))
    front k low over (inr e) = run_stands h.cells k (omega (arith, low, e))

    held : (k : ℕ) → K (h.taken + k) ⊎ IsOver p b (h.taken + k) → (t : Bool) → ltb k from ≡ t
        → IsSome (cell new k)
    held k (inl known) true f =
        subst IsSome (sym (cell_put_low from (drop m b) h.cells k (ltb-true k from f)))
        (made.held k known)
    held k (inr over) true f =
        subst IsSome (sym (cell_put_low from (drop m b) h.cells k (ltb-true k from f)))
        (front k (ltb-true k from f) over either)
    held k (inl known) false f =
        subst IsSome (sym (cell_put from (drop m b) h.cells k (ltb-false k from f)))
        (some_earlier (cell h.cells k) (byte_at (drop m b) (k - from)) (made.held k known))
    held k (inr over) false f =
        let low = ltb-false k from f in
        let within : m + (k - from) < length b = omega (arith, low, over.1, over.0, at) in
        subst IsSome (sym (cell_put from (drop m b) h.cells k low))
        (some_later (cell h.cells k) (byte_at (drop m b) (k - from))
        (subst IsSome (sym (byte_drop m b (k - from))) (byte_some b (m + (k - from)) within)))

-- A segment of the stream near the next expected position.
pub made_more : (stream : Bytes) (K : ℕ → Type 0) (h : Held) (p seq : ℕ) (b : Bytes)
    → IsMadeOf stream K h
    → IsPart stream p b → (h.first + p) % 2 ^ 32 ≡ seq →
    wanted h ≤ p + 2 ^ 31 → p < wanted h + 2 ^ 31
    → IsMadeOf stream (λ i. K i ⊎ IsOver p b i) (with_segment seq b h)
made_more stream K h p seq b made part is near near' = go (ltb p (wanted h)) refl
  where
    go : (t : Bool) → ltb p (wanted h) ≡ t
        → IsMadeOf stream (λ i. K i ⊎ IsOver p b i) (with_segment seq b h)
    go true e =
        let order = ltb-true p (wanted h) e in
        subst (λ l. IsMadeOf stream (λ i. K i ⊎ IsOver p b i) (with_located l h))
        (sym (located_behind h.first (wanted h) p seq b is order near))
        (made_located stream K h p b 0 (wanted h - p) made part (omega (arith, order)) (inr refl))
    go false e =
        let order = ltb-false p (wanted h) e in
        subst (λ l. IsMadeOf stream (λ i. K i ⊎ IsOver p b i) (with_located l h))
        (sym (located_ahead h.first (wanted h) p seq b is order near'))
        (made_located stream K h p b (p - wanted h) 0 made part (omega (arith, order)) (inl refl))

-- Delivering bytes changes nothing about what is known.
pub made_fewer : (stream : Bytes) (K : ℕ → Type 0) (h : Held) (n : ℕ) → IsMadeOf stream K h
    → n ≤ length (run h.cells)
    → IsMadeOf stream K (without_front n h)
made_fewer stream K h n made few = record {
  stands = λ k y e. (let m : h.taken + (n + k) ≡ h.taken + n + k = omega arith in
      subst (λ i. K i × (byte_at stream i ≡ Some y)) m
      (made.stands (n + k) y (sym (cell_drop n h.cells k) ∙ e)));
  held = λ k known. (let m : h.taken + n + k ≡ h.taken + (n + k) = omega arith in
      subst IsSome (sym (cell_drop n h.cells k)) (made.held (n + k) (subst K m known)));
  given = λ i low. given i low (ltb i h.taken) refl;
}
  where
    given : (i : ℕ) → i < h.taken + n → (t : Bool) → ltb i h.taken ≡ t → K i
    given i low true f = made.given i (ltb-true i h.taken f)
    given i low false f =
        let order = ltb-false i h.taken f in
        let s = some_is (cell h.cells (i - h.taken))
        (run_stands h.cells (i - h.taken) (omega (arith, low, order, few))) in
        let n : h.taken + (i - h.taken) ≡ i = omega (arith, order) in
        subst K n (made.stands (i - h.taken) s.0 s.1).0

pub made_same : (stream : Bytes) (K L : ℕ → Type 0) (h : Held) → ((i : ℕ) → K i → L i)
    → ((i : ℕ) → L i → K i)
    → IsMadeOf stream K h → IsMadeOf stream L h
made_same stream K L h there back made = record {
  stands = λ k y e. (let s = made.stands k y e in (there (h.taken + k) s.0, s.1));
  held = λ k known. made.held k (back (h.taken + k) known);
  given = λ i low. there i (made.given i low);
}

-- All available bytes are delivered after each segment.
pub record IsHandingOut (stream : Bytes) (K : ℕ → Type 0) (out : Bytes) (h : Held) : Type 0 where
  pub made : IsMadeOf stream K h
  pub rest : Bytes
  pub is_front : stream ≡ out ++ rest
  pub taken_is : h.taken ≡ length out
  pub none_left : run h.cells ≡ []

-- The in-order bytes are the stream's, after the delivered ones.
pub front_rest : (stream : Bytes) (K : ℕ → Type 0) (out rest : Bytes) (h : Held)
    → IsMadeOf stream K h
    → stream ≡ out ++ rest → h.taken ≡ length out →
    rest ≡ run h.cells ++ drop (length (run h.cells)) rest
front_rest stream K out rest h made is taken =
    run_front h.cells rest (λ k y e.
    sym (byte_append out rest k) ∙ ap (λ n. byte_at (out ++ rest) (n + k)) (sym taken)
    ∙ ap (λ s. byte_at s (h.taken + k)) (sym is) ∙ (made.stands k y e).1)

pub handing_front : (stream : Bytes) (K : ℕ → Type 0) (out rest : Bytes) (h : Held)
    → IsMadeOf stream K h
    → stream ≡ out ++ rest → h.taken ≡ length out →
    IsHandingOut stream K (out ++ run h.cells) (without_front (length (run h.cells)) h)
handing_front stream K out rest h made is taken = record {
  made = made_fewer stream K h (length (run h.cells)) made (le_refl _);
  rest = drop (length (run h.cells)) rest;
  is_front = is ∙ ap (λ r. out ++ r) (front_rest stream K out rest h made is taken)
      ∙ sym (append_assoc out (run h.cells) (drop (length (run h.cells)) rest));
  taken_is = ap (λ n. n + length (run h.cells)) taken ∙ sym (length-append out (run h.cells));
  none_left = run_drop h.cells;
}

pub longest : (stream : Bytes) (K : ℕ → Type 0) (out : Bytes) (h : Held)
    → IsHandingOut stream K out h
    → IsLongestFront stream K out
longest stream K out h s = record {
  rest = s.rest;
  is_front = s.is_front;
  known = λ i low. s.made.given i (subst (λ n. i < n) (sym s.taken_is) low);
  ends = λ known.
      (let n : length out ≡ h.taken + 0 = (let t = s.taken_is in omega (arith, t)) in
      let some : IsSome (cell h.cells 0) = s.made.held 0 (subst K n known) in
      let none : cell h.cells 0 ≡ None = ap (λ r. cell h.cells (length r)) (sym s.none_left)
      ∙ run_ends h.cells in
      let e = subst IsSome none some in absurd cc);
}

-- Segments, one after another.
covered_there : (first : ℕ) (xs : List Segment) (s : Segment) (i : ℕ)
    → IsCovered first xs i ⊎ IsOver (place_of first s) s.1.now i → IsCovered first (xs ++ s ∷ []) i
covered_there first [] s i (inl h) = absurd h
covered_there first [] s i (inr h) = inl h
covered_there first (x ∷ xs) s i (inl (inl h)) = inl h
covered_there first (x ∷ xs) s i (inl (inr h)) = inr (covered_there first xs s i (inl h))
covered_there first (x ∷ xs) s i (inr h) = inr (covered_there first xs s i (inr h))

covered_back : (first : ℕ) (xs : List Segment) (s : Segment) (i : ℕ)
    → IsCovered first (xs ++ s ∷ []) i
    → IsCovered first xs i ⊎ IsOver (place_of first s) s.1.now i
covered_back first [] s i (inl h) = inr h
covered_back first [] s i (inr h) = inl h
covered_back first (x ∷ xs) s i (inl h) = inl (inl h)
covered_back first (x ∷ xs) s i (inr h) = go (covered_back first xs s i h)
  where
    go : IsCovered first xs i ⊎ IsOver (place_of first s) s.1.now i
        → (IsOver (place_of first x) x.1.now i ⊎ IsCovered first xs i)
        ⊎ IsOver (place_of first s) s.1.now i
    go (inl h) = inl (inr h)
    go (inr h) = inr h

parts_front : (stream : Bytes) (first : ℕ) (xs : List Segment) (s : Segment)
    → AreParts stream first (xs ++ s ∷ [])
    → AreParts stream first xs × IsPart stream (place_of first s) s.1.now × (s.0 < 2 ^ 32)
parts_front stream first [] s h = (tt, h.1, h.0)
parts_front stream first (x ∷ xs) s h = let r = parts_front stream first xs s h.2 in
    ((h.0, h.1, r.0), r.1, r.2)

pub handing_starts : (stream : Bytes) (first limit : ℕ)
    → IsHandingOut stream (IsCovered first []) []
    record { first = first; limit = limit; taken = 0; cells = [] }
handing_starts stream first limit = record {
  made = record {
    stands = λ k y e. absurd cc;
    held = λ k h. absurd h;
    given =
        λ i low. absurd (omega (arith, low));
  };
  rest = stream;
  is_front = refl;
  taken_is = refl;
  none_left = refl;
}

part_within : (stream : Bytes) (p : ℕ) (b : Bytes) → IsPart stream p b
    → p + length b ≤ length stream
part_within stream p b part =
    let n = ap length part.is ∙ length-append part.before (b ++ part.behind) in
    let m = length-append b part.behind in
    let a = part.at in
    omega (arith, n, m, a)

pub handing_next : (stream : Bytes) (first : ℕ) (xs : List Segment) (s : Segment)
    (out : Bytes) (h : Held)
    → length stream < 2 ^ 31 → h.first ≡ first →
    (AreParts stream first xs → IsHandingOut stream (IsCovered first xs) out h)
    → AreParts stream first (xs ++ s ∷ []) →
    IsHandingOut stream (IsCovered first (xs ++ s ∷ []))
    (out ++ run (with_segment s.0 s.1.now h).cells)
    (without_front (length (run (with_segment s.0 s.1.now h).cells)) (with_segment s.0 s.1.now h))
handing_next stream first xs s out h short same was parts =
    let two = parts_front stream first xs s parts in
    let old = was two.0 in
    let p = place_of first s in
    let within = part_within stream p s.1.now two.1 in
    let there : (h.first + p) % 2 ^ 32 ≡ s.0 = ap (λ f. (f + p) % 2 ^ 32) same
    ∙ place_is first s.0 two.2 in
    let len = ap length old.is_front ∙ length-append out old.rest in
    let taken = old.taken_is in
    let none = ap length old.none_left in
    let made = made_more stream (IsCovered first xs) h p s.0 s.1.now old.made two.1 there
    (omega (arith, len, taken, none, short)) (omega (arith, within, short)) in
    handing_front stream (IsCovered first (xs ++ s ∷ [])) out old.rest (with_segment s.0 s.1.now h)
    (made_same stream (λ i. IsCovered first xs i ⊎ IsOver p s.1.now i)
    (IsCovered first (xs ++ s ∷ []))
    (with_segment s.0 s.1.now h) (covered_there first xs s) (covered_back first xs s) made)
    old.is_front old.taken_is

-- Two lists of segments that cover the same positions.
pub same_front : (stream : Bytes) (K L : ℕ → Type 0) (x y : Bytes) → ((i : ℕ) → K i → L i)
    → ((i : ℕ) → L i → K i)
    → IsLongestFront stream K x → IsLongestFront stream L y → x ≡ y
same_front stream K L x y there back a b =
    go (ltb (length x) (length y)) refl (ltb (length y) (length x)) refl
  where
    take_front : (z r : Bytes) → stream ≡ z ++ r → z ≡ take (length z) stream
    take_front z r is = sym (ap (take (length z)) is ∙ take_at z r (length z) refl)

    go : (t : Bool) → ltb (length x) (length y) ≡ t → (u : Bool)
        → ltb (length y) (length x) ≡ u → x ≡ y
    go true e u f =
        absurd (a.ends (back (length x) (b.known (length x) (ltb-true (length x) (length y) e))))
    go false e true f =
        absurd (b.ends (there (length y) (a.known (length y) (ltb-true (length y) (length x) f))))
    go false e false f =
        let n : length x ≡ length y =
        (let p = ltb-false (length x) (length y) e in let q = ltb-false (length y) (length x) f in
        omega (arith, p, q)) in
        take_front x a.rest a.is_front ∙ ap (λ n. take n stream) n
        ∙ sym (take_front y b.rest b.is_front)

pub same_covered : (stream : Bytes) (first : ℕ) (p q : List Segment) (x y : Bytes)
    → ((i : ℕ) → IsCovered first p i ↔ IsCovered first q i) →
    IsLongestFront stream (IsCovered first p) x
    → IsLongestFront stream (IsCovered first q) y → x ≡ y
same_covered stream first p q x y same a b =
    same_front stream (IsCovered first p) (IsCovered first q) x y (λ i. (same i).0)
    (λ i. (same i).1) a b

-- Ranges of bytes that cover the same positions.
among_there : (p : ℕ) (b : Bytes) (ss : List (ℕ × Bytes)) (i : ℕ) → IsAmong ss i ⊎ IsOver p b i
    → IsAmong ((p, b) ∷ ss) i
among_there p b ss i (inl h) = inr h
among_there p b ss i (inr h) = inl h

among_back : (p : ℕ) (b : Bytes) (ss : List (ℕ × Bytes)) (i : ℕ) → IsAmong ((p, b) ∷ ss) i
    → IsAmong ss i ⊎ IsOver p b i
among_back p b ss i (inl h) = inr h
among_back p b ss i (inr h) = inl h

pub made_among : (stream : Bytes) (ss : List (ℕ × Bytes)) (h : Held) (p seq : ℕ) (b : Bytes)
    → IsMadeOf stream (IsAmong ss) h → IsPart stream p b → (h.first + p) % 2 ^ 32 ≡ seq →
    wanted h ≤ p + 2 ^ 31 → p < wanted h + 2 ^ 31
    → IsMadeOf stream (IsAmong ((p, b) ∷ ss)) (with_segment seq b h)
made_among stream ss h p seq b made part is near near' =
    made_same stream (λ i. IsAmong ss i ⊎ IsOver p b i) (IsAmong ((p, b) ∷ ss))
    (with_segment seq b h)
    (among_there p b ss) (among_back p b ss)
    (made_more stream (IsAmong ss) h p seq b made part is near near')

pub fewer_among : (stream : Bytes) (ss : List (ℕ × Bytes)) (h : Held) (n : ℕ)
    → IsMadeOf stream (IsAmong ss) h
    → n ≤ length (run h.cells) → IsMadeOf stream (IsAmong ss) (without_front n h)
fewer_among stream ss h n made few = made_fewer stream (IsAmong ss) h n made few

pub front_among : (stream : Bytes) (ss : List (ℕ × Bytes)) (h : Held)
    → IsMadeOf stream (IsAmong ss) h
    → h.taken ≤ length stream →
    IsLongestFront stream (IsAmong ss) (take h.taken stream ++ run h.cells)
front_among stream ss h made few =
    longest stream (IsAmong ss) (take h.taken stream ++ run h.cells)
    (without_front (length (run h.cells)) h)
    (handing_front stream (IsAmong ss) (take h.taken stream) (drop h.taken stream) h made
    (sym (take-append-drop h.taken stream)) (sym (length-take-le h.taken stream few)))
