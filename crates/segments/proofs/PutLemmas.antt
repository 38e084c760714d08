-- Which bytes are there once bytes were put at a position.
use Rattle.std.proofs.Common.{◌≡◌, ℕ, ◌+◌, ◌-◌, ◌<◌, ◌≤◌, Bool, true, false, ltb, Option, Some, None}
use Rattle.std.proofs.Common.{IsSome, length, drop, refl, sym, ap, ◌∙◌, arith, ltb-true, ltb-false}
use Rattle.segments.specs.Cells.{Bytes, Cells, Held, byte_at, cell, earlier, put, run, wanted, with_part}
use Rattle.segments.specs.Pages.{written}
use Rattle.segments.proofs.LawLemmas.{byte_drop, cell_put, cell_put_low, run_stands}

earlier_none : (o : Option ℕ) → o ≡ earlier o None
earlier_none None = refl
earlier_none (Some x) = refl

earlier_some : (o p : Option ℕ) → IsSome o → o ≡ earlier o p
earlier_some None p s = absurd cc
earlier_some (Some x) p s = refl

before : (place i : ℕ) (b : Bytes) → i < place → written place b i ≡ None
before place i b low = go (ltb i place) refl
  where
    go : (t : Bool) → ltb i place ≡ t → written place b i ≡ None
    go true e = rw e refl
    go false e = let f = ltb-false i place e in absurd (omega (arith, f, low))

behind : (place i : ℕ) (b : Bytes) → place ≤ i → written place b i ≡ byte_at b (i - place)
behind place i b low = go (ltb i place) refl
  where
    go : (t : Bool) → ltb i place ≡ t → written place b i ≡ byte_at b (i - place)
    go true e = let f = ltb-true i place e in absurd (omega (arith, f, low))
    go false e = rw e refl

pub put_bytes : (h : Held) (place : ℕ) (b : Bytes) → h.taken ≡ 0
    → (i : ℕ) → cell (with_part place b h).cells i ≡ earlier (cell h.cells i) (written place b i)
put_bytes h place b taken i = go (ltb place (wanted h)) refl
  where
    w : ℕ
    w = length (run h.cells)

    cut : place < wanted h → (t : Bool) → ltb i w ≡ t
        → cell (put (w + 0) (drop (wanted h - place) b) h.cells) i ≡ earlier (cell h.cells i)
        (written place b i)
    cut low true f =
        let front = ltb-true i w f in
        cell_put_low (w + 0) (drop (wanted h - place) b) h.cells i (omega (arith, front))
        ∙ earlier_some (cell h.cells i) (written place b i) (run_stands h.cells i front)
    cut low false f =
        let back = ltb-false i w f in
        let n = wanted h - place in
        let at : n + (i - (w + 0)) ≡ i - place = omega (arith, low, back, taken) in
        cell_put (w + 0) (drop n b) h.cells i (omega (arith, back))
        ∙ ap (earlier (cell h.cells i))
        (byte_drop n b (i - (w + 0)) ∙ ap (byte_at b) at
        ∙ sym (behind place i b (omega (arith, low, back, taken))))

    whole : wanted h ≤ place → (t : Bool) → ltb i place ≡ t
        → cell (put (w + (place - wanted h)) b h.cells) i ≡ earlier (cell h.cells i)
        (written place b i)
    whole low true f =
        let front = ltb-true i place f in
        cell_put_low (w + (place - wanted h)) b h.cells i (omega (arith, front, low, taken))
        ∙ earlier_none (cell h.cells i)
        ∙ ap (earlier (cell h.cells i)) (sym (before place i b front))
    whole low false f =
        let back = ltb-false i place f in
        let at : i - (w + (place - wanted h)) ≡ i - place = omega (arith, low, back, taken) in
        cell_put (w + (place - wanted h)) b h.cells i (omega (arith, low, back, taken))
        ∙ ap (earlier (cell h.cells i)) (ap (byte_at b) at ∙ sym (behind place i b back))

    go : (t : Bool) → ltb place (wanted h) ≡ t
        → cell (with_part place b h).cells i ≡ earlier (cell h.cells i) (written place b i)
    go true e = rw e (cut (ltb-true place (wanted h) e) (ltb i w) refl)
    go false e = rw e (whole (ltb-false place (wanted h) e) (ltb i place) refl)
