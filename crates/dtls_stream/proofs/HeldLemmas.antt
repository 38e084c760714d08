-- A message that is being reassembled.
use Rattle.std.proofs.Common.{◌≡◌, ℕ, zero, suc, ◌+◌, ◌-◌, ◌<◌, ◌≤◌, Bool, true, false, ltb, Option, Some, None, [], ◌∷◌}
use Rattle.std.proofs.Common.{length, refl, sym, ◌∙◌, ap, subst, arith, ltb-true, ltb-false}
use Rattle.std.specs.Prelude.{IsSome, slice_index}
use Rattle.segments.specs.Cells.{Bytes, Cells, byte_at, cell, earlier, run, with_part}
use Rattle.segments.specs.Cells as cells
use Rattle.segments.specs.Pages.{written}
use Rattle.segments.proofs.LawLemmas.{run_stands}
use Rattle.segments.proofs.PutLemmas.{put_bytes}
use Rattle.dtls_stream.specs.Fragments.{Held, IsBody, IsComplete, given, or_else}
use Rattle.dtls_stream.proofs.FragmentLemmas.{given_above, given_below, given_in}

-- The byte at a place of the front.
front_at : (cs : Cells) (i : ℕ) → i < length (run cs) → cell cs i ≡ Some (slice_index (run cs) i)
front_at [] i low = absurd (omega (arith, low))
front_at (None ∷ cs) i low = absurd (omega (arith, low))
front_at (Some x ∷ cs) zero low = refl
front_at (Some x ∷ cs) (suc i) low = front_at cs i (omega (arith, low))

-- A place in front of which all bytes are known.
front_long : (cs : Cells) (n : ℕ) → ((i : ℕ) → i < n → IsSome (cell cs i)) → n ≤ length (run cs)
front_long cs zero all = omega arith
front_long [] (suc n) all = let none = all 0 (omega arith) in absurd cc
front_long (None ∷ cs) (suc n) all = let none = all 0 (omega arith) in absurd cc
front_long (Some x ∷ cs) (suc n) all =
    let rest = front_long cs n (λ i low. all (suc i) (omega (arith, low))) in omega (arith, rest)

-- No byte is known behind the end, so the front ends there.
front_short : (cs : Cells) (n : ℕ) → cell cs n ≡ None → length (run cs) ≤ n
front_short cs n none = go (ltb n (length (run cs))) refl
  where
    go : (t : Bool) → ltb n (length (run cs)) ≡ t → length (run cs) ≤ n
    go true e =
        let some = subst IsSome none (run_stands cs n (ltb-true n (length (run cs)) e)) in
        absurd cc
    go false e = ltb-false n (length (run cs)) e

pub complete_body : (h : Held) (b : Bytes) → b ≡ run h.cells → cell h.cells h.size ≡ None
    → h.size ≤ length b → IsBody h b
complete_body h b is none full =
    let count = ap length is in
    record {
      size = omega (arith, count, full, front_short h.cells h.size none);
      bytes = λ i low. front_at h.cells i (omega (arith, low, full, count))
          ∙ ap (λ x. Some (slice_index x i)) (sym is);
    }

pub body_complete : (h : Held) → h.size ≤ length (run h.cells) → IsComplete h
body_complete h full i low = run_stands h.cells i (omega (arith, low, full))

pub complete_full : (h : Held) → IsComplete h → h.size ≤ length (run h.cells)
complete_full h all = front_long h.cells h.size all

-- The byte at a place of bytes.
byte_some : (b : Bytes) (i : ℕ) → i < length b → byte_at b i ≡ Some (slice_index b i)
byte_some [] i low = absurd (omega (arith, low))
byte_some (x ∷ b) zero low = refl
byte_some (x ∷ b) (suc i) low = byte_some b i (omega (arith, low))

byte_none : (b : Bytes) (i : ℕ) → length b ≤ i → byte_at b i ≡ None
byte_none [] i low = refl
byte_none (x ∷ b) zero low = absurd (omega (arith, low))
byte_none (x ∷ b) (suc i) low = byte_none b i (omega (arith, low))

-- What is written at a place is what a fragment gives there.
written_given : (o : ℕ) (b : Bytes) (i : ℕ) → written o b i ≡ given o b (length b) i
written_given o b i = go (ltb i o) refl
  where
    behind : o ≤ i → (t : Bool) → ltb i (o + length b) ≡ t
        → byte_at b (i - o) ≡ given o b (length b) i
    behind low true f =
        let high = ltb-true i (o + length b) f in
        byte_some b (i - o) (omega (arith, low, high)) ∙ sym (given_in o (length b) i b low high)
    behind low false f =
        let high = ltb-false i (o + length b) f in
        byte_none b (i - o) (omega (arith, low, high)) ∙ sym (given_above o (length b) i b high)

    go : (t : Bool) → ltb i o ≡ t → written o b i ≡ given o b (length b) i
    go true e = rw e (sym (given_below o (length b) i b (ltb-true i o e)))
    go false e = rw e (behind (ltb-false i o e) (ltb i (o + length b)) refl)

earlier_first : (x y : Option ℕ) → earlier x y ≡ or_else x y
earlier_first None y = refl
earlier_first (Some x) y = refl

-- The bytes of a fragment are put where none were known.
pub put_given : (h : cells.Held) (o : ℕ) (b : Bytes) → h.taken ≡ 0 → (i : ℕ)
    → cell (with_part o b h).cells i ≡ or_else (cell h.cells i) (given o b (length b) i)
put_given h o b taken i =
    put_bytes h o b taken i ∙ earlier_first (cell h.cells i) (written o b i)
    ∙ ap (or_else (cell h.cells i)) (written_given o b i)

-- No byte is put behind the end.
pub put_inside : (h : cells.Held) (o : ℕ) (b : Bytes) (size : ℕ) → h.taken ≡ 0
    → cell h.cells size ≡ None → o + length b ≤ size → cell (with_part o b h).cells size ≡ None
put_inside h o b size taken none inside =
    put_given h o b taken size ∙ ap (λ c. or_else c (given o b (length b) size)) none
    ∙ given_above o (length b) size b inside
