-- A stream's next number is that of the first byte that it stores.
use Rattle.std.proofs.Common.{if◌then◌else◌, ◌≡◌, ℕ, ◌+◌, ◌%◌, ◌<◌, ◌≤◌, ◌^◌, true, false, Bool, Some, None, Option, [], ◌∷◌, refl, sym, ap, ◌∙◌, arith, subst, length, min, take, drop, ltb}
use Rattle.std.proofs.lemmas.Bool.{ltb-true, ltb-false}
use Rattle.std.proofs.lemmas.List.{drop_all}
use Rattle.std.proofs.Math.Nat.{mod-add-mod}
use Rattle.segments.specs.Cells.{Bytes, Held, known_behind, run}
use Rattle.connections.specs.Segment.{breaks, first_of}
use Rattle.connections.specs.Stream.{begun, begun_at, is_begun, noted, number_begun, behind_front, next_behind, forgetting, forgotten, has_urgent_next, passing_urgent, put, behind_missing, emptied, missing_in, not_skipping, skipping, stopped, unlike, with_numbers, with_urgent, HasPut, HasTaken, IsNumberOf}
use Rattle.connections.specs.Stream.HasPut.{left_out, taken}
use Rattle.connections.specs.Traffic.{plus}
use Rattle.connections.specs.declared.segment.Segment.{Segment}
use Rattle.connections.specs.declared.stream.TheConstants.{HELD_LIMIT}
use Rattle.connections.specs.declared.stream.Stream.{Stream}
use Rattle.connections.specs.declared.stream.Reading.{Reading}
use Rattle.connections.specs.declared.stream.Reading.TheVariants.{Unbegun, Open, Over}

remainder_of_sum : (a b k n : ℕ) → ((a + b) % n + k) % n ≡ (a + (b + k)) % n
remainder_of_sum a b k n = mod-add-mod (a + b) n k ∙ ap (λ x. x % n) (omega arith)

begun_number : (first next : ℕ) (r : Reading) → first < 2 ^ 32 → IsNumberOf next r
    → IsNumberOf (number_begun r first next) (begun HELD_LIMIT first r)
begun_number first next Unbegun small h = (omega (arith, small), refl)
begun_number first next (Open held) small h = h
begun_number first next Over small h = h

-- After it begins.
pub begun_at_number : (n : ℕ) (t : Stream) → n < 2 ^ 32 → IsNumberOf t.next t.reading
    → IsNumberOf (begun_at (Some n) t).next (begun_at (Some n) t).reading
begun_at_number n t small h = begun_number n t.next t.reading small h

put_number : (seq next : ℕ) (b : Bytes) (r : Reading) → IsNumberOf next r
    → IsNumberOf next (put seq b r)
put_number seq next b Unbegun h = h
put_number seq next b (Open held) h = h
put_number seq next b Over h = h

noted_by : (s : Segment) (t : Stream) (b : Bool) → is_begun t.reading ≡ b
    → IsNumberOf t.next t.reading
    → IsNumberOf (if b then with_urgent s (with_numbers s t) else t).next
    (if b then with_urgent s (with_numbers s t) else t).reading
noted_by s t true e h = h
noted_by s t false e h = h

pub noted_number : (s : Segment) (t : Stream) → IsNumberOf t.next t.reading
    → IsNumberOf (noted s t).next (noted s t).reading
noted_number s t h = noted_by s t (is_begun t.reading) refl h

bytes_number : (s : Segment) (old new : Stream) → HasPut s old new → IsNumberOf old.next old.reading
    → IsNumberOf new.next new.reading
bytes_number s old new (left_out few same) h = rw same h
bytes_number s old new (taken fits same) h =
    rw same (put_number (first_of s) old.next s.payload.now old.reading h)

by_break : (s : Segment) (old new : Stream) (b : Bool) → breaks s ≡ b → HasTaken s old new
    → IsNumberOf old.next old.reading → IsNumberOf new.next new.reading
by_break s old new true e t h = rw (t.broken e) h
by_break s old new false e t h = bytes_number s (noted s old) new (t.taken e) (noted_number s old h)

pub accepted : (s : Segment) (old new : Stream) → HasTaken s old new
    → IsNumberOf old.next old.reading → IsNumberOf new.next new.reading
accepted s old new t h = by_break s old new (breaks s) refl t h

handed : (n next : ℕ) (r : Reading) → IsNumberOf next r
    → IsNumberOf (next_behind n r next) (behind_front n r)
handed n next Unbegun h = h
handed n next (Open held) h = let k = length (take n (run held.cells)) in
    (rw h.0 (remainder_of_sum held.first held.taken k (2 ^ 32)), h.1)
handed n next Over h = h

-- Read bytes are freed.
pub forgotten_number : (a : Option ℕ) (t : Stream) → IsNumberOf t.next t.reading
    → IsNumberOf (forgetting a t).next (forgetting a t).reading
forgotten_number a t h = handed (forgotten a t) t.next t.reading h

passed_by : (t u : Stream) (b : Bool) → u.next ≡ t.next → u.reading ≡ t.reading
    → IsNumberOf t.next t.reading
    → IsNumberOf (if b then u else t).next (if b then u else t).reading
passed_by t u true n r h = rw (n, r) h
passed_by t u false n r h = h

pub urgent_number : (t : Stream) → IsNumberOf t.next t.reading
    → IsNumberOf (passing_urgent t).next (passing_urgent t).reading
urgent_number t h = passed_by t (record t { received = plus t.received 1; urgent = None })
    (has_urgent_next t) refl refl h

by_reading : (t : Stream) (r : Reading) → t.reading ≡ r → IsNumberOf t.next r
    → IsNumberOf (stopped t r).next (stopped t r).reading
by_reading t Unbegun e h = _
by_reading t (Open held) e h = _
by_reading t Over e h = subst (λ x. IsNumberOf t.next x) (sym e) h

pub stopped_number : (t : Stream) → IsNumberOf t.next t.reading
    → IsNumberOf (stopped t t.reading).next (stopped t t.reading).reading
stopped_number t h = by_reading t t.reading refl h

emptied_number : (t : Stream) (h : Held) → IsNumberOf t.next (Open h)
    → IsNumberOf (emptied t h).next (emptied t h).reading
emptied_number t h is =
    (rw is.0 (remainder_of_sum h.first h.taken (length (run h.cells)) (2 ^ 32)), is.1)

behind_number : (t : Stream) (h : Held) → IsNumberOf t.next (Open h)
    → IsNumberOf (behind_missing t h).next (behind_missing t h).reading
behind_number t h is = (
  rw (emptied_number t h is).0
      (remainder_of_sum h.first (h.taken + length (run h.cells)) (missing_in h) (2 ^ 32)),
  is.1,
)

skipped_if : (b : Bool) (t : Stream) (h : Held) → t.reading ≡ Open h → IsNumberOf t.next (Open h)
    → IsNumberOf (if b then behind_missing t h else t).next
    (if b then behind_missing t h else t).reading
skipped_if true t h e is = behind_number t h is
skipped_if false t h e is = subst (λ x. IsNumberOf t.next x) (sym e) is

skipped_by : (t : Stream) (r : Reading) → t.reading ≡ r → IsNumberOf t.next r
    → IsNumberOf (skipping t r).next (skipping t r).reading
skipped_by t Unbegun e is = subst (λ x. IsNumberOf t.next x) (sym e) is
skipped_by t (Open h) e is = skipped_if (ltb 0 (known_behind h.cells)) t h e is
skipped_by t Over e is = subst (λ x. IsNumberOf t.next x) (sym e) is

pub skipped_number : (t : Stream) → IsNumberOf t.next t.reading
    → IsNumberOf (skipping t t.reading).next (skipping t t.reading).reading
skipped_number t is = skipped_by t t.reading refl is

left_by : (t : Stream) (r : Reading) → t.reading ≡ r → IsNumberOf t.next r
    → IsNumberOf (not_skipping t r).next (not_skipping t r).reading
left_by t Unbegun e is = subst (λ x. IsNumberOf t.next x) (sym e) is
left_by t (Open h) e is = emptied_number t h is
left_by t Over e is = subst (λ x. IsNumberOf t.next x) (sym e) is

pub not_skipped_number : (t : Stream) → IsNumberOf t.next t.reading
    → IsNumberOf (not_skipping t t.reading).next (not_skipping t t.reading).reading
not_skipped_number t is = left_by t t.reading refl is

-- Past the end of the shorter list nothing differs.
none_unlike : (xs : Bytes) → unlike xs [] ≡ 0
none_unlike [] = refl
none_unlike (x ∷ xs) = refl

pub unlike_rest : (xs ys : Bytes) (i : ℕ) → min (length xs) (length ys) ≤ i
    → unlike (drop i xs) (drop i ys) ≡ 0
unlike_rest xs ys i h = go (ltb i (length xs)) refl
  where
    go : (t : Bool) → ltb i (length xs) ≡ t → unlike (drop i xs) (drop i ys) ≡ 0
    go true e = let more = ltb-true i (length xs) e in
        ap (unlike (drop i xs)) (drop_all i ys (omega (arith, h, more))) ∙ none_unlike (drop i xs)
    go false e = ap (λ l. unlike l (drop i ys)) (drop_all i xs (ltb-false i (length xs) e))
