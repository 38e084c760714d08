-- Steps, one after another.
use Rattle.std.proofs.Common.{◌≡◌, ℕ, ◌+◌, ◌%◌, ◌^◌, ◌≤◌, List, [], ◌∷◌, ◌++◌, length, take, drop, min, refl, sym}
use Rattle.std.proofs.Common.{◌∙◌, ap, subst, arith, append_assoc, append-nil}
use Rattle.std.proofs.lemmas.List.{length-append, take-append-drop, length-take-le}
use Rattle.segments.specs.Cells.{Bytes, Held, run, with_segment, without_front}
use Rattle.segments.specs.Law.{IsAmong, IsLongestFront, IsMadeOf, IsPart}
use Rattle.segments.specs.Steps.{after, handed, IsNear, AreNear, came, IsReplayed}
use Rattle.segments.specs.declared.steps.Step.{Step}
use Rattle.segments.specs.declared.steps.Step.TheVariants.{Segment, Take}
use Rattle.segments.proofs.LawLemmas.{made_among, fewer_among, handing_front, longest, front_rest}

-- The delivered bytes are a prefix of the stream, and the buffered ones are those known of it.
pub record IsUnderWay (stream : Bytes) (known : List (ℕ × Bytes)) (first : ℕ) (out : Bytes)
    (h : Held) : Type 0 where
  pub made : IsMadeOf stream (IsAmong known) h
  pub rest : Bytes
  pub is_front : stream ≡ out ++ rest
  pub taken_is : h.taken ≡ length out
  pub first_is : h.first ≡ first

all_front : (stream : Bytes) (known : List (ℕ × Bytes)) (first : ℕ) (out : Bytes) (h : Held)
    → IsUnderWay stream known first out h
    → IsLongestFront stream (IsAmong known) (out ++ run h.cells)
all_front stream known first out h u =
    longest stream (IsAmong known) (out ++ run h.cells) (without_front (length (run h.cells)) h)
    (handing_front stream (IsAmong known) out u.rest h u.made u.is_front u.taken_is)

one_segment : (stream : Bytes) (known : List (ℕ × Bytes)) (first : ℕ) (out : Bytes) (h : Held)
    (seq p : ℕ) (b : Bytes)
    → IsUnderWay stream known first out h →
    IsPart stream p b → (first + p) % 2 ^ 32 ≡ seq → IsNear stream known p
    → IsUnderWay stream ((p, b) ∷ known) first out (with_segment seq b h)
one_segment stream known first out h seq p b u part is near =
    let n = near (out ++ run h.cells) (all_front stream known first out h u) in
    let len = length-append out (run h.cells) in
    let t = u.taken_is in
    record {
      made = made_among stream known h p seq b u.made part
          (ap (λ f. (f + p) % 2 ^ 32) u.first_is ∙ is)
          (omega (arith, n, len, t)) (omega (arith, n, len, t));
      rest = u.rest;
      is_front = u.is_front;
      taken_is = u.taken_is;
      first_is = u.first_is;
    }

one_take : (stream : Bytes) (known : List (ℕ × Bytes)) (first : ℕ) (out : Bytes) (h : Held) (n : ℕ)
    → IsUnderWay stream known first out h → n ≤ length (run h.cells) →
    IsUnderWay stream known first (out ++ take n (run h.cells)) (without_front n h)
one_take stream known first out h n u few =
    let front = take n (run h.cells) in
    let more = drop n (run h.cells) ++ drop (length (run h.cells)) u.rest in
    record {
      made = fewer_among stream known h n u.made few;
      rest = more;
      is_front =
          u.is_front
          ∙ ap (λ r. out ++ r)
          (front_rest stream (IsAmong known) out u.rest h u.made u.is_front u.taken_is
          ∙ ap (λ r. r ++ drop (length (run h.cells)) u.rest)
          (sym (take-append-drop n (run h.cells)))
          ∙ append_assoc front (drop n (run h.cells)) (drop (length (run h.cells)) u.rest))
          ∙ sym (append_assoc out front more);
      taken_is = (let t = u.taken_is in let a = length-append out front in let l =
          length-take-le n (run h.cells) few in
          omega (arith, t, a, l));
      first_is = u.first_is;
    }

low_min : (m n : ℕ) → min m n ≤ m
low_min m n = grind arith

pub steps_front : (stream : Bytes) (known : List (ℕ × Bytes)) (first : ℕ) (steps : List Step)
    (places : List ℕ)
    (out : Bytes) (h : Held) → IsUnderWay stream known first out h →
    AreNear stream first known steps places
    → IsLongestFront stream (IsAmong (came known steps places))
    (out ++ (handed steps h ++ run (after steps h).cells))
steps_front stream known first [] places out h u near = all_front stream known first out h u
steps_front stream known first (Take most ∷ ss) places out h u near =
    let n = min (length (run h.cells)) most in
    let front = take n (run h.cells) in
    let h' = without_front n h in
    let more = steps_front stream known first ss places (out ++ front) h'
    (one_take stream known first out h n u (low_min (length (run h.cells)) most)) near in
    let same : (out ++ front) ++ (handed ss h' ++ run (after ss h').cells)
    ≡ out ++ ((front ++ handed ss h') ++ run (after ss h').cells) =
    append_assoc out front (handed ss h' ++ run (after ss h').cells)
    ∙ ap (λ b. out ++ b) (sym (append_assoc front (handed ss h') (run (after ss h').cells))) in
    subst (IsLongestFront stream (IsAmong (came known ss places))) same more
steps_front stream known first (Segment seq b ∷ ss) [] out h u near = absurd near
steps_front stream known first (Segment seq b ∷ ss) (p ∷ places) out h u near =
    steps_front stream ((p, b.now) ∷ known) first ss places out (with_segment seq b.now h)
    (one_segment stream known first out h seq p b.now u near.0 near.1 near.2) near.3

-- From the start.
pub replayed : (first limit : ℕ) (steps : List Step) (out available : Bytes) →
    out ≡ handed steps record { first = first; limit = limit; taken = 0; cells = [] } →
    available ≡ run
    (after steps record { first = first; limit = limit; taken = 0; cells = [] }).cells
    → IsReplayed first steps out available
replayed first limit steps out available out_is available_is = λ stream places near.
    let h : Held = record { first = first; limit = limit; taken = 0; cells = [] } in
    let start : IsUnderWay stream [] first [] h =
    record {
      made = record {
        stands = λ k y e. absurd cc;
        held = λ k e. absurd e;
        given = λ i low. absurd (omega (arith, low));
      };
      rest = stream;
      is_front = refl;
      taken_is = refl;
      first_is = refl;
    } in
    subst (IsLongestFront stream (IsAmong (came [] steps places)))
    (ap (λ o. o ++ run (after steps h).cells) (sym out_is) ∙ ap (λ a. out ++ a) (sym available_is))
    (steps_front stream [] first steps places [] h start near)

-- A loop over steps: the steps done so far are part of all steps.
pub record IsReplaying (start h : Held) (out : Bytes) (left all : List Step) : Type 0 where
  pub after_is : after left h ≡ after all start
  pub handed_is : out ++ handed left h ≡ handed all start

pub replaying_ends : (start h : Held) (out : Bytes) (left all : List Step)
    → IsReplaying start h out left all
    → left ≡ [] →
    (h ≡ after all start) × (out ≡ handed all start)
replaying_ends start h out left all r none = (
  ap (λ l. after l h) (sym none) ∙ r.after_is,
  sym (append-nil out) ∙ ap (λ l. out ++ handed l h) (sym none) ∙ r.handed_is,
)
