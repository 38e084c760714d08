-- What a fragment makes of its datagram.
use Rattle.std.proofs.Common.{◌≡◌, ℕ, ◌+◌, ◌*◌, ◌≤◌, ◌==◌, ◌&&◌, ◌||◌, not, max, nat_lt, cond, Bool, true, false, Option, is_some, List, length, refl, sym, ap, ◌∙◌, subst, arith}
use Rattle.capture.specs.declared.fragment.IpFragment.{IpFragment}
use Rattle.segments.specs.Cells.{Bytes}
use Rattle.ip_fragments.specs.Runs.{Run, IsGap, cost_of, filled, placed, placing_of, runs_with, weight_in}
use Rattle.ip_fragments.specs.Waiting.{Waiting, Drops, Keeps, Completes, HandsOut, Receives, by_placing, bytes_of, completed_or_not, first_protocol, is_ecn_mixed, is_not_ect, is_other_end, is_too_long, is_whole, received, weight_of, with_runs}
use Rattle.ip_fragments.specs.declared.outcome.FragmentOutcome.{FragmentOutcome}
use Rattle.ip_fragments.specs.declared.outcome.FragmentOutcome.TheVariants as outcome
use Rattle.ip_fragments.specs.declared.outcome.FragmentRefusal.TheVariants as refusal
use Rattle.ip_fragments.specs.declared.runs.Gap.{Gap}
use Rattle.ip_fragments.specs.declared.runs.Gap.TheVariants as gap
use Rattle.ip_fragments.specs.declared.runs.Place.{Place}
use Rattle.ip_fragments.proofs.RunLemmas.{filled_with, weight_with_run}

-- Whether a datagram is whole with bytes that fit.
pub whole_is : (f : IpFragment) (v : Waiting) (g : Gap) (b : Bytes) (n reach : ℕ) (ended : Bool)
    (p : Option ℕ) → IsGap g v.runs → b ≡ bytes_of f → n ≡ filled v.runs + length b
    → reach ≡ max v.reach (f.offset + length b) → ended ≡ (v.is_ended || not f.has_more)
    → p ≡ first_protocol v.protocol f
    → is_whole (with_runs f (runs_with g f.offset b v.runs) v)
    ≡ (ended && ((n == reach) && is_some p))
whole_is f v g b n reach ended p is bytes count far ends protocol =
    let all = filled_with g f.offset b v.runs is ∙ sym count in
    let up = ap (λ l. max v.reach (f.offset + length l)) (sym bytes) ∙ sym far in
    ap (λ t. t && ((filled (runs_with g f.offset b v.runs)
    == max v.reach (f.offset + length (bytes_of f))) && is_some (first_protocol v.protocol f)))
    (sym ends)
    ∙ ap (λ m. ended && ((m == max v.reach (f.offset + length (bytes_of f)))
    && is_some (first_protocol v.protocol f))) all
    ∙ ap (λ m. ended && ((n == m) && is_some (first_protocol v.protocol f))) up
    ∙ ap (λ q. ended && ((n == reach) && is_some q)) (sym protocol)

-- The lemma above for a datagram that is equal to what its fields represent.
pub whole_view : (f : IpFragment) (u v : Waiting) → u ≡ v → (g : Gap) (b : Bytes) (n reach : ℕ)
    (ended : Bool) (p : Option ℕ) → IsGap g v.runs → b ≡ bytes_of f → n ≡ filled u.runs + length b
    → reach ≡ max u.reach (f.offset + length b) → ended ≡ (u.is_ended || not f.has_more)
    → p ≡ first_protocol u.protocol f
    → is_whole (with_runs f (runs_with g f.offset b v.runs) v)
    ≡ (ended && ((n == reach) && is_some p))
whole_view f u v e g b n reach ended p is bytes count far ends protocol =
    whole_is f v g b n reach ended p is bytes
    (count ∙ ap (λ x. filled x.runs + length b) e)
    (far ∙ ap (λ x. max x.reach (f.offset + length b)) e)
    (ends ∙ ap (λ x. x.is_ended || not f.has_more) e)
    (protocol ∙ ap (λ x. first_protocol x.protocol f) e)

pub long_view : (f : IpFragment) (u v : Waiting) → u ≡ v → (rs : List Run) (b : Bytes)
    (reach front : ℕ) → b ≡ bytes_of f → reach ≡ max u.reach (f.offset + length b)
    → front ≡ cond (f.offset == 0) f.in_front u.in_front
    → is_too_long (with_runs f rs v) ≡ nat_lt 65535 (front + reach)
long_view f u v e rs b reach front bytes far first =
    let up : max v.reach (f.offset + length (bytes_of f)) ≡ reach =
    ap (λ l. max v.reach (f.offset + length l)) (sym bytes)
    ∙ sym (far ∙ ap (λ x. max x.reach (f.offset + length b)) e) in
    let head : cond (f.offset == 0) f.in_front v.in_front ≡ front =
    sym (first ∙ ap (λ x. cond (f.offset == 0) f.in_front x.in_front) e) in
    ap (λ n. nat_lt 65535 (n + max v.reach (f.offset + length (bytes_of f)))) head
    ∙ ap (λ n. nat_lt 65535 (front + n)) up

pub mixed_view : (f : IpFragment) (u v : Waiting) → u ≡ v → (rs : List Run)
    (has_not_ect has_ect : Bool) → has_not_ect ≡ (u.has_not_ect || is_not_ect f)
    → has_ect ≡ (u.has_ect || not (is_not_ect f))
    → is_ecn_mixed (with_runs f rs v) ≡ (has_not_ect && has_ect)
mixed_view f u v e rs has_not_ect has_ect not_is ect_is =
    ap (λ t. t && (v.has_ect || not (is_not_ect f)))
    (sym (not_is ∙ ap (λ x. x.has_not_ect || is_not_ect f) e))
    ∙ ap (λ t. has_not_ect && t) (sym (ect_is ∙ ap (λ x. x.has_ect || not (is_not_ect f)) e))

-- What bytes that fit add to the memory.
cost_low : (g : Gap) → cost_of g ≤ 128
cost_low gap.End = omega arith
cost_low (gap.At k) = omega arith

module _ (f : IpFragment) (v w : Waiting) (g : Gap) (b : Bytes) where
  heavier : IsGap g v.runs → w ≡ with_runs f (runs_with g f.offset b v.runs) v
      → weight_of w ≡ weight_of v + (length b * 2 + cost_of g)
  heavier is e =
      let n = weight_with_run g f.offset b v.runs is in
      let same : weight_of w ≡ weight_in (runs_with g f.offset b v.runs) + 640 =
      ap weight_of e in
      omega (arith, n, same)

  pub grown : IsGap g v.runs → w ≡ with_runs f (runs_with g f.offset b v.runs) v
      → weight_of v ≤ weight_of w
  grown is e = let n = heavier is e in omega (arith, n)

  pub grown_most : IsGap g v.runs → w ≡ with_runs f (runs_with g f.offset b v.runs) v
      → weight_of w ≤ weight_of v + length b * 2 + 128
  grown_most is e =
      let n = heavier is e in
      let low = cost_low g in
      omega (arith, n, low)

module _ (f : IpFragment) (o : FragmentOutcome) (v w : Waiting) where
  -- By whether a datagram with bytes that fit is whole.
  module _ (x : Waiting) where
    pub receives_keeps : is_whole x ≡ false → o ≡ outcome.Waits → w ≡ x
        → Receives f o v w (completed_or_not x)
    receives_keeps h e same =
        let is : completed_or_not x ≡ Keeps x = rw h refl in
        subst (λ z. Receives f o v w z) (sym is) (e, same)

    pub receives_mixed : is_whole x ≡ true → is_ecn_mixed x ≡ true
        → o ≡ outcome.Refused refusal.MixedEcn → w ≡ v → Receives f o v w (completed_or_not x)
    receives_mixed h m e same =
        let is : completed_or_not x ≡ Drops refusal.MixedEcn = rw (h, m) refl in
        subst (λ z. Receives f o v w z) (sym is) (e, same)

    pub receives_long : is_whole x ≡ true → is_ecn_mixed x ≡ false → is_too_long x ≡ true
        → o ≡ outcome.Refused refusal.TooLong → w ≡ v → Receives f o v w (completed_or_not x)
    receives_long h m l e same =
        let is : completed_or_not x ≡ Drops refusal.TooLong = rw (h, m, l) refl in
        subst (λ z. Receives f o v w z) (sym is) (e, same)

    pub receives_whole : is_whole x ≡ true → is_ecn_mixed x ≡ false → is_too_long x ≡ false
        → HandsOut f x o → w ≡ v → Receives f o v w (completed_or_not x)
    receives_whole h m l e same =
        let is : completed_or_not x ≡ Completes x = rw (h, m, l) refl in
        subst (λ z. Receives f o v w z) (sym is) (e, same)

  -- By the end, the length and the place.
  pub receives_other : is_other_end f v ≡ true → o ≡ outcome.Refused refusal.OtherEnd → w ≡ v
      → Receives f o v w (received f v)
  receives_other h e same =
      let is : received f v ≡ Drops refusal.OtherEnd = rw h refl in
      subst (λ z. Receives f o v w z) (sym is) (e, same)

  pub receives_empty : is_other_end f v ≡ false → (length (bytes_of f) == 0) ≡ true
      → o ≡ outcome.Refused refusal.Empty → w ≡ v → Receives f o v w (received f v)
  receives_empty h n e same =
      let is : received f v ≡ Drops refusal.Empty = rw (h, n) refl in
      subst (λ z. Receives f o v w z) (sym is) (e, same)

  pub receives_at : (p : Place) (b : Bytes) → is_other_end f v ≡ false
      → (length (bytes_of f) == 0) ≡ false → b ≡ bytes_of f
      → placing_of p f.offset b v.runs ≡ placed f.offset b v.runs
      → Receives f o v w (by_placing f v (placing_of p f.offset b v.runs))
      → Receives f o v w (received f v)
  receives_at p b h n bytes at r =
      let is : received f v ≡ by_placing f v (placed f.offset (bytes_of f) v.runs) =
      rw (h, n) refl in
      let there : placing_of p f.offset b v.runs ≡ placed f.offset (bytes_of f) v.runs =
      at ∙ ap (λ l. placed f.offset l v.runs) bytes in
      subst (λ z. Receives f o v w z) (ap (by_placing f v) there ∙ sym is) r
