use Rattle.std.proofs.Common.{◌≡◌, ◌+◌, ◌++◌, [], length, take, get_or, ap, sym, ◌∙◌, subst}
use Rattle.std.proofs.lemmas.List.{take_more, take_all}
use Rattle.segments.specs.Cells.{Held, run, with_segment, without_front}
use Rattle.segments.specs.Law.{Segment, AreParts, IsCovered}
use Rattle.segments.proofs.LawLemmas.{IsHandingOut, handing_starts, handing_next, longest}
use Rattle.segments.proofs.whole.reassemble.Goals as goal

pub loop-segment-init : goal.loop-segment-init
loop-segment-init c = (
  ap (λ h. h.first) c.new-stream.ensures,
  λ stream short parts.
      subst (λ h. IsHandingOut stream (IsCovered c.args.first_place []) c.new-out.result.items h)
      (sym c.new-stream.ensures)
      (subst (λ o. IsHandingOut stream (IsCovered c.args.first_place []) o record
      { first = c.args.first_place; limit = c.args.limit; taken = 0; cells = [] }) (sym
      c.new-out.ensures.items)
      (handing_starts stream c.args.first_place c.args.limit)),
)

pub loop-segment-preserved : goal.loop-segment-preserved
loop-segment-preserved c =
    let f = c.args.first_place in
    let i = c.loop-segment.segment-index in
    let ss = c.args.segments.now in
    let s : Segment = get_or ss i (0, record { ref_ptr = (0, 0); now = [] }) in
    let h1 = c.segment.new.self in
    let h : Held = with_segment s.0 s.1.now c.loop-segment.stream in
    let is : h1 ≡ h = c.in_ok-segment.ensures.ok in
    let front : c.available-front.result.now ≡ run h1.cells = c.available-front.ensures in
    let out = c.in_ok-extend_from_slice.ensures.items
    ∙ ap (λ b. c.loop-segment.out.items ++ b) (front ∙ ap (λ h. run h.cells) is) in
    let new = c.take.ensures ∙ ap (λ b. without_front (length b) h1) front
    ∙ ap (λ h. without_front (length (run h.cells)) h) is in
    let next = take_more ss i (0, record { ref_ptr = (0, 0); now = [] })
    c.loop-segment-test.true in (
      ap (λ h. h.first) new ∙ c.loop-segment.invariant.0,
      λ stream short parts.
          subst (λ o. IsHandingOut stream (IsCovered f (take (i + 1) ss)) o c.take.new.self)
          (sym out)
          (subst (λ h. IsHandingOut stream (IsCovered f (take (i + 1) ss))
          (c.loop-segment.out.items ++ run (with_segment s.0 s.1.now c.loop-segment.stream).cells)
          h) (sym new)
          (subst (λ xs. IsHandingOut stream (IsCovered f xs)
          (c.loop-segment.out.items ++ run (with_segment s.0 s.1.now c.loop-segment.stream).cells)
          (without_front (length (run (with_segment s.0 s.1.now c.loop-segment.stream).cells))
          (with_segment s.0 s.1.now c.loop-segment.stream))) (sym next)
          (handing_next stream f (take i ss) s c.loop-segment.out.items c.loop-segment.stream short
          c.loop-segment.invariant.0 (c.loop-segment.invariant.1 stream short)
          (subst (AreParts stream f) next parts)))),
    )

pub returns : goal.returns
returns c = λ stream short parts.
    let all = take_all c.loop-segment.segment-index c.args.segments.now c.loop-segment-test.false in
    longest stream (IsCovered c.args.first_place c.args.segments.now) c.loop-segment.out.items
    c.loop-segment.stream
    (subst (λ ss. IsHandingOut stream (IsCovered c.args.first_place ss) c.loop-segment.out.items
    c.loop-segment.stream)
    all
    (c.loop-segment.invariant.1 stream short
    (subst (AreParts stream c.args.first_place) (sym all) parts)))
