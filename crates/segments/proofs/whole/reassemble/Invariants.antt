use Rattle.std.proofs.Common.{◌≡◌, ◌<◌, ◌^◌, length, take}
use Rattle.segments.specs.Cells.{Bytes}
use Rattle.segments.specs.Law.{AreParts, IsCovered}
use Rattle.segments.proofs.LawLemmas.{IsHandingOut}
use Rattle.segments.proofs.whole.reassemble.Given as goal

abbrev pub invariant-loop-segment : goal.invariant-loop-segment
invariant-loop-segment l =
    (l.stream.first ≡ l.first_place)
    × ((stream : Bytes) → length stream < 2 ^ 31
    → AreParts stream l.first_place (take l.segment-index l.segments)
    → IsHandingOut stream (IsCovered l.first_place (take l.segment-index l.segments))
    l.out.items l.stream)
