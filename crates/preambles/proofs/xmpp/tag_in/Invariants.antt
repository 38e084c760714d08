use Rattle.std.proofs.Common.{◌≡◌, ◌≤◌, ◌-◌, length, drop}
use Rattle.preambles.specs.Xmpp.{tag_in}
use Rattle.preambles.proofs.xmpp.tag_in.Given as goal

abbrev pub invariant-loop-place : goal.invariant-loop-place
invariant-loop-place l =
    (l.place ≤ length l.front) × (tag_in l.front ≡ tag_in (drop l.place l.front))

abbrev pub decreases-loop-place : goal.decreases-loop-place
decreases-loop-place l = length l.front - l.place
