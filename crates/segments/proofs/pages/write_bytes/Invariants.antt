use Rattle.std.proofs.Common.{◌≤◌, ◌-◌, length, take}
use Rattle.segments.specs.Pages.{IsWritten}
use Rattle.segments.proofs.pages.write_bytes.Given as goal

abbrev pub invariant-loop-done : goal.invariant-loop-done
invariant-loop-done l =
    (l.count ≤ l.done) × (l.done ≤ length l.bytes)
    × IsWritten l.at (take l.done l.bytes) l.initial.pages l.pages l.count

abbrev pub decreases-loop-done : goal.decreases-loop-done
decreases-loop-done l = length l.bytes - l.done
