-- How many waiting segments of each side were dropped, by their first reason.
use Rattle.std.specs.Prelude.{ℕ, ◌+◌, ◌-◌, ◌^◌, Bool, min, if◌then◌else◌, List, [], ◌∷◌}
use Rattle.tcp_acceptance.specs.Doubtful.{Doubtful}
use Rattle.tcp_acceptance.specs.declared.segment.Reasons.{Reasons}
use Rattle.tcp_acceptance.specs.declared.segment.Side.{Side}
use Rattle.tcp_acceptance.specs.declared.segment.Side.TheVariants.{Originator, Responder}
use Rattle.tcp_acceptance.specs.declared.tally.Counts.{Counts}
use Rattle.tcp_acceptance.specs.declared.tally.Tally.{Tally}

-- A count plus one, saturating.
abbrev pub one_more : ℕ → ℕ
one_more n = min (n + 1) (2 ^ 64 - 1)

-- One more for the first of its reasons; with none nothing counts.
abbrev pub with_reasons : Reasons → Counts → Counts
with_reasons r c =
    if r.checksum then record c { checksum = one_more c.checksum }
    else if r.signature then record c { signature = one_more c.signature }
    else if r.clock then record c { clock = one_more c.clock }
    else if r.acknowledgment then record c { acknowledgment = one_more c.acknowledgment }
    else if r.window then record c { window = one_more c.window }
    else if r.opening then record c { opening = one_more c.opening }
    else c

abbrev pub with_dropped_of : Side → Reasons → Tally → Tally
with_dropped_of Originator r t = record t { originator = with_reasons r t.originator }
with_dropped_of Responder r t = record t { responder = with_reasons r t.responder }

abbrev pub with_dropped : Doubtful → Tally → Tally
with_dropped k t = with_dropped_of k.sender k.reasons t

-- Those that pass a test count as dropped.
abbrev pub with_counted : (Doubtful → Bool) → List Doubtful → Tally → Tally
with_counted test [] t = t
with_counted test (k ∷ ks) t = with_counted test ks (if test k then with_dropped k t else t)
