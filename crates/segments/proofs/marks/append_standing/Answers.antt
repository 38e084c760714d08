use Rattle.std.proofs.Common.{◌++◌, sym, ◌∙◌, ap}
use Rattle.segments.proofs.MarkLemmas.{over_all, over_none, standing_marks}
use Rattle.segments.proofs.marks.append_standing.Goals as goal

pub returns-then-standing-eq0-clause-out : goal.returns-then-standing-eq0-clause-out
returns-then-standing-eq0-clause-out c =
    c.in_ok-extend_from_slice.ensures.items
    ∙ ap (λ r. c.args.out.now.items ++ r)
    (sym (over_none c.args.marks.now c.args.bytes.now c.args.new.now
    (standing_marks c.args.marks.now c.args.bytes.now c.args.standing c.requires.bytes
    c.requires.standing ∙ c.if-standing-eq0.true)))

pub returns-then-standing-marks-clause-out : goal.returns-then-standing-marks-clause-out
returns-then-standing-marks-clause-out c =
    c.in_ok-extend_from_slice-2.ensures.items
    ∙ ap (λ r. c.args.out.now.items ++ r)
    (sym (over_all c.args.marks.now c.args.bytes.now c.args.new.now c.requires.bytes c.requires.new
    (standing_marks c.args.marks.now c.args.bytes.now c.args.standing c.requires.bytes
    c.requires.standing ∙ c.if-standing-marks.true)))
