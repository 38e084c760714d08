use Rattle.std.proofs.Common.{sym, ◌∙◌}
use Rattle.segments.proofs.MarkLemmas.{fill_all, none_counted, none_filled, standing_marks}
use Rattle.segments.proofs.marks.fill_empty.Goals as goal

pub returns-then-standing-new-clause-filled : goal.returns-then-standing-new-clause-filled
returns-then-standing-new-clause-filled c =
    sym (fill_all c.args.marks.now c.args.bytes.now c.args.new.now c.requires.bytes c.requires.new
    (standing_marks c.args.marks.now c.args.bytes.now c.args.standing c.requires.bytes
    c.requires.standing ∙ c.if-standing-new.true ∙ c.requires.new))

pub returns-then-standing-eq0-clause-filled : goal.returns-then-standing-eq0-clause-filled
returns-then-standing-eq0-clause-filled c =
    none_filled c.args.marks.now c.fill.new.self c.args.bytes.now c.copy_from_slice.new.self
    c.args.new.now
    c.requires.bytes c.requires.new
    (standing_marks c.args.marks.now c.args.bytes.now c.args.standing c.requires.bytes
    c.requires.standing ∙ c.if-standing-eq0.true)
    (c.fill.ensures.after (λ y h. h)) c.copy_from_slice.ensures.after

pub returns-then-standing-eq0-clause-counted : goal.returns-then-standing-eq0-clause-counted
returns-then-standing-eq0-clause-counted c =
    none_counted c.args.marks.now c.fill.new.self c.args.bytes.now c.copy_from_slice.new.self
    c.args.new.now
    c.requires.bytes c.requires.new
    (standing_marks c.args.marks.now c.args.bytes.now c.args.standing c.requires.bytes
    c.requires.standing ∙ c.if-standing-eq0.true)
    (c.fill.ensures.after (λ y h. h)) c.copy_from_slice.ensures.after
