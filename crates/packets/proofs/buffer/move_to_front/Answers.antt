use Rattle.std.proofs.Common.{◌-◌, ◌∙◌, ap, refl, rules, take}
use Rattle.packets.proofs.BufferLemmas.{moved_front, moved_over}
use Rattle.packets.proofs.buffer.move_to_front.Goals as goal

pub returns-then-count-start-clause-moved : goal.returns-then-count-start-clause-moved
returns-then-count-start-clause-moved c =
    ap (take (c.args.end - c.args.start)) c.copy_within.ensures.after
    ∙ moved_front c.args.start c.args.end c.args.bytes.now _ _
    c.requires.ordered c.requires.within refl

pub returns-clause-moved : goal.returns-clause-moved
returns-clause-moved c =
    moved_over c.args.start c.args.end c.args.bytes.now c.copy_from_slice.new.self _ _
    c.requires.ordered c.requires.within (search rules)
