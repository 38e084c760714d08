use Rattle.std.proofs.Common.{◌∙◌, sym}
use Rattle.connections.proofs.ConnectionLemmas.{part_accepted, part_left_out, syn_accepted, syn_left_out, where_err, where_ok}
use Rattle.connections.proofs.connection.Connection.accept_judged.Goals as goal

pub returns-then-begins-clause-taken : goal.returns-then-begins-clause-taken
returns-then-begins-clause-taken g c =
    where_ok c.put_syn.result
    (syn_accepted c.args.side c.args.segment.now c.args.self.now c.args.judgement c.count.new.self
    c.note.new.self c.put_syn.new.self
    c.requires.sent c.requires.judged c.count.ensures.counted c.note.ensures.noted
    (sym c.begins.ensures ∙ c.if-begins.true))
    c.put_syn.ensures.taken

pub returns-then-begins-clause-left_out : goal.returns-then-begins-clause-left_out
returns-then-begins-clause-left_out g c =
    where_err c.put_syn.result
    (syn_left_out c.args.side c.args.segment.now c.args.self.now c.args.judgement c.count.new.self
    c.note.new.self c.put_syn.new.self
    c.requires.sent c.requires.judged c.count.ensures.counted c.note.ensures.noted
    (sym c.begins.ensures ∙ c.if-begins.true))
    c.put_syn.ensures.left_out

pub returns-clause-taken : goal.returns-clause-taken
returns-clause-taken g c =
    where_ok c.put_part.result
    (part_accepted c.args.side c.args.segment.now c.args.self.now c.args.judgement c.count.new.self
    c.note.new.self c.put_part.new.self
    c.requires.sent c.requires.judged c.count.ensures.counted c.note.ensures.noted
    (sym c.begins.ensures ∙ c.if-begins.false))
    c.put_part.ensures.taken

pub returns-clause-left_out : goal.returns-clause-left_out
returns-clause-left_out g c =
    where_err c.put_part.result
    (part_left_out c.args.side c.args.segment.now c.args.self.now c.args.judgement c.count.new.self
    c.note.new.self c.put_part.new.self
    c.requires.sent c.requires.judged c.count.ensures.counted c.note.ensures.noted
    (sym c.begins.ensures ∙ c.if-begins.false))
    c.put_part.ensures.left_out
