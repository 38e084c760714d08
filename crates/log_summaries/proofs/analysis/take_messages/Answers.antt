use Rattle.log_summaries.proofs.PieceLemmas.{gives}
use Rattle.log_summaries.proofs.analysis.take_messages.Goals as goal
use Rattle.log_summaries.specs.Pieces.{GivesMessages}

pub returns-in-Some-clause-none : goal.returns-in-Some-clause-none
returns-in-Some-clause-none c =
    gives GivesMessages c.args.attachment.now.collector c.in-Some.pieces.now
    c.take_messages.new.self c.in-Some.ensures.value c.take_messages.ensures.none
