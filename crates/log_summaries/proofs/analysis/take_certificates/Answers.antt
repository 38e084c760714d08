use Rattle.log_summaries.proofs.PieceLemmas.{gives}
use Rattle.log_summaries.proofs.analysis.take_certificates.Goals as goal
use Rattle.log_summaries.specs.Pieces.{GivesCertificates}

pub returns-in-Some-clause-none : goal.returns-in-Some-clause-none
returns-in-Some-clause-none c =
    gives GivesCertificates c.args.attachment.now.collector c.in-Some.pieces.now
    c.take_certificates.new.self c.in-Some.ensures.value c.take_certificates.ensures.none
