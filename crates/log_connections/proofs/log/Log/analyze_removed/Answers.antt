use Rattle.std.proofs.Common.{refl}
use Rattle.log_connections.specs.Sink.{cut_off, wholly}
use Rattle.log_connections.proofs.log.Log.analyze_removed.Goals as goal

pub returns-in-Ok-clause-ended : goal.returns-in-Ok-clause-ended
returns-in-Ok-clause-ended g c =
    wholly c.analyze_last.new.connection c.in-Ok.ensures.analysis refl

pub returns-in-Err-clause-ended : goal.returns-in-Err-clause-ended
returns-in-Err-clause-ended g c =
    cut_off c.analyze_last.new.connection c.in-Err.ensures.cut refl
