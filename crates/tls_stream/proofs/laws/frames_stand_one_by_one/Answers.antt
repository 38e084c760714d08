use Rattle.tls_stream.proofs.FrameLemmas.{no_frame}
use Rattle.tls_stream.proofs.laws.frames_stand_one_by_one.Goals as goal

pub returns-clause-none : goal.returns-clause-none
returns-clause-none c f b takes e = no_frame f takes b e
