use Rattle.std.proofs.Common.{◌∙◌, sym}
use Rattle.tls_stream.specs.Frames.{up_to}
use Rattle.tls_stream.proofs.FrameLemmas.{first_taken, none_taken}
use Rattle.tls_stream.proofs.PieceLemmas.{taken_more, taken_all}
use Rattle.tls_stream.proofs.split.take_frames.Goals as goal

pub loop-bytes-smaller : goal.loop-bytes-smaller
loop-bytes-smaller g c =
    (first_taken (up_to g.F.Frame.kind g.row.LIMIT) g.met.F.Frame.takes c.loop-bytes.stream
    c.in-Some.bytes.now
    c.take_front.new.self c.take_front.result c.in-Some.ensures c.take_front.ensures).fewer

pub loop-bytes-preserved : goal.loop-bytes-preserved
loop-bytes-preserved g c = (
  taken_more (up_to g.F.Frame.kind g.row.LIMIT) g.met.F.Frame.takes c.loop-bytes.taken.items
      c.in_ok-frame.frame
      c.push.new.self.items c.loop-bytes.stream c.in-Some.bytes.now c.take_front.new.self
      c.take_front.result _
      c.in_ok-push.ensures.items c.in_ok-frame.ensures.items c.in-Some.ensures c.take_front.ensures
      c.loop-bytes.invariant.0,
  sym (first_taken (up_to g.F.Frame.kind g.row.LIMIT) g.met.F.Frame.takes c.loop-bytes.stream
      c.in-Some.bytes.now
      c.take_front.new.self c.take_front.result c.in-Some.ensures c.take_front.ensures).left_is
      ∙ c.loop-bytes.invariant.1,
)

pub returns : goal.returns
returns g c = taken_all (up_to g.F.Frame.kind g.row.LIMIT) _ c.loop-bytes.stream _ _
    (none_taken (up_to g.F.Frame.kind g.row.LIMIT) g.met.F.Frame.takes c.loop-bytes.stream
    c.in_default.ensures)
    c.loop-bytes.invariant
