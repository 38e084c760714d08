use Rattle.std.proofs.Common.{◌≡◌, Some, ◌∙◌, ap, sym}
use Rattle.tls_stream.specs.Item.{view_event}
use Rattle.tls_stream.specs.Stream.{first_source, view_source}
use Rattle.wispuddera_c.specs.Side.{bytes_of, stream_of}
use Rattle.wispuddera_c.proofs.SideLemmas.{source_first, source_is}
use Rattle.wispuddera_c.proofs.side.Side.take_first.Goals as goal

pub take_off-content-requires-clause-front : goal.take_off-content-requires-clause-front
take_off-content-requires-clause-front c =
    (source_is (stream_of c.args.known c.args.buffer.now c.args.self.now)
    (view_event c.in-Some.event)
    (view_source c.in-Some.source) (c.in-Some.ensures ∙ ap first_source c.view.ensures)).stands

pub returns-in-Some-clause-some : goal.returns-in-Some-clause-some
returns-in-Some-clause-some c =
    let d = stream_of c.args.known c.args.buffer.now c.args.self.now in
    let here : Some (view_event c.in-Some.event, view_source c.in-Some.source) ≡ first_source d =
    c.in-Some.ensures ∙ ap first_source c.view.ensures in (
      view_event c.in-Some.event,
      source_first d (view_event c.in-Some.event) (view_source c.in-Some.source) here
          ∙ ap (λ e. Some (view_event c.in-Some.event, e))
          (sym (c.take_off-content.ensures.taken c.args.known)),
      c.event_at.ensures c.args.buffer.now (bytes_of (view_source c.in-Some.source))
          c.take_off-content.ensures.stands
          (source_is d (view_event c.in-Some.event) (view_source c.in-Some.source) here).content,
    )
