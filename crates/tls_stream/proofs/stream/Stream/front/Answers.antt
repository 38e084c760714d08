use Rattle.std.proofs.Common.{◌∙◌, ap}
use Rattle.std.specs.Option.{option_map}
use Rattle.tls_stream.specs.Item.{Event}
use Rattle.tls_stream.specs.Stream.{Source, first_source}
use Rattle.tls_stream.proofs.SourceLemmas.{source_front}
use Rattle.tls_stream.proofs.stream.Stream.front.Goals as goal

pub returns-in-Some : goal.returns-in-Some
returns-in-Some c =
    ap (option_map (λ (x : Event × Source). x.0))
    (c.in-Some.ensures ∙ ap first_source c.view.ensures)
    ∙ source_front c.args.self.now
