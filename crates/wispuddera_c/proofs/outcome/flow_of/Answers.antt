use Rattle.std.proofs.Common.{false, ap₂, ◌∙◌}
use Rattle.tls_flow.specs.Symbols.{symbol}
use Rattle.tls_flow.specs.Steps.{silence}
use Rattle.wispuddera_c.proofs.OutcomeLemmas.{followed}
use Rattle.wispuddera_c.proofs.outcome.flow_of.Goals as goal

pub loop-event-preserved : goal.loop-event-preserved
loop-event-preserved c =
    followed c.args.events.now c.loop-event.event-index
    (record { kind = 0; to_server = false }) silence
    c.loop-event.flow c.update.new.self c.new.result c.loop-event-test.true
    (c.new.ensures.symbol ∙ ap₂ symbol c.kind_of.ensures c.of-direction.ensures) c.new.ensures.alert
    c.update.ensures
    c.loop-event.invariant
