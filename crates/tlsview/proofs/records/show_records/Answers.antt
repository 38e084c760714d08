use Rattle.std.proofs.Common.{◌∙◌}
use Rattle.std.specs.String.{string_bytes}
use Rattle.tlsview.proofs.RecordLemmas.{one_shown}
use Rattle.tlsview.proofs.records.show_records.Goals as goal

pub records-preserved : goal.records-preserved
records-preserved c =
    let one =
    one_shown c.args.direction (string_bytes c.records.text)
    (string_bytes c.show_next.new.text) c.records.side.stream c.take_front.new.self
    c.records.side.is_encrypted c.in-Record.is_encrypted c.take_front.result c.records.context
    c.show_next.new.context
    c.in_ok-next.next c.in-Record.is c.in_ok-next.ensures c.take_front.ensures in
    record {
      text = one.text_is ∙ c.records.invariant.text;
      ending = one.ending_is ∙ c.records.invariant.ending;
    }

pub records-smaller : goal.records-smaller
records-smaller c =
    (one_shown c.args.direction (string_bytes c.records.text)
    (string_bytes c.show_next.new.text) c.records.side.stream c.take_front.new.self
    c.records.side.is_encrypted c.in-Record.is_encrypted c.take_front.result c.records.context
    c.show_next.new.context
    c.in_ok-next.next c.in-Record.is c.in_ok-next.ensures c.take_front.ensures).fewer
