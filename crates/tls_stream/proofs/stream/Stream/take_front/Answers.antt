use Rattle.std.proofs.Common.{◌≡◌, ◌||◌, ◌==◌, true, subst, sym, arith}
use Rattle.tls_stream.specs.Item.{content_type, view_event}
use Rattle.tls_stream.specs.Stream.{FirstTaken, OfMessage, OfRecord, first}
use Rattle.tls_stream.proofs.SourceLemmas.{message_source, record_source, source_fits, source_taken}
use Rattle.tls_stream.proofs.stream.Stream.take_front.Goals as goal

pub take_part-requires : goal.take_part-requires
take_part-requires c =
    source_fits c.args.self.now (view_event c.in-Some-default-Message.field-0-0)
    (OfMessage c.in-Some-default-Message.message.now)
    (message_source c.args.self.now c.view.result (view_event c.in-Some-default-Message.field-0-0)
    c.in-Some-default-Message.field-0-1 c.in-Some-default-Message.message
    c.in-Some-default-Message.field-0-1-is c.in-Some-default-Message.ensures c.view.ensures)

pub bounds-record-0 : goal.bounds-record-0
bounds-record-0 c =
    let enough = (source_fits c.args.self.now (view_event c.in-Some-default-Record.field-0-0)
    (OfRecord c.in-Some-default-Record.record.now)
    (record_source c.args.self.now c.view.result (view_event c.in-Some-default-Record.field-0-0)
    c.in-Some-default-Record.field-0-1 c.in-Some-default-Record.record
    c.in-Some-default-Record.field-0-1-is c.in-Some-default-Record.ensures c.view.ensures)).0 in
    omega (arith, enough)

pub take_unread-requires : goal.take_unread-requires
take_unread-requires c =
    (source_fits c.args.self.now (view_event c.in-Some-default-Record.field-0-0)
    (OfRecord c.in-Some-default-Record.record.now)
    (record_source c.args.self.now c.view.result (view_event c.in-Some-default-Record.field-0-0)
    c.in-Some-default-Record.field-0-1 c.in-Some-default-Record.record
    c.in-Some-default-Record.field-0-1-is c.in-Some-default-Record.ensures c.view.ensures)).1

pub returns-in-Some-default-Message : goal.returns-in-Some-default-Message
returns-in-Some-default-Message c =
    let d = c.args.self.now in
    subst (λ h. FirstTaken (first d) d true (record {
      limit = d.limit;
      is_tls13 = d.is_tls13;
      has_changed = d.has_changed;
      kind = d.kind;
      held = h;
    }))
    (sym c.take_part.ensures)
    (source_taken d (view_event c.in-Some-default-Message.field-0-0)
    (OfMessage c.in-Some-default-Message.message.now)
    (message_source c.args.self.now c.view.result (view_event c.in-Some-default-Message.field-0-0)
    c.in-Some-default-Message.field-0-1 c.in-Some-default-Message.message
    c.in-Some-default-Message.field-0-1-is c.in-Some-default-Message.ensures c.view.ensures))

pub returns-in-Some-default-Record : goal.returns-in-Some-default-Record
returns-in-Some-default-Record c =
    let d = c.args.self.now in
    subst (λ h. FirstTaken (first d) d true (record {
      limit = d.limit;
      is_tls13 = d.is_tls13;
      has_changed =
          d.has_changed || (content_type c.in-Some-default-Record.record.now == 20);
      kind = d.kind;
      held = h;
    }))
    (sym c.take_unread.ensures)
    (source_taken d (view_event c.in-Some-default-Record.field-0-0)
    (OfRecord c.in-Some-default-Record.record.now)
    (record_source c.args.self.now c.view.result (view_event c.in-Some-default-Record.field-0-0)
    c.in-Some-default-Record.field-0-1 c.in-Some-default-Record.record
    c.in-Some-default-Record.field-0-1-is c.in-Some-default-Record.ensures c.view.ensures))
