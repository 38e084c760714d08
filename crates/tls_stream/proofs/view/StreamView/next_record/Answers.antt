use Rattle.std.proofs.Common.{inl, inr, ◌∙◌, ap}
use Rattle.tls_stream.specs.Item.{view_event}
use Rattle.tls_stream.specs.declared.stream.Stream.{Stream}
use Rattle.tls_stream.proofs.StreamLemmas.{fails_alone, fails_broken, joins, ready_alone, record_length}
use Rattle.tls_stream.proofs.view.StreamView.next_record.Goals as goal

pub read-requires : goal.read-requires
read-requires c = record_length c.args.self.now.held.unread c.in-Some.record.now c.in-Some.ensures

pub returns-in-Broken : goal.returns-in-Broken
returns-in-Broken c =
    fails_broken c.args.self.now c.requires.none c.requires.small c.in-Some.record.now
    c.in-Broken.kind
    c.in-Some.ensures c.in-Broken.ensures

pub returns-in-Alone : goal.returns-in-Alone
returns-in-Alone c =
    ready_alone c.args.self.now c.requires.none c.requires.small c.in-Some.record.now
    (view_event c.in-Alone.field-0) c.in-Some.ensures c.in-Alone.ensures
    (c.is_closed-is_closed.ensures.none c.if-is_closed.true)

pub returns-in-Alone-2 : goal.returns-in-Alone-2
returns-in-Alone-2 c =
    fails_alone c.args.self.now c.requires.none c.requires.small c.in-Some.record.now
    (view_event c.in-Alone-2.field-0) c.in-Some.ensures c.in-Alone-2.ensures
    (c.is_closed-is_closed.ensures.some c.if-is_closed.false)

pub returns-in-Fragment : goal.returns-in-Fragment
returns-in-Fragment c =
    joins c.args.self.now c.requires.none c.requires.small c.in-Some.record.now c.in-Fragment.kind
    c.in-Fragment.bytes.now c.in-Some.ensures c.in-Fragment.ensures
    (inr (c.is_closed-is_closed.ensures.none c.if-is_closed-2.true))

pub returns-in-Fragment-2 : goal.returns-in-Fragment-2
returns-in-Fragment-2 c =
    joins c.args.self.now c.requires.none c.requires.small c.in-Some.record.now c.in-Fragment.kind
    c.in-Fragment.bytes.now c.in-Some.ensures c.in-Fragment.ensures
    (inl (c.if-kind-self.true ∙ ap (λ (v : Stream). v.kind) c.self.view_is))
