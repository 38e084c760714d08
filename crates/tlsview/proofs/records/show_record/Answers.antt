use Rattle.std.specs.String.{string_bytes}
use Rattle.tls_records.specs.Record.{view_raw_record}
use Rattle.tlsview.proofs.FollowLemmas.{messages_shown}
use Rattle.tlsview.proofs.records.show_record.Goals as goal

pub returns-in_ok-show_messages-in-Ok : goal.returns-in_ok-show_messages-in-Ok
returns-in_ok-show_messages-in-Ok c =
    messages_shown c.args.direction (string_bytes c.args.text.now)
    (string_bytes c.show_messages.new.text) c.args.context.now c.follow_messages.new.context
    c.args.is_encrypted c.change_cipher-is_encrypted.result c.goes_to_server.result
    (view_raw_record c.args.raw.now) c.in-Ok.field-0-0.now
    c.in-Ok.messages.items c.as_slice.result.now c.as_slice-in-Ok.result.now
    c.as_slice-in-Ok-2.result.now
    c.if-is_encrypted.false
    (c.in-Ok.ensures.gives.read tt) c.goes_to_server.ensures c.as_slice.ensures.value
    c.as_slice-in-Ok.ensures.value
    c.as_slice-in-Ok-2.ensures.value
    c.in_ok-show_messages-in-Ok.ensures c.follow_messages.ensures
    c.change_cipher-is_encrypted.ensures
