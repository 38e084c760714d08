use Rattle.std.proofs.Common.{◌++◌, ◌∙◌, length, map, take, sym, ap, arith, append_assoc}
use Rattle.std.proofs.lemmas.List.{length-append}
use Rattle.layouts.proofs.WriterLemmas.{fits_at, fits_behind, texts_taken, room_for}
use Rattle.tls_hs.specs.Message.{view_message}
use Rattle.tls_records.specs.RecordText.{message_text, fragment_text, FitsMessage, InRangeMessage}
use Rattle.tls_records.proofs.writer.builder.append_messages.Goals as goal

pub append_message-requires-clause-fits : goal.append_message-requires-clause-fits
append_message-requires-clause-fits c =
    fits_at FitsMessage view_message c.args.messages.now c.loop-message.message-index
    c.message-item.result
    c.loop-message-test.true c.message-item.is c.requires.fits

pub append_message-requires-clause-room : goal.append_message-requires-clause-room
append_message-requires-clause-room c =
    let within = room_for message_text view_message c.args.messages.now c.loop-message.message-index
    c.message-item.result c.loop-message-test.true c.message-item.is in
    omega (
      arith,
      within,
      c.requires.room,
      c.loop-message.invariant.count,
      c.loop-message.invariant.room,
    )

pub loop-message-preserved : goal.loop-message-preserved
loop-message-preserved c =
    let ms = c.args.messages.now in
    let i = c.loop-message.message-index in
    let m = c.message-item.result in
    let h = c.loop-message-test.true in
    let front = fragment_text (map view_message (take i ms)) in
    let more = texts_taken message_text view_message ms i m h c.message-item.is in
    record {
      items =
          c.append_message.ensures.items
          ∙ ap (λ t. t ++ message_text (view_message m)) c.loop-message.invariant.items
          ∙ append_assoc c.args.out.now.items front (message_text (view_message m))
          ∙ ap (λ t. c.args.out.now.items ++ t) (sym more);
      range = fits_behind InRangeMessage view_message ms i m h c.message-item.is
          c.loop-message.invariant.range
          c.append_message.ensures.range;
      count = omega (
        arith,
        c.append_message.ensures.len,
        c.loop-message.invariant.count,
        ap length more,
        length-append front (message_text (view_message m)),
      );
      room = omega (arith, c.append_message.ensures.capacity, c.loop-message.invariant.room);
    }
