use Rattle.std.proofs.Common.{Err, ◌∙◌, ap}
use Rattle.std.specs.String.{string_bytes}
use Rattle.tlsview.proofs.RecordLemmas.{too_large_shown}
use Rattle.tlsview.proofs.records.show_bytes.Goals as goal

pub returns-in-Err-TooLarge : goal.returns-in-Err-TooLarge
returns-in-Err-TooLarge c =
    let last =
    too_large_shown c.args.direction
    (string_bytes c.args.text.now) c.args.side.now.stream c.args.bytes.now
    c.args.side.now.is_encrypted
    c.args.context.now
    (c.feed.ensures.too_large.0 (c.in-Err-TooLarge.is ∙ ap Err c.in-Err-TooLarge.field-0-is)) in
    (last.text_is, last.ending_is)
