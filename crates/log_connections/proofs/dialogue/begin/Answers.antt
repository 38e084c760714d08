use Rattle.std.proofs.Common.{◌∙◌, sym}
use Rattle.log_connections.proofs.DialogueLemmas.{record_in_front}
use Rattle.log_connections.proofs.dialogue.begin.Goals as goal

pub returns-then-begins_record : goal.returns-then-begins_record
returns-then-begins_record c =
    c.stay.ensures
    ∙ sym (record_in_front c.args.client.now c.args.server.now
    (sym c.begins_record.ensures ∙ c.if-begins_record.true))
