use Rattle.std.proofs.Common.{IfOk, ℕ, subst}
use Rattle.tls_json.specs.Outline.{Shows}
use Rattle.tls_json.specs.Tables.{message_fields}
use Rattle.tls_json.proofs.message.fields.Goals as goal

pub returns : goal.returns
returns c = λ d h.
    let named = c.some_name.ensures _ (c.decimal.ensures _ c.new.ensures.fields) in
    let numbered = c.some_decimal.ensures _ (c.decimal-2.ensures _ named) in
    let IsOfType : ℕ → Type 0 = λ n. IfOk c.finish.result
    (Shows (message_fields n c.args.name c.args.length c.args.message_seq d
    c.args.content.rest.now)) in
    subst IsOfType c.from.ensures
    (c.finish.ensures.fields _ (c.some_bytes.ensures _ (c.add.ensures.fields _ d numbered h)))
