use Rattle.std.proofs.Common.{[], ◌∷◌, codes}
use Rattle.tls_json.specs.Outline.{Entries, bytes}
use Rattle.tls_json.proofs.Entries.{data_of, shows_itself, names_shown}
use Rattle.tls_json.proofs.body.next_protocol.Goals as goal

pub returns : goal.returns
returns c =
    let protocol = c.escaped.result in
    let named = c.add.ensures.fields [] (data_of protocol) c.new.ensures.fields
    (shows_itself protocol) in
    let all : Entries =
    (codes "selected_protocol", data_of protocol) ∷ bytes (codes "padding")
    c.args.next.now.padding.now ∷ [] in
    names_shown c.finish.result all (c.finish.ensures.fields _ (c.bytes.ensures _ named))
