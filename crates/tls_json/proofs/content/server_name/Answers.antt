use Rattle.std.proofs.Common.{[], ◌∷◌, codes}
use Rattle.tls_json.specs.Outline.{Entries, decimal}
use Rattle.tls_json.proofs.Entries.{data_of, shows_itself, names_shown}
use Rattle.tls_json.proofs.content.server_name.Goals as goal

pub returns : goal.returns
returns c =
    let host_name = c.escaped.result in
    let typed = c.decimal.ensures [] c.new.ensures.fields in
    let all : Entries =
    decimal (codes "name_type") c.from.result ∷ (codes "host_name", data_of host_name) ∷ [] in
    names_shown c.finish.result all
    (c.finish.ensures.fields _
    (c.add.ensures.fields _ (data_of host_name) typed (shows_itself host_name)))
