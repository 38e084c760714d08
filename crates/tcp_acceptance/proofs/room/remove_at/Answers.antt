use Rattle.std.proofs.Common.{length, refl}
use Rattle.std.proofs.lemmas.Option.{slice_get_read}
use Rattle.tcp_acceptance.proofs.room.remove_at.Goals as goal

pub returns-clause-taken : goal.returns-clause-taken
returns-clause-taken c =
    slice_get_read c.args.list.now.items (length c.args.list.now.items) c.args.place
    c.remove.result refl c.requires c.remove.ensures.value
