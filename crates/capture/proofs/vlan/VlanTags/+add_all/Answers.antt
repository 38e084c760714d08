use Rattle.capture.proofs.VlanLemmas.{first}
use Rattle.capture.specs.Vlan.{found_in, vlan as vlan_layout}
use Rattle.capture.proofs.vlan.VlanTags.+add_all.Goals as goal

pub returns-in-Ok : goal.returns-in-Ok
returns-in-Ok t c =
    first vlan_layout c.args.i.now c.in-Ok.rest.now c.in-Ok.id (found_in c.args.self.now)
    (found_in c.add.new.self) (found_in c.add_all.new.self) c.in-Ok.ensures.read c.if-rest-i.true
    c.add.ensures c.add_all.ensures
