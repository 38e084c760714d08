use Rattle.std.proofs.Common.{◌≡◌, ◌∙◌, Bool, true, false, ap, subst, sym}
use Rattle.connections.specs.Connection.{shows_damage, TakesBehind}
use Rattle.connections.proofs.connection.Connection.take_datagram.Goals as goal
use Rattle.connections.proofs.connection.Connection.take_datagram.Goals.{then-shows_damage, else-shows_damage}

pub returns-clause-taken : goal.returns-clause-taken
returns-clause-taken g c =
    let d = c.args.datagram.now in let old = c.args.self.now in
    let shown = c.shows_damage.ensures
    ∙ ap (λ x. shows_damage x d.checksum old) c.side_of.ensures in
    elim c.if-shows_damage.branch [
      | then-shows_damage w ↦
          subst (λ b. TakesBehind b d old c.accept_datagram.new.self)
          (sym w.if-shows_damage.true ∙ shown) (
            w.restart.new.self,
            w.restart.ensures.anew,
            rw w.self-is at c.accept_datagram.ensures.counted,
          )
      | else-shows_damage w ↦
          subst (λ b. TakesBehind b d old c.accept_datagram.new.self)
          (sym w.if-shows_damage.false ∙ shown)
          (rw w.self-is at c.accept_datagram.ensures.counted)
    ]

pub returns-clause-attached : goal.returns-clause-attached
returns-clause-attached g c damaged =
    let d = c.args.datagram.now in let old = c.args.self.now in
    let shown = c.shows_damage.ensures
    ∙ ap (λ x. shows_damage x d.checksum old) c.side_of.ensures in
    elim c.if-shows_damage.branch [
      | then-shows_damage w ↦
          subst (g.T.Attachment.IsBegun old.protocol)
          (sym (rw w.self-is at c.accept_datagram.ensures.attachment)) w.restart.ensures.attached
      | else-shows_damage w ↦
          let no : ◌≡◌ {A = Bool} false true = sym w.if-shows_damage.false ∙ (shown ∙ damaged) in
          absurd cc
    ]
