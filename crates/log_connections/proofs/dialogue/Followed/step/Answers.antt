use Rattle.std.proofs.Common.{◌∙◌, ap, false, sym, true}
use Rattle.preambles.specs.Walk.{view as place_of}
use Rattle.preambles.specs.Rows.{outcome_of}
use Rattle.log_connections.specs.Dialogue.{staying, stepped_by}
use Rattle.log_connections.proofs.DialogueLemmas.{stepped_if}
use Rattle.log_connections.proofs.dialogue.Followed.step.Goals as goal

pub returns-then-are_too_many : goal.returns-then-are_too_many
returns-then-are_too_many c =
    c.stay.ensures ∙ ap staying c.behind_tunnel.ensures.state
    ∙ sym (stepped_if true c.args.self.tunnel (place_of c.args.self.preamble) c.args.self.client
    c.args.self.server c.args.client.now c.args.server.now
    (sym c.are_too_many.ensures ∙ c.if-are_too_many.true))

pub returns : goal.returns
returns c =
    c.lead.ensures
    ∙ ap
    (λ r. stepped_by (outcome_of r.place.phase) c.args.self.tunnel r.place r.client r.server)
    c.read_on-read.ensures
    ∙ sym (stepped_if false c.args.self.tunnel (place_of c.args.self.preamble) c.args.self.client
    c.args.self.server c.args.client.now c.args.server.now
    (sym c.are_too_many.ensures ∙ c.if-are_too_many.false))
