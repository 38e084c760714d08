use Rattle.std.proofs.Common.{◌+◌, ◌-◌, ◌<◌, Some, length, drop, arith, sym, ◌∙◌, ap}
use Rattle.std.proofs.lemmas.List.{length-drop}
use Rattle.preambles.specs.Walk.{IsNextDue, read, view}
use Rattle.preambles.specs.declared.phase.Side.TheVariants.{Client, Server}
use Rattle.preambles.proofs.PieceLemmas.{none_due}
use Rattle.preambles.proofs.WalkLemmas.{client_more, server_more}
use Rattle.preambles.proofs.preamble.Preamble.read_both.Goals as goal

pub loop-side-preserved-in-Client : goal.loop-side-preserved-in-Client
loop-side-preserved-in-Client c =
    let p = view c.loop-side.self in
    let i = c.loop-side.of_client in let j = c.loop-side.of_server in
    let client = c.args.client.now in let server = c.args.server.now in
    let due : IsNextDue (Some Client) (length client - i) (length server - j) p =
    rw c.in-Client.is at c.in-Some.ensures in
    let has : 0 < length client - i = due.0 in (
      omega (arith, has),
      c.loop-side.invariant.1,
      c.loop-side.invariant.2
          ∙ client_more client (drop j server) p i (omega (arith, has)) due.1
          ∙ ap (λ q. read (drop (i + 1) client) (drop j server) q) (sym c.step.ensures),
    )

pub loop-side-preserved : goal.loop-side-preserved
loop-side-preserved c =
    let p = view c.loop-side.self in
    let i = c.loop-side.of_client in let j = c.loop-side.of_server in
    let client = c.args.client.now in let server = c.args.server.now in
    let due : IsNextDue (Some Server) (length client - i) (length server - j) p =
    rw c.in-Server.is at c.in-Some.ensures in
    let has : 0 < length server - j = due.0 in (
      c.loop-side.invariant.0,
      omega (arith, has),
      c.loop-side.invariant.2
          ∙ server_more (drop i client) server p j (omega (arith, has)) due.1
          ∙ ap (λ q. read (drop i client) (drop (j + 1) server) q) (sym c.step-in-Server.ensures),
    )

pub returns-clause-read : goal.returns-clause-read
returns-clause-read c =
    let p = view c.loop-side.self in
    let i = c.loop-side.of_client in let j = c.loop-side.of_server in
    let client = c.args.client.now in let server = c.args.server.now in
    let none = c.in_default.ensures in
    c.loop-side.invariant.2
    ∙ none_due (drop i client) (drop j server) p
    (λ has. none.0 (omega (arith, has, length-drop i client)))
    (λ has. none.1 (omega (arith, has, length-drop j server)))
