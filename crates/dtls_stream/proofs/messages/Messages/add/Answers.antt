use Rattle.std.proofs.Common.{arith, ap}
use Rattle.dtls_stream.specs.Fragments.{view_fragment}
use Rattle.dtls_stream.proofs.ReceivedLemmas.{answered, taken_ok}
use Rattle.dtls_stream.proofs.messages.Messages.add.Goals as goal

pub returns-clause-answer : goal.returns-clause-answer
returns-clause-answer c l h st =
    let next = ap (λ k. k.next) c.self.view_is in
    let ahead = ap (λ k. k.limits.ahead) c.self.view_is in
    let message = ap (λ k. k.limits.message) c.self.view_is in
    answered l h c.args.self.now (view_fragment c.args.fragment.now) _ c.add_at.result st
    (omega (arith, next, c.if-seq-self.false)) (omega (arith, next, ahead, c.if-index-self.false))
    (omega (arith, message, c.if-fragment-self.false)) c.add_at.ensures.answer

pub returns-clause-taken : goal.returns-clause-taken
returns-clause-taken c l h st =
    let next = ap (λ k. k.next) c.self.view_is in
    let ahead = ap (λ k. k.limits.ahead) c.self.view_is in
    taken_ok l h c.args.self.now c.add_at.new.self (view_fragment c.args.fragment.now) _
    c.add_at.result st
    (omega (arith, next, c.if-seq-self.false)) (omega (arith, next, ahead, c.if-index-self.false))
    c.add_at.ensures.added c.add_at.ensures.changed
