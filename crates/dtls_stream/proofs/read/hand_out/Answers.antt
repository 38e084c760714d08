use Rattle.std.proofs.Common.{◌≡◌, ◌∙◌, false, subst, sym}
use Rattle.dtls_stream.specs.Messages.{AreHandedOut, view_events}
use Rattle.dtls_stream.proofs.StoppedLemmas.{ends_none, pushed_on}
use Rattle.dtls_stream.proofs.EmittedLemmas.{ends, one_more}
use Rattle.dtls_stream.proofs.read.hand_out.Goals as goal

pub returns-in_default-clause-emitted : goal.returns-in_default-clause-emitted
returns-in_default-clause-emitted c l h st =
    let way = c.whole.invariant l h st in
    subst (λ es. AreHandedOut l h (view_events c.args.events.now.items) (view_events es)
    c.take_front.new.self)
    (sym c.in_ok-reserve.ensures.items)
    (ends l h _ _ c.whole.messages c.take_front.new.self c.take_front.result way c.in_default.is
    (c.take_front.ensures.message l _ way.stands) (c.take_front.ensures.stands l _ way.stands))

pub whole-preserved : goal.whole-preserved
whole-preserved c a h st =
    let way = c.whole.invariant a h st in
    one_more a h _ _ _ c.whole.messages c.take_front.new.self c.in-Some.message way
    (c.in-Some.ensures.message a _ way.stands) (c.in-Some.ensures.stands a _ way.stands)
    (pushed_on _ _ _ _ c.in_ok-reserve.ensures.items c.in_ok-push.ensures.items)

pub returns-clause-emitted : goal.returns-clause-emitted
returns-clause-emitted c l h st =
    let way = c.whole.invariant l h st in
    let none : c.is_front_whole.result ≡ false = (let f = c.whole-test.false in cc) in
    ends_none l h _ _ c.whole.messages way (sym (c.is_front_whole.ensures l _ way.stands) ∙ none)
