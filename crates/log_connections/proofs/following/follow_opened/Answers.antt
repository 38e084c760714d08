use Rattle.std.proofs.Common.{refl}
use Rattle.std.proofs.lemmas.Result.{IfOk-weaker}
use Rattle.log_connections.proofs.following.follow_opened.Goals as goal

pub returns-clause-dialogue : goal.returns-clause-dialogue
returns-clause-dialogue g c =
    IfOk-weaker c.analyze_waiting.result _ _
    (λ _ waits. record {
      first = record c.args.connection.now {
        from_originator = c.follow.new.originator;
        from_responder = c.follow.new.responder;
        attachment = c.follow.new.self;
      };
      second = record c.args.connection.now {
        from_originator = c.follow-2.new.originator;
        from_responder = c.follow-2.new.responder;
        attachment = c.follow-2.new.self;
      };
      follows = c.follow.ensures;
      follows_next = c.follow-2.ensures;
      same = refl;
      waiting = waits;
    }) c.analyze_waiting.ensures.dialogue
