use Rattle.std.proofs.Common.{◌∙◌, subst, sym}
use Rattle.connections.specs.Connection.{belying, learning, Accepts, AcceptsAs, LeavesOut, LeavesOutAs}
use Rattle.connections.proofs.ConnectionLemmas.{where_err, where_ok}
use Rattle.connections.proofs.connection.Connection.accept_pending.Goals as goal

pub returns-clause-taken : goal.returns-clause-taken
returns-clause-taken g c =
    let s = c.segment-segment.result in
    where_ok c.accept.result
    (λ p. record {
      segment = s;
      header = c.segment-segment.ensures.header;
      payload = c.segment-segment.ensures.data;
      accepts = subst (λ b. AcceptsAs b s (learning c.args.kept.now (belying s c.args.self.now)) c.accept.new.self)
          (sym c.if-is_of_syn.false ∙ c.is_of_syn.ensures)
          (subst (λ x. Accepts s (learning c.args.kept.now x) c.accept.new.self)
          c.forget_belied.ensures.left
          (subst (λ x. Accepts s x c.accept.new.self) c.learn.ensures.learned p));
    }) c.accept.ensures.taken

pub returns-clause-left_out : goal.returns-clause-left_out
returns-clause-left_out g c =
    let s = c.segment-segment.result in
    where_err c.accept.result
    (λ p. record {
      segment = s;
      header = c.segment-segment.ensures.header;
      payload = c.segment-segment.ensures.data;
      leaves = subst (λ b. LeavesOutAs b s (learning c.args.kept.now (belying s c.args.self.now)) c.accept.new.self)
          (sym c.if-is_of_syn.false ∙ c.is_of_syn.ensures)
          (subst (λ x. LeavesOut s (learning c.args.kept.now x) c.accept.new.self)
          c.forget_belied.ensures.left
          (subst (λ x. LeavesOut s x c.accept.new.self) c.learn.ensures.learned p));
    }) c.accept.ensures.left_out
