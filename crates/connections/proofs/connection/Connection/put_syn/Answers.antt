use Rattle.std.proofs.Common.{◌∙◌, ap, subst, sym}
use Rattle.connections.specs.Connection.{without_bytes, LeavesOutSyn, Puts}
use Rattle.connections.specs.Connection.LeavesOutSyn.{no_data, nothing}
use Rattle.connections.proofs.ConnectionLemmas.{where_err, where_ok}
use Rattle.connections.proofs.TableLemmas.{on_err}
use Rattle.connections.proofs.connection.Connection.put_syn.Goals as goal

pub returns-in_err-keep_data_of_syn-clause-left_out : goal.returns-in_err-keep_data_of_syn-clause-left_out
returns-in_err-keep_data_of_syn-clause-left_out g c =
    on_err c.from_residual.result
    (subst (λ x. LeavesOutSyn c.args.judgement c.args.segment.now c.args.self.now x)
    (sym c.in_err-keep_data_of_syn.ensures.err) no_data)

pub returns-clause-taken : goal.returns-clause-taken
returns-clause-taken g c =
    where_ok c.put.result
    (λ p. record {
      bare = c.without_data.result;
      is_bare = c.without_data.ensures;
      puts = subst (λ x. Puts c.without_data.result x c.put.new.self)
          c.in_ok-keep_data_of_syn.ensures.keeps p;
    }) c.put.ensures.taken

pub returns-clause-left_out : goal.returns-clause-left_out
returns-clause-left_out g c =
    where_err c.put.result
    (λ p. subst (λ x. LeavesOutSyn c.args.judgement c.args.segment.now c.args.self.now x)
    (sym (p ∙ ap (without_bytes c.without_data.result) c.in_ok-keep_data_of_syn.ensures.keeps))
    (nothing c.without_data.result c.without_data.ensures)) c.put.ensures.left_out
