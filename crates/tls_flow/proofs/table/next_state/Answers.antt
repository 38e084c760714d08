use Rattle.tls_flow.proofs.RowLemmas.{looked_up}
use Rattle.tls_flow.proofs.table.next_state.Goals as goal

pub returns : goal.returns
returns c = looked_up c.args.state c.args.symbol.kind c.args.symbol.direction _ _ _
