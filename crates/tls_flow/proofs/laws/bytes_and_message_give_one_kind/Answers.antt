use Rattle.tls_flow.proofs.BytesLemmas.{same_kind}
use Rattle.tls_flow.proofs.laws.bytes_and_message_give_one_kind.Goals as goal

pub returns : goal.returns
returns c = same_kind
