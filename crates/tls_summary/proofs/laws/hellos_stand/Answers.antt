use Rattle.tls_summary.proofs.HelloLemmas.{bytes_keep, datagram_message_keeps, ssl2_keeps}
use Rattle.tls_summary.proofs.laws.hellos_stand.Goals as goal

pub returns-clause-messages : goal.returns-clause-messages
returns-clause-messages c = bytes_keep

pub returns-clause-datagram_messages : goal.returns-clause-datagram_messages
returns-clause-datagram_messages c = datagram_message_keeps

pub returns-clause-ssl2_hellos : goal.returns-clause-ssl2_hellos
returns-clause-ssl2_hellos c = ssl2_keeps
