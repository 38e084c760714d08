use Rattle.tlsview.proofs.PlainLemmas.{plain_read, plain_refused}
use Rattle.tlsview.proofs.laws.plain_records_are_plaintext.Goals as goal

pub returns-clause-read : goal.returns-clause-read
returns-clause-read c = plain_read

pub returns-clause-refused : goal.returns-clause-refused
returns-clause-refused c = plain_refused
