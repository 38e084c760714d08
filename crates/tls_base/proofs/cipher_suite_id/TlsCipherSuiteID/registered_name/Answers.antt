use Rattle.std.proofs.Common.{refl}
use Rattle.tls_base.specs.declared.registered_suites.TheConstants.{NUMBERS}
use Rattle.tls_base.proofs.RisingLemmas.{rising}
use Rattle.tls_base.proofs.cipher_suite_id.TlsCipherSuiteID.registered_name.Goals as goal

pub find_rising_name-requires : goal.find_rising_name-requires
find_rising_name-requires c = rising NUMBERS.now refl

pub returns : goal.returns
returns c = c.find_rising_name.ensures
