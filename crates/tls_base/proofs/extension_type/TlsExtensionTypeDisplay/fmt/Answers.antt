use Rattle.std.proofs.Common.{refl}
use Rattle.tls_base.specs.declared.extension_type.TheConstants.{NUMBERS}
use Rattle.tls_base.proofs.RisingLemmas.{rising}
use Rattle.tls_base.proofs.extension_type.TlsExtensionTypeDisplay.fmt.Goals as goal

pub write_rising-requires : goal.write_rising-requires
write_rising-requires g c = rising NUMBERS.now refl
