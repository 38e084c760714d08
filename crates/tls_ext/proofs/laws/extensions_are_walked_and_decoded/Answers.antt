use Rattle.tls_ext.specs.Dispatch.{extension, extension_content}
use Rattle.layouts.proofs.FramedLemmas.{items_of_windows}
use Rattle.tls_ext.proofs.laws.extensions_are_walked_and_decoded.Goals as goal

pub returns : goal.returns
unfolding extension
returns c = λ side b. items_of_windows (extension_content side) 2 2 b
