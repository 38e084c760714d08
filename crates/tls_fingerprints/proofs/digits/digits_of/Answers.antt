use Rattle.std.proofs.Common.{◌∙◌, ap, arith}
use Rattle.hex.specs.Hex.{encode_lower}
use Rattle.tls_fingerprints.proofs.DigestLemmas.{on_ok}
use Rattle.tls_fingerprints.proofs.digits.digits_of.Goals as goal

pub returns : goal.returns
returns c = λ m held.
    on_ok _ (c.encode_to_slice-written.ensures.fits.1 (omega arith))
    c.encode_to_slice-written.ensures.written
    ∙ ap encode_lower (c.finalize-digest.ensures m held)
