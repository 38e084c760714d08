use Rattle.std.proofs.Common.{[], rules, ◌∙◌, ap}
use Rattle.hex.specs.Hex.{encode_lower}
use Rattle.md5.specs.Md5.{md5}
use Rattle.tls_fingerprints.proofs.DigestLemmas.{five_fed}
use Rattle.tls_fingerprints.proofs.hellos.ClientHelloParts.ja3_digits.Goals as goal

pub returns : goal.returns
returns c =
    c.digits_of.ensures _
    (c.feed_dashed.ensures _
    (c.update-4.ensures _
    (c.feed_kept-2.ensures _
    (c.update-3.ensures _
    (c.feed_types.ensures _
    (c.update-2.ensures _
    (c.feed_kept.ensures _
    (c.update.ensures _ (c.feed_decimal.ensures [] c.new-text.ensures)))))))))
    ∙ ap (λ t. encode_lower (md5 t))
    (five_fed _ _ _ _ _ _ _ _ _ (search rules) (search rules) (search rules) (search rules))
