use Rattle.std.proofs.Common.{ℕ, ◌+◌, ◌%◌, ◌∙◌, ap}
use Rattle.capture.specs.Ip.{view_address}
use Rattle.capture.specs.Transport.{view_segment}
use Rattle.capture.specs.Checksum.{address_words, segment_length}
use Rattle.capture.proofs.SumLemmas.{same_checksum, same_pseudo}
use Rattle.capture.proofs.ip.IpDatagram.checksum_of_segment.Goals as goal

pub returns : goal.returns
returns c =
    let self = c.args.self.now in
    let addresses =
    address_words (view_address self.source) + address_words (view_address self.destination) in
    let length = segment_length (view_segment c.args.segment.now) in
    c.checksum_by.ensures
    ∙ same_checksum _ _ _ _ _
    (ap (λ (n : ℕ). n % 65535) c.pseudo_words-pseudo.ensures.same
    ∙ same_pseudo addresses 6 c.segment_length.result length c.segment_length.ensures.same)
    c.segment_words.ensures.same
