use Rattle.std.proofs.Common.{ℕ, ◌%◌, ◌∙◌, ap, sym}
use Rattle.capture.specs.Ip.{view_datagram as view}
use Rattle.capture.specs.Checksum.{pseudo_words}
use Rattle.capture.proofs.SumLemmas.{same_checksum, otherwise}
use Rattle.capture.proofs.ip.IpDatagram.checksum_of_user_datagram.Goals as goal

pub returns : goal.returns
returns c =
    let length = ap (λ (n : ℕ). pseudo_words (view c.args.self.now) 17 n) c.from.ensures in
    c.checksum_by.ensures
    ∙ (same_checksum _ _ _ _ _
    (ap (λ (n : ℕ). n % 65535) (c.pseudo_words-pseudo.ensures.same ∙ length))
    c.user_words.ensures.same
    ∙ sym (otherwise c.args.datagram.now.checksum _ _ c.if-datagram-eq0.false))
