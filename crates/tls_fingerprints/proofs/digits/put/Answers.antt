use Rattle.std.proofs.Common.{◌≡◌, ◌+◌, ◌-◌, ◌++◌, length, take, ap, ◌∙◌, arith}
use Rattle.std.proofs.lemmas.Slice.{take-put_mid}
use Rattle.tls_fingerprints.proofs.digits.put.Goals as goal

pub returns-clause-stands : goal.returns-clause-stands
returns-clause-stands c =
    let size : length c.copy_from_slice.new.self ≡ length c.args.piece.now =
    ap length c.copy_from_slice.ensures.after in
    take-put_mid c.args.at (c.args.at + length c.args.piece.now - c.args.at) c.args.text.now
    c.copy_from_slice.new.self
    (c.args.at + length c.args.piece.now) (omega (arith, size)) (omega arith)
    ∙ ap (λ t. take c.args.at c.args.text.now ++ t) c.copy_from_slice.ensures.after
