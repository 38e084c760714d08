use Rattle.std.proofs.Common.{◌*◌, arith, sym, ap, ◌∙◌}
use Rattle.layouts.specs.Bytes.{number_of}
use Rattle.x509_text.specs.Exponent.{small}
use Rattle.x509_text.proofs.ExponentLemmas.{not_small, number_at_end, number_of_more, small_here}
use Rattle.x509_text.proofs.exponent.small_number.Goals as goal

-- the product overflows: the number is at least 2^64
pub returns-in_err-shifted : goal.returns-in_err-shifted
returns-in_err-shifted c =
    c.from_residual.ensures ∙
    not_small (c.loop-byte.number * 256) (number_of c.args.bytes.now)
    (λ h. c.in_err-shifted.ensures h)
    (omega (
      arith,
      c.loop-byte.invariant.0,
      number_of_more c.loop-byte.number c.loop-byte.byte-index c.args.bytes.now
          c.loop-byte-test.true,
    ))

-- all bytes were read
pub returns : goal.returns
returns c =
    small_here c.loop-byte.number (omega (arith, c.loop-byte.invariant.1)) ∙
    ap small
    (sym (number_at_end c.loop-byte.number c.loop-byte.byte-index c.args.bytes.now
    c.loop-byte-test.false) ∙ c.loop-byte.invariant.0)
