use Rattle.std.proofs.Common.{ℕ, ◌+◌, ◌*◌, ◌%◌, ◌∙◌, ap, arith}
use Rattle.capture.proofs.SumLemmas.{four_bytes, two_bytes, one_byte, no_byte}
use Rattle.capture.proofs.checksum.sum_of.Goals as goal

pub fours-preserved : goal.fours-preserved
fours-preserved c = record {
  same =
      four_bytes c.fours.total c.four.result c.folded-total-in-len4-up.result c.fours.rest.now
      (omega arith) (cc)
      c.folded-total-in-len4-up.ensures.same ∙ c.fours.invariant.same;
  bound = c.folded-total-in-len4-up.ensures.bound;
}

pub twos-preserved : goal.twos-preserved
twos-preserved c = record {
  same =
      two_bytes c.twos.total c.folded-total-in-len2-up.result c.twos.rest.now (omega arith) (cc)
      ∙ c.twos.invariant.same;
  bound = c.folded-total-in-len2-up.ensures.bound;
}

pub returns-in-len1-clause-same : goal.returns-in-len1-clause-same
returns-in-len1-clause-same c =
    ap (λ (n : ℕ). (c.twos.total + n * 256) % 65535) c.from-in-len1.ensures
    ∙ (ap (λ (n : ℕ). n % 65535) (one_byte c.twos.total c.twos.rest.now (omega arith) (omega arith))
    ∙ c.twos.invariant.same)

pub returns-in_default-rest-2-clause-same : goal.returns-in_default-rest-2-clause-same
returns-in_default-rest-2-clause-same c =
    ap (λ (n : ℕ). n % 65535) (no_byte c.twos.total c.twos.rest.now (omega arith))
    ∙ c.twos.invariant.same
