use Rattle.std.proofs.Common.{◌≡◌, ◌+◌, ◌*◌, ℕ, List, length, map, min, arith}
use Rattle.std.proofs.Math.ListN.{length-map}
use Rattle.layouts.specs.Text.{counted_text, numbers_text}
use Rattle.layouts.proofs.TextLemmas.{length-numbers}
use Rattle.tls_ext.proofs.ExtensionTextLemmas.{length-counted}
use Rattle.tls_ext.proofs.writer.judge.content_len.Goals as goal

groups_counted : (xs : List ℕ) (n : ℕ) → n ≡ min (length xs) 65536
    → min (2 + 2 * n) 65536 ≡ min (length (counted_text 2 (numbers_text 2 xs))) 65536
groups_counted xs n e = omega (arith, e, length-counted 2 (numbers_text 2 xs), length-numbers 2 xs)

pub returns-in-EllipticCurves : goal.returns-in-EllipticCurves
returns-in-EllipticCurves c =
    let groups = c.in-EllipticCurves.groups.items in
    let count : length (map (λ g. g.0) groups) ≡ length groups = length-map _ _ in
    rw c.in-EllipticCurves.is (
      tt,
      groups_counted (map (λ g. g.0) groups) c.min.result
          (omega (arith, c.min.ensures, c.len.ensures, count)),
    )
