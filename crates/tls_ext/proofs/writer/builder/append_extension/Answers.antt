use Rattle.std.proofs.Common.{◌≡◌, ◌+◌, ◌*◌, ℕ, List, length, map, ap, arith}
use Rattle.std.proofs.Math.ListN.{length-map}
use Rattle.layouts.specs.Text.{numbers_text}
use Rattle.layouts.proofs.TextLemmas.{length-numbers}
use Rattle.tls_ext.specs.Extension.{view, supported_groups}
use Rattle.tls_ext.specs.ExtensionText.{extension_text}
use Rattle.tls_ext.proofs.ExtensionTextLemmas.{length-counted, length-extension}
use Rattle.tls_ext.proofs.writer.builder.append_extension.Goals as goal

length-groups : (xs : List ℕ) → length (extension_text (supported_groups xs)) ≡ 6 + 2 * length xs
length-groups xs = omega (
  arith,
  length-extension (supported_groups xs),
  length-counted 2 (numbers_text 2 xs),
  length-numbers 2 xs,
)

pub append_groups-requires : goal.append_groups-requires
append_groups-requires c =
    let groups = c.in-EllipticCurves.groups.items in
    let size = length-groups (map (λ g. g.0) groups) in
    let count : length (map (λ g. g.0) groups) ≡ length groups = length-map _ _ in
    let same : length c.deref-in-EllipticCurves.result.now ≡ length groups =
    ap length c.deref-in-EllipticCurves.ensures.value in
    let is : length (extension_text (view c.args.extension.now)) ≡ length
    (extension_text (supported_groups (map (λ g. g.0) groups))) =
    ap (λ e. length (extension_text (view e))) c.in-EllipticCurves.is in
    omega (
      arith,
      c.requires.length,
      c.requires.room,
      is,
      size,
      count,
      same,
      c.append2.ensures.len,
      c.append2.ensures.capacity,
      c.append2-2.ensures.len,
      c.append2-2.ensures.capacity,
      c.append2-in-EllipticCurves.ensures.len,
      c.append2-in-EllipticCurves.ensures.capacity,
    )

pub overflow_cast-len-in-EllipticCurves : goal.overflow_cast-len-in-EllipticCurves
overflow_cast-len-in-EllipticCurves c =
    let groups = c.in-EllipticCurves.groups.items in
    let size = length-groups (map (λ g. g.0) groups) in
    let count : length (map (λ g. g.0) groups) ≡ length groups = length-map _ _ in
    let is : length (extension_text (view c.args.extension.now)) ≡ length
    (extension_text (supported_groups (map (λ g. g.0) groups))) =
    ap (λ e. length (extension_text (view e))) c.in-EllipticCurves.is in
    omega (
      arith,
      c.requires.fits.length,
      length-extension (view c.args.extension.now),
      is,
      size,
      count,
      c.len.ensures,
    )
