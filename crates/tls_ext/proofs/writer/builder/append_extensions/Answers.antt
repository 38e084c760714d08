use Rattle.std.proofs.Common.{
  ◌≡◌,
  ◌++◌,
  ◌∙◌,
  ℕ,
  length,
  map,
  take,
  vec_len,
  vec_capacity,
  Result,
  Ok,
  Err,
  refl,
  sym,
  ap,
  arith,
  append_assoc,
}
use Rattle.std.proofs.lemmas.List.{length-append}
use Rattle.std.specs.List.{flat_map}
use Rattle.layouts.specs.Writer.{Judges}
use Rattle.layouts.specs.declared.writer.GenError.{GenError}
use Rattle.tls_ext.specs.Extension.{view}
use Rattle.tls_ext.specs.declared.extension.TlsExtension.{TlsExtension}
use Rattle.tls_ext.specs.ExtensionText.{extension_text, FitsExtension, RefusedExtension, InRangeExtension}
use Rattle.layouts.proofs.WriterLemmas.{fits_at, fits_behind, texts_taken, room_for}
use Rattle.tls_ext.proofs.writer.builder.append_extensions.Goals as goal
use Rattle.tls_ext.proofs.writer.builder.append_extensions.Goals.{in-Ok, in_default}

-- an extension that fits has a length
never : (r : Result ℕ GenError) (x : TlsExtension)
    → Judges (FitsExtension (view x)) (RefusedExtension (view x))
    (extension_text (view x)) r → FitsExtension (view x) → ((n : ℕ) → r ≡ Ok n → ⊥) → ⊥
never (Ok n) x j fits other = other n refl
never (Err e) x j fits other = j.1 fits

pub append_extension-requires-clause-room : goal.append_extension-requires-clause-room
append_extension-requires-clause-room c = omega (
  arith,
  room_for extension_text view c.args.extensions.now
      c.loop-extension.extension-index c.extension-item.result c.loop-extension-test.true
      c.extension-item.is,
  c.in-Ok.ensures.1,
)

pub loop-extension-preserved : goal.loop-extension-preserved
loop-extension-preserved c =
    let es = c.args.extensions.now in
    let i = c.loop-extension.extension-index in
    let x = c.extension-item.result in
    let h = c.loop-extension-test.true in
    let more = texts_taken extension_text view es i x h c.extension-item.is in
    elim c.match-extension_len.branch [
      | in-Ok w ↦ record {
        items =
            ap (λ v. v.items) w.out-is
            ∙ w.append_extension.ensures.items
            ∙ ap (λ t. t ++ extension_text (view x)) c.loop-extension.invariant.items
            ∙ append_assoc c.args.out.now.items (flat_map extension_text (map view (take i es)))
            (extension_text (view x))
            ∙ ap (λ t. c.args.out.now.items ++ t) (sym more);
        range = fits_behind InRangeExtension view es i x h c.extension-item.is
            c.loop-extension.invariant.range
            w.append_extension.ensures.range;
        count = omega (
          arith,
          ap (λ v. vec_len v) w.out-is,
          w.append_extension.ensures.len,
          w.in-Ok.ensures.1,
          c.loop-extension.invariant.count,
          ap length more,
          length-append (flat_map extension_text (map view (take i es))) (extension_text (view x)),
        );
        room = omega (
          arith,
          ap (λ v. vec_capacity v) w.out-is,
          w.append_extension.ensures.capacity,
          c.loop-extension.invariant.room,
        );
      }
      | in_default w ↦ absurd (never c.extension_len.result x c.extension_len.ensures
          (fits_at FitsExtension view es i x h c.extension-item.is c.requires.fits.each)
          (λ n e. w.in_default.not-Ok n e))
    ]
