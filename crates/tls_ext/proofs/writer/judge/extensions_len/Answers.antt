use Rattle.std.proofs.Common.{◌≡◌, ◌<◌, ℕ, List, length, map, take, get_or, Err, ap, subst, arith}
use Rattle.std.proofs.lemmas.List.{take_all, length-append}
use Rattle.std.proofs.lemmas.Result.{err_from_is_err_and}
use Rattle.std.specs.List.{All, flat_map}
use Rattle.layouts.specs.Writer.{Judges}
use Rattle.layouts.specs.declared.writer.GenError.{GenError}
use Rattle.tls_ext.specs.Extension.{view}
use Rattle.tls_ext.specs.declared.extension.TlsExtension.{TlsExtension}
use Rattle.tls_ext.specs.ExtensionText.{
  extension_text,
  extensions_text,
  FitsExtension,
  FitsExtensions,
  RefusedExtension,
  RefusedExtensions,
}
use Rattle.layouts.proofs.WriterLemmas.{refused_at, none_refused, fits_at, fits_behind, texts_taken}
use Rattle.tls_ext.proofs.writer.judge.extensions_len.Goals as goal

-- the first refusal decides
first : (es : List TlsExtension) (i : ℕ) (x : TlsExtension) (e : GenError) → i < length es
    → x ≡ get_or es i x
    → All FitsExtension (map view (take i es))
    → Judges (FitsExtension (view x)) (RefusedExtension (view x))
    (extension_text (view x)) (Err e)
    → Judges (FitsExtensions (map view es)) (RefusedExtensions (map view es))
    (extensions_text (map view es)) (Err e)
first es i x e h is fits j = (
  j.0,
  λ all. j.1 (fits_at FitsExtension view es i x h is all.each),
  refused_at FitsExtension RefusedExtension view es i x e h is fits j.2,
)

pub returns-in_err-extension_len : goal.returns-in_err-extension_len
returns-in_err-extension_len c =
    let p = err_from_is_err_and c.from_residual.result c.from_residual.ensures.1 in
    rw (p.1, p.2)
    (first c.args.extensions.now c.loop-extension.extension-index c.extension-item.result
    c.in_err-extension_len.field-0.0 c.loop-extension-test.true c.extension-item.is
    c.loop-extension.invariant.each c.in_err-extension_len.ensures)

pub loop-extension-preserved : goal.loop-extension-preserved
loop-extension-preserved c =
    let es = c.args.extensions.now in
    let i = c.loop-extension.extension-index in
    let x = c.extension-item.result in
    let more = texts_taken extension_text view es i x c.loop-extension-test.true
    c.extension-item.is in
    record {
      each = fits_behind FitsExtension view es i x c.loop-extension-test.true c.extension-item.is
          c.loop-extension.invariant.each c.in_ok-extension_len.ensures.0;
      total = omega (
        arith,
        c.min-total.ensures,
        c.in_ok-extension_len.ensures.1,
        c.loop-extension.invariant.total,
        ap length more,
        length-append (flat_map extension_text (map view (take i es))) (extension_text (view x)),
      );
    }

pub returns-then-total-ge-TOO_LONG : goal.returns-then-total-ge-TOO_LONG
returns-then-total-ge-TOO_LONG c =
    let es = c.args.extensions.now in
    let i = c.loop-extension.extension-index in
    let all : take i es ≡ es = take_all i es c.loop-extension-test.false in
    let each : All FitsExtension (map view es) = subst
    (λ xs. All FitsExtension (map view xs)) all c.loop-extension.invariant.each in
    let size : length (flat_map extension_text (map view (take i es))) ≡ length
    (flat_map extension_text (map view es)) =
    ap (λ xs. length (flat_map extension_text (map view xs))) all in (
      tt,
      λ fits. absurd (omega (
        arith,
        fits.length,
        size,
        c.loop-extension.invariant.total,
        c.if-total-ge-TOO_LONG.true,
      )),
      none_refused FitsExtension RefusedExtension (map view es) each,
    )
