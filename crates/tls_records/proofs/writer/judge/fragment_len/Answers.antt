use Rattle.std.proofs.Common.{◌≡◌, ◌<◌, ◌≤◌, List, ℕ, length, map, take, get_or, Err, ap, subst, arith}
use Rattle.std.proofs.lemmas.List.{take_all, length-append}
use Rattle.std.proofs.lemmas.Result.{err_from_is_err_and}
use Rattle.std.specs.List.{All}
use Rattle.layouts.specs.Writer.{Judges, RefusesFirst}
use Rattle.layouts.specs.declared.writer.GenError.{GenError}
use Rattle.layouts.proofs.WriterLemmas.{refused_at, none_refused, fits_at, fits_behind, texts_taken}
use Rattle.tls_hs.specs.Message.{view_message}
use Rattle.tls_hs.specs.declared.message.TlsMessage.{TlsMessage}
use Rattle.tls_records.specs.RecordText.{FitsMessage, RefusesMessage, refusal_of_message, message_text, fragment_text}
use Rattle.tls_records.proofs.writer.judge.fragment_len.Goals as goal

-- the first refusal decides
first : (ms : List TlsMessage) (i : ℕ) (m : TlsMessage) (e : GenError) → i < length ms
    → m ≡ get_or ms i m
    → All FitsMessage (map view_message (take i ms))
    → Judges (FitsMessage (view_message m)) (λ e. e ≡ refusal_of_message (view_message m))
    (message_text (view_message m)) (Err e) → Judges (All FitsMessage (map view_message ms)
    × (length (fragment_text (map view_message ms)) ≤ 65535))
    (RefusesFirst FitsMessage RefusesMessage (map view_message ms))
    (fragment_text (map view_message ms)) (Err e)
first ms i m e h is fits j = (
  j.0,
  λ all. j.1 (fits_at FitsMessage view_message ms i m h is all.0),
  refused_at FitsMessage RefusesMessage
      view_message ms i m e h is fits (j.1, j.2),
)

pub returns-in_err-message_len : goal.returns-in_err-message_len
returns-in_err-message_len c =
    let p = err_from_is_err_and c.from_residual.result c.from_residual.ensures.1 in
    rw (p.1, p.2) (first c.args.messages.now c.loop-message.message-index c.message-item.result
    c.in_err-message_len.field-0.0 c.loop-message-test.true c.message-item.is
    c.loop-message.invariant.fits
    c.in_err-message_len.ensures)

pub loop-message-preserved : goal.loop-message-preserved
loop-message-preserved c =
    let ms = c.args.messages.now in
    let i = c.loop-message.message-index in
    let m = c.message-item.result in
    let more = texts_taken message_text view_message ms i m c.loop-message-test.true
    c.message-item.is in
    record {
      fits = fits_behind FitsMessage view_message ms i m c.loop-message-test.true c.message-item.is
          c.loop-message.invariant.fits c.in_ok-message_len.ensures.0;
      count = omega (
        arith,
        c.saturating_add-len.ensures,
        c.in_ok-message_len.ensures.1,
        c.loop-message.invariant.count,
        ap length more,
        length-append (fragment_text (map view_message (take i ms)))
            (message_text (view_message m)),
      );
    }

pub returns-then-len-gt-MAX_FRAGMENT_LEN : goal.returns-then-len-gt-MAX_FRAGMENT_LEN
returns-then-len-gt-MAX_FRAGMENT_LEN c =
    let ms = c.args.messages.now in
    let i = c.loop-message.message-index in
    let all : take i ms ≡ ms = take_all i ms c.loop-message-test.false in
    let each : All FitsMessage (map view_message ms) =
    subst (λ xs. All FitsMessage (map view_message xs)) all
    c.loop-message.invariant.fits in
    let size : length (fragment_text (map view_message (take i ms))) ≡ length
    (fragment_text (map view_message ms)) =
    ap (λ xs. length (fragment_text (map view_message xs))) all in (
      tt,
      λ fits. absurd (omega (
        arith,
        fits.1,
        size,
        c.loop-message.invariant.count,
        c.if-len-gt-MAX_FRAGMENT_LEN.true,
      )),
      none_refused FitsMessage RefusesMessage (map view_message ms) each,
    )
