use Rattle.std.proofs.Common.{subst, sym, Ok, Err}
use Rattle.layouts.specs.Answers.{Gives}
use Rattle.tls_key_exchange.specs.Signature.{view_signed, beside_signature}
use Rattle.tls_key_exchange.proofs.SignatureLemmas.{put_beside, passed_on}
use Rattle.tls_key_exchange.proofs.signature.parse_content_and_signature.Goals as goal

pub returns : goal.returns
returns g c =
    let signed = c.in_ok-i-2.ensures in (
      Ok (c.in_ok-i.i, c.in_ok-i.content),
      c.in_ok-i.ensures,
      put_beside c.in_ok-i.content c.args.ext c.in_ok-i.i.now
          (Ok (c.in_ok-i-2.i, c.in_ok-i-2.signature)) signed,
    )

pub returns-in_err-i-2 : goal.returns-in_err-i-2
returns-in_err-i-2 g c =
    let signed = c.in_err-i-2.ensures in
    let beside = put_beside c.in_ok-i.content c.args.ext c.in_ok-i.i.now
    (Err c.in_err-i-2.field-0.0) signed in (
      Ok (c.in_ok-i.i, c.in_ok-i.content),
      c.in_ok-i.ensures,
      subst (λ r. Gives (λ v. (v.0, view_signed v.1))
          (beside_signature c.in_ok-i.content c.args.ext) c.in_ok-i.i.now r)
          (sym (passed_on _ _ c.from_residual-in_err-i-2.ensures.1)) beside,
    )
