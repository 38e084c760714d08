-- A signature after content that another reader has read.
use Rattle.std.proofs.Common.{◌≡◌, ap, refl, inl, [], ◌++◌, Bool, Result, Ok, Err}
use Rattle.std.specs.Result.{IsErrAnd}
use Rattle.layouts.specs.Bytes.{Bytes}
use Rattle.layouts.specs.Meaning.{Allows}
use Rattle.layouts.specs.Reading.{◌and_then◌}
use Rattle.layouts.specs.Answers.{Returned, Gives}
use Rattle.tls_key_exchange.specs.Signature.{view_signed, signature, beside_signature}
use Rattle.tls_key_exchange.specs.declared.signature.DigitallySigned as signed_of

-- the signature's answer with the content added
abbrev pub with_content : {T : Type 0} → T → Returned signed_of.DigitallySigned
    → Returned (T × signed_of.DigitallySigned)
with_content content (Ok x) = Ok (x.0, (content, x.1))
with_content content (Err e) = Err e

-- the signature's answer decides that of content and signature
pub put_beside : {T : Type 0} (content : T) (ext : Bool) (b : Bytes)
    (r : Returned signed_of.DigitallySigned)
    → Gives view_signed (signature ext) b r
    → Gives (λ v. (v.0, view_signed v.1)) (beside_signature content ext) b (with_content content r)
unfolding Allows beside_signature
put_beside content ext b (Ok x) h = record {
  answers = h.answers;
  read = ap (λ a. a and_then λ y. Ok ((content, y.0), y.1)) h.read;
  allowed = (
    h.allowed.0 ++ [],
    (view_signed x.1, x.0.now, h.allowed.0, [], h.allowed.1, (refl, refl, refl), refl),
  );
}
put_beside content ext b (Err e) h = record {
  answers = h.answers;
  read = ap (λ a. a and_then λ y. Ok ((content, y.0), y.1)) h.read;
  allowed = inl h.allowed;
}

-- a refusal that is passed on
pub passed_on : {X E : Type 0} (r : Result X E) (e : E) → IsErrAnd r (λ x. x ≡ e) → r ≡ Err e
passed_on (Ok x) e h = absurd h
passed_on (Err x) e h = ap Err h
