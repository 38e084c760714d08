use Rattle.std.proofs.Common.{rules, refl, subst}
use Rattle.layouts.specs.Text.{held}
use Rattle.x509.specs.Certificate.{extension}
use Rattle.wispuddera_c.specs.Place.{StandsAt}
use Rattle.wispuddera_c.proofs.CertificateLemmas.{in_c_stands, items_in_c, may_stand, name_in_c, viewed}
use Rattle.wispuddera_c.proofs.certificate.in_numbers.Goals as goal

pub returns-clause-shows : goal.returns-clause-shows
returns-clause-shows c = λ there end.
    let b = c.args.bytes.now in
    let t = there.tbs_certificate in
    record {
      signed_bytes = in_c_stands b _ c.in_c-signed_bytes.result _ c.in_c-signed_bytes.ensures
          there.signed_bytes;
      serial_number =
          in_c_stands b _ c.in_c-serial_number.result _ c.in_c-serial_number.ensures
          t.serial_number;
      signature_algorithm =
          in_c_stands b _ c.in_c-signature_algorithm.result _ c.in_c-signature_algorithm.ensures
          there.signature_algorithm.algorithm;
      issuer = name_in_c b _ c.in_c-issuer.result _ c.in_c-issuer.ensures t.issuer;
      subject = name_in_c b _ c.in_c-subject.result _ c.in_c-subject.ensures t.subject;
      key_algorithm = in_c_stands b _ c.in_c-key_algorithm.result _ c.in_c-key_algorithm.ensures
          t.key.algorithm.algorithm;
      key_parameters = subst (λ y. StandsAt b c.held_in_c-key_parameters.result (held y))
          (viewed
          c.args.certificate.now.tbs_certificate.subject_public_key_info.algorithm.parameters)
          (c.held_in_c-key_parameters.ensures b _ (may_stand b _ _ t.key.algorithm.parameters));
      public_key = in_c_stands b _ c.in_c-public_key.result _ c.in_c-public_key.ensures t.key.key;
      extensions =
          items_in_c extension b _ c.in_c-extensions.result _ c.in_c-extensions.ensures
          t.extensions;
      signature = in_c_stands b _ c.in_c-signature.result _ c.in_c-signature.ensures
          there.signature_value;
      not_before = search rules;
      not_after = search rules;
      version = refl;
      key = c.key_numbers-key.ensures _ c.public_key.ensures;
      next = c.offset_of-next.ensures end;
    }
