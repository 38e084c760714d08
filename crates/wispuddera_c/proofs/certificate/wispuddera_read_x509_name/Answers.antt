use Rattle.std.proofs.Common.{rules, subst}
use Rattle.layouts.proofs.PlaceLemmas.{ends_read}
use Rattle.x509.specs.GeneralName.{general_name, view_general_name}
use Rattle.wispuddera_c.specs.Certificate.{ShowsName}
use Rattle.wispuddera_c.specs.Place.{StandsAt}
use Rattle.wispuddera_c.proofs.CertificateLemmas.{in_c_stands, name_viewed}
use Rattle.wispuddera_c.proofs.StatusLemmas.{shown_by}
use Rattle.wispuddera_c.proofs.certificate.wispuddera_read_x509_name.Goals as goal

pub returns-in-Ok : goal.returns-in-Ok
returns-in-Ok c =
    let b = c.args.bytes.now in
    let i = c.in-Some.i.now in
    let r = c.in-Ok.rest.now in
    let v = view_general_name c.in-Ok.name in
    shown_by general_name (ShowsName b _) b i r v c.args.offset c.in-Some.ensures.is
    c.in-Some.ensures.inside
    c.in-Ok.ensures.gives.read (record {
      kind = search rules;
      content = subst (λ x. StandsAt b c.in_c-content.result x) (name_viewed c.in-Ok.name)
          (in_c_stands b _ c.in_c-content.result _ c.in_c-content.ensures
          (c.in-Ok.ensures.places c.in-Some.ensures.ends));
      next = c.offset_of.ensures
          (ends_read general_name b i v r c.in-Some.ensures.ends c.in-Ok.ensures.gives.allowed);
    })
