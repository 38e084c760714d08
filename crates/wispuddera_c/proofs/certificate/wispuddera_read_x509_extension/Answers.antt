use Rattle.std.proofs.Common.{refl}
use Rattle.layouts.proofs.PlaceLemmas.{ends_read}
use Rattle.x509.specs.Certificate.{extension, view_extension}
use Rattle.x509_places.specs.Walk.{ExtensionStands}
use Rattle.wispuddera_c.specs.Certificate.{ShowsX509Extension}
use Rattle.wispuddera_c.proofs.CertificateLemmas.{in_c_stands}
use Rattle.wispuddera_c.proofs.StatusLemmas.{shown_by}
use Rattle.wispuddera_c.proofs.certificate.wispuddera_read_x509_extension.Goals as goal

pub returns-in-Ok : goal.returns-in-Ok
returns-in-Ok c =
    let b = c.args.bytes.now in
    let i = c.in-Some.i.now in
    let r = c.in-Ok.rest.now in
    let v = view_extension c.in-Ok.extension in
    let there : ExtensionStands b c.in-Ok.extension c.in-Ok.places =
    c.in-Ok.ensures.places c.in-Some.ensures.ends in
    shown_by extension (ShowsX509Extension b _) b i r v c.args.offset c.in-Some.ensures.is
    c.in-Some.ensures.inside
    c.in-Ok.ensures.gives.read (record {
      oid = in_c_stands b _ c.in_c-oid.result _ c.in_c-oid.ensures there.extn_id;
      value = in_c_stands b _ c.in_c-value.result _ c.in_c-value.ensures there.extn_value;
      critical = refl;
      next = c.offset_of.ensures
          (ends_read extension b i v r c.in-Some.ensures.ends c.in-Ok.ensures.gives.allowed);
    })
