use Rattle.std.proofs.Common.{◌++◌, drop, refl, sym, ◌∙◌, ap, subst, arith}
use Rattle.layouts.specs.Meaning.{Answer}
use Rattle.tls_fingerprints.specs.Hellos.{Client}
use Rattle.tls_fingerprints.specs.Ja4.{IsTooLong, ja4_of}
use Rattle.tls_records.specs.DtlsHello.{ClientHello}
use Rattle.tls_records.specs.DtlsInPlace.{view_client_hello_in_place}
use Rattle.tls_fingerprints.specs.declared.hellos.Transport.TheVariants.{Udp}
use Rattle.wispuddera_c.specs.Fingerprint.{IsWritten, client_of}
use Rattle.wispuddera_c.proofs.FingerprintLemmas.{dtls_never_too_long}
use Rattle.wispuddera_c.proofs.fingerprint.wispuddera_dtls_ja4.Goals as goal

pub returns-in-Ok : goal.returns-in-Ok
returns-in-Ok c =
    let shown_by = c.write_ja4.ensures
    (subst (λ (h : Client). IsTooLong 32767 h → ⊥) (sym c.dtls_client_parts.ensures)
    (dtls_never_too_long c.args.bytes.now (view_client_hello_in_place c.in-Ok.hello)
    c.in-Ok.field-0-0.now c.in-Ok.ensures.allowed)) in
    record {
      room = λ fits. subst
          (λ (a : Answer ClientHello). IsWritten
          (λ (h : ClientHello). ja4_of Udp (client_of h.hello)) 36 a
          c.args.text.now c.write_ja4.new.text c.write_ja4.result 0) (sym c.in-Ok.ensures.read) (
            shown_by.0,
            refl,
            shown_by.1
                ∙ ap (λ h. ja4_of Udp h ++ drop 36 c.args.text.now) c.dtls_client_parts.ensures,
          );
      short = λ less. absurd (omega (arith, less));
    }
