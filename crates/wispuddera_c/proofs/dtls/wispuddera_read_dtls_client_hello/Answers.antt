use Rattle.std.proofs.Common.{refl, sym, subst, ◌∙◌}
use Rattle.layouts.specs.Layout.{number}
use Rattle.layouts.proofs.PlaceLemmas.{ends_here, ends_read}
use Rattle.tls_records.specs.DtlsHello.{client_hello}
use Rattle.tls_records.specs.DtlsInPlace.{view_client_hello_in_place}
use Rattle.tls_places.specs.DtlsHello.{DtlsClientHelloStands}
use Rattle.tls_places.specs.Place.{Stands}
use Rattle.wispuddera_c.proofs.PlaceLemmas.{items_stand, some_of_map}
use Rattle.wispuddera_c.proofs.StatusLemmas.{answered}
use Rattle.wispuddera_c.proofs.dtls.wispuddera_read_dtls_client_hello.Goals as goal

pub returns-in-Ok : goal.returns-in-Ok
returns-in-Ok c =
    let b = c.args.bytes.now in
    let h = c.in-Ok.hello in
    let v = view_client_hello_in_place h in
    let p : DtlsClientHelloStands b h c.in-Ok.places = c.in-Ok.ensures.places in
    answered client_hello _ b b c.in-Ok.rest.now v refl c.in-Ok.ensures.gives.read (record {
      version = refl;
      random = subst (λ q. Stands b q h.random.now) (sym c.in_c.ensures) p.random;
      session_id = c.held_in_c.ensures b _ p.session_id;
      cookie = subst (λ q. Stands b q h.cookie.now) (sym c.in_c-in-Ok.ensures) p.cookie;
      cipher_suites =
          items_stand (number 2) b c.in_c-in-Ok-2.result _ _ c.in_c-in-Ok-2.ensures p.cipher_suites;
      compression_methods =
          items_stand (number 1) b c.in_c-in-Ok-3.result _ _ c.in_c-in-Ok-3.ensures
          p.compression_methods;
      has_extensions = c.is_some.ensures ∙ some_of_map (λ x. x.now) h.ext;
      extensions = c.held_in_c-in-Ok.ensures b _ p.extensions;
      next = c.offset_of.ensures
          (ends_read client_hello b b v c.in-Ok.rest.now (ends_here b)
          c.in-Ok.ensures.gives.allowed);
    })
