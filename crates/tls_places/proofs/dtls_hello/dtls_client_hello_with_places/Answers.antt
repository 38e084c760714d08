use Rattle.std.proofs.Common.{sym, subst}
use Rattle.std.specs.Option.{option_map}
use Rattle.layouts.specs.Text.{held}
use Rattle.tls_hs.specs.Places.{HelloStandsWithin}
use Rattle.tls_places.specs.Place.{Stands, MayStand}
use Rattle.tls_places.proofs.PlaceLemmas.{held_there}
use Rattle.tls_places.proofs.dtls_hello.dtls_client_hello_with_places.Goals as goal

pub returns-clause-places : goal.returns-clause-places
returns-clause-places c =
    let w = c.args.whole.now in
    let p = c.client_hello_places_in-cookie_place.result.0 in
    let is = c.with_cookie.ensures in
    let s : HelloStandsWithin w c.in_ok-rest.hello p =
    c.client_hello_places_in-cookie_place.ensures.places c.in_ok-rest.ensures.lies in
    let cookie_bytes = held (option_map (λ x. x.now) c.in_ok-rest.cookie) in
    let cookie : Stands w c.unwrap_or.result cookie_bytes =
    subst (λ q. Stands w q cookie_bytes) (sym c.unwrap_or.ensures)
    (held_there w c.client_hello_places_in-cookie_place.result.1
    (option_map (λ x. x.now) c.in_ok-rest.cookie)
    (c.client_hello_places_in-cookie_place.ensures.cookie c.in_ok-rest.ensures.lies)) in
    record {
      random = subst (λ x. Stands w p.random x.now) (sym is.random) s.random;
      session_id = subst (λ x. MayStand w p.session_id (option_map (λ y. y.now) x))
          (sym is.session_id) s.session_id;
      cookie = subst (λ x. Stands w c.unwrap_or.result x) (sym is.cookie) cookie;
      cipher_suites = subst (λ x. Stands w p.ciphers x.bytes.now) (sym is.ciphers) s.cipher_suites;
      compression_methods =
          subst (λ x. Stands w p.comp x.bytes.now) (sym is.comp) s.compression_methods;
      extensions =
          subst (λ x. MayStand w p.ext (option_map (λ y. y.now) x)) (sym is.ext) s.extensions;
    }
