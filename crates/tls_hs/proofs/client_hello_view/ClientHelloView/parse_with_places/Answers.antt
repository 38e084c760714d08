use Rattle.tls_hs.specs.Places.{HelloStandsWithin}
use Rattle.tls_hs.proofs.PlacesLemmas.{stands_there}
use Rattle.tls_hs.proofs.client_hello_view.ClientHelloView.parse_with_places.Goals as goal

pub returns-clause-places : goal.returns-clause-places
returns-clause-places c =
    let s : HelloStandsWithin c.args.i.now c.in_ok-rest.hello c.client_hello_places_in.result.0 =
    c.client_hello_places_in.ensures.places c.in_ok-rest.ensures.lies in
    record {
      random = s.random.is;
      session_id = stands_there c.args.i.now c.client_hello_places_in.result.0.session_id
          c.in_ok-rest.hello.session_id s.session_id;
      cipher_suites = s.cipher_suites.is;
      compression_methods = s.compression_methods.is;
      extensions =
          stands_there c.args.i.now c.client_hello_places_in.result.0.ext c.in_ok-rest.hello.ext
          s.extensions;
    }
