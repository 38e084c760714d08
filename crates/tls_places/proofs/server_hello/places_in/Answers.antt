use Rattle.tls_places.proofs.server_hello.places_in.Goals as goal

pub returns : goal.returns
returns c = λ lies. record {
  random = lies.random;
  session_id = c.held_from.ensures lies.session_id;
  extensions = c.held_before.ensures lies.extensions;
}
