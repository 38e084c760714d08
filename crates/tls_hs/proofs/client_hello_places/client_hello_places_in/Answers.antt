use Rattle.std.proofs.Common.{◌≡◌, ◌+◌, length, sym, subst, ap, ap₂, ◌∙◌, Option, unwrap_or}
use Rattle.std.specs.Option.{option_map}
use Rattle.layouts.specs.Bytes.{Bytes}
use Rattle.layouts.specs.declared.places.Place.{Place}
use Rattle.tls_hs.specs.Places.{
  BeginsAt,
  MayBeginAt,
  Stands,
  id_of,
  in_front_of_suites,
  place_from,
}
use Rattle.tls_hs.proofs.PlacesLemmas.{held_begins, held_stands, last_ends}
use Rattle.tls_hs.proofs.client_hello_places.client_hello_places_in.Goals as goal

pub returns-clause-places : goal.returns-clause-places
returns-clause-places c = λ at.
    let b : Bytes = c.args.whole.now in
    let h = c.args.hello.now in
    let id : Bytes = id_of h in
    let n = in_front_of_suites h (option_map (λ x. x.now) c.args.cookie) in
    let suites : Bytes = h.ciphers.bytes.now in
    let methods : Bytes = h.comp.bytes.now in
    let id_at : MayBeginAt b 35 (option_map (λ x. x.now) h.session_id) =
    held_begins b 35 (option_map (λ x. x.now) h.session_id) at.session_id in
    let id_is : c.behind-id.result ≡ place_from 35 id =
    subst (λ x. BeginsAt b 35 x → c.behind-id.result ≡ place_from 35 x) c.held_bytes.ensures
    c.behind-id.ensures
    at.session_id in
    let cookie_is : c.held_behind-cookie_place.result
    ≡ option_map (λ x. place_from (35 + length id + 1) x.now) c.args.cookie =
    subst (λ p. MayBeginAt b (p.offset + p.length + 1) (option_map (λ x. x.now) c.args.cookie)
    → c.held_behind-cookie_place.result ≡ option_map
    (λ x. place_from (p.offset + p.length + 1) x.now) c.args.cookie)
    id_is c.held_behind-cookie_place.ensures at.cookie in
    let last_is : c.unwrap_or.result.offset + c.unwrap_or.result.length ≡ n =
    ap (λ p. p.offset + p.length) (c.unwrap_or.ensures ∙ ap₂ unwrap_or cookie_is id_is)
    ∙ last_ends 35 id c.args.cookie in
    let suites_is : c.behind-ciphers.result ≡ place_from (n + 2) suites =
    subst (λ x. BeginsAt b (n + 2) x → c.behind-ciphers.result ≡ place_from (n + 2) x)
    c.bytes.ensures
    (subst (λ k. BeginsAt b (k + 2) c.bytes.result.now
    → c.behind-ciphers.result ≡ place_from (k + 2) c.bytes.result.now)
    last_is c.behind-ciphers.ensures) at.cipher_suites in
    let methods_is : c.behind-comp.result ≡ place_from (n + 2 + length suites + 1) methods =
    subst (λ x. BeginsAt b (n + 2 + length suites + 1) x
    → c.behind-comp.result ≡ place_from (n + 2 + length suites + 1) x) c.bytes-2.ensures
    (subst (λ p. BeginsAt b (p.offset + p.length + 1) c.bytes-2.result.now
    → c.behind-comp.result ≡ place_from (p.offset + p.length + 1) c.bytes-2.result.now)
    suites_is c.behind-comp.ensures) at.compression_methods in
    let ext_is : c.held_behind-ext.result
    ≡ option_map (λ x. place_from (n + 2 + length suites + 1 + length methods + 2) x.now) h.ext =
    subst (λ p. MayBeginAt b (p.offset + p.length + 2) (option_map (λ x. x.now) h.ext)
    → c.held_behind-ext.result ≡ option_map (λ x. place_from (p.offset + p.length + 2) x.now) h.ext)
    methods_is c.held_behind-ext.ensures at.extensions in
    record {
      random = at.random;
      session_id = held_stands b 35 h.session_id c.held_behind-session_id.result
          (c.held_behind-session_id.ensures id_at) id_at;
      cipher_suites = subst (λ p. Stands b p suites) (sym suites_is) at.cipher_suites;
      compression_methods = subst (λ p. Stands b p methods) (sym methods_is) at.compression_methods;
      extensions = held_stands b (n + 2 + length suites + 1 + length methods + 2) h.ext
          c.held_behind-ext.result ext_is
          at.extensions;
    }

pub returns-clause-cookie : goal.returns-clause-cookie
returns-clause-cookie c = λ at.
    let b : Bytes = c.args.whole.now in
    let id : Bytes = id_of c.args.hello.now in
    let id_is : c.behind-id.result ≡ place_from 35 id =
    subst (λ x. BeginsAt b 35 x → c.behind-id.result ≡ place_from 35 x) c.held_bytes.ensures
    c.behind-id.ensures
    at.session_id in
    held_stands b (35 + length id + 1) c.args.cookie c.held_behind-cookie_place.result
    (subst (λ p. MayBeginAt b (p.offset + p.length + 1) (option_map (λ x. x.now) c.args.cookie)
    → c.held_behind-cookie_place.result ≡ option_map
    (λ x. place_from (p.offset + p.length + 1) x.now) c.args.cookie)
    id_is c.held_behind-cookie_place.ensures at.cookie) at.cookie
