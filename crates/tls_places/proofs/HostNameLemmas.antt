-- The host name in a ClientHello's body, by its place.
use Rattle.std.proofs.Common.{
  ◌≡◌,
  [],
  Option,
  Some,
  None,
  Ok,
  ◌==◌,
  if◌then◌else◌,
  Bool,
  true,
  false,
  not,
  refl,
  sym,
  ◌∙◌,
  ap,
  subst,
}
use Rattle.std.specs.Option.{option_map}
use Rattle.layouts.specs.Bytes.{Bytes}
use Rattle.layouts.specs.Items.{Returns}
use Rattle.layouts.specs.Place.{bytes_at}
use Rattle.layouts.specs.Reading.{reading, items_at}
use Rattle.layouts.specs.Text.{held}
use Rattle.layouts.specs.declared.places.Place.{Place}
use Rattle.tls_hs.specs.Hello.{ClientHello, client_hello}
use Rattle.tls_ext.specs.InPlace.{host_name}
use Rattle.tls_records.specs.InPlace.{body_of_type, host_name_of_record, name_in_body, name_in_hello, name_in_record}
use Rattle.tls_records.specs.Record.{RawRecord, raw_record}
use Rattle.tls_places.specs.Place.{Found, MayStand, Stands}

pub stands_held : (b : Bytes) (p : Place) (x : Option Bytes) → MayStand b (Some p) x
    → Stands b p (held x)
stands_held b p None s = absurd s
stands_held b p (Some x) s = s

-- without extensions there is no name
no_name : host_name [] ≡ Ok None
unfolding items_at
no_name = refl

none_held : (b : Bytes) (x : Option Bytes) → MayStand b None x → host_name (held x) ≡ Ok None
none_held b None s = no_name
none_held b (Some x) s = absurd s

module _ (b r : Bytes) (v : ClientHello) (read : reading client_hello b ≡ Ok (v, r)) where
  pub none_found : MayStand b None v.extensions
      → Returns {X = Option Place} (option_map (bytes_at b))
      (name_in_hello (reading client_hello b)) (Ok None)
  none_found s =
      record { answers = tt; is = sym (ap name_in_hello read ∙ none_held b v.extensions s) }

  pub name_found : (p : Place) (x : Bytes) (f : Found) → MayStand b (Some p) v.extensions
      → x ≡ bytes_at b p
      → Returns (option_map (bytes_at x)) (host_name x) f
      → Returns (option_map (bytes_at (bytes_at b p))) (name_in_hello (reading client_hello b)) f
  name_found p x f s is t =
      let here : Returns (option_map (bytes_at (bytes_at b p))) (host_name (bytes_at b p)) f =
      subst (λ y. Returns (option_map (bytes_at y)) (host_name y) f) is t in
      subst (λ a. Returns (option_map (bytes_at (bytes_at b p))) a f)
      (ap host_name (stands_held b p v.extensions s).is ∙ sym (ap name_in_hello read)) here

is_true : (c : Bool) → false ≡ not c → c ≡ true
is_true true e = refl
is_true false e = absurd cc

-- a record of handshake messages answers as its fragment does
pub handshake_found : (i r : Bytes) (p : Place) (v : RawRecord) (f : Found)
    → reading raw_record i ≡ Ok (v, r)
    → false ≡ not (v.header.content_type == 22) → bytes_at i p ≡ v.fragment
    → Returns (option_map (bytes_at v.fragment)) (name_in_body (body_of_type 1 v.fragment)) f
    → Returns (option_map (bytes_at (bytes_at i p))) (host_name_of_record i) f
handshake_found i r p v f read kind is t =
    let here : Returns (option_map (bytes_at (bytes_at i p)))
    (name_in_body (body_of_type 1 v.fragment)) f =
    subst (λ y. Returns (option_map (bytes_at y)) (name_in_body (body_of_type 1 v.fragment)) f)
    (sym is) t in
    let same : host_name_of_record i ≡ name_in_body (body_of_type 1 v.fragment) =
    ap name_in_record read
    ∙ ap (λ c. if c then name_in_body (body_of_type 1 v.fragment) else Ok None)
    (is_true (v.header.content_type == 22) kind) in
    subst (λ a. Returns (option_map (bytes_at (bytes_at i p))) a f) (sym same) here
