-- Looked-up parts, by their place.
use Rattle.std.proofs.Common.{◌≡◌, List, ◌∷◌, Option, Some, Result, Ok, sym, ◌∙◌, ap, subst}
use Rattle.layouts.specs.Bytes.{Bytes}
use Rattle.layouts.specs.Items.{items_in}
use Rattle.layouts.specs.Place.{bytes_at}
use Rattle.layouts.specs.Reading.{reading}
use Rattle.layouts.specs.declared.places.Place.{Place}
use Rattle.tls_ext.specs.Content as content
use Rattle.tls_ext.specs.Extension as extension
use Rattle.layouts.specs.Meaning.{Refusal}
use Rattle.tls_ext.specs.InPlace.{first_name, picked}
use Rattle.std.specs.Option.{option_map}
use Rattle.layouts.specs.Items.{Returns}
use Rattle.tls_places.specs.Place.{Found, IsWithin, Lies, Stands}
use Rattle.tls_places.proofs.OutwardLemmas.{ok_found}

-- the same place, in equal bytes
pub stands_same : (b w x : Bytes) (p : Place) → b ≡ w → Stands b p x → Stands w p x
stands_same b w x p e s = subst (λ y. Stands y p x) e s

pub name_found : (i w r : Bytes) (n : extension.ServerName) (ns : List extension.ServerName)
    (p : Place)
    → reading content.server_names i ≡ Ok
    (extension.server_name (items_in content.server_name w), r)
    → items_in content.server_name w ≡ n ∷ ns → bytes_at i p ≡ n.name
    → Ok (Some (bytes_at i p)) ≡ picked first_name (reading content.server_names i)
name_found i w r n ns p read first is =
    ap (λ y. Ok (Some y)) is ∙ sym (ap (picked first_name) read
    ∙ ap (λ xs. picked first_name (Ok (extension.server_name xs, r))) first)

-- the answer for a part x at a place, and so for the answer that the part is
pub part_found : (b x : Bytes) (p : Place) (F : Bytes → Result (Option Bytes) Refusal)
    (G : Result (Option Bytes) Refusal → Result (Option Bytes) Refusal)
    (c : Result (Option Bytes) Refusal) (r : Found)
    → ((y : Bytes) → G (Ok (Some y)) ≡ F y) → x ≡ bytes_at b p → Ok (Some (bytes_at b p)) ≡ c
    → Returns (option_map (bytes_at x)) (F x) r → Returns (option_map (bytes_at (bytes_at b p))) (G c) r
part_found b x p F G c r same is found t =
    let here : Returns (option_map (bytes_at (bytes_at b p))) (F (bytes_at b p)) r =
    subst (λ y. Returns (option_map (bytes_at y)) (F y) r) is t in
    subst (λ a. Returns (option_map (bytes_at (bytes_at b p))) a r)
    (sym (same (bytes_at b p)) ∙ ap G found) here

pub lies_there : (b : Bytes) (p : Place) (o : Option Place) → o ≡ Some p
    → IsWithin b (ok_found o) → Lies b p
lies_there b p o is h = subst (λ x. IsWithin b (ok_found x)) is h

pub found_there : (b : Bytes) (p : Place) (o : Option Place) (c : Result (Option Bytes) Refusal)
    → o ≡ Some p
    → Returns (option_map (bytes_at b)) c (ok_found o) → Ok (Some (bytes_at b p)) ≡ c
found_there b p o c is t = ap (λ x. Ok (option_map (bytes_at b) x)) (sym is) ∙ t.is
