-- What is found in a part is found in the whole.
use Rattle.std.proofs.Common.{◌≡◌, Option, Some, Result, Ok, ◌∙◌, ap, subst}
use Rattle.std.specs.Option.{option_map}
use Rattle.layouts.specs.Bytes.{Bytes}
use Rattle.layouts.specs.Items.{Returns}
use Rattle.layouts.specs.Meaning.{Refusal}
use Rattle.layouts.specs.Place.{bytes_at}
use Rattle.layouts.specs.declared.places.Place.{Place}
use Rattle.tls_places.specs.Place.{Found, IsWithin, Lies, Stands}
use Rattle.tls_places.proofs.PlaceLemmas.{lies_stands}

abbrev pub ok_found : Option Place → Found
ok_found o = Ok o

-- a place within a place, by its bytes
module _ (b : Bytes) (p q s : Place)
    (within : (x y : Bytes) → Stands b p x → Stands x q y → Stands b s y) where
  pub there : Lies b p → Lies (bytes_at b p) q → Stands b s (bytes_at (bytes_at b p) q)
  there out here = within (bytes_at b p) (bytes_at (bytes_at b p) q) (lies_stands b p out)
      (lies_stands (bytes_at b p) q here)

  pub some_within : (found : Found) → found ≡ Ok (Some q) → Lies b p
      → IsWithin (bytes_at b p) found → Lies b s
  some_within found is out here =
      (there out (subst (λ f. IsWithin (bytes_at b p) f) is here)).within

  pub some_found : (found : Found) → found ≡ Ok (Some q)
      → (a : Result (Option Bytes) Refusal) → Lies b p
      → IsWithin (bytes_at b p) found
      → Returns (option_map (bytes_at (bytes_at b p))) a found
      → Returns (option_map (bytes_at b)) a (Ok (Some s))
  some_found found is a out here t =
      let at : Returns (option_map (bytes_at (bytes_at b p))) a (Ok (Some q)) =
      subst (λ f. Returns (option_map (bytes_at (bytes_at b p))) a f) is t in
      record {
        answers = tt;
        is = ap (λ y. Ok (Some y)) (there out (subst (λ f. IsWithin (bytes_at b p) f) is here)).is
            ∙ at.is;
      }
