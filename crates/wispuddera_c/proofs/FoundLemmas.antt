-- A list after its length is found at its bytes' place.
use Rattle.std.proofs.Common.{◌≡◌, ℕ, Result, Ok, Err, refl, sym, subst, ◌∙◌, ap}
use Rattle.layouts.specs.Bytes.{Bytes}
use Rattle.layouts.specs.Items.{items_in}
use Rattle.layouts.specs.Layout.{Layout, list, number, counted, counted_window}
use Rattle.layouts.specs.Meaning.{Refusal}
use Rattle.layouts.specs.Reading.{reading, split_at, ◌and_then◌}
use Rattle.wispuddera_c.specs.declared.place.Place.{Place}
use Rattle.wispuddera_c.specs.Place.{StandsAt, ItemsStandAt}
use Rattle.wispuddera_c.specs.Status.{IsAnswered}

then_then : {X Y Z : Type 0} (a : Result X Refusal) (f : X → Result Y Refusal)
    (g : Y → Result Z Refusal)
    → (a and_then λ x. f x and_then g) ≡ ((a and_then f) and_then g)
then_then (Ok x) f g = refl
then_then (Err e) f g = refl

pub list_found : {A : Type 0} (k : ℕ) (item : Layout A) (b w r : Bytes) (p : Place)
    → reading (counted k) b ≡ Ok (w, r) → StandsAt b p w
    → IsAnswered (λ v _. ItemsStandAt item b p v) (reading (counted_window k (list item)) b) 0 0
list_found {A} k item b w r p read stands =
    let is : reading (counted_window k (list item)) b ≡ Ok (items_in item w, r) =
    then_then (reading (number k) b) (λ x. split_at x.0 x.1) (λ y. Ok (items_in item y.0, y.1))
    ∙ ap (λ a. a and_then λ y. Ok (items_in item y.0, y.1)) read in
    subst (λ a. IsAnswered (λ v _. ItemsStandAt item b p v) a 0 0) (sym is)
    (refl, refl, record { are = ap (items_in item) stands.is; within = stands.within })
