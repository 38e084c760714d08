-- Places as C structs.
use Rattle.std.proofs.Common.{
  ◌≡◌,
  ℕ,
  ◌-◌,
  List,
  [],
  length,
  take,
  drop,
  min,
  Option,
  Some,
  None,
  refl,
  sym,
  subst,
  ◌∙◌,
  ap,
  arith,
}
use Rattle.std.specs.Borrow.{Bor}
use Rattle.std.specs.Option.{is_some, option_map}
use Rattle.std.proofs.lemmas.List.{take-append-drop, length-drop}
use Rattle.layouts.specs.Bytes.{Bytes}
use Rattle.layouts.specs.Items.{items_in}
use Rattle.layouts.specs.Layout.{Layout}
use Rattle.layouts.specs.Meaning.{EndsWith}
use Rattle.layouts.specs.Place.{bytes_at}
use Rattle.layouts.specs.Text.{held}
use Rattle.layouts.specs.declared.places.Place.{Place}
use Rattle.tls_hs.specs.Places.{StandsAt as MayStandAt}
use Rattle.tls_places.specs.Place.{Stands, Lies, MayStand, IsEnd}
use Rattle.tls_places.proofs.PlaceLemmas.{is_end, cut_there}
use Rattle.wispuddera_c.specs.declared.place.Place.{Place as CPlace}
use Rattle.wispuddera_c.specs.Place.{Follows, ItemsStandAt, place_of}

nothing : (b : Bytes) → Stands b (record { offset = 0; length = 0 }) []
nothing b = record { is = refl; within = omega arith }

-- an optional part, or no bytes
pub held_some : (b : Bytes) (p q : Place) (x : Option Bytes) → q ≡ p → MayStand b (Some p) x
    → Stands b q (held x)
held_some b p q (Some x) same s = subst (λ z. Stands b z x) (sym same) s
held_some b p q None same s = absurd s

pub held_none : (b : Bytes) (x : Option Bytes) → MayStand b None x
    → Stands b (record { offset = 0; length = 0 }) (held x)
held_none b None s = nothing b
held_none b (Some x) s = absurd s

-- the items of the bytes at a place
pub items_stand : {A : Type 0} (l : Layout A) (b : Bytes) (p : CPlace) (q : Place) (x : Bytes)
    → place_of p ≡ q
    → Stands b q x → ItemsStandAt l b p (items_in l x)
items_stand l b p q x same s =
    let there : Stands b (place_of p) x = subst (λ z. Stands b z x) (sym same) s in
    record { are = ap (items_in l) there.is; within = there.within }

pub some_of_map : {A B : Type 0} (f : A → B) (x : Option A) → is_some x ≡ is_some (option_map f x)
some_of_map f (Some y) = refl
some_of_map f None = refl

pub cut_some : (b : Bytes) (p q : Place) (x : Option (Bor (List ℕ)))
    → bytes_at b q ≡ bytes_at b p → Lies b q
    → MayStandAt b (Some p) x → Stands b q (held (option_map (λ y. y.now) x))
cut_some b p q (Some x) same lies s = record { is = same ∙ s; within = lies }
cut_some b p q None same lies s = absurd s

pub cut_none : (b : Bytes) (x : Option (Bor (List ℕ))) → MayStandAt b None x
    → Stands b (record { offset = 0; length = 0 }) (held (option_map (λ y. y.now) x))
cut_none b None s = nothing b
cut_none b (Some x) s = absurd s

-- a place that is cut to the bytes
pub cut_is : (b : Bytes) (o n m k : ℕ) → m ≡ min o (length b) → k ≡ min n (length b - m)
    → take k (drop m b) ≡ take n (drop o b)
cut_is b o n m k em ek =
    cut_there b (take k (drop m b)) o n m k em (ek ∙ ap (min n) (sym (length-drop m b))) refl

-- the bytes from an offset on
pub ends_from : (b : Bytes) (offset : ℕ) → EndsWith b (drop offset b)
ends_from b offset = (take offset b, sym (take-append-drop offset b))

pub rest_follows : (b r : Bytes) → EndsWith b r → Follows b (length b - length r) r
rest_follows b r e = let end : IsEnd b r = is_end b r e in
    record { is = end.is; within = omega arith }
