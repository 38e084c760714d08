-- Looked-up places, as C structs.
use Rattle.std.specs.Prelude.{◌≡◌, ℕ, List, Option, Some, None, Result, Ok, Err}
use Rattle.std.specs.Borrow.{Bor}
use Rattle.std.specs.Option.{option_map}
use Rattle.layouts.specs.Bytes.{Bytes}
use Rattle.layouts.specs.Items.{Returns, items_in}
use Rattle.layouts.specs.Layout.{Layout}
use Rattle.layouts.specs.Meaning.{Refusal}
use Rattle.layouts.specs.Place.{bytes_at}
use Rattle.layouts.specs.declared.places.Place.{Place}
use Rattle.layouts.specs.declared.result.Err.{Err as Failed}
use Rattle.layouts.specs.declared.result.Error.{Error}
use Rattle.tls_places.specs.Place.{IsWithin}
use Rattle.wispuddera_c.specs.declared.found.Found.{Found}
use Rattle.wispuddera_c.specs.Place.{StandsAt, ItemsStandAt}
use Rattle.wispuddera_c.specs.Status.{none, IsRefused}

-- The bytes of the answer are at the place in b; or there are none, or a refusal is returned.
abbrev pub IsFound : Bytes → Result (Option Bytes) Refusal → ℕ → Found → Type 0
IsFound b (Ok (Some x)) status c = (status ≡ 0) × (c.missing ≡ 0) × StandsAt b c.place x
IsFound b (Ok None) status c = (status ≡ none) × (c.missing ≡ 0)
IsFound b (Err e) status c = IsRefused e status c.missing

-- The items of the answer are at the place in b; or there are none, or a refusal is returned.
abbrev pub AreFound : {A : Type 0} → Layout A → Bytes → Result (Option (List A)) Refusal → ℕ
    → Found → Type 0
AreFound l b (Ok (Some xs)) status c = (status ≡ 0) × (c.missing ≡ 0) × ItemsStandAt l b c.place xs
AreFound l b (Ok None) status c = (status ≡ none) × (c.missing ≡ 0)
AreFound l b (Err e) status c = IsRefused e status c.missing

-- A place that a call of the library found, or none, or its refusal.
abbrev pub PlaceFound : Type 0
PlaceFound = Result (Option Place) (Failed (Error (Bor (List ℕ))))

-- If the call found bytes of b, the status and the struct show them.
abbrev pub ShowsPart : PlaceFound → ℕ → Found → Type 0
ShowsPart found status c = (b : Bytes) (a : Result (Option Bytes) Refusal)
    → Returns (option_map (bytes_at b)) a found
    → IsWithin b found → IsFound b a status c

-- If the call found a list of items in b, the status and the struct show it.
abbrev pub ShowsList : {A : Type 0} → Layout A → PlaceFound → ℕ → Found → Type 0
ShowsList {A} l found status c = (b : Bytes) (a : Result (Option (List A)) Refusal)
    → Returns (option_map (λ p. items_in l (bytes_at b p))) a found → IsWithin b found
    → AreFound l b a status c
