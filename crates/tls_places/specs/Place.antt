-- The places of parts.
use Rattle.std.specs.Prelude.{
  ◌≡◌,
  ℕ,
  ◌-◌,
  ◌≤◌,
  ◌++◌,
  length,
  drop,
  Option,
  Some,
  None,
  MatchOption,
  List,
  Result,
  Ok,
  ⊤,
}
use Rattle.std.specs.Borrow.{Bor}
use Rattle.std.specs.Iterator.{YieldsFirstBy}
use Rattle.std.specs.Option.{option_map}
use Rattle.layouts.specs.Bytes.{Bytes}
use Rattle.layouts.specs.Items.{Returns}
use Rattle.layouts.specs.Meaning.{EndsWith, Refusal}
use Rattle.layouts.specs.Place.{bytes_at}
use Rattle.layouts.specs.declared.places.Place.{Place}
use Rattle.layouts.specs.declared.result.Error.{Error}
use Rattle.layouts.specs.declared.result.Err.{Err as Failed}
pub use Rattle.tls_hs.specs.Places.{Lies, place_from, Stands, MayStand, MayBeginAt}

-- r is the end of b: what is left after dropping as many bytes as b has more.
pub record IsEnd (b r : Bytes) : Type 0 where
  pub fits : length r ≤ length b
  pub is : drop (length b - length r) b ≡ r

-- b ends with the optional part and then r.
abbrev pub EndsIn : Bytes → Option Bytes → Bytes → Type 0
EndsIn b (Some x) r = EndsWith b (x ++ r)
EndsIn b None r = ⊤

-- The next item is the first of the list, and its content is at its place in the whole.
pub record YieldsPlaced {S X A : Type 0} (view : X → A) (content : X → Bytes) (whole : S → Bytes)
    (items : S → List A)
    (s : S) (r : Option (X × Place)) (t : S) : Type 0 where
  pub first : YieldsFirstBy (λ x. view x.0) items s r t
  pub same : whole t ≡ whole s
  pub stands : MatchOption r ⊤ (λ x. Stands (whole s) x.1 (content x.0))

-- A returned place lies within b.
abbrev pub IsWithin : {E : Type 0} → Bytes → Result (Option Place) E → Type 0
IsWithin b (Ok (Some p)) = Lies b p
IsWithin b r = ⊤

-- The answer of a call that looks for a place.
abbrev pub Found : Type 0
Found = Result (Option Place) (Failed (Error (Bor (List ℕ))))

-- A place in the part of b at p becomes one in b: it has the same bytes, or the call the same
-- refusal.
abbrev pub FindsTheSame : Bytes → Place → Found → Found → Type 0
FindsTheSame b p found result = (a : Result (Option Bytes) Refusal) → Lies b p
    → IsWithin (bytes_at b p) found
    → Returns (option_map (bytes_at (bytes_at b p))) a found
    → Returns (option_map (bytes_at b)) a result
