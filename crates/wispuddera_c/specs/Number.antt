-- A number of a list, as a C struct.
use Rattle.std.specs.Prelude.{◌≡◌, ℕ, List, length, Option, Some, None, Result, Ok, Err, slice_get}
use Rattle.layouts.specs.Meaning.{Answer, Refusal}
use Rattle.tls_ext.specs.Extension as ext
use Rattle.tls_ext.specs.Extension.{Extension}
use Rattle.wispuddera_c.specs.declared.number.Number.{Number}
use Rattle.wispuddera_c.specs.Status.{none, IsRefused}

-- The number is x; or the list is shorter.
abbrev pub IsOne : Option ℕ → ℕ → Number → Type 0
IsOne (Some x) status c = (status ≡ 0) × (c.value ≡ x)
IsOne None status c = status ≡ none

-- The number at this index of the list, and the list's length.
pub record IsNumberOf (xs : List ℕ) (index status : ℕ) (c : Number) : Type 0 where
  pub one : IsOne (slice_get xs index) status c
  pub count : c.count ≡ length xs
  pub missing : c.missing ≡ 0

-- The number of a list in bytes; or their refusal is returned.
abbrev pub IsNumberIn : Result (Option (List ℕ)) Refusal → ℕ → ℕ → Number → Type 0
IsNumberIn (Ok (Some xs)) index status c = IsNumberOf xs index status c
IsNumberIn (Ok None) index status c = (status ≡ none) × (c.missing ≡ 0)
IsNumberIn (Err e) index status c = IsRefused e status c.missing

-- The cipher suites of a hello, or its refusal.
abbrev pub offered : {A : Type 0} → (A → List ℕ) → Answer A → Result (Option (List ℕ)) Refusal
offered suites (Ok x) = Ok (Some (suites x.0))
offered suites (Err e) = Err e

abbrev pub listed_groups : Extension → Option (List ℕ)
listed_groups (ext.supported_groups groups) = Some groups
listed_groups e = None

abbrev pub listed_schemes : Extension → Option (List ℕ)
listed_schemes (ext.signature_algorithms schemes) = Some schemes
listed_schemes e = None

-- The number is that of the answer; or there is none, or a refusal is returned.
abbrev pub IsAnsweredNumber : Result (Option ℕ) Refusal → ℕ → Number → Type 0
IsAnsweredNumber (Ok x) status c = IsOne x status c × (c.missing ≡ 0)
IsAnsweredNumber (Err e) status c = IsRefused e status c.missing
