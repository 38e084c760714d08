-- Tables of cipher suites.
use Rattle.std.specs.Prelude.{◌≡◌, ℕ, ◌<◌, ◌==◌, List, length, take, find, slice_get, Option, Bool, true, false}
use Rattle.std.specs.Option.{option_map_or}
use Rattle.std.specs.List.{list_any}
use Rattle.std.specs.Str.{bytes_eq}
use Rattle.tls_base.specs.Names.{Text}
use Rattle.tls_base.specs.declared.cipher_suite.TlsCipherSuite.{TlsCipherSuite}
use Rattle.tls_base.specs.declared.cipher_table.CipherTableFault.{CipherTableFault}
use Rattle.tls_base.specs.declared.cipher_table.CipherTableFault.TheVariants.{SameId, SameName}

-- The suite with this id, or this name.
abbrev pub suite_of_id : List TlsCipherSuite → ℕ → Option TlsCipherSuite
suite_of_id suites id = find (λ s. s.id.0 == id) suites

abbrev pub suite_of_name : List TlsCipherSuite → Text → Option TlsCipherSuite
suite_of_name suites name = find (λ s. bytes_eq s.name.now name) suites

-- Whether one of the suites has this id, or this name.
abbrev pub has_id : List TlsCipherSuite → ℕ → Bool
has_id suites id = list_any (λ s. s.id.0 == id) suites

abbrev pub has_name : List TlsCipherSuite → Text → Bool
has_name suites name = list_any (λ s. bytes_eq s.name.now name) suites

-- Whether a suite before position k has the id, or the name, of the one at k. Positions are counted
-- from 0.
abbrev pub repeats_id : List TlsCipherSuite → ℕ → Bool
repeats_id suites k = option_map_or (λ s. has_id (take k suites) s.id.0) (slice_get suites k) false

abbrev pub repeats_name : List TlsCipherSuite → ℕ → Bool
repeats_name suites k =
    option_map_or (λ s. has_name (take k suites) s.name.now) (slice_get suites k) false

-- The suites before position n have distinct ids and distinct names.
abbrev pub DifferBelow : List TlsCipherSuite → ℕ → Type 0
DifferBelow suites n = (k : ℕ) → k < n → (repeats_id suites k ≡ false)
    × (repeats_name suites k ≡ false)

-- All suites have distinct ids and distinct names.
abbrev pub Differ : List TlsCipherSuite → Type 0
Differ suites = DifferBelow suites (length suites)

-- The first position that repeats an id or a name. One that repeats both is reported by its id.
abbrev pub IsFirstFault : List TlsCipherSuite → CipherTableFault → Type 0
IsFirstFault suites (SameId k) = DifferBelow suites k × (repeats_id suites k ≡ true)
IsFirstFault suites (SameName k) = DifferBelow suites k × (repeats_id suites k ≡ false)
    × (repeats_name suites k ≡ true)
