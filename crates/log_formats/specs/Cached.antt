-- The cache of texts, as what it contains: lists by their place and numbers, certificates by their
-- places and bytes.
use Rattle.std.specs.Prelude.{
  ◌≡◌,
  ◌⊎◌,
  ℕ,
  ◌+◌,
  ◌*◌,
  ◌/◌,
  ◌%◌,
  ◌^◌,
  List,
  [],
  ◌∷◌,
  map,
  Option,
  Some,
  None,
  IsSomeAnd,
  Any,
  slice_get,
  bit_xor,
}
use Rattle.layouts.specs.Bytes.{Bytes}
use Rattle.layouts.specs.Layout.{number}
use Rattle.layouts.specs.Items.{items_in}
use Rattle.tls_ext.specs.InPlace.{extension_type, key_share_entry}
use Rattle.log_formats.specs.declared.lists.Texts.{Texts}
use Rattle.log_formats.specs.declared.lists.Texts.TheVariants.{
  Versions,
  Types,
  Groups,
  Schemes,
  Shares,
  Suites,
}
use Rattle.log_formats.specs.declared.text_cache.KnownList.{KnownList}
use Rattle.log_formats.specs.declared.text_cache.KnownLists.{KnownLists}
use Rattle.log_formats.specs.declared.text_cache.KnownCertificate.{KnownCertificate}
use Rattle.log_formats.specs.declared.text_cache.TextCache.{TextCache}

-- The sum of a list's numbers behind a sum, as `set_of` uses it.
abbrev pub sum_behind : ℕ → List ℕ → ℕ
sum_behind sum [] = sum
sum_behind sum (n ∷ ns) = sum_behind (((sum * 31) % 2 ^ 32 + n) % 2 ^ 32) ns

-- The set of a list with these numbers.
unfoldable pub set_of : List ℕ → ℕ
set_of numbers = let sum = sum_behind 0 numbers in bit_xor sum (sum / 2 ^ 16) % 16

-- The entry is of this place and these numbers.
abbrev pub IsOf : ℕ → List ℕ → KnownList → Type 0
IsOf place numbers one = (one.place ≡ place) × (one.numbers.items ≡ numbers)

-- The entry has this text, of this place and these numbers.
abbrev pub IsText : ℕ → List ℕ → List ℕ → KnownList → Type 0
IsText place numbers text one =
    (one.place ≡ place) × (one.numbers.items ≡ numbers) × (one.text.items ≡ text)

-- The text is cached for this place and these numbers: an entry in their set has it.
abbrev pub HasText : KnownLists → ℕ → List ℕ → List ℕ → Type 0
HasText lists place numbers text =
    IsSomeAnd (slice_get lists.sets.items (set_of numbers))
    (λ set. Any (IsText place numbers text) set.items)

-- A cached text is this one, of this place and these numbers.
abbrev pub IsThis : ℕ → List ℕ → List ℕ → ℕ → List ℕ → List ℕ → Type 0
IsThis place numbers text p ns t = (p ≡ place) × (ns ≡ numbers) × (t ≡ text)

-- Each entry of the new set was in the old one, or is this one.
abbrev pub AddsToSet : List KnownList → List KnownList → ℕ → List ℕ → List ℕ → Type 0
AddsToSet old new place numbers text =
    (p : ℕ) (ns t : List ℕ) → Any (IsText p ns t) new
    → Any (IsText p ns t) old ⊎ IsThis place numbers text p ns t

-- Each text that is cached now was cached before, or is this one, of this place and these numbers.
abbrev pub AddsText : KnownLists → KnownLists → ℕ → List ℕ → List ℕ → Type 0
AddsText old new place numbers text =
    (p : ℕ) (ns t : List ℕ) → HasText new p ns t
    → HasText old p ns t ⊎ IsThis place numbers text p ns t

-- The kinds of lists. Each has a cache.
pub data Kind : Type 0 where
  of_versions : Kind
  of_types : Kind
  of_groups : Kind
  of_schemes : Kind
  of_suites : Kind
  of_codes : Kind

-- The cached lists of a kind.
abbrev pub lists_of : Kind → TextCache → KnownLists
lists_of of_versions cache = cache.versions
lists_of of_types cache = cache.types
lists_of of_groups cache = cache.groups
lists_of of_schemes cache = cache.schemes
lists_of of_suites cache = cache.suites
lists_of of_codes cache = cache.codes

-- Nothing changes but the lists of this kind.
abbrev pub ChangesOnly : Kind → TextCache → TextCache → Type 0
ChangesOnly of_versions old new = new ≡ record old { versions = new.versions }
ChangesOnly of_types old new = new ≡ record old { types = new.types }
ChangesOnly of_groups old new = new ≡ record old { groups = new.groups }
ChangesOnly of_schemes old new = new ≡ record old { schemes = new.schemes }
ChangesOnly of_suites old new = new ≡ record old { suites = new.suites }
ChangesOnly of_codes old new = new ≡ record old { codes = new.codes }

-- The groups of the key shares in bytes.
abbrev pub share_groups : Bytes → List ℕ
share_groups bytes = map (λ e. e.kind) (items_in key_share_entry bytes)

-- The kind and the numbers of a list; None if its items aren't numbers.
abbrev pub key_of : Texts → Option (Kind × List ℕ)
key_of (Versions list) = Some (of_versions, items_in (number 2) list.bytes.now)
key_of (Types list) = Some (of_types, items_in extension_type list.bytes.now)
key_of (Groups list) = Some (of_groups, items_in (number 2) list.bytes.now)
key_of (Shares bytes) = Some (of_groups, share_groups bytes.now)
key_of (Schemes list) = Some (of_schemes, items_in (number 2) list.bytes.now)
key_of (Suites names list) = Some (of_suites, items_in (number 2) list.bytes.now)
key_of _ = None

-- The numbers of a list of codes, a byte each.
abbrev pub codes_in : Bytes → List ℕ
codes_in bytes = items_in (number 1) bytes

-- The text is cached for this place and this list.
abbrev pub HasTextOf : TextCache → ℕ → Texts → List ℕ → Type 0
HasTextOf cache place texts text =
    IsSomeAnd (key_of texts) (λ key. HasText (lists_of key.0 cache) place key.1 text)

-- The entry is of these places and this certificate.
abbrev pub IsOfCertificate : List ℕ → Bytes → KnownCertificate → Type 0
IsOfCertificate places certificate one =
    (one.places.items ≡ places) × (one.certificate.items ≡ certificate)

-- The entry has this text, of these places and this certificate.
abbrev pub IsCertificateText : List ℕ → Bytes → List ℕ → KnownCertificate → Type 0
IsCertificateText places certificate text one =
    (one.places.items ≡ places) × (one.certificate.items ≡ certificate) × (one.text.items ≡ text)

-- The text is cached for these places and this certificate.
abbrev pub HasCertificateText : TextCache → List ℕ → Bytes → List ℕ → Type 0
HasCertificateText cache places certificate text =
    Any (IsCertificateText places certificate text) cache.certificates.items

-- Each certificate's text that is cached now was cached before, or is this one, of these places
-- and this certificate.
abbrev pub AddsCertificateText : TextCache → TextCache → List ℕ → Bytes → List ℕ → Type 0
AddsCertificateText old new places certificate text =
    (ps cs t : List ℕ) → HasCertificateText new ps cs t
    → HasCertificateText old ps cs t ⊎ ((ps ≡ places) × (cs ≡ certificate) × (t ≡ text))

-- Nothing is cached.
pub record IsEmpty (cache : TextCache) : Type 0 where
  pub lists : (kind : Kind) → (lists_of kind cache).sets.items ≡ []
  pub certificates : cache.certificates.items ≡ []
