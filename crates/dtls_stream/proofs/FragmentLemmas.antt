-- The bytes of a message that fragments give.
use Rattle.std.proofs.Common.{
  ◌≡◌,
  ℕ,
  ◌+◌,
  ◌-◌,
  ◌<◌,
  ◌≤◌,
  Bool,
  true,
  false,
  cond,
  nat_le,
  nat_lt,
  Option,
  Some,
  None,
  refl,
  ◌∙◌,
  ap,
}
use Rattle.std.specs.Prelude.{slice_index}
use Rattle.std.proofs.lemmas.Bool.{lt-ltb, le-ltb, le-leb, lt-leb}
use Rattle.layouts.specs.Bytes.{Bytes}
use Rattle.dtls_stream.specs.Fragments.{given, or_else}

pub given_in : (o n i : ℕ) (b : Bytes) → o ≤ i → i < o + n
    → given o b n i ≡ Some (slice_index b (i - o))
given_in o n i b h g =
    ap (λ t. cond t (cond (nat_lt i (o + n)) (Some (slice_index b (i - o))) None) None)
    (le-leb o i h)
    ∙ ap (λ t. cond t (Some (slice_index b (i - o))) None) (lt-ltb i (o + n) g)

pub given_below : (o n i : ℕ) (b : Bytes) → i < o → given o b n i ≡ None
given_below o n i b h =
    ap (λ t. cond t (cond (nat_lt i (o + n)) (Some (slice_index b (i - o))) None) None)
    (lt-leb o i h)

cond_none : (t : Bool) → cond {A = Option ℕ} t None None ≡ None
cond_none true = refl
cond_none false = refl

pub given_above : (o n i : ℕ) (b : Bytes) → o + n ≤ i → given o b n i ≡ None
given_above o n i b h =
    ap (λ t. cond (nat_le o i) (cond t (Some (slice_index b (i - o))) None) None)
    (le-ltb i (o + n) h)
    ∙ cond_none (nat_le o i)

pub or_none : (c : Option ℕ) → or_else c None ≡ c
or_none None = refl
or_none (Some x) = refl
