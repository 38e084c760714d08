-- One after the other goes out of a full room.
use Rattle.std.proofs.Common.{◌≡◌, ℕ, zero, suc, ◌+◌, ◌-◌, ◌<◌, Bool, true, false, cond, List, [], ◌∷◌, length, refl, sym, ap, ◌∙◌, arith, nat_le}
use Rattle.std.proofs.lemmas.Bool.{and_parts, le-leb, leb-true, lt-leb}
use Rattle.tcp_acceptance.specs.Doubtful.{Doubtful}
use Rattle.tcp_acceptance.specs.Room.{bytes_in, fits, reduced, reduced_tally, with_one_counted, without_one, IsWithin}
use Rattle.tcp_acceptance.specs.declared.room.TheConstants.{MAX_BYTES, MAX_SEGMENTS}
use Rattle.tcp_acceptance.specs.declared.known.Known.{Known}
use Rattle.tcp_acceptance.specs.declared.tally.Tally.{Tally}

-- Where they fit, none goes out.
pub reduced_fits : (n : ℕ) (known : Known) (ks : List Doubtful) → fits ks ≡ true
    → reduced n known ks ≡ ks
reduced_fits zero known ks h = refl
reduced_fits (suc n) known ks h = go (fits ks) h
  where
    go : (b : Bool) → b ≡ true → cond b ks (reduced n known (without_one known ks)) ≡ ks
    go true e = refl
    go false e = absurd cc

pub tally_fits : (n : ℕ) (known : Known) (ks : List Doubtful) (t : Tally) → fits ks ≡ true
    → reduced_tally n known ks t ≡ t
tally_fits zero known ks t h = refl
tally_fits (suc n) known ks t h = go (fits ks) h
  where
    go : (b : Bool) → b ≡ true
        → cond b t (reduced_tally n known (without_one known ks) (with_one_counted known ks t)) ≡ t
    go true e = refl
    go false e = absurd cc

-- Where they don't fit, one goes out.
reduced_suc : (n : ℕ) (known : Known) (ks : List Doubtful) → fits ks ≡ false
    → reduced (suc n) known ks ≡ reduced n known (without_one known ks)
reduced_suc n known ks h = go (fits ks) h
  where
    go : (b : Bool) → b ≡ false
        → cond b ks (reduced n known (without_one known ks))
        ≡ reduced n known (without_one known ks)
    go true e = absurd cc
    go false e = refl

tally_suc : (n : ℕ) (known : Known) (ks : List Doubtful) (t : Tally) → fits ks ≡ false
    → reduced_tally (suc n) known ks t
    ≡ reduced_tally n known (without_one known ks) (with_one_counted known ks t)
tally_suc n known ks t h = go (fits ks) h
  where
    go : (b : Bool) → b ≡ false
        → cond b t (reduced_tally n known (without_one known ks) (with_one_counted known ks t))
        ≡ reduced_tally n known (without_one known ks) (with_one_counted known ks t)
    go true e = absurd cc
    go false e = refl

pub reduced_step : (n m : ℕ) (known : Known) (ks : List Doubtful) → fits ks ≡ false → n + 1 ≡ m
    → reduced m known ks ≡ reduced n known (without_one known ks)
reduced_step n m known ks h e =
    let s : m ≡ suc n = omega (arith, e) in
    ap (λ (k : ℕ). reduced k known ks) s ∙ reduced_suc n known ks h

pub tally_step : (n m : ℕ) (known : Known) (ks : List Doubtful) (t : Tally) → fits ks ≡ false
    → n + 1 ≡ m
    → reduced_tally m known ks t
    ≡ reduced_tally n known (without_one known ks) (with_one_counted known ks t)
tally_step n m known ks t h e =
    let s : m ≡ suc n = omega (arith, e) in
    ap (λ (k : ℕ). reduced_tally k known ks t) s ∙ tally_suc n known ks t h

pub fits_within : (ks : List Doubtful) → fits ks ≡ true → IsWithin ks
fits_within ks h =
    let p = and_parts (nat_le (length ks) MAX_SEGMENTS) (nat_le (bytes_in ks) MAX_BYTES) h in
    (leb-true (length ks) MAX_SEGMENTS p.0, leb-true (bytes_in ks) MAX_BYTES p.1)

-- The bytes of all, by what is left for the remaining ones.
pub too_many : (all left count rest : ℕ) → all + left ≡ 65536 + (count + rest) → left < count
    → nat_le all 65536 ≡ false
too_many all left count rest h more = lt-leb all 65536 (omega (arith, h, more))

pub all_fit : (all left : ℕ) → all + left ≡ 65536 → nat_le all 65536 ≡ true
all_fit all left h = le-leb all 65536 (omega (arith, h))

-- A turn of the loop, and its ends.
pub goes_on : (n m : ℕ) (known : Known) (ks ls all : List Doubtful) → reduced m known ks ≡ all
    → fits ks ≡ false
    → ls ≡ without_one known ks
    → n + 1 ≡ m
    → reduced n known ls ≡ all
goes_on n m known ks ls all h e w s =
    ap (λ (l : List Doubtful). reduced n known l) w ∙ sym (reduced_step n m known ks e s) ∙ h

pub goes_on_counted : (n m : ℕ) (known : Known) (ks ls : List Doubtful) (t u all : Tally)
    → reduced_tally m known ks t ≡ all
    → fits ks ≡ false
    → ls ≡ without_one known ks
    → u ≡ with_one_counted known ks t
    → n + 1 ≡ m
    → reduced_tally n known ls u ≡ all
goes_on_counted n m known ks ls t u all h e w v s =
    ap (λ (l : List Doubtful). reduced_tally n known l u) w
    ∙ ap (λ (x : Tally). reduced_tally n known (without_one known ks) x) v
    ∙ sym (tally_step n m known ks t e s) ∙ h

pub ends_with : (n : ℕ) (known : Known) (ks all : List Doubtful) → reduced n known ks ≡ all
    → fits ks ≡ true
    → ks ≡ all
ends_with n known ks all h e = sym (reduced_fits n known ks e) ∙ h

pub ends_counted : (n : ℕ) (known : Known) (ks : List Doubtful) (t all : Tally)
    → reduced_tally n known ks t ≡ all
    → fits ks ≡ true
    → t ≡ all
ends_counted n known ks t all h e = sym (tally_fits n known ks t e) ∙ h

pub none_fits : (ks : List Doubtful) → length ks ≡ 0 → fits ks ≡ true
none_fits [] h = refl
none_fits (k ∷ ks) h = absurd (omega (arith, h))
