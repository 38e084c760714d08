-- Fragments in any order.
use Rattle.std.proofs.Common.{◌≡◌, ◌⊎◌, inl, inr, ℕ, zero, suc, ◌+◌, ◌-◌, ◌<◌, ◌≤◌, ◌==◌, ◌||◌, ◌&&◌, nat_le, not, max, List, [], ◌∷◌, ◌++◌, length, take, drop}
use Rattle.std.proofs.Common.{Option, Some, None, is_some, Bool, true, false, ltb, refl, sym, ◌∙◌, ap, subst, arith}
use Rattle.std.proofs.Common.{eqb-true, ltb-true, ltb-false, leb-true, length-append, take-append-drop}
use Rattle.capture.specs.declared.fragment.IpFragment.{IpFragment}
use Rattle.segments.specs.Cells.{Bytes, byte_at, earlier}
use Rattle.segments.specs.Law.{IsPart}
use Rattle.segments.specs.Pages.{written}
use Rattle.segments.proofs.LawLemmas.{part_byte}
use Rattle.segments.proofs.PageMapLemmas.{written_outside}
use Rattle.ip_fragments.specs.Runs.{Run, Placing, Fits, Repeats, Overlaps, byte_in, count_behind, end_of_run, extended, filled, follows, joined, landing, landing_at, placed, run_at}
use Rattle.ip_fragments.specs.Waiting.{Waiting, Keeps, Completes, by_placing, bytes_of, completed_or_not, end_of, given, is_ecn_mixed, is_other_end, is_too_long, is_whole, received, with_repeat, with_runs}
use Rattle.ip_fragments.specs.Law.{AreOf, IsAfter, IsOut, IsWith, first_at}

-- Bytes at an offset.
earlier_none : (a : Option ℕ) → earlier a None ≡ a
earlier_none None = refl
earlier_none (Some x) = refl

earlier_assoc : (a b c : Option ℕ) → earlier (earlier a b) c ≡ earlier a (earlier b c)
earlier_assoc None b c = refl
earlier_assoc (Some x) b c = refl

-- Where one of two is missing, their order doesn't matter.
swap_left : (a b c : Option ℕ) → b ≡ None → earlier (earlier a b) c ≡ earlier (earlier a c) b
swap_left (Some x) b c e = refl
swap_left None b c e = rw e (sym (earlier_none c))

swap_right : (a b c : Option ℕ) → c ≡ None → earlier (earlier a b) c ≡ earlier (earlier a c) b
swap_right (Some x) b c e = refl
swap_right None b c e = rw e (earlier_none b)

byte_there : (b : Bytes) (i : ℕ) → i < length b → (y : ℕ) × (byte_at b i ≡ Some y)
byte_there [] i low = absurd (omega (arith, low))
byte_there (x ∷ b) zero low = (x, refl)
byte_there (x ∷ b) (suc i) low = byte_there b i (omega (arith, low))

byte_front : (a b : Bytes) (i : ℕ) → i < length a → byte_at (a ++ b) i ≡ byte_at a i
byte_front [] b i low = absurd (omega (arith, low))
byte_front (x ∷ a) b zero low = refl
byte_front (x ∷ a) b (suc i) low = byte_front a b i (omega (arith, low))

byte_back : (a b : Bytes) (i : ℕ) → length a ≤ i → byte_at (a ++ b) i ≡ byte_at b (i - length a)
byte_back [] b i low = let e : i ≡ i - 0 = omega arith in ap (byte_at b) e
byte_back (x ∷ a) b zero low = absurd (omega (arith, low))
byte_back (x ∷ a) b (suc i) low =
    let e : i - length a ≡ suc i - suc (length a) = omega arith in
    byte_back a b i (omega (arith, low)) ∙ ap (byte_at b) e

before : (o i : ℕ) (b : Bytes) → i < o → written o b i ≡ None
before o i b low = written_outside o b i (inl low)

past : (o i : ℕ) (b : Bytes) → o + length b ≤ i → written o b i ≡ None
past o i b high = written_outside o b i (inr high)

behind : (o i : ℕ) (b : Bytes) → o ≤ i → written o b i ≡ byte_at b (i - o)
behind o i b low = go (ltb i o) refl
  where
    go : (t : Bool) → ltb i o ≡ t → written o b i ≡ byte_at b (i - o)
    go true e = let f = ltb-true i o e in absurd (omega (arith, f, low))
    go false e = rw e refl

within : (o i : ℕ) (b : Bytes) → o ≤ i → i < o + length b
    → (y : ℕ) × (written o b i ≡ Some y)
within o i b low high =
    let there = byte_there b (i - o) (omega (arith, low, high)) in
    (there.0, behind o i b low ∙ there.1)

-- Bytes behind others.
written_on : (s i : ℕ) (x y : Bytes)
    → written s (x ++ y) i ≡ earlier (written s x i) (written (s + length x) y i)
written_on s i x y = go (ltb i s) refl (ltb i (s + length x)) refl
  where
    len : length (x ++ y) ≡ length x + length y
    len = length-append x y

    go : (t : Bool) → ltb i s ≡ t → (u : Bool) → ltb i (s + length x) ≡ u
        → written s (x ++ y) i ≡ earlier (written s x i) (written (s + length x) y i)
    go true e u f =
        let low = ltb-true i s e in
        before s i (x ++ y) low
        ∙ sym (before (s + length x) i y (omega (arith, low)))
        ∙ ap (λ a. earlier a (written (s + length x) y i)) (sym (before s i x low))
    go false e true f =
        let low = ltb-false i s e in
        let high = ltb-true i (s + length x) f in
        let there = within s i x low high in
        behind s i (x ++ y) low ∙ byte_front x y (i - s) (omega (arith, low, high))
        ∙ sym (behind s i x low) ∙ there.1
        ∙ ap (λ a. earlier a (written (s + length x) y i)) (sym there.1)
    go false e false f =
        let low = ltb-false i s e in
        let high = ltb-false i (s + length x) f in
        let at : (i - s) - length x ≡ i - (s + length x) = omega (arith, low, high) in
        behind s i (x ++ y) low ∙ byte_back x y (i - s) (omega (arith, low, high))
        ∙ ap (byte_at y) at ∙ sym (behind (s + length x) i y high)
        ∙ ap (λ a. earlier a (written (s + length x) y i)) (sym (past s i x high))

-- Runs that begin at an offset or behind it.
abbrev AreFrom : ℕ → List Run → Type 0
AreFrom n [] = Unit {0}
AreFrom n (r ∷ rs) = (n ≤ r.start) × AreFrom n rs

first_behind : (n : ℕ) (rs : List Run) → AreFrom n (take (count_behind n rs) rs)
first_behind n [] = tt
first_behind n (r ∷ rs) = go (nat_le n r.start) refl (first_behind n rs)
  where
    go : (t : Bool) → nat_le n r.start ≡ t → AreFrom n (take (count_behind n rs) rs)
        → AreFrom n (take (count_behind n (r ∷ rs)) (r ∷ rs))
    go true e further = rw e (leb-true n r.start e, further)
    go false e further = rw e tt

none_from : (n i : ℕ) (rs : List Run) → AreFrom n rs → i < n → byte_in rs i ≡ None
none_from n i [] from low = refl
none_from n i (r ∷ rs) from low =
    let start = from.0 in
    let none = before r.start i r.bytes (omega (arith, start, low)) in
    rw (none_from n i rs from.1 low, none) refl

in_append : (xs ys : List Run) (i : ℕ)
    → byte_in (xs ++ ys) i ≡ earlier (byte_in ys i) (byte_in xs i)
in_append [] ys i = sym (earlier_none (byte_in ys i))
in_append (x ∷ xs) ys i =
    ap (λ a. earlier a (written x.start x.bytes i)) (in_append xs ys i)
    ∙ earlier_assoc (byte_in ys i) (byte_in xs i) (written x.start x.bytes i)

-- Bytes that fit between runs are added at their offsets.
module _ (o i : ℕ) (b : Bytes) (high low : List Run) where
  fits_in : AreFrom (o + length b) high
      → byte_in (high ++ run_at o b ∷ low) i
      ≡ earlier (byte_in (high ++ low) i) (written o b i)
  fits_in from =
      in_append high (run_at o b ∷ low) i
      ∙ go (ltb i (o + length b)) refl
      ∙ ap (λ a. earlier a (written o b i)) (sym (in_append high low i))
    where
      go : (t : Bool) → ltb i (o + length b) ≡ t
          → earlier (earlier (byte_in low i) (written o b i)) (byte_in high i)
          ≡ earlier (earlier (byte_in low i) (byte_in high i)) (written o b i)
      go true e = swap_right (byte_in low i) (written o b i) (byte_in high i)
          (none_from (o + length b) i high from (ltb-true i (o + length b) e))
      go false e = swap_left (byte_in low i) (written o b i) (byte_in high i)
          (past o i b (ltb-false i (o + length b) e))

-- The offset behind all runs.
abbrev top_of : List Run → ℕ
top_of [] = 0
top_of (r ∷ rs) = end_of_run r

-- Where bytes land that fit.
record IsLanded (o : ℕ) (b : Bytes) (high low rs : List Run) : Type 0 where
  is : rs ≡ high ++ run_at o b ∷ low
  under : top_of low ≤ o

landed : (o : ℕ) (b : Bytes) (high low rs : List Run) → landing o b high low ≡ Fits rs
    → IsLanded o b high low rs
landed o b high [] rs h =
    let is : Fits (high ++ run_at o b ∷ []) ≡ Fits rs = h in
    record { is = cc; under = omega arith }
landed o b high (r ∷ low) rs h = go (nat_le (end_of_run r) o) refl
    (nat_le r.start o && nat_le (o + length b) (end_of_run r)) refl
  where
    go : (t : Bool) → nat_le (end_of_run r) o ≡ t
        → (u : Bool) → (nat_le r.start o && nat_le (o + length b) (end_of_run r)) ≡ u
        → IsLanded o b high (r ∷ low) rs
    go true e u f =
        let is : Fits (high ++ run_at o b ∷ r ∷ low) ≡ Fits rs = rw e at h in
        record { is = cc; under = leb-true (end_of_run r) o e }
    go false e true f = let g = rw (e, f) at h in absurd cc
    go false e false f = let g = rw (e, f) at h in absurd cc

-- Bytes that repeat those of a run.
both : (a b : Bool) → (a && b) ≡ true → (a ≡ true) × (b ≡ true)
both true b h = (refl, h)
both false b h = absurd cc

known : (a : Option ℕ) (y : ℕ) (c : Option ℕ) → a ≡ Some y → earlier a c ≡ a
known a y c e = rw e refl

known_behind : (a b : Option ℕ) (y : ℕ) → b ≡ Some y → (z : ℕ) × (earlier a b ≡ Some z)
known_behind None b y e = (y, e)
known_behind (Some x) b y e = (x, refl)

known_front : (a b : Option ℕ) (y : ℕ) → a ≡ Some y → earlier a b ≡ Some y
known_front a b y e = rw e refl

repeats_in : (o i n : ℕ) (b : Bytes) (high low : List Run) → landing o b high low ≡ Repeats n
    → earlier (byte_in (high ++ low) i) (written o b i) ≡ byte_in (high ++ low) i
repeats_in o i n b high [] h = absurd cc
repeats_in o i n b high (r ∷ low) h = go (nat_le (end_of_run r) o) refl
    (nat_le r.start o && nat_le (o + length b) (end_of_run r)) refl
  where
    inside : r.start ≤ o → o + length b ≤ end_of_run r → (t : Bool) → ltb i o ≡ t
        → (u : Bool) → ltb i (o + length b) ≡ u
        → earlier (byte_in (high ++ r ∷ low) i) (written o b i) ≡ byte_in (high ++ r ∷ low) i
    inside from to true e u f =
        rw (before o i b (ltb-true i o e)) (earlier_none (byte_in (high ++ r ∷ low) i))
    inside from to false e false f =
        rw (past o i b (ltb-false i (o + length b) f))
        (earlier_none (byte_in (high ++ r ∷ low) i))
    inside from to false e true f =
        let at = ltb-false i o e in
        let under = ltb-true i (o + length b) f in
        let there = within r.start i r.bytes (omega (arith, from, at))
        (omega (arith, under, to)) in
        let some = known_behind (byte_in low i) (written r.start r.bytes i) there.0 there.1 in
        let all : byte_in (high ++ r ∷ low) i ≡ Some some.0 =
        in_append high (r ∷ low) i
        ∙ known_front (byte_in (r ∷ low) i) (byte_in high i) some.0 some.1 in
        known (byte_in (high ++ r ∷ low) i) some.0 (written o b i) all

    go : (t : Bool) → nat_le (end_of_run r) o ≡ t
        → (u : Bool) → (nat_le r.start o && nat_le (o + length b) (end_of_run r)) ≡ u
        → earlier (byte_in (high ++ r ∷ low) i) (written o b i) ≡ byte_in (high ++ r ∷ low) i
    go true e u f = let g = rw e at h in absurd cc
    go false e true f =
        let parts = both (nat_le r.start o) (nat_le (o + length b) (end_of_run r)) f in
        inside (leb-true r.start o parts.0) (leb-true (o + length b) (end_of_run r) parts.1)
        (ltb i o) refl (ltb i (o + length b)) refl
    go false e false f = let g = rw (e, f) at h in absurd cc

-- Runs are apart, and each is behind the next.
abbrev AreApart : List Run → Type 0
AreApart [] = Unit {0}
AreApart (r ∷ rs) = (top_of rs ≤ r.start) × AreApart rs

top_fits : (o n : ℕ) (b : Bytes) (high low : List Run) → top_of (high ++ low) ≤ n
    → o + length b ≤ n → top_of (high ++ run_at o b ∷ low) ≤ n
top_fits o n b [] low h g = g
top_fits o n b (r ∷ high) low h g = h

apart_fits : (o : ℕ) (b : Bytes) (high low : List Run) → AreFrom (o + length b) high
    → AreApart (high ++ low) → top_of low ≤ o → AreApart (high ++ run_at o b ∷ low)
apart_fits o b [] low from apart under = (under, apart)
apart_fits o b (r ∷ high) low from apart under = (
  top_fits o r.start b high low apart.0 from.0,
  apart_fits o b high low from.1 apart.1 under,
)

-- What holds of runs with bytes that fit: the bytes, the order, and the offset behind all.
record HasPlaced (o : ℕ) (b : Bytes) (rs new : List Run) : Type 0 where
  bytes : (i : ℕ) → byte_in new i ≡ earlier (byte_in rs i) (written o b i)
  apart : AreApart rs → AreApart new
  bounded : (n : ℕ) → top_of rs ≤ n → o + length b ≤ n → top_of new ≤ n

placed_fits : (o : ℕ) (b : Bytes) (rs new : List Run) → placed o b rs ≡ Fits new
    → HasPlaced o b rs new
placed_fits o b rs new h = go (follows o rs) refl
  where
    extends : (xs : List Run) → follows o xs ≡ true → new ≡ extended b xs → HasPlaced o b xs new
    extends [] e is = absurd cc
    extends (r ∷ xs) e is =
        let end = eqb-true (end_of_run r) o e in
        let len = length-append r.bytes b in
        subst (λ l. HasPlaced o b (r ∷ xs) l) (sym is) (record {
          bytes = λ i. ap (earlier (byte_in xs i)) (written_on r.start i r.bytes b)
              ∙ sym (earlier_assoc (byte_in xs i) (written r.start r.bytes i)
              (written (end_of_run r) b i))
              ∙ ap (λ m. earlier (byte_in (r ∷ xs) i) (written m b i)) end;
          apart = λ a. a;
          bounded = λ n low high. omega (arith, len, end, high);
        })

    lands : landing_at (count_behind (o + length b) rs) o b rs ≡ Fits new → HasPlaced o b rs new
    lands g =
        let k = count_behind (o + length b) rs in
        let high = take k rs in
        let low = drop k rs in
        let all = take-append-drop k rs in
        let at = landed o b high low new g in
        let from = first_behind (o + length b) rs in
        subst (λ l. HasPlaced o b rs l) (sym at.is) (record {
          bytes = λ i. fits_in o i b high low from
              ∙ ap (λ l. earlier (byte_in l i) (written o b i)) all;
          apart = λ a. apart_fits o b high low from (subst AreApart (sym all) a) at.under;
          bounded = λ n under over.
              top_fits o n b high low (subst (λ l. top_of l ≤ n) (sym all) under) over;
        })

    go : (t : Bool) → follows o rs ≡ t → HasPlaced o b rs new
    go true e = let g : Fits (extended b rs) ≡ Fits new = rw e at h in extends rs e cc
    go false e = lands (rw e at h)

placed_repeats : (o i n : ℕ) (b : Bytes) (rs : List Run) → placed o b rs ≡ Repeats n
    → earlier (byte_in rs i) (written o b i) ≡ byte_in rs i
placed_repeats o i n b rs h = go (follows o rs) refl
  where
    go : (t : Bool) → follows o rs ≡ t
        → earlier (byte_in rs i) (written o b i) ≡ byte_in rs i
    go true e = let g = rw e at h in absurd cc
    go false e =
        let k = count_behind (o + length b) rs in
        subst (λ l. earlier (byte_in l i) (written o b i) ≡ byte_in l i) (take-append-drop k rs)
        (repeats_in o i n b (take k rs) (drop k rs) (rw e at h))

-- What a fragment that doesn't drop its datagram does: its bytes fit, or repeat others.
data Taken (f : IpFragment) (v w : Waiting) : Type 0 where
  fits : (rs : List Run) → placed f.offset (bytes_of f) v.runs ≡ Fits rs → w ≡ with_runs f rs v
      → Taken f v w
  repeats : (n : ℕ) → placed f.offset (bytes_of f) v.runs ≡ Repeats n → w ≡ with_repeat f n v
      → Taken f v w

kept_is : (x w : Waiting)
    → (completed_or_not x ≡ Keeps w) ⊎ (completed_or_not x ≡ Completes w) → w ≡ x
kept_is x w s = go (is_whole x) refl (is_ecn_mixed x) refl (is_too_long x) refl s
  where
    go : (t : Bool) → is_whole x ≡ t → (m : Bool) → is_ecn_mixed x ≡ m
        → (u : Bool) → is_too_long x ≡ u
        → (completed_or_not x ≡ Keeps w) ⊎ (completed_or_not x ≡ Completes w) → w ≡ x
    go false e m d u f (inl h) = let g : Keeps x ≡ Keeps w = rw e at h in cc
    go false e m d u f (inr h) = let g : Keeps x ≡ Completes w = rw e at h in absurd cc
    go true e true d u f (inl h) = let g = rw (e, d) at h in absurd cc
    go true e true d u f (inr h) = let g = rw (e, d) at h in absurd cc
    go true e false d true f (inl h) = let g = rw (e, d, f) at h in absurd cc
    go true e false d true f (inr h) = let g = rw (e, d, f) at h in absurd cc
    go true e false d false f (inl h) =
        let g : Completes x ≡ Keeps w = rw (e, d, f) at h in absurd cc
    go true e false d false f (inr h) =
        let g : Completes x ≡ Completes w = rw (e, d, f) at h in cc

placing_taken : (f : IpFragment) (v w : Waiting) (p : Placing)
    → placed f.offset (bytes_of f) v.runs ≡ p
    → (by_placing f v p ≡ Keeps w) ⊎ (by_placing f v p ≡ Completes w) → Taken f v w
placing_taken f v w (Fits rs) is s = fits rs is (kept_is (with_runs f rs v) w s)
placing_taken f v w (Repeats n) is (inl h) = repeats n is cc
placing_taken f v w (Repeats n) is (inr h) = absurd cc
placing_taken f v w Overlaps is (inl h) = absurd cc
placing_taken f v w Overlaps is (inr h) = absurd cc

taken : (f : IpFragment) (v w : Waiting) → IsWith f v w → Taken f v w
taken f v w s = go (is_other_end f v) refl (length (bytes_of f) == 0) refl s
  where
    go : (t : Bool) → is_other_end f v ≡ t → (u : Bool) → (length (bytes_of f) == 0) ≡ u
        → (received f v ≡ Keeps w) ⊎ (received f v ≡ Completes w) → Taken f v w
    go true e u g (inl h) = let k = rw e at h in absurd cc
    go true e u g (inr h) = let k = rw e at h in absurd cc
    go false e true g (inl h) = let k = rw (e, g) at h in absurd cc
    go false e true g (inr h) = let k = rw (e, g) at h in absurd cc
    go false e false g (inl h) =
        placing_taken f v w (placed f.offset (bytes_of f) v.runs) refl (inl (rw (e, g) at h))
    go false e false g (inr h) =
        placing_taken f v w (placed f.offset (bytes_of f) v.runs) refl (inr (rw (e, g) at h))

-- So each byte is the first at its offset, runs stay apart, and the fields follow the fragment.
record IsMore (f : IpFragment) (v w : Waiting) : Type 0 where
  bytes : (i : ℕ) → byte_in w.runs i ≡ earlier (byte_in v.runs i) (given f i)
  apart : AreApart v.runs → AreApart w.runs
  under : top_of v.runs ≤ v.reach → top_of w.runs ≤ w.reach
  reach : w.reach ≡ max v.reach (end_of f)
  ended : w.is_ended ≡ (v.is_ended || not f.has_more)

more : (f : IpFragment) (v w : Waiting) → Taken f v w → IsMore f v w
more f v w (fits rs is e) =
    let p = placed_fits f.offset (bytes_of f) v.runs rs is in
    subst (λ x. IsMore f v x) (sym e) (record {
      bytes = p.bytes;
      apart = p.apart;
      under = λ h. p.bounded (max v.reach (end_of f)) (omega (arith, h)) (omega arith);
      reach = refl;
      ended = refl;
    })
more f v w (repeats n is e) =
    subst (λ x. IsMore f v x) (sym e) (record {
      bytes = λ i. sym (placed_repeats f.offset i n (bytes_of f) v.runs is);
      apart = λ a. a;
      under = λ h. omega (arith, h);
      reach = refl;
      ended = refl;
    })

-- After all fragments.
bytes_first : (time : ℕ) (fs : List IpFragment) (w : Waiting) → IsAfter time fs w → (i : ℕ)
    → byte_in w.runs i ≡ first_at fs i
bytes_first time [] w is i = ap (λ v. byte_in v.runs i) is
bytes_first time (f ∷ fs) w is i =
    (more f is.0 w (taken f is.0 w is.2)).bytes i
    ∙ ap (λ o. earlier o (given f i)) (bytes_first time fs is.0 is.1 i)

record IsSound (w : Waiting) : Type 0 where
  apart : AreApart w.runs
  under : top_of w.runs ≤ w.reach

sound_after : (time : ℕ) (fs : List IpFragment) (w : Waiting) → IsAfter time fs w → IsSound w
sound_after time [] w is =
    subst (λ v. IsSound v) (sym is) (record { apart = tt; under = omega arith })
sound_after time (f ∷ fs) w is =
    let m = more f is.0 w (taken f is.0 w is.2) in
    let old = sound_after time fs is.0 is.1 in
    record { apart = m.apart old.apart; under = m.under old.under }

-- Runs that fill everything below their end are all bytes in order.
filled_top : (rs : List Run) → AreApart rs → filled rs ≤ top_of rs
filled_top [] a = omega arith
filled_top (r ∷ rs) a =
    let low = filled_top rs a.1 in
    let start = a.0 in
    omega (arith, low, start)

joined_length : (rs : List Run) → length (joined rs) ≡ filled rs
joined_length [] = refl
joined_length (r ∷ rs) =
    let all = length-append (joined rs) r.bytes in
    let low = joined_length rs in
    omega (arith, all, low)

none_above : (rs : List Run) (i : ℕ) → AreApart rs → top_of rs ≤ i → byte_in rs i ≡ None
none_above [] i a h = refl
none_above (r ∷ rs) i a h =
    let start = a.0 in
    rw (none_above rs i a.1 (omega (arith, start, h)), past r.start i r.bytes h) refl

joined_step : (r : Run) (rs : List Run) (i : ℕ) → AreApart (r ∷ rs) → filled rs ≡ top_of rs
    → r.start ≡ filled rs → (i < filled rs → byte_at (joined rs) i ≡ byte_in rs i)
    → byte_at (joined (r ∷ rs)) i ≡ byte_in (r ∷ rs) i
joined_step r rs i a full start below = go (ltb i (filled rs)) refl
  where
    go : (t : Bool) → ltb i (filled rs) ≡ t
        → byte_at (joined rs ++ r.bytes) i ≡ earlier (byte_in rs i) (written r.start r.bytes i)
    go true e =
        let front = ltb-true i (filled rs) e in
        let len = joined_length rs in
        let same = below front in
        let there = byte_there (joined rs) i (omega (arith, front, len)) in
        byte_front (joined rs) r.bytes i (omega (arith, front, len)) ∙ same
        ∙ sym (known (byte_in rs i) there.0 (written r.start r.bytes i) (sym same ∙ there.1))
    go false e =
        let back = ltb-false i (filled rs) e in
        let len = joined_length rs in
        let none = none_above rs i a.1 (omega (arith, back, full)) in
        let at : i - length (joined rs) ≡ i - r.start = omega (arith, len, start) in
        byte_back (joined rs) r.bytes i (omega (arith, back, len)) ∙ ap (byte_at r.bytes) at
        ∙ sym (behind r.start i r.bytes (omega (arith, back, start)))
        ∙ ap (λ a. earlier a (written r.start r.bytes i)) (sym none)

joined_byte : (rs : List Run) (i : ℕ) → AreApart rs → filled rs ≡ top_of rs → i < filled rs
    → byte_at (joined rs) i ≡ byte_in rs i
joined_byte [] i a full low = absurd (omega (arith, low))
joined_byte (r ∷ rs) i a full low =
    let under = filled_top rs a.1 in
    let from = a.0 in
    let all : filled rs ≡ top_of rs = omega (arith, under, from, full) in
    let start : r.start ≡ filled rs = omega (arith, under, from, full) in
    joined_step r rs i a all start (λ front. joined_byte rs i a.1 all front)

-- A datagram that is whole.
whole_filled : (w : Waiting) → is_whole w ≡ true → filled w.runs ≡ w.reach
whole_filled w h =
    let ended = both w.is_ended ((filled w.runs == w.reach) && is_some w.protocol) h in
    let full = both (filled w.runs == w.reach) (is_some w.protocol) ended.1 in
    eqb-true (filled w.runs) w.reach full.0

whole_full : (w : Waiting) → IsSound w → is_whole w ≡ true → filled w.runs ≡ top_of w.runs
whole_full w s h =
    let low = filled_top w.runs s.apart in
    let high = s.under in
    let full = whole_filled w h in
    omega (arith, low, high, full)

pub out_first : (fs : List IpFragment) (out : Bytes) → IsOut fs out → (i : ℕ) → i < length out
    → byte_at out i ≡ first_at fs i
out_first fs out o i low =
    let w = o.1.0 in
    let after = o.1.1 in
    let is = o.1.3 in
    let sound = sound_after o.0 fs w after in
    let len = ap length is ∙ joined_length w.runs in
    ap (λ b. byte_at b i) is
    ∙ joined_byte w.runs i sound.apart (whole_full w sound o.1.2) (omega (arith, low, len))
    ∙ bytes_first o.0 fs w after i

-- A fragment's bytes are those of the datagram.
given_of : (d : Bytes) (f : IpFragment) (i y : ℕ) → IsPart d f.offset (bytes_of f)
    → given f i ≡ Some y → byte_at d i ≡ Some y
given_of d f i y part equal = go (ltb i f.offset) refl
  where
    go : (t : Bool) → ltb i f.offset ≡ t → byte_at d i ≡ Some y
    go true e = let none = rw e at equal in absurd cc
    go false e =
        let back = ltb-false i f.offset e in
        let same : f.offset + (i - f.offset) ≡ i = omega (arith, back) in
        let there : byte_at (bytes_of f) (i - f.offset) ≡ Some y = rw e at equal in
        subst (λ k. byte_at d k ≡ Some y) same
        (part_byte d f.offset (bytes_of f) (i - f.offset) y part there)

first_of : (d : Bytes) (fs : List IpFragment) (i y : ℕ) → AreOf d fs → first_at fs i ≡ Some y
    → byte_at d i ≡ Some y
first_of d [] i y parts equal = absurd cc
first_of d (f ∷ fs) i y parts equal = go (first_at fs i) refl (first_of d fs i y parts.2)
  where
    go : (o : Option ℕ) → first_at fs i ≡ o → (first_at fs i ≡ Some y → byte_at d i ≡ Some y)
        → byte_at d i ≡ Some y
    go None e further = given_of d f i y parts.0 (rw e at equal)
    go (Some x) e further = further (e ∙ (rw e at equal))

-- No fragment goes past the end, and the last one reaches it.
part_low : (d : Bytes) (place : ℕ) (b : Bytes) → IsPart d place b → place + length b ≤ length d
part_low d place b p =
    let all = ap length p.is ∙ length-append p.before (b ++ p.behind) in
    let back = length-append b p.behind in
    let front = p.at in
    omega (arith, all, back, front)

max_low : (a b n : ℕ) → a ≤ n → b ≤ n → max a b ≤ n
max_low a b n p q = omega (arith, p, q)

max_left : (a b n : ℕ) → b ≤ n → a ≡ n → max a b ≡ n
max_left a b n q e = omega (arith, q, e)

max_right : (a b n : ℕ) → a ≤ n → b ≡ n → max a b ≡ n
max_right a b n p e = omega (arith, p, e)

reach_low : (time : ℕ) (d : Bytes) (fs : List IpFragment) (w : Waiting) → IsAfter time fs w
    → AreOf d fs → w.reach ≤ length d
reach_low time d [] w after parts = let none : w.reach ≡ 0 = ap (λ v. v.reach) after in
    omega (arith, none)
reach_low time d (f ∷ fs) w after parts =
    let low = reach_low time d fs after.0 after.1 parts.2 in
    let its = part_low d f.offset (bytes_of f) parts.0 in
    subst (λ r. r ≤ length d) (sym (more f after.0 w (taken f after.0 w after.2)).reach)
    (max_low after.0.reach (end_of f) (length d) low its)

still_ended : (b m : Bool) → (b || not m) ≡ true → m ≡ true → b ≡ true
still_ended true m h g = refl
still_ended false true h g = h
still_ended false false h g = absurd cc

reach_whole : (time : ℕ) (d : Bytes) (fs : List IpFragment) (w : Waiting) → IsAfter time fs w
    → AreOf d fs → w.is_ended ≡ true
    → w.reach ≡ length d
reach_whole time d [] w after parts ended = let none : w.is_ended ≡ false =
    ap (λ v. v.is_ended) after in absurd cc
reach_whole time d (f ∷ fs) w after parts ended =
    go f.has_more refl (reach_low time d fs after.0 after.1 parts.2)
    (reach_whole time d fs after.0 after.1 parts.2)
  where
    is : IsMore f after.0 w
    is = more f after.0 w (taken f after.0 w after.2)

    go : (t : Bool) → f.has_more ≡ t → after.0.reach ≤ length d
        → (after.0.is_ended ≡ true → after.0.reach ≡ length d)
        → w.reach ≡ length d
    go false e low further = is.reach
        ∙ max_right after.0.reach (end_of f) (length d) low (parts.1 e)
    go true e low further =
        let was = still_ended after.0.is_ended f.has_more (sym is.ended ∙ ended) e in
        let its = part_low d f.offset (bytes_of f) parts.0 in
        is.reach ∙ max_left after.0.reach (end_of f) (length d) its (further was)

same_bytes : (a b : Bytes) → length a ≡ length b
    → ((i : ℕ) → i < length a → byte_at a i ≡ byte_at b i) → a ≡ b
same_bytes [] [] len h = refl
same_bytes [] (y ∷ b) len h = absurd (omega (arith, len))
same_bytes (x ∷ a) [] len h = absurd (omega (arith, len))
same_bytes (x ∷ a) (y ∷ b) len h =
    let e : Some x ≡ Some y = h 0 (omega arith) in
    let s : x ≡ y = cc in
    ap (λ z. z ∷ a) s
    ∙ ap (λ l. y ∷ l)
    (same_bytes a b (omega (arith, len)) (λ i low. h (suc i) (omega (arith, low))))

pub out_whole : (fs : List IpFragment) (out : Bytes) → IsOut fs out → (d : Bytes)
    → AreOf d fs → out ≡ d
out_whole fs out o d parts =
    let w = o.1.0 in
    let after = o.1.1 in
    let ended = both w.is_ended ((filled w.runs == w.reach) && is_some w.protocol) o.1.2 in
    let ends = reach_whole o.0 d fs w after parts ended.0 in
    let len = ap length o.1.3 ∙ joined_length w.runs ∙ whole_filled w o.1.2 ∙ ends in
    same_bytes out d len (λ i low. agrees i low)
  where
    agrees : (i : ℕ) → i < length out → byte_at out i ≡ byte_at d i
    agrees i low =
        let there = byte_there out i low in
        let first = out_first fs out o i low in
        there.1 ∙ sym (first_of d fs i there.0 parts (sym first ∙ there.1))
