-- Bytes at sequence numbers differ where a byte differs at the same number.
use Rattle.std.proofs.Common.{◌≡◌, ◌≢◌, ◌⊎◌, inl, inr, ℕ, zero, suc, ◌+◌, ◌-◌, ◌*◌, ◌/◌, ◌%◌, ◌^◌, ◌<◌, ◌≤◌, Bool, true, false, cond, ◌||◌, not, nat_lt, eqb, Some, List, [], ◌∷◌, length, drop, slice_get, refl, sym, ap, ◌↔◌, ◌∙◌, arith}
use Rattle.std.proofs.lemmas.Nat.{div-add-mod', mod_below, mod_low}
use Rattle.std.proofs.lemmas.Bool.{eqb-true, eqb-false, ltb-true, ltb-false}
use Rattle.tcp_acceptance.specs.Numbers.{ahead_of}
use Rattle.tcp_acceptance.specs.Doubtful.{differ}
use Rattle.tcp_acceptance.specs.Law.{HaveDifferent, RefutesWhereDifferent}

-- A byte differs from that at the same place.
record DifferAt (xs ys : List ℕ) : Type 0 where
  place : ℕ
  byte : ℕ
  other : ℕ
  has : slice_get xs place ≡ Some byte
  other_has : slice_get ys place ≡ Some other
  are_different : byte ≢ other

differ_where : (xs ys : List ℕ) → differ xs ys ≡ true → DifferAt xs ys
differ_where [] ys h = absurd cc
differ_where (x ∷ xs) [] h = absurd cc
differ_where (x ∷ xs) (y ∷ ys) h = go (eqb x y) refl h (differ_where xs ys)
  where
    go : (b : Bool) → eqb x y ≡ b → (not b || differ xs ys) ≡ true
        → (differ xs ys ≡ true → DifferAt xs ys)
        → DifferAt (x ∷ xs) (y ∷ ys)
    go false e h later = record {
      place = 0;
      byte = x;
      other = y;
      has = refl;
      other_has = refl;
      are_different = eqb-false x y e;
    }
    go true e h later =
        let r = later h in record {
          place = suc r.place;
          byte = r.byte;
          other = r.other;
          has = r.has;
          other_has = r.other_has;
          are_different = r.are_different;
        }

where_differ : (xs ys : List ℕ) (n x y : ℕ) → slice_get xs n ≡ Some x → slice_get ys n ≡ Some y
    → x ≢ y
    → differ xs ys ≡ true
where_differ [] ys n x y h k apart = absurd cc
where_differ (a ∷ xs) [] n x y h k apart = absurd cc
where_differ (a ∷ xs) (b ∷ ys) zero x y h k apart = go (eqb a b) refl
  where
    go : (t : Bool) → eqb a b ≡ t → (not t || differ xs ys) ≡ true
    go true e = let same : x ≡ y = let s = eqb-true a b e in cc in absurd (apart same)
    go false e = refl
where_differ (a ∷ xs) (b ∷ ys) (suc n) x y h k apart =
    go (eqb a b) (where_differ xs ys n x y h k apart)
  where
    go : (t : Bool) → differ xs ys ≡ true → (not t || differ xs ys) ≡ true
    go true r = r
    go false r = refl

get_dropped : (n i : ℕ) (xs : List ℕ) → slice_get (drop n xs) i ≡ slice_get xs (n + i)
get_dropped zero i xs =
    let e : i ≡ 0 + i = omega arith in ap (λ (m : ℕ). slice_get xs m) e
get_dropped (suc n) i [] = refl
get_dropped (suc n) i (x ∷ xs) =
    let e : suc (n + i) ≡ suc n + i = omega arith in
    get_dropped n i xs ∙ ap (λ (m : ℕ). slice_get (x ∷ xs) m) e

get_low : (xs : List ℕ) (i x : ℕ) → slice_get xs i ≡ Some x → i < length xs
get_low [] i x h = absurd cc
get_low (y ∷ xs) zero x h = omega arith
get_low (y ∷ xs) (suc i) x h = let r = get_low xs i x h in omega (arith, r)

-- How far a number is ahead, without wrapping.
ahead_cases : (n m : ℕ) → n < 2 ^ 32 → m < 2 ^ 32
    → ((ahead_of n m + m ≡ n) ⊎ (ahead_of n m + m ≡ n + 2 ^ 32)) × (ahead_of n m < 2 ^ 32)
ahead_cases n m h k = go (div-add-mod' (n + (2 ^ 32 - m)) (2 ^ 32)) (mod_below (n + (2 ^ 32 - m)) (2 ^ 32) (omega arith)) (nat_lt n m) refl
  where
    go : (n + (2 ^ 32 - m)) / 2 ^ 32 * 2 ^ 32 + ahead_of n m ≡ n + (2 ^ 32 - m)
        → ahead_of n m < 2 ^ 32
        → (t : Bool) → nat_lt n m ≡ t
        → ((ahead_of n m + m ≡ n) ⊎ (ahead_of n m + m ≡ n + 2 ^ 32)) × (ahead_of n m < 2 ^ 32)
    go d low true e = let l = ltb-true n m e in (inr (omega (arith, d, low, h, k, l)), low)
    go d low false e = let l = ltb-false n m e in (inl (omega (arith, d, low, h, k, l)), low)

unique : (x y r s : ℕ) → r < 2 ^ 32 → s < 2 ^ 32 → x * 2 ^ 32 + r ≡ y * 2 ^ 32 + s → r ≡ s
unique x y r s p q e = sym (mod_low x 32 r p) ∙ ap (λ n. n % 2 ^ 32) e ∙ mod_low y 32 s q

same_mod : (n m : ℕ) → (n ≡ m) ⊎ (n ≡ m + 2 ^ 32) → n % 2 ^ 32 ≡ m % 2 ^ 32
same_mod n m at =
    go at (div-add-mod' n (2 ^ 32)) (div-add-mod' m (2 ^ 32))
    (mod_below n (2 ^ 32) (omega arith)) (mod_below m (2 ^ 32) (omega arith))
  where
    go : (n ≡ m) ⊎ (n ≡ m + 2 ^ 32) → n / 2 ^ 32 * 2 ^ 32 + n % 2 ^ 32 ≡ n
        → m / 2 ^ 32 * 2 ^ 32 + m % 2 ^ 32 ≡ m
        → n % 2 ^ 32 < 2 ^ 32 → m % 2 ^ 32 < 2 ^ 32
        → n % 2 ^ 32 ≡ m % 2 ^ 32
    go (inl e) one two low high =
        unique (n / 2 ^ 32) (m / 2 ^ 32) (n % 2 ^ 32) (m % 2 ^ 32) low high
        (omega (arith, one, two, e))
    go (inr e) one two low high =
        unique (n / 2 ^ 32) (m / 2 ^ 32 + 1) (n % 2 ^ 32) (m % 2 ^ 32) low high
        (omega (arith, one, two, e))

-- Places of one number, in bytes that are so far apart.
same_place : (first other p q a : ℕ) → p < 2 ^ 31 → q < 2 ^ 31 → a ≤ 2 ^ 31
    → (a + first ≡ other) ⊎ (a + first ≡ other + 2 ^ 32)
    → (first + p) % 2 ^ 32 ≡ (other + q) % 2 ^ 32
    → p ≡ a + q
same_place first other p q a low high near at same =
    go at (div-add-mod' (first + p) (2 ^ 32)) (div-add-mod' (other + q) (2 ^ 32))
  where
    go : (a + first ≡ other) ⊎ (a + first ≡ other + 2 ^ 32)
        → (first + p) / 2 ^ 32 * 2 ^ 32 + (first + p) % 2 ^ 32 ≡ first + p
        → (other + q) / 2 ^ 32 * 2 ^ 32 + (other + q) % 2 ^ 32 ≡ other + q
        → p ≡ a + q
    go (inl e) one two = omega (arith, e, one, two, same, low, high, near)
    go (inr e) one two = omega (arith, e, one, two, same, low, high, near)

-- The other way round: so far behind.
behind_cases : (first other a : ℕ) → a < 2 ^ 32 → 2 ^ 31 ≤ a
    → (a + first ≡ other) ⊎ (a + first ≡ other + 2 ^ 32)
    → (2 ^ 32 - a + other ≡ first) ⊎ (2 ^ 32 - a + other ≡ first + 2 ^ 32)
behind_cases first other a low far (inl e) = inr (omega (arith, low, far, e))
behind_cases first other a low far (inr e) = inl (omega (arith, low, far, e))

moved : (first other a q : ℕ) → (a + first ≡ other) ⊎ (a + first ≡ other + 2 ^ 32)
    → (first + (a + q) ≡ other + q) ⊎ (first + (a + q) ≡ other + q + 2 ^ 32)
moved first other a q (inl e) = inl (omega (arith, e))
moved first other a q (inr e) = inr (omega (arith, e))

differ_ahead : (first : ℕ) (xs : List ℕ) (other : ℕ) (ys : List ℕ) (a : ℕ)
    → (a + first ≡ other) ⊎ (a + first ≡ other + 2 ^ 32)
    → differ (drop a xs) ys ≡ true
    → HaveDifferent first xs other ys
differ_ahead first xs other ys a at h =
    let r = differ_where (drop a xs) ys h in record {
      place = a + r.place;
      other_place = r.place;
      byte = r.byte;
      other_byte = r.other;
      has = sym (get_dropped a r.place xs) ∙ r.has;
      other_has = r.other_has;
      same_number = same_mod (first + (a + r.place)) (other + r.place) (moved first other a r.place at);
      are_different = r.are_different;
    }

ahead_differ : (first : ℕ) (xs : List ℕ) (other : ℕ) (ys : List ℕ) (a : ℕ) → a ≤ 2 ^ 31
    → length xs < 2 ^ 31 → length ys < 2 ^ 31
    → (a + first ≡ other) ⊎ (a + first ≡ other + 2 ^ 32)
    → HaveDifferent first xs other ys
    → differ (drop a xs) ys ≡ true
ahead_differ first xs other ys a near few less at c =
    let low = get_low xs c.place c.byte c.has in
    let high = get_low ys c.other_place c.other_byte c.other_has in
    let e : c.place ≡ a + c.other_place =
    same_place first other c.place c.other_place a (omega (arith, low, few))
    (omega (arith, high, less)) near at c.same_number in
    where_differ (drop a xs) ys c.other_place c.byte c.other_byte
    (get_dropped a c.other_place xs ∙ ap (λ n. slice_get xs n) (sym e) ∙ c.has) c.other_has
    c.are_different

turned : (first : ℕ) (xs : List ℕ) (other : ℕ) (ys : List ℕ) → HaveDifferent first xs other ys
    → HaveDifferent other ys first xs
turned first xs other ys c = record {
  place = c.other_place;
  other_place = c.place;
  byte = c.other_byte;
  other_byte = c.byte;
  has = c.other_has;
  other_has = c.has;
  same_number = sym c.same_number;
  are_different = λ e. c.are_different (sym e);
}

differ_turned : (xs ys : List ℕ) → differ xs ys ≡ differ ys xs
differ_turned [] [] = refl
differ_turned [] (y ∷ ys) = refl
differ_turned (x ∷ xs) [] = refl
differ_turned (x ∷ xs) (y ∷ ys) = go (eqb x y) refl (eqb y x) refl (differ_turned xs ys)
  where
    go : (b : Bool) → eqb x y ≡ b → (c : Bool) → eqb y x ≡ c → differ xs ys ≡ differ ys xs
        → (not b || differ xs ys) ≡ (not c || differ ys xs)
    go true e true f r = r
    go true e false f r = absurd (eqb-false y x f (sym (eqb-true x y e)))
    go false e true f r = absurd (eqb-false x y e (sym (eqb-true y x f)))
    go false e false f r = refl

pub refutes_where_different : (first : ℕ) (xs : List ℕ) (other : ℕ) (ys : List ℕ)
    → RefutesWhereDifferent first xs other ys
refutes_where_different first xs other ys low high few less =
    go (ahead_cases other first high low).0 (ahead_cases other first high low).1
    (nat_lt (ahead_of other first) (2 ^ 31)) refl
  where
    go : (ahead_of other first + first ≡ other) ⊎ (ahead_of other first + first ≡ other + 2 ^ 32)
        → ahead_of other first < 2 ^ 32
        → (t : Bool) → nat_lt (ahead_of other first) (2 ^ 31) ≡ t
        → (cond t (differ (drop (ahead_of other first) xs) ys)
        (differ xs (drop (2 ^ 32 - ahead_of other first) ys))
        ≡ true)
        ↔ HaveDifferent first xs other ys
    go at small true e =
        let near : ahead_of other first ≤ 2 ^ 31 =
        (let l = ltb-true (ahead_of other first) (2 ^ 31) e in omega (arith, l)) in (
          (λ h. differ_ahead first xs other ys (ahead_of other first) at h),
          (λ c. ahead_differ first xs other ys (ahead_of other first) near few less at c),
        )
    go at small false e =
        let far = ltb-false (ahead_of other first) (2 ^ 31) e in
        let back = behind_cases first other (ahead_of other first) small far at in
        let b = 2 ^ 32 - ahead_of other first in (
          (λ h. turned other ys first xs
              (differ_ahead other ys first xs b back (differ_turned (drop b ys) xs ∙ h))),
          (λ c. differ_turned xs (drop b ys)
              ∙ ahead_differ other ys first xs b (omega (arith, small, far)) less few back
              (turned first xs other ys c)),
        )
