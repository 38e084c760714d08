-- Which segment is the first by rank, and what others have to do with it.
use Rattle.std.proofs.Common.{◌≡◌, inl, inr, ℕ, zero, suc, ◌+◌, ◌≤◌, Bool, true, false, cond, ◌&&◌, nat_lt, Option, Some, None, List, [], ◌∷◌, ◌++◌, length, filter, remove, slice_get, option_map, refl, sym, ap, ◌∙◌, subst, arith, append_assoc}
use Rattle.std.proofs.lemmas.Bool.{le-ltb, ltb-true}
use Rattle.std.proofs.lemmas.List.{length_push}
use Rattle.tcp_acceptance.specs.Numbers.{is_behind}
use Rattle.tcp_acceptance.specs.Doubtful.{doubtful_of, is_side, Doubtful}
use Rattle.tcp_acceptance.specs.Known.{side_in}
use Rattle.tcp_acceptance.specs.Room.{enters, entered, fits, place_out, reduced, without_one}
use Rattle.tcp_acceptance.specs.Taking.{at_place, has_missing, is_acknowledged, is_over, least_from, left_at, part_of, place_acknowledged, rank, rank_if}
use Rattle.tcp_acceptance.specs.Law.{AreOf, TakesNothing, TakesTheSame, WaitAsBefore}
use Rattle.tcp_acceptance.specs.declared.known.Known.{Known}
use Rattle.tcp_acceptance.specs.declared.segment.Arrived.{Arrived}
use Rattle.tcp_acceptance.specs.declared.segment.Side.{Side}

-- None has a lower number.
least_none : (number : Doubtful → ℕ) (best : ℕ) (o : Option ℕ) (at : ℕ) (ks : List Doubtful)
    → ((k : Doubtful) → best ≤ number k)
    → least_from number best o at ks ≡ o
least_none number best o at [] h = refl
least_none number best o at (k ∷ ks) h =
    go (nat_lt (number k) best) (le-ltb (number k) best (h k))
    (least_none number best o (at + 1) ks h)
  where
    go : (b : Bool) → b ≡ false → least_from number best o (at + 1) ks ≡ o
        → cond b (least_from number (number k) (Some at) (at + 1) ks)
        (least_from number best o (at + 1) ks)
        ≡ o
    go true e r = absurd cc
    go false e r = r

middle_false : (b c d : Bool) → c ≡ false → (b && (c && d)) ≡ false
middle_false true true d e = absurd cc
middle_false false true d e = absurd cc
middle_false true false d e = refl
middle_false false false d e = refl

not_acknowledged : (sender : Side) (ack : ℕ) (known : Known) (reached : ℕ)
    → (side_in known sender).reached ≡ Some reached
    → is_behind ack reached ≡ false → (k : Doubtful) → is_acknowledged sender ack known k ≡ false
not_acknowledged sender ack known reached h e k =
    let over : is_over (side_in known sender).reached ack ≡ false =
    ap (λ (o : Option ℕ). is_over o ack) h ∙ e in
    middle_false (is_side k.sender sender) (is_over (side_in known sender).reached ack)
    (has_missing ack known k) over

high : (b : Bool) (n : ℕ) → b ≡ false → 32 ≤ cond b n 32
high true n h = absurd cc
high false n h = omega arith

pub takes_nothing : (sender : Side) (ack : ℕ) (known : Known) (ks : List Doubtful)
    → TakesNothing sender ack known ks
takes_nothing sender ack known ks reached h e =
    let none : place_acknowledged sender ack known ks ≡ None =
    least_none (rank_if (is_acknowledged sender ack known) known) 32 None 0 ks
    (λ k. high (is_acknowledged sender ack known k) (rank known k)
    (not_acknowledged sender ack known reached h e k)) in (
      ap (λ o. option_map (part_of ack known) (at_place o ks)) none,
      ap (λ o. left_at ack o ks) none,
    )

-- The one of the lowest number.
abbrev best_of : (Doubtful → ℕ) → ℕ → Option Doubtful → List Doubtful → Option Doubtful
best_of number best o [] = o
best_of number best o (k ∷ ks) =
    cond (nat_lt (number k) best) (best_of number (number k) (Some k) ks) (best_of number best o ks)

get_behind : (pre : List Doubtful) (k : Doubtful) (ks : List Doubtful)
    → slice_get (pre ++ k ∷ ks) (length pre) ≡ Some k
get_behind [] k ks = refl
get_behind (p ∷ pre) k ks = get_behind pre k ks

best_step : (number : Doubtful → ℕ) (best : ℕ) (o : Option ℕ) (pre : List Doubtful) (k : Doubtful)
    (ks : List Doubtful)
    → ((b : ℕ) (q : Option ℕ)
    → at_place (least_from number b q (length pre + 1) ks) (pre ++ k ∷ ks)
    ≡ best_of number b (at_place q (pre ++ k ∷ ks)) ks)
    → at_place (least_from number best o (length pre) (k ∷ ks)) (pre ++ k ∷ ks)
    ≡ best_of number best (at_place o (pre ++ k ∷ ks)) (k ∷ ks)
best_step number best o pre k ks later = go (nat_lt (number k) best)
  where
    go : (b : Bool)
        → at_place
        (cond b (least_from number (number k) (Some (length pre)) (length pre + 1) ks)
        (least_from number best o (length pre + 1) ks))
        (pre ++ k ∷ ks)
        ≡ cond b (best_of number (number k) (Some k) ks)
        (best_of number best (at_place o (pre ++ k ∷ ks)) ks)
    go true =
        later (number k) (Some (length pre))
        ∙ ap (λ q. best_of number (number k) q ks) (get_behind pre k ks)
    go false = later best o

pushed : (number : Doubtful → ℕ) (b : ℕ) (q : Option ℕ) (pre : List Doubtful) (k : Doubtful)
    (ks : List Doubtful)
    → at_place (least_from number b q (length (pre ++ k ∷ [])) ks) ((pre ++ k ∷ []) ++ ks)
    ≡ best_of number b (at_place q ((pre ++ k ∷ []) ++ ks)) ks
    → at_place (least_from number b q (length pre + 1) ks) (pre ++ k ∷ ks)
    ≡ best_of number b (at_place q (pre ++ k ∷ ks)) ks
pushed number b q pre k ks h =
    subst
    (λ (n : ℕ). at_place (least_from number b q n ks) (pre ++ k ∷ ks)
    ≡ best_of number b (at_place q (pre ++ k ∷ ks)) ks)
    (length_push pre k)
    (subst
    (λ (l : List Doubtful). at_place (least_from number b q (length (pre ++ k ∷ [])) ks) l
    ≡ best_of number b (at_place q l) ks)
    (append_assoc pre (k ∷ []) ks) h)

is_best : (number : Doubtful → ℕ) (best : ℕ) (o : Option ℕ) (pre ks : List Doubtful)
    → at_place (least_from number best o (length pre) ks) (pre ++ ks)
    ≡ best_of number best (at_place o (pre ++ ks)) ks
is_best number best o pre [] = refl
is_best number best o pre (k ∷ ks) =
    best_step number best o pre k ks
    (λ b q. pushed number b q pre k ks (is_best number b q (pre ++ k ∷ []) ks))

filtered_kept : (number : Doubtful → ℕ) (test : Doubtful → Bool) (best : ℕ) (o : Option Doubtful)
    (k : Doubtful) (ks : List Doubtful)
    → best ≤ 32
    → ((c : ℕ) (q : Option Doubtful) → c ≤ 32
    → best_of number c q (filter test ks) ≡ best_of number c q ks)
    → best_of number best o (k ∷ filter test ks) ≡ best_of number best o (k ∷ ks)
filtered_kept number test best o k ks low later = go (nat_lt (number k) best) refl
  where
    go : (b : Bool) → nat_lt (number k) best ≡ b
        → cond b (best_of number (number k) (Some k) (filter test ks))
        (best_of number best o (filter test ks))
        ≡ cond b (best_of number (number k) (Some k) ks) (best_of number best o ks)
    go true l =
        let lower = ltb-true (number k) best l in
        later (number k) (Some k) (omega (arith, lower, low))
    go false l = later best o low

filtered_gone : (number : Doubtful → ℕ) (test : Doubtful → Bool) (best : ℕ) (o : Option Doubtful)
    (k : Doubtful) (ks : List Doubtful)
    → best ≤ 32 → 32 ≤ number k
    → best_of number best o (filter test ks) ≡ best_of number best o ks
    → best_of number best o (filter test ks) ≡ best_of number best o (k ∷ ks)
filtered_gone number test best o k ks low high later = go (nat_lt (number k) best) refl
  where
    go : (b : Bool) → nat_lt (number k) best ≡ b
        → best_of number best o (filter test ks)
        ≡ cond b (best_of number (number k) (Some k) ks) (best_of number best o ks)
    go true l =
        let lower = ltb-true (number k) best l in absurd (omega (arith, lower, high, low))
    go false l = later

best_filtered : (number : Doubtful → ℕ) (test : Doubtful → Bool) (best : ℕ) (o : Option Doubtful)
    (ks : List Doubtful)
    → best ≤ 32
    → ((k : Doubtful) → test k ≡ false → 32 ≤ number k)
    → best_of number best o (filter test ks) ≡ best_of number best o ks
best_filtered number test best o [] low high = refl
best_filtered number test best o (k ∷ ks) low high =
    go (test k) refl (λ c q l. best_filtered number test c q ks l high)
  where
    go : (t : Bool) → test k ≡ t
        → ((c : ℕ) (q : Option Doubtful) → c ≤ 32
        → best_of number c q (filter test ks) ≡ best_of number c q ks)
        → best_of number best o (cond t (k ∷ filter test ks) (filter test ks))
        ≡ best_of number best o (k ∷ ks)
    go true e later = filtered_kept number test best o k ks low later
    go false e later =
        filtered_gone number test best o k ks low (high k e) (later best o low)

pub takes_the_same : (sender : Side) (ack : ℕ) (known : Known) (test : Doubtful → Bool)
    (ks : List Doubtful)
    → TakesTheSame sender ack known test ks
takes_the_same sender ack known test ks others =
    let number = rank_if (is_acknowledged sender ack known) known in
    ap (λ o. option_map (part_of ack known) o)
    (is_best number 32 None [] (filter test ks)
    ∙ best_filtered number test 32 None ks (omega arith)
    (λ k e. high (is_acknowledged sender ack known k) (rank known k) (others k e))
    ∙ sym (is_best number 32 None [] ks))

-- Some of a list, in their order.
none_of_them : (ys : List Doubtful) → AreOf [] ys
none_of_them ys = tt

all_of_them : (ys : List Doubtful) → AreOf ys ys
all_of_them [] = tt
all_of_them (y ∷ ys) = inl (refl, all_of_them ys)

one_less : (ys : List Doubtful) (n : ℕ) → AreOf (remove ys n) ys
one_less [] zero = tt
one_less [] (suc n) = tt
one_less (y ∷ ys) zero = more ys
  where
    more : (zs : List Doubtful) → AreOf zs (y ∷ zs)
    more [] = tt
    more (z ∷ zs) = inr (all_of_them (z ∷ zs))
one_less (y ∷ ys) (suc n) = inl (refl, one_less ys n)

of_those : (xs ys zs : List Doubtful) → AreOf xs ys → AreOf ys zs → AreOf xs zs
of_those [] ys zs h k = tt
of_those (x ∷ xs) [] zs h k = absurd h
of_those (x ∷ xs) (y ∷ ys) [] h k = absurd k
of_those (x ∷ xs) (y ∷ ys) (z ∷ zs) (inl h) (inl k) =
    inl (h.0 ∙ k.0, of_those xs ys zs h.1 k.1)
of_those (x ∷ xs) (y ∷ ys) (z ∷ zs) (inl h) (inr k) =
    inr (of_those (x ∷ xs) (y ∷ ys) zs (inl h) k)
of_those (x ∷ xs) (y ∷ ys) (z ∷ zs) (inr h) (inl k) = inr (of_those (x ∷ xs) ys zs h k.1)
of_those (x ∷ xs) (y ∷ ys) (z ∷ zs) (inr h) (inr k) =
    inr (of_those (x ∷ xs) (y ∷ ys) zs (inr h) k)

reduced_of : (n : ℕ) (known : Known) (ks : List Doubtful) → AreOf (reduced n known ks) ks
reduced_of zero known ks = all_of_them ks
reduced_of (suc n) known ks = go (fits ks) (reduced_of n known (without_one known ks))
  where
    go : (b : Bool) → AreOf (reduced n known (without_one known ks)) (without_one known ks)
        → AreOf (cond b ks (reduced n known (without_one known ks))) ks
    go true h = all_of_them ks
    go false h =
        of_those (reduced n known (without_one known ks)) (without_one known ks) ks h
        (one_less ks (place_out known ks))

kept_first : (ks ls : List Doubtful) → AreOf ks (ks ++ ls)
kept_first [] ls = tt
kept_first (k ∷ ks) ls = inl (refl, kept_first ks ls)

pub waits_as_before : (known : Known) (a : Arrived) (ks : List Doubtful) → WaitAsBefore known a ks
waits_as_before known a ks = go (enters a ks)
  where
    go : (b : Bool) → AreOf (cond b (entered known a ks) ks) (ks ++ doubtful_of a ∷ [])
    go true = reduced_of (length ks + 1) known (ks ++ doubtful_of a ∷ [])
    go false = kept_first ks (doubtful_of a ∷ [])
