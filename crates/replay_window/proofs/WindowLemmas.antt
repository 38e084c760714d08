-- What a window says of a number, after another one came.
use Rattle.std.proofs.Common.{◌≡◌, ◌⊎◌, inl, inr, ℕ, zero, suc, ◌+◌, ◌-◌, ◌*◌, ◌%◌, ◌^◌, ◌/◌, ◌<◌, ◌≤◌, Bool, true, false, not, ◌&&◌, ◌||◌, ◌==◌, nat_lt, refl, ap, ◌∙◌, arith, bit_and, bit_or}
use Rattle.std.proofs.lemmas.Bool.{cases_lt, cases_order, eqb-true, eqb-false}
use Rattle.std.proofs.lemmas.Nat.Bits.{bit_at-pow_other, bit_at_set_same, bit_at_set_other, shr_and_one}
use Rattle.std.specs.Int.{bit_at, w64}
use Rattle.replay_window.specs.Replay.{RecordNumber, leaves_new, lets_in}

-- The answer for a number of the window's epoch, where the bit at its place is clear or not.
abbrev pub answer : ℕ → ℕ → Bool → Bool
answer highest y clear = nat_lt highest y || (nat_lt highest (y + 64) && clear)

-- A record that came leaves this number of its epoch new.
abbrev pub leaves : ℕ → ℕ → Bool
leaves n y = not (n == y) && nat_lt n (y + 64)

one_bit : (i : ℕ) → (bit_at 1 i == 0) ≡ not (i == 0)
one_bit zero = refl
one_bit (suc i) = ap (λ x. x == 0) (bit_at-pow_other 0 (suc i) (λ e. grind arith)) ∙ grind arith

first_number : (n y : ℕ) (b : Bool) → b ≡ not (n - y == 0) → answer n y b ≡ leaves n y
first_number n y b e = grind arith

higher_number : (h n y : ℕ) (b c : Bool) → h < n → (n ≡ y → c ≡ false)
    → (y < n → h < y → n - y < 64 → c ≡ true)
    → (y ≤ h → n - y < 64 → c ≡ b)
    → answer n y c ≡ (leaves n y && answer h y b)
higher_number h n y b c lt lowest between earlier = go (cases_order n y) (cases_lt h y) (cases_lt n (y + 64))
  where
    go : (n ≡ y) ⊎ ((n < y) ⊎ (y < n)) → (h < y) ⊎ (y ≤ h) → (n < y + 64) ⊎ (y + 64 ≤ n)
        → answer n y c ≡ (leaves n y && answer h y b)
    go (inl e) w x = let clear = lowest e in grind arith
    go (inr (inl e)) w x = grind arith
    go (inr (inr e)) (inl above) (inl near) = let clear = between e above (omega arith) in grind arith
    go (inr (inr e)) (inr below) (inl near) = let clear = earlier below (omega arith) in grind arith
    go (inr (inr e)) w (inr far) = grind arith

lower_number : (h n y : ℕ) (b c : Bool) → n ≤ h → h - n < 64 → (h - y == h - n ≡ true → c ≡ false)
    → (h - y == h - n ≡ false → c ≡ b)
    → answer h y c ≡ (leaves n y && answer h y b)
lower_number h n y b c le near same other = grind arith

old_number : (h n y : ℕ) (b : Bool) → n ≤ h → 64 ≤ h - n
    → answer h y b ≡ (leaves n y && answer h y b)
old_number h n y b le far = grind arith

-- The same in terms of records.
pub earlier_epoch : (d n e h s : ℕ) (q : RecordNumber) → d < e
    → lets_in e h s q
    ≡ (leaves_new (record { epoch = d; sequence_number = n }) q && lets_in e h s q)
earlier_epoch d n e h s q lt = grind arith

pub next_epoch : (d n e h s : ℕ) (q : RecordNumber) → e < d
    → lets_in d n 1 q
    ≡ (leaves_new (record { epoch = d; sequence_number = n }) q && lets_in e h s q)
next_epoch d n e h s q lt =
    let first = first_number n q.sequence_number (bit_at 1 (n - q.sequence_number) == 0)
    (one_bit (n - q.sequence_number)) in grind arith

same_epoch : (d n e h h' s s' : ℕ) (q : RecordNumber) → d ≡ e
    → answer h' q.sequence_number (bit_at s' (h' - q.sequence_number) == 0)
    ≡ (leaves n q.sequence_number
    && answer h q.sequence_number (bit_at s (h - q.sequence_number) == 0))
    → lets_in e h' s' q
    ≡ (leaves_new (record { epoch = d; sequence_number = n }) q && lets_in e h s q)
same_epoch d n e h h' s s' q at same = grind arith

pub higher : (d n e h s s' : ℕ) (q : RecordNumber) → d ≡ e → h < n → bit_at s' 0 ≡ 1
    → ((i : ℕ) → 0 < i → i < n - h → i < 64 → bit_at s' i ≡ 0)
    → ((i : ℕ) → 0 < i → n - h ≤ i → i < 64 → bit_at s' i ≡ bit_at s (i - (n - h)))
    → lets_in e n s' q
    ≡ (leaves_new (record { epoch = d; sequence_number = n }) q && lets_in e h s q)
higher d n e h s s' q at lt lowest between earlier =
    same_epoch d n e h n s s' q at
    (higher_number h n y (bit_at s (h - y) == 0) (bit_at s' (n - y) == 0) lt
    (λ same. let is_front : n - y ≡ 0 = omega arith in
    ap (λ b. b == 0) (ap (bit_at s') is_front ∙ lowest))
    (λ below above near. ap (λ b. b == 0) (between (n - y) (omega arith) (omega arith) near))
    (λ below near. let place : n - y - (n - h) ≡ h - y = omega arith in
    ap (λ b. b == 0) (earlier (n - y) (omega arith) (omega arith) near ∙ ap (bit_at s) place)))
  where
    y : ℕ
    y = q.sequence_number

pub lower : (d n e h s : ℕ) (q : RecordNumber) → d ≡ e → n ≤ h → h - n < 64
    → lets_in e h (bit_or s (1 * 2 ^ (h - n) % 2 ^ 64)) q
    ≡ (leaves_new (record { epoch = d; sequence_number = n }) q && lets_in e h s q)
lower d n e h s q at le near =
    same_epoch d n e h h s (bit_or s (1 * 2 ^ (h - n) % 2 ^ 64)) q at
    (lower_number h n y (bit_at s (h - y) == 0)
    (bit_at (bit_or s (1 * 2 ^ (h - n) % 2 ^ 64)) (h - y) == 0) le near
    (λ e. ap (λ i. bit_at (bit_or s (1 * 2 ^ (h - n) % 2 ^ 64)) i == 0) (eqb-true (h - y) (h - n) e)
    ∙ ap (λ b. b == 0) (bit_at_set_same w64 s (h - n) near))
    (λ e. ap (λ b. b == 0) (bit_at_set_other w64 s (h - n) near (h - y) (eqb-false (h - y) (h - n) e))))
  where
    y : ℕ
    y = q.sequence_number

pub old : (d n e h s : ℕ) (q : RecordNumber) → d ≡ e → n ≤ h → 64 ≤ h - n
    → lets_in e h s q
    ≡ (leaves_new (record { epoch = d; sequence_number = n }) q && lets_in e h s q)
old d n e h s q at le far =
    same_epoch d n e h h s s q at
    (old_number h n q.sequence_number (bit_at s (h - q.sequence_number) == 0) le far)

-- The answer behind one more record.
pub behind : (m n : RecordNumber) (x b c : Bool) → x ≡ (leaves_new m n && b) → b ≡ c
    → x ≡ (leaves_new m n && c)
behind m n x b c step is = step ∙ ap (λ b. leaves_new m n && b) is

-- The test of a bit.
pub asked : (s i : ℕ) → (bit_and (s / 2 ^ i) 1 == 0) ≡ (bit_at s i == 0)
asked s i = ap (λ b. b == 0) (shr_and_one s i)
