-- The bits of a shifted window.
use Rattle.std.proofs.Common.{◌≡◌, ℕ, ◌-◌, ◌*◌, ◌%◌, ◌^◌, ◌<◌, ◌≤◌, max, min, sym, ap, ◌∙◌, arith, bit_or}
use Rattle.std.proofs.lemmas.Nat.{and_mask, pow_pos}
use Rattle.std.proofs.lemmas.Nat.Bits.{bit_at-lt, bit_at-pow_other, bit_at-zero, bit_at_and, bit_at_cat_high, bit_at_cat_low, bit_at_ones, bit_at_or}
use Rattle.std.specs.Int.{bit_at}

-- The lower bits of a number are its own.
bit_of_low : (n w i : ℕ) → i < w → bit_at (n % 2 ^ w) i ≡ bit_at n i
bit_of_low n w i lt =
    ap (λ m. bit_at m i) (sym (and_mask n w)) ∙ bit_at_and n (2 ^ w - 1) i
    ∙ ap (λ b. min (bit_at n i) b) (bit_at_ones w i lt) ∙ omega (arith, bit_at-lt n i)

-- The bits in front of the shifted ones are clear.
in_front : (a by i : ℕ) → i < by → bit_at (a * 2 ^ by) i ≡ 0
in_front a by i lt =
    ap (λ m. bit_at m i) (omega arith) ∙ bit_at_cat_low a by 0 i lt ∙ bit_at-zero i

moved : (a by i : ℕ) → by ≤ i → bit_at (a * 2 ^ by) i ≡ bit_at a (i - by)
moved a by i le =
    ap (λ m. bit_at m i) (omega arith) ∙ bit_at_cat_high a by 0 i (omega (arith, pow_pos by)) le

pub lowest_set : (a : ℕ) → bit_at (bit_or a 1) 0 ≡ 1
lowest_set a = bit_at_or a 1 0 ∙ omega (arith, bit_at-lt a 0)

pub one_alone : (i : ℕ) → 0 < i → bit_at 1 i ≡ 0
one_alone i lt = bit_at-pow_other 0 i (λ e. grind arith)

other_bits : (n i : ℕ) → 0 < i → i < 64 → bit_at (bit_or (n % 2 ^ 64) 1) i ≡ bit_at n i
other_bits n i lt within =
    bit_at_or (n % 2 ^ 64) 1 i
    ∙ ap (λ b. max (bit_at (n % 2 ^ 64) i) b) (one_alone i lt)
    ∙ omega arith ∙ bit_of_low n 64 i within

pub clear_between : (a by i : ℕ) → 0 < i → i < by → i < 64
    → bit_at (bit_or (a * 2 ^ by % 2 ^ 64) 1) i ≡ 0
clear_between a by i lt below within = other_bits (a * 2 ^ by) i lt within ∙ in_front a by i below

pub earlier_moved : (a by i : ℕ) → 0 < i → by ≤ i → i < 64
    → bit_at (bit_or (a * 2 ^ by % 2 ^ 64) 1) i ≡ bit_at a (i - by)
earlier_moved a by i lt le within = other_bits (a * 2 ^ by) i lt within ∙ moved a by i le
