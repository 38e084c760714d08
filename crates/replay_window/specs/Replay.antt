-- Which records a receiver of DTLS drops by their numbers (RFC 6347, section 4.1.2.6; RFC 9147,
-- section 4.5.1).
use Rattle.std.specs.Prelude.{◌≡◌, ℕ, ◌+◌, ◌-◌, Bool, true, not, ◌&&◌, ◌||◌, ◌==◌, nat_lt, List, [], ◌∷◌}
use Rattle.std.specs.Int.{bit_at}
use Rattle.replay_window.specs.declared.window.ReplayWindow.{ReplayWindow}

-- A record's epoch, and its sequence number within that.
pub record RecordNumber : Type 0 where
  pub epoch : ℕ
  pub sequence_number : ℕ

-- A record that came, m, leaves n new: m is of an earlier epoch, or of the same one with another
-- number, less than 64 above.
abbrev pub leaves_new : RecordNumber → RecordNumber → Bool
leaves_new m n =
    nat_lt m.epoch n.epoch
    || (m.epoch == n.epoch && not (m.sequence_number == n.sequence_number)
    && nat_lt m.sequence_number (n.sequence_number + 64))

-- A record is new if each that came leaves it new.
abbrev pub is_new : List RecordNumber → RecordNumber → Bool
is_new [] n = true
is_new (m ∷ ms) n = leaves_new m n && is_new ms n

-- What a window says of a number: bit i is set if the number i below the highest one came.
abbrev pub lets_in : ℕ → ℕ → ℕ → RecordNumber → Bool
lets_in epoch highest bits n =
    nat_lt epoch n.epoch
    || (epoch == n.epoch
    && (nat_lt highest n.sequence_number
    || (nat_lt highest (n.sequence_number + 64)
    && bit_at bits (highest - n.sequence_number) == 0)))

-- A window's answer for each number is that of these records.
unfoldable pub Remembers : List RecordNumber → ReplayWindow → Type 0
Remembers came w = (n : RecordNumber) → lets_in w.epoch w.highest w.bits n ≡ is_new came n
