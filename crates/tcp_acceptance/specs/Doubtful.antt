-- A segment that its receiver may have dropped.
use Rattle.std.specs.Prelude.{ℕ, ◌+◌, ◌-◌, ◌^◌, ◌==◌, Bool, true, false, ◌&&◌, ◌||◌, not, nat_lt, nat_le, if◌then◌else◌, List, [], ◌∷◌, length, drop}
use Rattle.tcp_acceptance.specs.Numbers.{number_after}
use Rattle.tcp_acceptance.specs.declared.segment.Arrived.{Arrived}
use Rattle.tcp_acceptance.specs.declared.segment.Fields.{Fields}
use Rattle.tcp_acceptance.specs.declared.segment.Reasons.{Reasons}
use Rattle.tcp_acceptance.specs.declared.segment.Side.{Side}
use Rattle.tcp_acceptance.specs.declared.segment.Side.TheVariants.{Originator, Responder}

-- Where its bytes are in the stream of its sender, by the number of the first; whether a FIN is
-- behind them; why its receiver may have dropped it; what else it says; when it came.
pub record Doubtful : Type 0 where
  pub sender : Side
  pub first : ℕ
  pub bytes : List ℕ
  pub has_fin : Bool
  pub reasons : Reasons
  pub fields : Fields
  pub arrival : ℕ

abbrev pub doubtful_of : Arrived → Doubtful
doubtful_of a = record {
  sender = a.sender;
  first = a.first;
  bytes = a.payload.now;
  has_fin = a.has_fin;
  reasons = a.reasons;
  fields = a.fields;
  arrival = a.arrival;
}

-- Two sides are the same; the other one.
abbrev pub is_side : Side → Side → Bool
is_side Originator Originator = true
is_side Originator Responder = false
is_side Responder Originator = false
is_side Responder Responder = true

-- The number behind its last byte, and the one behind its FIN, which takes a number too.
abbrev pub behind_of : Doubtful → ℕ
behind_of k = number_after k.first (length k.bytes)

abbrev pub end_of : Doubtful → ℕ
end_of k = number_after k.first (length k.bytes + (if k.has_fin then 1 else 0))

-- How many reasons there are.
abbrev pub one_if : Bool → ℕ
one_if b = if b then 1 else 0

abbrev pub reason_count : Reasons → ℕ
reason_count r =
    one_if r.checksum
    + (one_if r.signature
    + (one_if r.clock + (one_if r.acknowledgment + (one_if r.window + one_if r.opening))))

-- Of two lists of bytes, one byte differs from that at the same place of the other.
abbrev pub differ : List ℕ → List ℕ → Bool
differ [] ys = false
differ (x ∷ xs) [] = false
differ (x ∷ xs) (y ∷ ys) = not (x == y) || differ xs ys

-- A segment of the same bytes at the same number, with no more reasons, came before.
abbrev pub is_flag : Bool → Bool → Bool
is_flag true b = b
is_flag false b = not b

abbrev pub is_copy_of : Doubtful → Doubtful → Bool
is_copy_of k other =
    is_side other.sender k.sender
    && ((other.first == k.first)
    && (is_flag other.has_fin k.has_fin
    && (nat_le (reason_count other.reasons) (reason_count k.reasons)
    && ((length other.bytes == length k.bytes) && not (differ other.bytes k.bytes)))))

-- Another segment of the same sender has bytes and ends where it begins.
abbrev pub is_before : Doubtful → Doubtful → Bool
is_before k other =
    is_side other.sender k.sender
    && (not (length other.bytes == 0) && (behind_of other == k.first))

-- Of bytes at a number, and bytes that are so far ahead of them, or behind.
abbrev pub differ_at : ℕ → List ℕ → List ℕ → Bool
differ_at ahead xs ys = if nat_lt ahead (2 ^ 31)
    then differ (drop ahead xs) ys else differ xs (drop (2 ^ 32 - ahead) ys)
