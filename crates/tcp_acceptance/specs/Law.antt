-- What follows from the definitions alone.
use Rattle.std.specs.Prelude.{◌≡◌, ◌≢◌, ◌↔◌, ◌⊎◌, ℕ, ◌+◌, ◌%◌, ◌^◌, ◌<◌, Bool, true, false, Some, None, List, [], ◌∷◌, ◌++◌, length, slice_get, filter}
use Rattle.tcp_acceptance.specs.Numbers.{ahead_of, is_behind}
use Rattle.tcp_acceptance.specs.Doubtful.{differ_at, doubtful_of, Doubtful}
use Rattle.tcp_acceptance.specs.Known.{side_in}
use Rattle.tcp_acceptance.specs.Room.{waiting_after}
use Rattle.tcp_acceptance.specs.Taking.{acknowledged, is_acknowledged, unacknowledged}
use Rattle.tcp_acceptance.specs.declared.known.Known.{Known}
use Rattle.tcp_acceptance.specs.declared.segment.Arrived.{Arrived}
use Rattle.tcp_acceptance.specs.declared.segment.Side.{Side}

-- Bytes at two numbers have different bytes at one number.
pub record HaveDifferent (first : ℕ) (xs : List ℕ) (other : ℕ) (ys : List ℕ) : Type 0 where
  pub place : ℕ
  pub other_place : ℕ
  pub byte : ℕ
  pub other_byte : ℕ
  pub has : slice_get xs place ≡ Some byte
  pub other_has : slice_get ys other_place ≡ Some other_byte
  pub same_number : (first + place) % 2 ^ 32 ≡ (other + other_place) % 2 ^ 32
  pub are_different : byte ≢ other_byte

abbrev pub RefutesWhereDifferent : ℕ → List ℕ → ℕ → List ℕ → Type 0
RefutesWhereDifferent first xs other ys =
    first < 2 ^ 32 → other < 2 ^ 32 → length xs < 2 ^ 31 → length ys < 2 ^ 31
    → (differ_at (ahead_of other first) xs ys ≡ true ↔ HaveDifferent first xs other ys)

-- Some of these, in their order.
abbrev pub AreOf : List Doubtful → List Doubtful → Type 0
AreOf [] ys = Unit {0}
AreOf (x ∷ xs) [] = ⊥
AreOf (x ∷ xs) (y ∷ ys) = ((x ≡ y) × AreOf xs ys) ⊎ AreOf (x ∷ xs) ys

-- A segment that enters may put others out. The rest wait as they did.
abbrev pub WaitAsBefore : Known → Arrived → List Doubtful → Type 0
WaitAsBefore known a ks = AreOf (waiting_after known a ks) (ks ++ doubtful_of a ∷ [])

-- An acknowledgement of what came for certain takes nothing.
abbrev pub TakesNothing : Side → ℕ → Known → List Doubtful → Type 0
TakesNothing sender ack known ks =
    (reached : ℕ) → (side_in known sender).reached ≡ Some reached → is_behind ack reached ≡ false
    → (acknowledged sender ack known ks ≡ None) × (unacknowledged sender ack known ks ≡ ks)

-- What an acknowledgement takes is the same whatever else waits.
abbrev pub TakesTheSame : Side → ℕ → Known → (Doubtful → Bool) → List Doubtful → Type 0
TakesTheSame sender ack known test ks =
    ((k : Doubtful) → test k ≡ false → is_acknowledged sender ack known k ≡ false)
    → acknowledged sender ack known (filter test ks) ≡ acknowledged sender ack known ks
