-- The status numbers of calls, and their meaning.
use Rattle.std.specs.Prelude.{◌≡◌, ℕ, ◌≤◌, ◌<◌, length, drop, Ok, Err}
use Rattle.layouts.specs.Bytes.{Bytes}
use Rattle.layouts.specs.Layout.{Layout}
use Rattle.layouts.specs.Meaning.{Refusal, Broken, Lacks, Answer}
use Rattle.layouts.specs.Reading.{reading}
use Rattle.layouts.specs.declared.result.ErrorKind.{ErrorKind}
use Rattle.layouts.specs.declared.result.ErrorKind.TheVariants.{
  TooLarge,
  LengthValue,
  Verify,
  Switch,
  Tag,
  Complete,
}

abbrev pub kind_status : ErrorKind → ℕ
kind_status TooLarge = 2
kind_status LengthValue = 3
kind_status Verify = 4
kind_status Switch = 5
kind_status Tag = 6
kind_status Complete = 7

-- There is none.
abbrev pub none : ℕ
none = 8

-- The offset is past the end of the bytes.
abbrev pub outside : ℕ
outside = 9

-- The buffer is too short for the result.
abbrev pub no_room : ℕ
no_room = 10

abbrev pub status_of : Refusal → ℕ
status_of (Lacks n) = 1
status_of (Broken kind) = kind_status kind

abbrev pub missing_of : Refusal → ℕ
missing_of (Lacks n) = n
missing_of (Broken kind) = 0

-- The status and the count of missing bytes are those of this refusal.
abbrev pub IsRefused : Refusal → ℕ → ℕ → Type 0
IsRefused e status missing = (status ≡ status_of e) × (missing ≡ missing_of e)

-- Status and missing bytes are those of this answer; its value and rest are in `out`.
abbrev pub IsAnswered : {A : Type 0} → (A → Bytes → Type 0) → Answer A → ℕ → ℕ → Type 0
IsAnswered Shows (Ok x) status missing = (status ≡ 0) × (missing ≡ 0) × Shows x.0 x.1
IsAnswered Shows (Err e) status missing = IsRefused e status missing

-- Status and missing bytes are those of the answer in b from this offset on; an offset past the end
-- is refused.
pub record IsAnsweredAt {A : Type 0} (l : Layout A) (Shows : A → Bytes → Type 0) (b : Bytes)
    (offset status missing : ℕ) : Type 0 where
  pub inside : offset ≤ length b → IsAnswered Shows (reading l (drop offset b)) status missing
  pub behind : length b < offset → (status ≡ outside) × (missing ≡ 0)
