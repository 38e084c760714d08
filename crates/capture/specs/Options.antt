-- TCP options (RFC 9293, section 3.1; RFC 7323).
use Rattle.std.specs.Prelude.{ℕ, zero, suc, ◌+◌, ◌-◌, ◌*◌, ◌^◌, ◌==◌, ◌||◌, nat_lt, if◌then◌else◌, Option, Some, None, min, [], ◌∷◌, length, take, drop}
use Rattle.layouts.specs.Bytes.{Bytes}

-- The content of the first option of a kind, among at most this many. Kind 0 ends the options and
-- kind 1 is a byte of padding. Any other kind has a length behind it, which counts both bytes. A
-- truncated option ends the search.
unfoldable pub option_in : ℕ → ℕ → Bytes → Option Bytes
option_in zero kind b = None
option_in (suc n) kind [] = None
option_in (suc n) kind (k ∷ []) = None
option_in (suc n) kind (k ∷ len ∷ b) =
    if k == 0 then None
    else if k == 1 then option_in n kind (len ∷ b)
    else if nat_lt len 2 || nat_lt (length b) (len - 2) then None
    else if k == kind then Some (take (len - 2) b) else option_in n kind (drop (len - 2) b)

-- Options take at most 40 bytes, so there are at most 40 of them.
abbrev pub option_of : ℕ → Bytes → Option Bytes
option_of = option_in 40

-- The maximum segment size that the sender accepts (RFC 9293, section 3.7.1).
abbrev pub size_in : Option Bytes → Option ℕ
size_in (Some (a ∷ b ∷ [])) = Some (a * 2 ^ 8 + b)
size_in o = None

abbrev pub maximum_segment_size : Bytes → Option ℕ
maximum_segment_size b = size_in (option_of 2 b)

-- The window shift in bits, at most 14 (RFC 7323, section 2.3).
abbrev pub shift_in : Option Bytes → Option ℕ
shift_in (Some (shift ∷ [])) = Some (min shift 14)
shift_in o = None

abbrev pub window_scale : Bytes → Option ℕ
window_scale b = shift_in (option_of 3 b)

-- The sender's timestamp, TSval (RFC 7323, section 3.2).
abbrev pub clock_in : Option Bytes → Option ℕ
clock_in (Some (a ∷ b ∷ c ∷ d ∷ e ∷ f ∷ g ∷ h ∷ [])) =
    Some (a * 2 ^ 24 + b * 2 ^ 16 + c * 2 ^ 8 + d)
clock_in o = None

abbrev pub timestamp : Bytes → Option ℕ
timestamp b = clock_in (option_of 8 b)
