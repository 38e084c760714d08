-- The waiting room of a connection: doubtful segments of both sides, in the order of arrival.
use Rattle.std.specs.Prelude.{ℕ, zero, suc, ◌+◌, ◌≤◌, Bool, true, false, ◌&&◌, ◌||◌, not, nat_le, if◌then◌else◌, Option, Some, None, List, [], ◌∷◌, ◌++◌, length, filter, remove, slice_get}
use Rattle.tcp_acceptance.specs.Doubtful.{doubtful_of, is_before, is_copy_of, reason_count, Doubtful}
use Rattle.tcp_acceptance.specs.Known.{is_claimed, is_number, side_in}
use Rattle.tcp_acceptance.specs.Tally.{with_dropped}
use Rattle.tcp_acceptance.specs.declared.known.Known.{Known}
use Rattle.tcp_acceptance.specs.declared.room.TheConstants.{MAX_BYTES, MAX_SEGMENTS}
use Rattle.tcp_acceptance.specs.declared.segment.Arrived.{Arrived}
use Rattle.tcp_acceptance.specs.declared.tally.Tally.{Tally}

-- How many bytes they have.
abbrev pub bytes_in : List Doubtful → ℕ
bytes_in [] = 0
bytes_in (k ∷ ks) = length k.bytes + bytes_in ks

-- They are no more than the room has space for.
abbrev pub fits : List Doubtful → Bool
fits ks = nat_le (length ks) MAX_SEGMENTS && nat_le (bytes_in ks) MAX_BYTES

abbrev pub IsWithin : List Doubtful → Type 0
IsWithin ks = (length ks ≤ MAX_SEGMENTS) × (bytes_in ks ≤ MAX_BYTES)

-- The others.
abbrev pub without : (Doubtful → Bool) → List Doubtful → List Doubtful
without test ks = filter (λ k. not (test k)) ks

-- One of them passes a test.
abbrev pub has_any : (Doubtful → Bool) → List Doubtful → Bool
has_any test [] = false
has_any test (k ∷ ks) = if test k then true else has_any test ks

-- It goes on with what its sender is known to have sent, or with another that waits.
abbrev pub is_in_row : Known → List Doubtful → Doubtful → Bool
is_in_row known ks k =
    is_number (side_in known k.sender).next k.first || has_any (is_before k) ks

-- The one with the greatest number goes out of a full room, the newest of several. The number is
-- made of claims, of its place, and of the count of its reasons (fewer than 8).
abbrev pub expendability : Known → List Doubtful → Doubtful → ℕ
expendability known ks k =
    (if is_claimed known.claims.now k then 0 else 16)
    + ((if is_in_row known ks k then 0 else 8) + reason_count k.reasons)

-- The place of the last one of the greatest number, by that of the best so far and where it is.
abbrev pub greatest_from : (Doubtful → ℕ) → ℕ → ℕ → ℕ → List Doubtful → ℕ
greatest_from rank best place at [] = place
greatest_from rank best place at (k ∷ ks) = if nat_le best (rank k)
    then greatest_from rank (rank k) at (at + 1) ks else greatest_from rank best place (at + 1) ks

abbrev pub place_out : Known → List Doubtful → ℕ
place_out known ks = greatest_from (expendability known ks) 0 0 0 ks

-- One goes out, and counts as dropped.
abbrev pub without_one : Known → List Doubtful → List Doubtful
without_one known ks = remove ks (place_out known ks)

abbrev pub counted_at : Option Doubtful → Tally → Tally
counted_at None t = t
counted_at (Some k) t = with_dropped k t

abbrev pub with_one_counted : Known → List Doubtful → Tally → Tally
with_one_counted known ks t = counted_at (slice_get ks (place_out known ks)) t

-- One after the other goes out until the others fit, at most n.
abbrev pub reduced : ℕ → Known → List Doubtful → List Doubtful
reduced zero known ks = ks
reduced (suc n) known ks = if fits ks then ks else reduced n known (without_one known ks)

abbrev pub reduced_tally : ℕ → Known → List Doubtful → Tally → Tally
reduced_tally zero known ks t = t
reduced_tally (suc n) known ks t = if fits ks
    then t else reduced_tally n known (without_one known ks) (with_one_counted known ks t)

-- A segment enters if it isn't a copy of one that waits, and would fit into an empty room.
abbrev pub enters : Arrived → List Doubtful → Bool
enters a ks =
    not (has_any (is_copy_of (doubtful_of a)) ks) && nat_le (length a.payload.now) MAX_BYTES

-- What waits after it entered, and the count of those that went out for it.
abbrev pub entered : Known → Arrived → List Doubtful → List Doubtful
entered known a ks = reduced (length ks + 1) known (ks ++ doubtful_of a ∷ [])

abbrev pub entered_tally : Known → Arrived → List Doubtful → Tally → Tally
entered_tally known a ks t = reduced_tally (length ks + 1) known (ks ++ doubtful_of a ∷ []) t

abbrev pub waiting_after : Known → Arrived → List Doubtful → List Doubtful
waiting_after known a ks = if enters a ks then entered known a ks else ks

abbrev pub tally_after : Known → Arrived → List Doubtful → Tally → Tally
tally_after known a ks t = if enters a ks then entered_tally known a ks t else t
