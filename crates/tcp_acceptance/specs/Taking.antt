-- Which waiting segments their receiver took.
use Rattle.std.specs.Prelude.{ℕ, ◌+◌, ◌==◌, Bool, true, false, ◌&&◌, ◌||◌, not, nat_lt, if◌then◌else◌, Option, Some, None, List, [], ◌∷◌, length, take, drop, map, remove, slice_get, slice_set}
use Rattle.std.specs.Option.{option_map}
use Rattle.tcp_acceptance.specs.Numbers.{ahead_of, is_behind}
use Rattle.tcp_acceptance.specs.Doubtful.{behind_of, end_of, is_side, reason_count, Doubtful}
use Rattle.tcp_acceptance.specs.Known.{is_claimed, is_explained, missing_from, side_in}
use Rattle.tcp_acceptance.specs.declared.known.Known.{Known}
use Rattle.tcp_acceptance.specs.declared.known.Heard.{Heard}
use Rattle.tcp_acceptance.specs.declared.segment.Reasons.{Reasons}
use Rattle.tcp_acceptance.specs.declared.segment.Side.{Side}

-- Taken segments are handed on by this number, the least first, equal ones in order of arrival:
-- first those whose reasons lost packets explain, then those whose end a claim hits, then those
-- with fewer reasons (of at most 7).
abbrev pub rank : Known → Doubtful → ℕ
rank known k =
    (if is_explained known k then 0 else 16)
    + ((if is_claimed known.claims.now k then 0 else 8) + reason_count k.reasons)

-- The place of the first one of the least number below `best`.
abbrev pub least_from : (Doubtful → ℕ) → ℕ → Option ℕ → ℕ → List Doubtful → Option ℕ
least_from number best place at [] = place
least_from number best place at (k ∷ ks) = if nat_lt (number k) best
    then least_from number (number k) (Some at) (at + 1) ks
    else least_from number best place (at + 1) ks

-- Of those that pass a test, the place of the first in this order.
abbrev pub rank_if : (Doubtful → Bool) → Known → Doubtful → ℕ
rank_if test known k = if test k then rank known k else 32

abbrev pub place_first : (Doubtful → Bool) → Known → List Doubtful → Option ℕ
place_first test known ks = least_from (rank_if test known) 32 None 0 ks

abbrev pub at_place : Option ℕ → List Doubtful → Option Doubtful
at_place None ks = None
at_place (Some n) ks = slice_get ks n

-- The other side acknowledges a number: a byte or FIN in front of it is missing, which the segment
-- has.
abbrev pub is_over : Option ℕ → ℕ → Bool
is_over None ack = true
is_over (Some reached) ack = is_behind ack reached

abbrev pub has_missing : ℕ → Known → Doubtful → Bool
has_missing ack known k =
    is_behind ack (missing_from known k) && is_behind (end_of k) (missing_from known k)

abbrev pub is_acknowledged : Side → ℕ → Known → Doubtful → Bool
is_acknowledged sender ack known k =
    is_side k.sender sender
    && (is_over (side_in known sender).reached ack && has_missing ack known k)

abbrev pub place_acknowledged : Side → ℕ → Known → List Doubtful → Option ℕ
place_acknowledged sender ack known ks = place_first (is_acknowledged sender ack known) known ks

-- A FIN is taken only if exactly it is acknowledged, and its sender sent nothing behind it.
abbrev pub is_ahead : Option ℕ → ℕ → Bool
is_ahead None n = false
is_ahead (Some m) n = is_behind m n

abbrev pub takes_fin : ℕ → Known → Doubtful → Bool
takes_fin ack known k =
    k.has_fin && ((ack == end_of k) && not (is_ahead (side_in known k.sender).next (behind_of k)))

-- The part that is acknowledged, and the rest.
abbrev pub is_cut : ℕ → Doubtful → Bool
is_cut ack k = is_behind (end_of k) ack

abbrev pub front_of : ℕ → Doubtful → Doubtful
front_of ack k = record k { bytes = take (ahead_of ack k.first) k.bytes; has_fin = false }

abbrev pub rest_of : ℕ → Doubtful → Doubtful
rest_of ack k = record k { first = ack; bytes = drop (ahead_of ack k.first) k.bytes }

abbrev pub part_of : ℕ → Known → Doubtful → Doubtful
part_of ack known k =
    if is_cut ack k then front_of ack k else record k { has_fin = takes_fin ack known k }

-- What an acknowledgement takes first, and what then waits.
abbrev pub acknowledged : Side → ℕ → Known → List Doubtful → Option Doubtful
acknowledged sender ack known ks =
    option_map (part_of ack known) (at_place (place_acknowledged sender ack known ks) ks)

abbrev pub left_of : ℕ → ℕ → Option Doubtful → List Doubtful → List Doubtful
left_of ack n None ks = ks
left_of ack n (Some k) ks = if is_cut ack k then slice_set ks n (rest_of ack k) else remove ks n

abbrev pub left_at : ℕ → Option ℕ → List Doubtful → List Doubtful
left_at ack None ks = ks
left_at ack (Some n) ks = left_of ack n (slice_get ks n) ks

abbrev pub unacknowledged : Side → ℕ → Known → List Doubtful → List Doubtful
unacknowledged sender ack known ks =
    left_at ack (place_acknowledged sender ack known ks) ks

-- The other side is heard for the first time: those that came before it are judged by its numbers.
abbrev pub is_unsent : Heard → Doubtful → Bool
is_unsent h k = is_behind k.fields.acknowledgment h.sent || is_ahead h.first k.fields.acknowledgment

abbrev pub is_beyond : Option ℕ → Doubtful → Bool
is_beyond None k = false
is_beyond (Some edge) k = if length k.bytes == 0 then is_behind k.first edge
    else (not (is_behind edge k.first) || is_behind (behind_of k) edge)

abbrev pub is_outside : Heard → Doubtful → Bool
is_outside h k = is_ahead h.begin k.first || is_beyond h.edge k

abbrev pub reasons_then : Heard → Doubtful → Reasons
reasons_then h k = record k.reasons {
  acknowledgment = is_unsent h k;
  window = is_outside h k;
  opening = false;
}

abbrev pub judged_again : Heard → Doubtful → Doubtful
judged_again h k = if is_side k.sender h.receiver || not k.reasons.opening
    then k else record k { reasons = reasons_then h k }

abbrev pub opened : Heard → List Doubtful → List Doubtful
opened h ks = map (judged_again h) ks

-- No reason is left.
abbrev pub is_certain : Doubtful → Bool
is_certain k = reason_count k.reasons == 0

-- The first of those.
abbrev pub certain_from : ℕ → List Doubtful → Option ℕ
certain_from n [] = None
certain_from n (k ∷ ks) = if is_certain k then Some n else certain_from (n + 1) ks

abbrev pub place_certain : List Doubtful → Option ℕ
place_certain ks = certain_from 0 ks

abbrev pub first_certain : List Doubtful → Option Doubtful
first_certain ks = at_place (place_certain ks) ks

abbrev pub without_at : Option ℕ → List Doubtful → List Doubtful
without_at None ks = ks
without_at (Some n) ks = remove ks n

abbrev pub without_first_certain : List Doubtful → List Doubtful
without_first_certain ks = without_at (place_certain ks) ks
