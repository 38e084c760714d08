-- Which waiting segments count as taken once the connection is over.
use Rattle.std.specs.Prelude.{ℕ, ◌^◌, ◌==◌, Bool, true, false, ◌&&◌, ◌||◌, not, nat_lt, if◌then◌else◌, Option, Some, None, List, [], ◌∷◌}
use Rattle.std.specs.Option.{option_map}
use Rattle.tcp_acceptance.specs.Numbers.{ahead_of, is_behind}
use Rattle.tcp_acceptance.specs.Doubtful.{behind_of, end_of, is_side, Doubtful}
use Rattle.tcp_acceptance.specs.Known.{is_explained, is_number, missing_from, other_in, side_in}
use Rattle.tcp_acceptance.specs.Room.{has_any, is_in_row}
use Rattle.tcp_acceptance.specs.Taking.{at_place, is_ahead, place_first, without_at}
use Rattle.tcp_acceptance.specs.declared.known.Claim.{Claim}
use Rattle.tcp_acceptance.specs.declared.known.Denial.{Denial}
use Rattle.tcp_acceptance.specs.declared.known.Known.{Known}
use Rattle.tcp_acceptance.specs.declared.segment.Side.{Side}

-- A later claim of the other side acknowledges missing numbers of a segment, and isn't 2^24 ahead.
abbrev pub is_covered : Known → Doubtful → Claim → Bool
is_covered known k c =
    not (is_side c.sender k.sender)
    && (nat_lt k.arrival c.arrival
    && (is_behind c.acknowledgment (missing_from known k)
    && nat_lt (ahead_of c.acknowledgment (missing_from known k)) (2 ^ 24)))

-- A later certain acknowledgement of the claim's sender doesn't cover them.
abbrev pub is_denied_by : Option Denial → ℕ → Claim → Bool
is_denied_by None missing c = false
is_denied_by (Some d) missing c =
    nat_lt c.arrival d.arrival && not (is_behind d.acknowledgment missing)

abbrev pub is_denied : Known → Doubtful → Claim → Bool
is_denied known k c =
    is_denied_by (other_in known k.sender).denial (missing_from known k) c

-- A segment of a side begins or ends at a number.
abbrev pub is_edge_of : Side → ℕ → Doubtful → Bool
is_edge_of side n k =
    is_side k.sender side && ((k.first == n) || ((behind_of k == n) || (end_of k == n)))

abbrev pub is_begun_by : Side → ℕ → Claim → Bool
is_begun_by side n c = is_side c.sender side && (c.sequence == n)

abbrev pub is_begun : Side → ℕ → List Claim → Bool
is_begun side n [] = false
is_begun side n (c ∷ cs) = if is_begun_by side n c then true else is_begun side n cs

abbrev pub is_edge : Known → List Doubtful → Side → ℕ → Bool
is_edge known ks side n =
    is_number (side_in known side).next n
    || (is_begun side n known.claims.now || has_any (is_edge_of side n) ks)

-- The segment goes on with others, and acknowledges what is known to be sent.
abbrev pub acknowledges_sent : Option ℕ → Doubtful → Bool
acknowledges_sent None k = true
acknowledges_sent (Some next) k = not (is_behind k.fields.acknowledgment next)

abbrev pub goes_on : Known → List Doubtful → Doubtful → Bool
goes_on known ks k =
    acknowledges_sent (other_in known k.sender).next k && is_in_row known ks k

-- A claim confirms a segment: it covers it, nothing denies it, and it is of the number where a
-- segment begins or ends, or the segment itself goes on.
abbrev pub is_confirmed_by : Known → List Doubtful → Doubtful → Claim → Bool
is_confirmed_by known ks k c =
    is_covered known k c
    && (not (is_denied known k c)
    && (is_edge known ks k.sender c.acknowledgment || goes_on known ks k))

abbrev pub is_confirmed : Known → List Doubtful → Doubtful → List Claim → Bool
is_confirmed known ks k [] = false
is_confirmed known ks k (c ∷ cs) = if is_confirmed_by known ks k c then true
    else is_confirmed known ks k cs

-- Nothing of the other side came after it.
abbrev pub is_after : Option ℕ → ℕ → Bool
is_after None arrival = true
is_after (Some last) arrival = nat_lt last arrival

abbrev pub is_last_word : Known → Doubtful → Bool
is_last_word known k = is_after (other_in known k.sender).last k.arrival && is_explained known k

abbrev pub is_taken_at_end : Known → List Doubtful → Doubtful → Bool
is_taken_at_end known ks k =
    is_confirmed known ks k known.claims.now || is_last_word known k

-- The first of these is taken whole. Its FIN is so only if nothing of its sender came behind.
abbrev pub place_at_end : Known → List Doubtful → Option ℕ
place_at_end known ks = place_first (is_taken_at_end known ks) known ks

abbrev pub whole_of : Known → Doubtful → Doubtful
whole_of known k = record k {
  has_fin = k.has_fin && not (is_ahead (side_in known k.sender).next (behind_of k));
}

abbrev pub taken_at_end : Known → List Doubtful → Option Doubtful
taken_at_end known ks = option_map (whole_of known) (at_place (place_at_end known ks) ks)

abbrev pub left_at_end : Known → List Doubtful → List Doubtful
left_at_end known ks = without_at (place_at_end known ks) ks

-- All of the others are dropped.
abbrev pub is_any : Doubtful → Bool
is_any k = true
