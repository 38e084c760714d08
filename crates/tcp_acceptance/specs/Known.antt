-- What is known of both sides when waiting segments are judged.
use Rattle.std.specs.Prelude.{ℕ, ◌+◌, ◌==◌, Bool, true, false, ◌&&◌, ◌||◌, not, nat_lt, if◌then◌else◌, Option, Some, None, List, [], ◌∷◌, length}
use Rattle.tcp_acceptance.specs.Numbers.{ahead_of, is_behind, later, number_after}
use Rattle.tcp_acceptance.specs.Doubtful.{differ_at, end_of, is_side, Doubtful}
use Rattle.tcp_acceptance.specs.declared.known.Certain.{Certain}
use Rattle.tcp_acceptance.specs.declared.known.Claim.{Claim}
use Rattle.tcp_acceptance.specs.declared.known.Known.{Known}
use Rattle.tcp_acceptance.specs.declared.known.SideKnown.{SideKnown}
use Rattle.tcp_acceptance.specs.declared.segment.Side.{Side}
use Rattle.tcp_acceptance.specs.declared.segment.Side.TheVariants.{Originator, Responder}

-- A side, and the other one.
abbrev pub side_in : Known → Side → SideKnown
side_in known Originator = known.originator
side_in known Responder = known.responder

abbrev pub other_in : Known → Side → SideKnown
other_in known Originator = known.responder
other_in known Responder = known.originator

-- A known number is this one.
abbrev pub is_number : Option ℕ → ℕ → Bool
is_number None n = false
is_number (Some m) n = m == n

-- The number of its first byte or FIN that isn't known to have come in a certain segment.
abbrev pub missing_from : Known → Doubtful → ℕ
missing_from known k = later (side_in known k.sender).reached k.first

-- The certain bytes c have a byte at each of its numbers; its last number is behind the certain
-- in-order bytes; one of its bytes differs.
abbrev pub end_of_certain : Certain → ℕ
end_of_certain c = number_after c.first (length c.payload.now + (if c.has_fin then 1 else 0))

abbrev pub is_inside : Certain → Doubtful → Bool
is_inside c k =
    not (is_behind c.first k.first) && not (is_behind (end_of k) (end_of_certain c))

abbrev pub is_reached : Option ℕ → Doubtful → Bool
is_reached None k = false
is_reached (Some reached) k = not (is_behind (end_of k) reached)

abbrev pub is_refuted : Certain → Doubtful → Bool
is_refuted c k = differ_at (ahead_of c.first k.first) k.bytes c.payload.now

-- Certain bytes of its sender refute it, or nothing of it is missing any more.
abbrev pub is_contradicted : Certain → Doubtful → Bool
is_contradicted c k =
    is_side k.sender c.sender
    && (is_refuted c k || (is_inside c k || is_reached c.reached k))

-- A later claim of the other side acknowledges exactly its end.
abbrev pub is_claim_of_end : Doubtful → Claim → Bool
is_claim_of_end k c =
    not (is_side c.sender k.sender)
    && (nat_lt k.arrival c.arrival && (c.acknowledgment == end_of k))

abbrev pub is_claimed : List Claim → Doubtful → Bool
is_claimed [] k = false
is_claimed (c ∷ cs) k = if is_claim_of_end k c then true else is_claimed cs k

-- Lost packets explain all of its reasons.
abbrev pub is_explained : Known → Doubtful → Bool
is_explained known k =
    not k.reasons.signature
    && (not k.reasons.clock
    && (not k.reasons.checksum || not (side_in known k.sender).has_right_data))
