-- What is counted.
use Rattle.std.specs.Prelude.{ℕ, ◌+◌, ◌-◌, ◌^◌, ◌==◌, ◌||◌, Bool, false, not, nat_lt, min, if◌then◌else◌, Option, Some, None, Ok, Err, [], get_or, replicate, set}
use Rattle.std.specs.List.{position_from}
use Rattle.layouts.specs.Meaning.{Answer, Broken, Lacks}
use Rattle.layouts.specs.Reading.{reading}
use Rattle.layouts.specs.contracts.result.ErrorKindPartialEq.TheImpl as kind_eq
use Rattle.layouts.specs.declared.result.ErrorKind.TheVariants.{Switch}
use Rattle.capture.specs.Link.{carried}
use Rattle.ip_fragments.specs.declared.outcome.FragmentOutcome.{FragmentOutcome}
use Rattle.ip_fragments.specs.declared.outcome.FragmentOutcome.TheVariants as outcome
use Rattle.ip_fragments.specs.declared.outcome.FragmentRefusal.{FragmentRefusal}
use Rattle.ip_fragments.specs.declared.outcome.FragmentRefusal.TheVariants as refusal
use Rattle.arrivals.specs.declared.counts.Counts.{Counts}
use Rattle.arrivals.specs.declared.links.OtherLinks.{OtherLinks}

-- A count saturates.
abbrev pub one_more : ℕ → ℕ
one_more n = min (n + 1) (2 ^ 64 - 1)

-- No packet has a link type that isn't supported.
abbrev pub no_links : OtherLinks
no_links = record { rows = replicate 4 (0, 0) }

-- A link type is supported if the layout of its packets is known.
abbrev pub is_unknown : Answer ℕ → Bool
is_unknown (Err (Broken kind)) = kind_eq.ghosts.eq kind Switch
is_unknown (Err (Lacks n)) = false
is_unknown (Ok x) = false

abbrev pub is_supported : ℕ → Bool
is_supported link_type = not (is_unknown (reading (carried link_type) []))

-- A row counts the packets of this link type, or is unused.
abbrev pub is_row_for : ℕ → ℕ × ℕ → Bool
is_row_for link_type row = row.1 == 0 || row.0 == link_type

abbrev pub row_of : ℕ → OtherLinks → Option ℕ
row_of link_type l = position_from (is_row_for link_type) 0 l.rows

-- The row that counts a packet of this link type: none if it is supported, or if the rows are used
-- for others.
abbrev pub row_for : ℕ → OtherLinks → Option ℕ
row_for link_type l = if is_supported link_type then None else row_of link_type l

abbrev pub with_link_at : Option ℕ → ℕ → OtherLinks → OtherLinks
with_link_at None link_type l = l
with_link_at (Some i) link_type l =
    record l { rows = set l.rows i (link_type, one_more (get_or l.rows i (0, 0)).1) }

-- Nothing was read.
abbrev pub nothing_counted : Counts
nothing_counted = record {
  packets = 0;
  tls = 0;
  dtls = 0;
  broken_off = 0;
  waiting = 0;
  unknown = 0;
  no_handshake = 0;
  unread = 0;
  other_links = no_links;
  other_protocols = 0;
  damaged = 0;
  other_parts = 0;
  too_long = 0;
  uneven = 0;
  other_end = 0;
  empty = 0;
  overlapping = 0;
  mixed_ecn = 0;
  late = 0;
  evicted = 0;
  cut_short = 0;
  in_too_many_tunnels = 0;
  stray_segments = 0;
  other_connections = 0;
  gaps = 0;
  ended_early = 0;
}

-- One more packet is counted, as what it is.
abbrev pub with_packet_counted : Counts → Counts
with_packet_counted c = record c { packets = one_more c.packets }

abbrev pub with_unread : Counts → Counts
with_unread c = record c { unread = one_more c.unread }

abbrev pub with_other_protocol : Counts → Counts
with_other_protocol c = record c { other_protocols = one_more c.other_protocols }

abbrev pub with_deeper : Counts → Counts
with_deeper c = record c { in_too_many_tunnels = one_more c.in_too_many_tunnels }

abbrev pub with_other_part : Counts → Counts
with_other_part c = record c { other_parts = one_more c.other_parts }

-- A packet that can't be parsed is counted in its link type's row, or without one as unread.
abbrev pub with_unread_at : Option ℕ → ℕ → Counts → Counts
with_unread_at None link_type c = with_unread c
with_unread_at (Some i) link_type c =
    record c { other_links = with_link_at (Some i) link_type c.other_links }

abbrev pub with_unread_packet : ℕ → Counts → Counts
with_unread_packet link_type c =
    with_unread_at (row_for link_type c.other_links) link_type c

-- A refused fragment is counted by the reason.
abbrev pub with_refusal : FragmentRefusal → Counts → Counts
with_refusal refusal.TooLong c = record c { too_long = one_more c.too_long }
with_refusal refusal.Uneven c = record c { uneven = one_more c.uneven }
with_refusal refusal.OtherEnd c = record c { other_end = one_more c.other_end }
with_refusal refusal.Empty c = record c { empty = one_more c.empty }
with_refusal refusal.Overlap c = record c { overlapping = one_more c.overlapping }
with_refusal refusal.MixedEcn c = record c { mixed_ecn = one_more c.mixed_ecn }

abbrev pub with_refused : FragmentOutcome → Counts → Counts
with_refused (outcome.Whole d) c = c
with_refused outcome.Waits c = c
with_refused (outcome.Refused r) c = with_refusal r c

-- How many datagrams were dropped, late or for room, and how many are in reassembly.
abbrev pub with_cut : ℕ → ℕ → ℕ → Counts → Counts
with_cut late evicted waiting c =
    record c { late = late; evicted = evicted; cut_short = waiting }

-- How many connections that are neither TLS nor DTLS are reported.
abbrev pub unexplained : Counts → ℕ
unexplained c = if nat_lt 0 c.tls || (nat_lt 0 c.dtls || nat_lt 0 c.damaged) then 0
    else c.other_connections
