-- TCP as the receiver of a segment applies it (RFC 9293, section 3.10.7.4; RFC 5961; RFC 7323), as
-- far as a monitor knows: by what was captured of both ends.
use Rattle.std.specs.Prelude.{ℕ, ◌+◌, ◌%◌, ◌^◌, ◌==◌, Bool, true, false, ◌&&◌, ◌||◌, not, nat_lt, nat_le, is_some, if◌then◌else◌, Option, Some, None, length, max}
use Rattle.connections.specs.Segment.{acknowledges, answers, begins, behind_of, breaks, end_with_fin, ends, first_of, has_data, is_refused, takes_numbers}
use Rattle.connections.specs.Numbers.{advance, is_behind}
use Rattle.connections.specs.Hosts.{is_ahead, is_clock_behind, later}
use Rattle.connections.specs.declared.segment.Segment.{Segment}
use Rattle.connections.specs.declared.host.Host.{Host}
use Rattle.connections.specs.declared.stream.Front.{Front}
use Rattle.connections.specs.declared.stream.TheConstants.{HELD_LIMIT}
use Rattle.connections.specs.declared.receiver.Judgement.{Judgement}
use Rattle.connections.specs.declared.receiver.Judgement.TheVariants.{Taken, Again, Waiting, Dropped}
use Rattle.connections.specs.declared.receiver.DropReason.{DropReason}
use Rattle.connections.specs.declared.receiver.DropReason.TheVariants as reason
use Rattle.connections.specs.declared.segment.Checksum.{Checksum}
use Rattle.connections.specs.declared.segment.Checksum.TheVariants.{Right, Partial, Wrong, Refused}
use Rattle.connections.specs.declared.receiver.DropReason.TheVariants.{NoAck, Acknowledgment, Window, Clock, Signature, Syn, Reset, Fin}

abbrev pub number_or : ℕ → Option ℕ → ℕ
number_or n None = n
number_or n (Some m) = m

-- A known number is ahead of another by more than `least`.
abbrev pub is_ahead_by : ℕ → Option ℕ → ℕ → Bool
is_ahead_by least None n = false
is_ahead_by least (Some m) n = nat_lt least (advance m n)

-- A checksum that isn't correct counts as wrong, unless its sender's were so from its first packet
-- on. Then the capture is on the sender's own machine, whose network card writes the checksums
-- behind it. A partial one doesn't count if the packet has more data than its receiver's maximum
-- segment size (536 bytes by default): several segments were coalesced.
abbrev pub is_damaged_by : Checksum → Option Checksum → Host → ℕ → Bool
is_damaged_by Right known y len = false
is_damaged_by Partial None y len = false
is_damaged_by Partial (Some Wrong) y len = false
is_damaged_by Partial (Some Partial) y len = false
is_damaged_by Partial (Some Refused) y len = true
is_damaged_by Partial (Some Right) y len = nat_le len (number_or 536 y.offers.size)
is_damaged_by Wrong None y len = false
is_damaged_by Wrong (Some Wrong) y len = false
is_damaged_by Wrong (Some Right) y len = true
is_damaged_by Wrong (Some Partial) y len = true
is_damaged_by Wrong (Some Refused) y len = true
is_damaged_by Refused known y len = true

abbrev pub is_damaged : Host → Host → Checksum → ℕ → Bool
is_damaged x y c len = is_damaged_by c x.checksums y len

-- The segment is signed, and its sender's SYN isn't (RFC 2385, section 2).
abbrev pub is_signed_apart : Host → Segment → Bool
is_signed_apart x s = s.options.is_signed && (is_some x.first && not x.offers.is_signed)

-- Both SYNs have a timestamp, and the segment's is older than one that its receiver took (RFC 7323,
-- section 5.3). Hosts accept one that is older by 1.
abbrev pub has_old_clock : Host → Host → Segment → Bool
has_old_clock x y s =
    is_some x.offers.clock && (is_some y.offers.clock && is_clock_behind 1 x.clock s.options.clock)

-- The number that the receiver y expects next, and the right edge of its window. After the SYNs
-- alone its window counts from the first number of the sender x on.
abbrev pub awaited_of : Option ℕ → Option ℕ → Option ℕ → Option ℕ
awaited_of (Some n) y x = Some n
awaited_of None (Some y) x = x
awaited_of None None x = None

abbrev pub awaited : Host → Host → Option ℕ
awaited x y = awaited_of y.acknowledged y.first x.first

abbrev pub edge_from : Option ℕ → Option ℕ → Option ℕ → ℕ → Option ℕ
edge_from (Some edge) y x window = Some edge
edge_from None (Some y) (Some x) window = Some ((x + window) % 2 ^ 32)
edge_from None (Some y) None window = None
edge_from None None x window = None

abbrev pub edge_of : Host → Host → Option ℕ
edge_of x y = edge_from y.edge y.first x.first y.widest

-- Data begins at or beyond the right edge of the receiver's window; without data, only beyond it
-- (RFC 9293, section 3.10.7.4, first).
abbrev pub is_beyond : Option ℕ → Segment → Bool
is_beyond None s = false
is_beyond (Some edge) s = if has_data s then
    not (is_behind edge (first_of s)) else is_behind (first_of s) edge

-- The segment ends beyond the window. If no window or no scale is known: it ends too far after the
-- in-order data to be stored.
abbrev pub is_too_far : Option ℕ → Bool → Segment → Bool
is_too_far None r s = false
is_too_far (Some reached) r s = r && nat_lt HELD_LIMIT (advance (end_with_fin s) reached)

abbrev pub is_past : Option ℕ → Option ℕ → Option ℕ → Front → Segment → Bool
is_past (Some x) (Some y) (Some edge) f s = is_behind (behind_of s) edge
is_past (Some x) (Some y) None f s = is_too_far f.reached f.is_read s
is_past (Some x) None e f s = is_too_far f.reached f.is_read s
is_past None y e f s = is_too_far f.reached f.is_read s

abbrev pub is_past_edge : Host → Host → Front → Segment → Bool
is_past_edge x y f s = is_past x.first y.first (edge_of x y) f s

-- The segment ends more than a window before the receiver's last acknowledgement.
abbrev pub is_far_before : Host → Host → Segment → Bool
is_far_before x y s = is_ahead_by (max y.widest 65535) (awaited x y) (end_with_fin s)

-- The segment ends before the receiver's last acknowledgement, so the receiver has these bytes.
abbrev pub is_known : Host → Host → Segment → Bool
is_known x y s = is_ahead_by 0 (awaited x y) (end_with_fin s)

-- The segment has data after its sender's FIN, or a FIN at a later number.
abbrev pub is_behind_fin : Option ℕ → Segment → Bool
is_behind_fin None s = false
is_behind_fin (Some fin) s = if has_data s then not (is_behind fin (first_of s)) else ends s
    && is_behind (behind_of s) fin

-- The acknowledgement is below the receiver's SYN, or below the sender's earlier ones by more than
-- the largest window that the sender offered: SND.UNA - MAX.SND.WND (RFC 5961, section 5.2).
abbrev pub is_stale : Host → Host → Segment → Bool
is_stale x y s = is_ahead_by 0 y.first s.acknowledgment
    || is_ahead_by x.widest x.acknowledged s.acknowledgment

-- The segment acknowledges bytes that the receiver isn't known to have sent.
abbrev pub is_of_unsent : Host → Segment → Bool
is_of_unsent y s = is_ahead s.acknowledgment y.next

-- A segment in the receiver's window, without SYN and RST.
abbrev pub judge_data : Host → Host → Front → Segment → Judgement
judge_data x y f s =
    if is_behind_fin x.fin s then Dropped Fin
    else if is_known x y s then Again
    else if is_stale x y s then Dropped Acknowledgment
    else if is_of_unsent y s then (if takes_numbers s then Waiting Acknowledgment else Again)
    else if has_data s && is_past_edge x y f s then Waiting Window
    else Taken

-- A segment without SYN and RST, by its numbers alone.
abbrev pub judge_numbers : Host → Host → Front → Segment → Judgement
judge_numbers x y f s =
    if is_far_before x y s then Dropped Window
    else if is_beyond (edge_of x y) s then (if has_data s then Waiting Window else Dropped Window)
    else judge_data x y f s

-- A segment with a reason against it that isn't in its numbers. One that would bring bytes or a FIN
-- is pending; any other is dropped.
abbrev pub waiting_if : Bool → DropReason → Judgement
waiting_if true r = Waiting r
waiting_if false r = Dropped r

abbrev pub doubted : DropReason → Bool → Judgement → Judgement
doubted r news Taken = waiting_if news r
doubted r news (Waiting q) = waiting_if news r
doubted r news Again = Dropped r
doubted r news (Dropped q) = Dropped r

abbrev pub doubting : DropReason → Segment → Judgement → Judgement
doubting r s j = doubted r (takes_numbers s) j

-- A segment without SYN and RST.
abbrev pub judge_open : Host → Host → Front → Segment → Judgement
judge_open x y f s =
    if not (acknowledges s) then Dropped NoAck
    else if is_signed_apart x s then doubting Signature s (judge_numbers x y f s)
    else if has_old_clock x y s then doubting Clock s (judge_numbers x y f s)
    else judge_numbers x y f s

-- A segment whose checksum counts as wrong. Its receiver may have taken its data, if the network
-- card wrote the checksum behind the capture, or merged segments before it.
abbrev pub judge_damaged : Host → Host → Front → Segment → Judgement
judge_damaged x y f s =
    if is_refused s.checksum || (breaks s || begins s) then Dropped reason.Checksum
    else doubting reason.Checksum s (judge_open x y f s)

-- An RST resets a connection only if its sequence number, whatever its other flags, is the one that
-- its receiver expects next (RFC 5961, section 3.2), or, if both accept selective acknowledgements,
-- the one behind all that came. If its sender sent nothing else, it has to acknowledge all that the
-- other end sent.
abbrev pub is_answer_to : Option ℕ → Segment → Bool
is_answer_to None s = true
is_answer_to (Some next) s = acknowledges s && s.acknowledgment == next

abbrev pub is_reset_of : Option ℕ → Host → Host → Front → Segment → Bool
is_reset_of None x y f s = is_answer_to y.next s
is_reset_of (Some next) x y f s =
    s.sequence == later y.acknowledged (number_or next f.reached)
    || (x.offers.selects && y.offers.selects && s.sequence == next)

abbrev pub is_reset_taken : Host → Host → Front → Segment → Bool
is_reset_taken x y f s = is_reset_of x.next x y f s

-- A host checks the signature before it looks at the RST flag (RFC 2385, section 2).
abbrev pub judge_reset : Host → Host → Front → Segment → Judgement
judge_reset x y f s =
    if is_signed_apart x s then Dropped Signature
    else if is_reset_taken x y f s then Taken else Dropped Reset

-- A sender's first SYN. It asks for the connection, maybe simultaneously with the other end (RFC
-- 9293, section 3.5), or it answers the other's SYN. After the opening, or after other segments of
-- its sender, it is in the middle of a connection (RFC 5961, section 4.2).
abbrev pub answers_to : Host → Segment → Bool
answers_to y s = not (is_ahead_by 0 y.first s.acknowledgment) && not (is_of_unsent y s)

abbrev pub is_late_syn : Host → Host → Segment → Bool
is_late_syn x y s = if is_some y.first then y.is_open else is_some x.next
    || (is_some y.next && not (answers s))

abbrev pub judge_first_syn : Host → Host → Segment → Judgement
judge_first_syn x y s =
    if is_late_syn x y s then Dropped Syn
    else if answers s && not (answers_to y s) then Dropped Acknowledgment
    else Taken

-- A retransmitted SYN, until the connection is open. Its first ACK is the answer of an end that
-- asked simultaneously.
abbrev pub judge_syn_again : Host → Host → Segment → Judgement
judge_syn_again x y s =
    if x.is_open || y.is_open then Dropped Syn
    else if answers s && not (is_some x.acknowledged) then Taken
    else Again

-- Any other SYN is in the middle of a connection.
abbrev pub judge_syn_by : Option ℕ → Host → Host → Segment → Judgement
judge_syn_by None x y s = judge_first_syn x y s
judge_syn_by (Some first) x y s = if first_of s == first then judge_syn_again x y s else Dropped Syn

-- A SYN doesn't end what it begins: with FIN, hosts drop it.
abbrev pub judge_syn : Host → Host → Segment → Judgement
judge_syn x y s = if ends s then Dropped Syn else judge_syn_by x.first x y s

-- What the receiver y does with a segment of the sender x, by how far the stream of x came.
abbrev pub judge : Host → Host → Front → Segment → Judgement
judge x y f s =
    if is_damaged x y s.checksum (length s.payload.now) then judge_damaged x y f s
    else if breaks s then judge_reset x y f s
    else if begins s then judge_syn x y s
    else judge_open x y f s
