-- A datagram in reassembly.
use Rattle.std.specs.Prelude.{◌≡◌, ℕ, ◌+◌, ◌-◌, ◌*◌, ◌/◌, ◌%◌, ◌^◌, ◌==◌, ◌&&◌, ◌||◌, not, nat_lt, max, min, Bool, true, false, Option, Some, None, is_some, List, [], length, take, if◌then◌else◌}
use Rattle.segments.specs.Cells.{Bytes}
use Rattle.segments.specs.Pages.{written}
use Rattle.capture.specs.declared.ip.Address.{Address}
use Rattle.capture.specs.declared.ip.Address.TheVariants.{V4, V6}
use Rattle.capture.specs.declared.fragment.IpFragment.{IpFragment}
use Rattle.ip_fragments.specs.Runs.{Run, Placing, Fits, Repeats, Overlaps, filled, joined, placed, weight_in}
use Rattle.ip_fragments.specs.declared.waiting.ReassembledDatagram.{ReassembledDatagram}
use Rattle.ip_fragments.specs.declared.outcome.FragmentOutcome.{FragmentOutcome}
use Rattle.ip_fragments.specs.declared.outcome.FragmentOutcome.TheVariants as outcome
use Rattle.ip_fragments.specs.declared.outcome.FragmentRefusal.{FragmentRefusal}
use Rattle.ip_fragments.specs.declared.outcome.FragmentRefusal.TheVariants as refusal

-- The fields: the bytes that arrived; the offset up to which fragments reach, and whether the last
-- fragment arrived; the protocol of the fragment with offset 0, and the length of the headers in
-- front of it; whether fragments of a sender without ECN arrived, and such of a sender with it; how
-- many bytes arrived again with another value; when its first fragment arrived.
pub record Waiting : Type 0 where
  pub runs : List Run
  pub reach : ℕ
  pub is_ended : Bool
  pub protocol : Option ℕ
  pub in_front : ℕ
  pub has_not_ect : Bool
  pub has_ect : Bool
  pub disagreeing : ℕ
  pub since : ℕ

-- No fragment arrived.
abbrev pub begun : ℕ → Waiting
begun time = record {
  runs = [];
  reach = 0;
  is_ended = false;
  protocol = None;
  in_front = 0;
  has_not_ect = false;
  has_ect = false;
  disagreeing = 0;
  since = time;
}

-- A fragment's bytes. If it isn't the last, Linux rounds an uneven length down in IPv4.
abbrev pub rounded : Address → Bool → Bytes → Bytes
rounded (V4 n) true b = take (length b / 8 * 8) b
rounded (V4 n) false b = b
rounded (V6 upper lower) more b = b

abbrev pub bytes_of : IpFragment → Bytes
bytes_of f = rounded f.source f.has_more f.payload.now

-- The offset after a fragment's last byte, and its byte at an offset.
abbrev pub end_of : IpFragment → ℕ
end_of f = f.offset + length (bytes_of f)

abbrev pub given : IpFragment → ℕ → Option ℕ
given f i = written f.offset (bytes_of f) i

-- A fragment that is dropped alone. In IPv4 it has more bytes than a datagram. In IPv6 the datagram
-- would exceed 65,535 bytes, or it isn't the last and its length isn't a multiple of 8 (RFC 8200,
-- section 4.5).
abbrev pub is_too_far : IpFragment → Address → Bool
is_too_far f (V4 n) = nat_lt 65535 (length f.payload.now)
is_too_far f (V6 upper lower) = nat_lt 65535 (f.offset + length f.payload.now)

abbrev pub is_uneven : IpFragment → Address → Bool
is_uneven f (V4 n) = false
is_uneven f (V6 upper lower) = f.has_more && not (length f.payload.now % 8 == 0)

abbrev pub refused_alone : IpFragment → Option FragmentRefusal
refused_alone f = if is_too_far f f.source then Some refusal.TooLong
    else if is_uneven f f.source then Some refusal.Uneven else None

-- Two fragments end the datagram differently, or bytes are past its end.
abbrev pub is_other_end : IpFragment → Waiting → Bool
is_other_end f w = (not f.has_more && nat_lt (end_of f) w.reach)
    || (w.is_ended && nat_lt w.reach (end_of f))

abbrev pub first_protocol : Option ℕ → IpFragment → Option ℕ
first_protocol (Some p) f = Some p
first_protocol None f = if f.offset == 0 then Some f.protocol else None

-- A fragment is Not-ECT: its sender doesn't support ECN. Any other is ECT(0), ECT(1) or CE (RFC
-- 3168, section 5).
abbrev pub is_not_ect : IpFragment → Bool
is_not_ect f = f.ecn == 0

-- A datagram with a fragment's bytes, which gave it these runs.
abbrev pub with_runs : IpFragment → List Run → Waiting → Waiting
with_runs f rs w = record {
  runs = rs;
  reach = max w.reach (end_of f);
  is_ended = w.is_ended || not f.has_more;
  protocol = first_protocol w.protocol f;
  in_front = if f.offset == 0 then f.in_front else w.in_front;
  has_not_ect = w.has_not_ect || is_not_ect f;
  has_ect = w.has_ect || not (is_not_ect f);
  disagreeing = w.disagreeing;
  since = w.since;
}

-- A count in 64 bits, which doesn't go past the highest.
abbrev pub counted : ℕ → ℕ → ℕ
counted n more = min (n + more) (2 ^ 64 - 1)

-- Of a fragment that repeats bytes, so many with another value, only the end counts.
abbrev pub with_repeat : IpFragment → ℕ → Waiting → Waiting
with_repeat f n w = record w {
  reach = max w.reach (end_of f);
  is_ended = w.is_ended || not f.has_more;
  disagreeing = counted w.disagreeing n;
}

-- All bytes up to the end arrived.
abbrev pub is_whole : Waiting → Bool
is_whole w = w.is_ended && ((filled w.runs == w.reach) && is_some w.protocol)

-- The datagram exceeds 65,535 bytes with the headers in front.
abbrev pub is_too_long : Waiting → Bool
is_too_long w = nat_lt 65535 (w.in_front + w.reach)

-- Some of its fragments are Not-ECT and others aren't, which no sender and no router makes. A host
-- drops it, as Linux does: it must not become CE (RFC 3168, section 5.3).
abbrev pub is_ecn_mixed : Waiting → Bool
is_ecn_mixed w = w.has_not_ect && w.has_ect

-- What a fragment makes of its datagram: it is dropped, waits for more, or is complete.
pub data Effect : Type 0 where
  Drops : FragmentRefusal → Effect
  Keeps : Waiting → Effect
  Completes : Waiting → Effect

abbrev pub completed_or_not : Waiting → Effect
completed_or_not w = if not (is_whole w) then Keeps w
    else if is_ecn_mixed w then Drops refusal.MixedEcn
    else if is_too_long w then Drops refusal.TooLong else Completes w

abbrev pub by_placing : IpFragment → Waiting → Placing → Effect
by_placing f w (Fits rs) = completed_or_not (with_runs f rs w)
by_placing f w (Repeats n) = Keeps (with_repeat f n w)
by_placing f w Overlaps = Drops refusal.Overlap

-- A fragment that contradicts the end, has no bytes or overlaps others drops its datagram, and so
-- does one that completes it above 65,535 bytes or with mixed ECN fields.
abbrev pub received : IpFragment → Waiting → Effect
received f w = if is_other_end f w then Drops refusal.OtherEnd
    else if length (bytes_of f) == 0 then Drops refusal.Empty
    else by_placing f w (placed f.offset (bytes_of f) w.runs)

-- The memory that a datagram counts, and the most that a fragment adds.
abbrev pub weight_of : Waiting → ℕ
weight_of w = weight_in w.runs + 640

abbrev pub most_of : IpFragment → ℕ
most_of f = length f.payload.now * 2 + 768

-- The reassembled datagram, with the addresses of its last fragment, and whether its header's
-- checksum is correct. All its fragments have these.
pub record IsHandedOut (f : IpFragment) (w : Waiting) (d : ReassembledDatagram) : Type 0 where
  pub source : d.source ≡ f.source
  pub destination : d.destination ≡ f.destination
  pub protocol : Some d.protocol ≡ w.protocol
  pub right : d.is_header_right ≡ f.is_header_right
  pub payload : d.payload.items ≡ joined w.runs
  pub disagreeing : d.disagreeing ≡ w.disagreeing

-- A complete datagram is returned.
abbrev pub HandsOut : IpFragment → Waiting → FragmentOutcome → Type 0
HandsOut f w (outcome.Whole d) = IsHandedOut f w d
HandsOut f w outcome.Waits = ⊥
HandsOut f w (outcome.Refused r) = ⊥

-- The datagram waits for more.
abbrev pub is_waiting : FragmentOutcome → Bool
is_waiting (outcome.Whole d) = false
is_waiting outcome.Waits = true
is_waiting (outcome.Refused r) = false

-- The outcome of a fragment, and its datagram afterwards: only where it waits for more it changes.
abbrev pub Receives : IpFragment → FragmentOutcome → Waiting → Waiting → Effect → Type 0
Receives f o v w (Drops r) = (o ≡ outcome.Refused r) × (w ≡ v)
Receives f o v w (Keeps x) = (o ≡ outcome.Waits) × (w ≡ x)
Receives f o v w (Completes x) = HandsOut f x o × (w ≡ v)
