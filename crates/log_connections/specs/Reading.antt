-- What a packet holds for connections.
use Rattle.std.specs.Prelude.{◌≡◌, ℕ, ◌+◌, true, ◌⊎◌, is_some, Option, Some, None}
use Rattle.packets.specs.Section.{Packet}
use Rattle.tunnels.specs.declared.tunnel.TheConstants.{MAX_TUNNELS}
use Rattle.arrivals.specs.Fragments.{Joins, ReadsWhole, datagram_of, fragment_in, fragment_inside}
use Rattle.arrivals.specs.Reader.{Reads}
use Rattle.arrivals.specs.declared.arrival.Arrival.{Arrival}
use Rattle.arrivals.specs.declared.fragments.CompletedDatagram.{CompletedDatagram}
use Rattle.arrivals.specs.declared.reader.ArrivalReader.{ArrivalReader}

-- Nothing of a connection; a segment or datagram; or one that the packet's fragment completes, in
-- whose fragments this many bytes disagreed.
pub data Content : Type 0 where
  Nothing : Content
  Whole : Arrival → Content
  InFragments : Arrival → ℕ → Content

-- A reassembled datagram holds a segment or datagram.
abbrev pub HoldsInside : Packet → CompletedDatagram → ArrivalReader → ArrivalReader → Content
    → Type 0
HoldsInside p d old new c = (a : Arrival)
    × ReadsWhole p d.tunnels (datagram_of d) old new (Some a)
    × (c ≡ InFragments a d.whole.disagreeing)

-- Or it holds another fragment, in a tunnel, which may complete another datagram. At most this many
-- are looked at.
pub data HoldsJoined (p : Packet)
    : ℕ → ArrivalReader → Option CompletedDatagram → ArrivalReader → Content → Type 0 where
  none : (n : ℕ) (r : ArrivalReader) → HoldsJoined p n r None r Nothing
  enough : (r : ArrivalReader) (whole : Option CompletedDatagram)
      → HoldsJoined p 0 r whole r Nothing
  inside :
      (m n : ℕ) (old new : ArrivalReader) (d : CompletedDatagram) (c : Content) → m ≡ n + 1
      → HoldsInside p d old new c → HoldsJoined p m old (Some d) new c
  deeper :
      (m n : ℕ) (old mid next new : ArrivalReader) (d : CompletedDatagram)
      (whole : Option CompletedDatagram) (c : Content) → m ≡ n + 1
      → ReadsWhole p d.tunnels (datagram_of d) old mid None
      → Joins mid.is_cut d.time (fragment_inside d) mid next whole
      → HoldsJoined p n next whole new c → HoldsJoined p m old (Some d) new c

abbrev pub HoldsWhole : Packet → ArrivalReader → Option CompletedDatagram → ArrivalReader → Content
    → Type 0
HoldsWhole p old whole new c = HoldsJoined p (MAX_TUNNELS + 1) old whole new c

-- A packet's fragment is joined, and the datagram that it completes is looked at.
abbrev pub HoldsFragment : Packet → ArrivalReader → ArrivalReader → Content → Type 0
HoldsFragment p old new c = (next : ArrivalReader) × (whole : Option CompletedDatagram)
    × Joins old.is_cut p.time (fragment_in p) old next whole × HoldsWhole p next whole new c

-- What the reader finds in a packet: an arrival; or none, but maybe a fragment.
pub data Holds (p : Packet) (old new : ArrivalReader) (c : Content) : Type 0 where
  one : (a : Arrival) → Reads p old new (Some a) → c ≡ Whole a → Holds p old new c
  joined : (mid : ArrivalReader) → Reads p old mid None → HoldsFragment p mid new c
      → Holds p old new c

-- The reader may ask for memory for a packet: for its network, if networks are told apart, or for
-- its fragment.
abbrev pub NeedsMemory : Packet → ArrivalReader → Type 0
NeedsMemory p r = (is_some r.networks ≡ true) ⊎ (is_some (fragment_in p) ≡ true)
