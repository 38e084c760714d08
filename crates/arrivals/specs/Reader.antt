-- What a packet brings to connections, and the reader behind it.
use Rattle.std.specs.Prelude.{◌≡◌, ℕ, ◌==◌, ◌||◌, not, Bool, true, false, length, List, Option, Some, None, []}
use Rattle.capture.specs.Checksum.{checksum_of}
use Rattle.capture.specs.Ip.{Address, Datagram}
use Rattle.capture.specs.Transport.{Content, Segment as TcpHeader, UserDatagram}
use Rattle.capture.specs.Transport as content
use Rattle.capture.specs.Vlan.{found_in}
use Rattle.connections.specs.declared.datagram.Datagram.{Datagram as UdpArrival}
use Rattle.connections.specs.declared.five_tuple.End.{End}
use Rattle.connections.specs.declared.five_tuple.Protocol.{Protocol}
use Rattle.connections.specs.declared.five_tuple.Protocol.TheVariants.{Tcp, Udp}
use Rattle.connections.specs.declared.segment.Segment.{Segment}
use Rattle.networks.specs.Networks.{IsOfTunnels, Numbering, none_held, number_of, with_packet}
use Rattle.networks.specs.declared.networks.Network.{Network}
use Rattle.packets.specs.Section.{Packet}
use Rattle.tunnels.specs.Tags.{vlans_of}
use Rattle.tunnels.specs.Tunnel.{listed}
use Rattle.tunnels.specs.Walk.{Deeper, Held, Inside, Other, Unread, Unwrapped, unwrapped}
use Rattle.tunnels.specs.declared.tunnel.Tunnels.{Tunnels}
use Rattle.arrivals.specs.Arrival.{IsAddress, counted_as, is_logged, is_syn, options_in}
use Rattle.arrivals.specs.Counts.{nothing_counted, with_deeper, with_other_part, with_other_protocol, with_packet_counted, with_unread_packet}
use Rattle.arrivals.specs.declared.arrival.Arrival.{Arrival}
use Rattle.arrivals.specs.declared.arrival.Arrival.TheVariants as arrival
use Rattle.arrivals.specs.declared.arrival.Checksums.{Checksums}
use Rattle.arrivals.specs.declared.arrival.Checksums.TheVariants.{Auto}
use Rattle.arrivals.specs.declared.reader.ArrivalReader.{ArrivalReader}

-- Nothing was read.
pub record IsNew (r : ArrivalReader) : Type 0 where
  pub fragments : r.fragments ≡ record { waiting = []; late = 0; evicted = 0 }
  pub cut : r.is_cut ≡ false
  pub checksums : r.checksums ≡ Auto
  pub part : r.part ≡ None
  pub networks : r.networks ≡ Some none_held
  pub vlans : r.counts_vlans ≡ false
  pub tunnels : listed r.tunnels ≡ []
  pub counts : r.counts ≡ nothing_counted

-- An end has this address and port.
pub record IsEnd (a : Address) (n : ℕ) (e : End) : Type 0 where
  pub address : IsAddress a e.address
  pub port : e.port ≡ n

-- A segment has the fields of its headers, and its packet's time.
pub record IsSegment (checked : Checksums) (at : ℕ) (d : Datagram) (t : TcpHeader) (s : Segment)
    : Type 0 where
  pub time : s.time ≡ at
  pub source : IsEnd d.source t.source s.source
  pub destination : IsEnd d.destination t.destination s.destination
  pub sequence : s.sequence ≡ t.sequence
  pub acknowledgment : s.acknowledgment ≡ t.acknowledgment
  pub flags : s.flags ≡ t.flags
  pub window : s.window ≡ t.window
  pub urgent_pointer : s.urgent_pointer ≡ t.urgent_pointer
  pub options : s.options ≡ options_in (is_syn t.flags) t.options
  pub checksum : s.checksum ≡ counted_as checked (checksum_of d)
  pub payload : s.payload.now ≡ t.payload

-- A datagram of UDP: its time, ends, checksum and payload are the packet's.
pub record IsDatagram (checked : Checksums) (at : ℕ) (d : Datagram) (u : UserDatagram)
    (g : UdpArrival) : Type 0 where
  pub time : g.time ≡ at
  pub source : IsEnd d.source u.source g.source
  pub destination : IsEnd d.destination u.destination g.destination
  pub checksum : g.checksum ≡ counted_as checked (checksum_of d)
  pub payload : g.payload.now ≡ u.payload

-- A packet's VLANs, and its network. If VLANs count, it is these and all of its tunnels.
abbrev pub vlans_in : Packet → List ℕ
vlans_in p = vlans_of p.link_type p.bytes

abbrev pub IsNetwork : List ℕ → Tunnels → Bool → Network → Type 0
IsNetwork vlans tunnels false network = IsOfTunnels tunnels network
IsNetwork vlans tunnels true network =
    (found_in network.vlans ≡ vlans) × (network.tunnels ≡ tunnels)

-- If VLANs don't count, a packet in no tunnel has no network.
abbrev pub has_network : Tunnels → Bool → Bool
has_network tunnels by_vlans = by_vlans || not (length (listed tunnels) == 0)

-- A network's number, and the networks behind its packet. It is 0 if networks aren't told apart.
abbrev pub IsNumberOf : Network → Option Numbering → Option Numbering → ℕ → Type 0
IsNumberOf network None new n = (new ≡ None) × (n ≡ 0)
IsNumberOf network (Some t) new n = (new ≡ Some (with_packet network t)) × (n ≡ number_of network t)

-- The number of a packet's network. It is 0 if the packet has none.
abbrev pub IsNumberedIf : Bool → List ℕ → Tunnels → Bool → Numbering → Option Numbering → ℕ
    → Type 0
IsNumberedIf false vlans tunnels by_vlans t new n = (new ≡ Some t) × (n ≡ 0)
IsNumberedIf true vlans tunnels by_vlans t new n =
    (network : Network) × IsNetwork vlans tunnels by_vlans network
    × IsNumberOf network (Some t) new n

abbrev pub IsNumbered : List ℕ → Tunnels → Bool → Option Numbering → Option Numbering → ℕ → Type 0
IsNumbered vlans tunnels by_vlans None new n = (new ≡ None) × (n ≡ 0)
IsNumbered vlans tunnels by_vlans (Some t) new n =
    IsNumberedIf (has_network tunnels by_vlans) vlans tunnels by_vlans t new n

-- A packet with this segment or datagram is logged.
pub record ReadsSegment (p : Packet) (d : Datagram) (t : TcpHeader) (old new : ArrivalReader)
    (s : Segment) : Type 0 where
  pub is : IsSegment old.checksums p.time d t s
  pub logged : is_logged old.part Tcp s.source s.destination ≡ true
  pub network :
      IsNumbered (vlans_in p) old.tunnels old.counts_vlans old.networks new.networks s.network
  pub same : new ≡ record old { networks = new.networks }

pub record ReadsDatagram (p : Packet) (d : Datagram) (u : UserDatagram) (old new : ArrivalReader)
    (g : UdpArrival) : Type 0 where
  pub is : IsDatagram old.checksums p.time d u g
  pub logged : is_logged old.part Udp g.source g.destination ≡ true
  pub network :
      IsNumbered (vlans_in p) old.tunnels old.counts_vlans old.networks new.networks g.network
  pub same : new ≡ record old { networks = new.networks }

-- One of connections that aren't logged is counted.
pub record LeavesOut (protocol : Protocol) (d : Datagram) (from to : ℕ) (old new : ArrivalReader)
    : Type 0 where
  pub sender : End
  pub receiver : End
  pub sends : IsEnd d.source from sender
  pub receives : IsEnd d.destination to receiver
  pub other : is_logged old.part protocol sender receiver ≡ false
  pub counts : new ≡ record old { counts = with_other_part old.counts }

-- What a packet brings whose datagram has this content: its segment or UDP datagram. A fragment is
-- noted, and any other protocol counted.
abbrev pub ReadsContent : Packet → Datagram → Content → ArrivalReader → ArrivalReader
    → Option Arrival → Type 0
ReadsContent p d (content.Tcp t) old new None = LeavesOut Tcp d t.source t.destination old new
ReadsContent p d (content.Tcp t) old new (Some (arrival.Segment s)) = ReadsSegment p d t old new s
ReadsContent p d (content.Tcp t) old new (Some (arrival.Datagram g)) = ⊥
ReadsContent p d (content.Udp u) old new None = LeavesOut Udp d u.source u.destination old new
ReadsContent p d (content.Udp u) old new (Some (arrival.Segment s)) = ⊥
ReadsContent p d (content.Udp u) old new (Some (arrival.Datagram g)) = ReadsDatagram p d u old new g
ReadsContent p d content.Fragment old new a = (a ≡ None) × (new ≡ record old { is_cut = true })
ReadsContent p d (content.Other n b) old new a =
    (a ≡ None) × (new ≡ record old { counts = with_other_protocol old.counts })

-- What a packet brings that holds this behind all its headers. Without a datagram it is counted.
abbrev pub ReadsInside : Packet → Inside → ArrivalReader → ArrivalReader → Option Arrival → Type 0
ReadsInside p (Held d) old new a = ReadsContent p d d.content old new a
ReadsInside p Other old new a =
    (a ≡ None) × (new ≡ record old { counts = with_other_protocol old.counts })
ReadsInside p Unread old new a =
    (a ≡ None) × (new ≡ record old { counts = with_unread_packet p.link_type old.counts })
ReadsInside p Deeper old new a =
    (a ≡ None) × (new ≡ record old { counts = with_deeper old.counts })

-- The reader has the tunnels of the last packet.
pub record ReadsUnwrapped (p : Packet) (u : Unwrapped) (old new : ArrivalReader)
    (a : Option Arrival) : Type 0 where
  pub tunnels : listed new.tunnels ≡ u.tunnels
  pub reads : ReadsInside p u.inside (record old { tunnels = new.tunnels }) new a

-- A packet is counted, and read behind its tunnels.
abbrev pub Reads : Packet → ArrivalReader → ArrivalReader → Option Arrival → Type 0
Reads p old new a =
    ReadsUnwrapped p (unwrapped p.link_type p.bytes)
    (record old { counts = with_packet_counted old.counts }) new a
