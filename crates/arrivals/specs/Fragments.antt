-- Fragments that a reader finds, and the datagrams that they complete.
use Rattle.std.specs.Prelude.{◌≡◌, ◌≤◌, ◌⊎◌, ℕ, Bool, true, false, List, Option, Some, None, Ok, Err, is_some, length}
use Rattle.std.specs.Option.{option_and_then, option_map}
use Rattle.layouts.specs.Meaning.{Answer}
use Rattle.layouts.specs.Reading.{reading}
use Rattle.capture.specs.Fragment.{Fragment, joined, view_fragment}
use Rattle.capture.specs.Ip.{Datagram, view_address}
use Rattle.capture.specs.Vlan.{found_in}
use Rattle.capture.specs.declared.fragment.IpFragment.{IpFragment}
use Rattle.capture.specs.declared.vlan.VlanTags.{VlanTags}
use Rattle.ip_fragments.specs.Table.{Adds, LeavesOut}
use Rattle.ip_fragments.specs.declared.outcome.FragmentOutcome.{FragmentOutcome}
use Rattle.ip_fragments.specs.declared.outcome.FragmentOutcome.TheVariants as outcome
use Rattle.packets.specs.Section.{Packet}
use Rattle.tunnels.specs.Fragments.{fragment_in_datagram, fragment_in_packet, unwrapped_in}
use Rattle.tunnels.specs.declared.tunnel.Tunnels.{Tunnels}
use Rattle.arrivals.specs.Counts.{with_cut, with_refused, with_unread}
use Rattle.arrivals.specs.Reader.{IsNumbered, ReadsUnwrapped, vlans_in}
use Rattle.arrivals.specs.declared.arrival.Arrival.{Arrival}
use Rattle.arrivals.specs.declared.arrival.Checksums.{Checksums}
use Rattle.arrivals.specs.declared.arrival.Checksums.TheVariants as checksums
use Rattle.arrivals.specs.declared.fragments.CompletedDatagram.{CompletedDatagram}
use Rattle.arrivals.specs.declared.reader.ArrivalReader.{ArrivalReader}

-- If checksums don't count, each fragment's header is right.
abbrev pub header_counted : Checksums → IpFragment → IpFragment
header_counted checksums.Ignore f = record f { is_header_right = true }
header_counted checksums.Check f = f
header_counted checksums.Auto f = f

-- A fragment that was found, and the VLANs of its packet.
pub record Found : Type 0 where
  pub fragment : Fragment
  pub vlans : List ℕ

-- These are the fields of a fragment, and the VLANs.
abbrev pub IsFound : Found → IpFragment → VlanTags → Type 0
IsFound x f vlans = (view_fragment f ≡ x.fragment) × (found_in vlans ≡ x.vlans)

-- The datagram that a fragment completed, if it did, with the fragment's time, VLANs and tunnels.
abbrev pub completed : ℕ → VlanTags → Tunnels → FragmentOutcome → Option CompletedDatagram
completed time vlans tunnels (outcome.Whole d) =
    Some (record { whole = d; time = time; vlans = vlans; tunnels = tunnels })
completed time vlans tunnels outcome.Waits = None
completed time vlans tunnels (outcome.Refused r) = None

-- The number of a fragment's network, by the tunnels around it.
abbrev pub IsNumberedIn : VlanTags → ArrivalReader → ArrivalReader → ℕ → Type 0
IsNumberedIn vlans old new n =
    IsNumbered (found_in vlans) old.tunnels old.counts_vlans old.networks new.networks n

-- A fragment is added to its datagram in its network. A refused one is counted.
pub record JoinsOne (time : ℕ) (vlans : VlanTags) (f : IpFragment) (old new : ArrivalReader)
    (whole : Option CompletedDatagram) : Type 0 where
  pub network : ℕ
  pub number : IsNumberedIn vlans old new network
  pub outcome : FragmentOutcome
  pub adds : Adds time network (header_counted old.checksums f) outcome old.fragments new.fragments
  pub is : whole ≡ completed time vlans old.tunnels outcome
  pub same : new ≡ record old {
    fragments = new.fragments;
    networks = new.networks;
    counts = with_refused outcome old.counts;
  }

-- A fragment for which there is no memory is dropped.
pub record LeavesOutNumbered (time : ℕ) (vlans : VlanTags) (f : IpFragment)
    (old new : ArrivalReader) : Type 0 where
  pub network : ℕ
  pub number : IsNumberedIn vlans old new network
  pub leaves : LeavesOut time network (header_counted old.checksums f) old.fragments new.fragments
  pub same : new ≡ record old { fragments = new.fragments; networks = new.networks }

-- If networks are told apart, there may be none for its network either.
abbrev pub LeavesOutOne : ℕ → VlanTags → IpFragment → ArrivalReader → ArrivalReader → Type 0
LeavesOutOne time vlans f old new =
    ((is_some old.networks ≡ true) × (new ≡ old)) ⊎ LeavesOutNumbered time vlans f old new

-- The fragment that was found is joined. Without one the packet counts as malformed.
abbrev pub JoinsFound : ℕ → Option Found → ArrivalReader → ArrivalReader
    → Option CompletedDatagram → Type 0
JoinsFound time None old new whole =
    (whole ≡ None) × (new ≡ record old { counts = with_unread old.counts })
JoinsFound time (Some x) old new whole =
    (f : IpFragment) × (vlans : VlanTags) × IsFound x f vlans
    × JoinsOne time vlans f old new whole

-- The last packet's fragment is joined, if it had one. `is_cut` is false afterwards.
abbrev pub Joins : Bool → ℕ → Option Found → ArrivalReader → ArrivalReader
    → Option CompletedDatagram → Type 0
Joins false time found old new whole = (whole ≡ None) × (new ≡ record old { is_cut = false })
Joins true time found old new whole =
    JoinsFound time found (record old { is_cut = false }) new whole

abbrev pub LeavesOutFound : ℕ → Option Found → ArrivalReader → ArrivalReader → Type 0
LeavesOutFound time None old new = ⊥
LeavesOutFound time (Some x) old new =
    (f : IpFragment) × (vlans : VlanTags) × IsFound x f vlans
    × LeavesOutOne time vlans f (record old { is_cut = false }) new

-- A reassembled datagram; none if its content is malformed.
abbrev pub datagram_by : Answer Datagram → Option Datagram
datagram_by (Ok x) = Some x.0
datagram_by (Err e) = None

abbrev pub datagram_of : CompletedDatagram → Option Datagram
datagram_of c = datagram_by (reading
    (joined (view_address c.whole.source) (view_address c.whole.destination) c.whole.protocol
    c.whole.is_header_right) c.whole.payload.items)

-- The fragment in a packet, and in a reassembled datagram.
abbrev pub with_vlans : List ℕ → Fragment → Found
with_vlans vlans f = record { fragment = f; vlans = vlans }

abbrev pub fragment_in : Packet → Option Found
fragment_in p = option_map (with_vlans (vlans_in p)) (fragment_in_packet p.link_type p.bytes)

abbrev pub inner_fragment : CompletedDatagram → Option Fragment
inner_fragment c = option_and_then (fragment_in_datagram c.tunnels) (datagram_of c)

abbrev pub fragment_inside : CompletedDatagram → Option Found
fragment_inside c = option_map (with_vlans (found_in c.vlans)) (inner_fragment c)

-- What a reassembled datagram brings, which is read behind its tunnels. At most 8 tunnels are
-- followed.
abbrev pub ReadsWhole : Packet → Tunnels → Option Datagram → ArrivalReader → ArrivalReader
    → Option Arrival → Type 0
ReadsWhole p tunnels None old new a =
    (a ≡ None) × (new ≡ record old { counts = with_unread old.counts })
ReadsWhole p tunnels (Some d) old new a =
    tunnels.count ≤ 8 → ReadsUnwrapped p (unwrapped_in tunnels d) old new a

-- Datagrams that were dropped, and those that are still in reassembly, are counted.
abbrev pub counting_cut : ArrivalReader → ArrivalReader
counting_cut r = record r {
  counts = with_cut r.fragments.late r.fragments.evicted (length r.fragments.waiting) r.counts;
}
