-- The VLAN tags of a packet and of the frames in its tunnels.
use Rattle.std.specs.Prelude.{ℕ, zero, suc, ◌==◌, List, [], ◌++◌, take, if◌then◌else◌, Ok, Err}
use Rattle.layouts.specs.Bytes.{Bytes}
use Rattle.layouts.specs.Meaning.{Answer}
use Rattle.layouts.specs.Reading.{reading}
use Rattle.capture.specs.Vlan.{link_vlans}
use Rattle.tunnels.specs.Tunnel.{Header, ETHERNET}
use Rattle.tunnels.specs.Walk.{Layer, Wraps, Holds, Unknown, inner_layer, packet_layer}

-- The VLAN identifiers of a tunnel's frame.
abbrev pub frame_vlans : Header → List ℕ
frame_vlans h = if h.kind == ETHERNET then link_vlans 1 h.inside else []

-- The VLAN identifiers of a layer; f finds those behind a tunnel header.
abbrev pub vlans_by : (Header → List ℕ) → Answer Layer → List ℕ
vlans_by f (Ok (Wraps h, r)) = f h
vlans_by f (Ok (Holds d, r)) = []
vlans_by f (Ok (Unknown, r)) = []
vlans_by f (Err e) = []

-- The VLAN identifiers of the frames in at most this many tunnels, outermost first.
unfoldable pub inner_vlans : ℕ → Answer Layer → List ℕ
inner_vlans zero read = []
inner_vlans (suc n) read =
    vlans_by (λ h. frame_vlans h ++ inner_vlans n (reading (inner_layer h.kind) h.inside)) read

-- The VLAN identifiers of a packet of this link type, outermost first: those of its link's tags,
-- and of the frames in its tunnels. The first 16 count.
abbrev pub vlans_of : ℕ → Bytes → List ℕ
vlans_of link_type b =
    take 16 (link_vlans link_type b ++ inner_vlans 8 (reading (packet_layer link_type) b))
