-- Tunnels and the headers that begin them.
use Rattle.std.specs.Prelude.{ℕ, ◌+◌, ◌*◌, ◌/◌, ◌^◌, ◌==◌, max, min, List, take, Bool, Option, None, Some, if◌then◌else◌}
use Rattle.layouts.specs.Bytes.{Bytes}
use Rattle.layouts.specs.Layout.{Layout, done, number, block, rest, look, choose, mapped, ◌>>=◌}
use Rattle.capture.specs.Ip.{Address, V4, V6, view_address}
use Rattle.capture.specs.Link.{IPV4, IPV6}
use Rattle.capture.specs.declared.ip.Address.{Address as LentAddress}
use Rattle.tunnels.specs.declared.tunnel.Endpoints.{Endpoints}
use Rattle.tunnels.specs.declared.tunnel.Tunnel.{Tunnel}
use Rattle.tunnels.specs.declared.tunnel.TunnelKind.{TunnelKind}
use Rattle.tunnels.specs.declared.tunnel.TunnelKind.TheVariants.{Ipv4, Ipv6, Gre, Erspan, Mpls, Vxlan, Geneve, GtpU, Teredo, Backbone}
use Rattle.tunnels.specs.declared.tunnel.Tunnels.{Tunnels}
use Rattle.tunnels.specs.declared.tunnel.Header.{Header as LentHeader}

-- The EtherType of an Ethernet frame inside another header (Transparent Ethernet Bridging; RFC
-- 1701, section 1).
abbrev pub ETHERNET : ℕ
ETHERNET = 0x6558

-- An address as one number. An IPv4 address is ::ffff:a.b.c.d (RFC 4291, section 2.5.5.2).
abbrev pub address_number : Address → ℕ
address_number (V4 n) = 0xffff00000000 + n
address_number (V6 upper lower) = upper * 2 ^ 64 + lower

-- The endpoints of a tunnel are the addresses of the datagram that carries it, the lower one first.
abbrev pub endpoints_between : Address → Address → Endpoints
endpoints_between a b = record {
  lower = min (address_number a) (address_number b);
  upper = max (address_number a) (address_number b);
}

-- Those of a tunnel that no datagram carries.
abbrev pub no_endpoints : Endpoints
no_endpoints = record { lower = 0; upper = 0 }

-- A tunnel by its header alone.
abbrev pub tunnel_of : TunnelKind → Option ℕ → Tunnel
tunnel_of kind id = record { kind = kind; id = id; endpoints = no_endpoints }

-- The identifier, if both directions of a conversation have it: the network of VXLAN (RFC 7348,
-- section 4) and of GENEVE (RFC 8926, section 3.4), and a backbone's service (IEEE 802.1Q, section
-- 9.7). The receiver chooses GTP-U's (3GPP TS 29.281, section 5.1) and a label (RFC 3031, section
-- 3.4), the sender GRE's key (RFC 2890, section 2.1) and ERSPAN's session.
abbrev pub shared_id : TunnelKind → Option ℕ → Option ℕ
shared_id Vxlan id = id
shared_id Geneve id = id
shared_id Backbone id = id
shared_id Gre id = None
shared_id Erspan id = None
shared_id Mpls id = None
shared_id GtpU id = None
shared_id Ipv4 id = None
shared_id Ipv6 id = None
shared_id Teredo id = None

-- What both directions of a conversation have in common of a tunnel.
abbrev pub shared : Tunnel → Tunnel
shared t = record t { id = shared_id t.kind t.id }

-- A tunnel header: the tunnel, the payload's EtherType, and the payload.
pub record Header : Type 0 where
  pub tunnel : Tunnel
  pub kind : ℕ
  pub inside : Bytes

-- A header that a datagram between these addresses carries.
abbrev pub carried_between : Address → Address → Header → Header
carried_between a b h =
    record h { tunnel = record h.tunnel { endpoints = endpoints_between a b } }

abbrev pub view_header : LentHeader → Header
view_header h =
    record { tunnel = tunnel_of h.tunnel h.id; kind = h.kind; inside = h.inside.now }

-- The endpoints of a tunnel, by the source and destination of the datagram that carries it, if one
-- does.
abbrev pub endpoints_in : Option (LentAddress × LentAddress) → Endpoints
endpoints_in None = no_endpoints
endpoints_in (Some c) = endpoints_between (view_address c.0) (view_address c.1)

-- A header in this carrier.
abbrev pub view_carried : LentHeader → Option (LentAddress × LentAddress) → Header
view_carried h c = record (view_header h) {
  tunnel = record (tunnel_of h.tunnel h.id) { endpoints = endpoints_in c };
}

-- The tunnels in the list.
abbrev pub listed : Tunnels → List Tunnel
listed t = take t.count t.slots

-- All the rest is the tunnel's payload.
unfoldable pub carrying : Tunnel → ℕ → Layout Header
carrying tunnel kind = do
  inside ← rest
  done (record { tunnel = tunnel; kind = kind; inside = inside })

-- This many bytes, if they are present.
unfoldable pub skipped_if : Bool → ℕ → Layout Unit
skipped_if present n = choose present (mapped (λ _. tt) (block n)) (done tt)

-- The EtherType of an IP version; 0 for an unknown one.
abbrev pub type_of_version : ℕ → ℕ
type_of_version version = if version == 4 then IPV4 else if version == 6 then IPV6 else 0

-- The version is in the upper 4 bits of a datagram's first byte.
unfoldable pub version_type : Layout ℕ
version_type = mapped (λ first. type_of_version (first / 16)) (look (number 1))
