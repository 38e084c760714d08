-- Tunnel headers, by IP protocol and UDP port.
use Rattle.std.specs.Prelude.{ℕ, ◌==◌, ◌||◌, None}
use Rattle.layouts.specs.Layout.{Layout, refuse, choose}
use Rattle.layouts.specs.declared.result.ErrorKind.TheVariants.{Switch}
use Rattle.capture.specs.Link.{IPV4, IPV6}
use Rattle.tunnels.specs.Tunnel.{Header, carrying, tunnel_of}
use Rattle.tunnels.specs.Gre.{gre}
use Rattle.tunnels.specs.Labels.{mpls}
use Rattle.tunnels.specs.Overlay.{vxlan, geneve}
use Rattle.tunnels.specs.Gtp.{gtp}
use Rattle.tunnels.specs.Teredo.{teredo}
use Rattle.tunnels.specs.declared.tunnel.TunnelKind.TheVariants.{Ipv4, Ipv6}

-- The tunnel header that an IP protocol carries: 4 is IPv4 (RFC 2003), 41 IPv6 (RFC 2473; RFC
-- 4213), 47 GRE (RFC 2784), 137 MPLS (RFC 4023). The first two have no tunnel header.
unfoldable pub by_protocol : ℕ → Layout Header
by_protocol protocol =
    choose (protocol == 4) (carrying (tunnel_of Ipv4 None) IPV4) (
    choose (protocol == 41) (carrying (tunnel_of Ipv6 None) IPV6) (
    choose (protocol == 47) gre (
    choose (protocol == 137) mpls (
    refuse Switch))))

-- The tunnel header that a UDP datagram carries, by source and destination port. Only Teredo may
-- have its port as the source. 8472 is the port of VXLAN in Linux.
unfoldable pub by_ports : ℕ → ℕ → Layout Header
by_ports source destination =
    choose ((destination == 4789) || (destination == 8472)) vxlan (
    choose (destination == 6081) geneve (
    choose (destination == 2152) gtp (
    choose ((source == 3544) || (destination == 3544)) teredo (
    refuse Switch))))
