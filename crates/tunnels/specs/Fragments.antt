-- Fragments inside tunnels, and the content of reassembled datagrams.
use Rattle.std.specs.Prelude.{ℕ, zero, suc, ◌-◌, ◌==◌, Option, Some, None, [], Ok, Err}
use Rattle.layouts.specs.Bytes.{Bytes}
use Rattle.layouts.specs.Layout.{Layout, refuse, choose, ◌>>=◌}
use Rattle.layouts.specs.Meaning.{Answer}
use Rattle.layouts.specs.Reading.{reading}
use Rattle.layouts.specs.declared.result.ErrorKind.TheVariants.{Switch}
use Rattle.capture.specs.Fragment.{Fragment, fragment_v4, fragment_v6}
use Rattle.capture.specs.Ip.{Datagram}
use Rattle.capture.specs.Link.{IPV4, IPV6, carried}
use Rattle.tunnels.specs.Tunnel.{Header, ETHERNET, listed}
use Rattle.tunnels.specs.Walk.{Layer, Wraps, Holds, Unknown, Unwrapped, datagram_layer, followed, inner_layer, packet_layer}
use Rattle.tunnels.specs.declared.tunnel.Tunnels.{Tunnels}

-- A fragment of this EtherType.
unfoldable pub fragment_of_type : ℕ → Layout Fragment
fragment_of_type kind =
    choose (kind == IPV4) fragment_v4 (choose (kind == IPV6) fragment_v6 (refuse Switch))

-- The fragment in a packet of this link type.
unfoldable pub packet_fragment : ℕ → Layout Fragment
packet_fragment link_type = carried link_type >>= fragment_of_type

-- The fragment in a tunnel that carries this EtherType.
unfoldable pub inner_fragment : ℕ → Layout Fragment
inner_fragment kind = choose (kind == ETHERNET) (packet_fragment 1) (fragment_of_type kind)

-- The fragment behind a tunnel header, which f finds.
abbrev pub behind_layer : (Header → Option Fragment) → Layer → Option Fragment
behind_layer f (Wraps h) = f h
behind_layer f (Holds d) = None
behind_layer f Unknown = None

abbrev pub behind : (Header → Option Fragment) → Answer Layer → Option Fragment
behind f (Ok x) = behind_layer f x.0
behind f (Err e) = None

-- The fragment at the front, or else behind at most this many tunnels.
unfoldable pub found : ℕ → Answer Fragment → Answer Layer → Option Fragment
found n (Ok x) read = Some x.0
found zero (Err e) read = None
found (suc n) (Err e) read =
    behind (λ h. found n (reading (inner_fragment h.kind) h.inside)
    (reading (inner_layer h.kind) h.inside)) read

-- The fragment in a packet of this link type, behind at most 8 tunnels.
abbrev pub fragment_in_packet : ℕ → Bytes → Option Fragment
fragment_in_packet link_type b =
    found 8 (reading (packet_fragment link_type) b) (reading (packet_layer link_type) b)

-- What a reassembled datagram holds, which came in these tunnels. At most 8 are followed in all.
abbrev pub unwrapped_in : Tunnels → Datagram → Unwrapped
unwrapped_in t d = followed (8 - t.count) (listed t) (Ok (datagram_layer d, []))

-- The fragment behind a tunnel in a reassembled datagram.
abbrev pub fragment_in_datagram : Tunnels → Datagram → Option Fragment
fragment_in_datagram t d = behind
    (λ h. found (7 - t.count) (reading (inner_fragment h.kind) h.inside)
    (reading (inner_layer h.kind) h.inside)) (Ok (datagram_layer d, []))
