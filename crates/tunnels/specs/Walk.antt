-- The walk from a packet's link header to its innermost datagram.
use Rattle.std.specs.Prelude.{◌≡◌, ℕ, zero, suc, ◌==◌, ◌||◌, List, [], ◌∷◌, ◌++◌, Some, Ok, Err}
use Rattle.layouts.specs.Bytes.{Bytes}
use Rattle.layouts.specs.Layout.{Layout, done, choose, mapped, ◌>>=◌}
use Rattle.layouts.specs.Meaning.{Answer}
use Rattle.layouts.specs.Reading.{reading}
use Rattle.capture.specs.Transport.{Content, Tcp, Udp, Fragment, Other as OtherContent}
use Rattle.capture.specs.Ip.{Datagram, ipv4, ipv6, view_datagram}
use Rattle.capture.specs.Link.{IPV4, IPV6, carried, packet}
use Rattle.tunnels.specs.Tunnel.{Header, ETHERNET, carried_between, listed, view_carried}
use Rattle.tunnels.specs.Labels.{mpls, backbone}
use Rattle.tunnels.specs.Carriers.{by_ports, by_protocol}
use Rattle.tunnels.specs.declared.tunnel.Tunnel.{Tunnel}
use Rattle.tunnels.specs.declared.walk.Layer.{Layer as LentLayer}
use Rattle.tunnels.specs.declared.walk.Layer.TheVariants as layer
use Rattle.tunnels.specs.declared.walk.Inside.{Inside as LentInside}
use Rattle.tunnels.specs.declared.walk.Inside.TheVariants as inside
use Rattle.tunnels.specs.declared.walk.Unwrapped.{Unwrapped as LentUnwrapped}

-- One layer of a packet.
pub data Layer : Type 0 where
  -- a tunnel header
  Wraps : Header → Layer
  -- a datagram without a tunnel header in it
  Holds : Datagram → Layer
  -- another protocol
  Unknown : Layer

abbrev pub view_layer : LentLayer → Layer
view_layer (layer.Wraps h c) = Wraps (view_carried h c)
view_layer (layer.Holds d) = Holds (view_datagram d)
view_layer layer.Unknown = Unknown

-- The tunnel header parsed in a datagram, whose addresses are the tunnel's endpoints, or the
-- datagram if there is none.
abbrev pub wrapped_or : Datagram → Answer Header → Layer
wrapped_or d (Ok x) = Wraps (carried_between d.source d.destination x.0)
wrapped_or d (Err e) = Holds d

abbrev pub content_layer : Datagram → Content → Layer
content_layer d (Udp u) = wrapped_or d (reading (by_ports u.source u.destination) u.payload)
content_layer d (OtherContent protocol payload) =
    wrapped_or d (reading (by_protocol protocol) payload)
content_layer d (Tcp s) = Holds d
content_layer d Fragment = Holds d

-- A payload that only looks like a tunnel, by its ports or protocol, is treated as an ordinary
-- datagram.
abbrev pub datagram_layer : Datagram → Layer
datagram_layer d = content_layer d d.content

-- One layer, by its EtherType: 0x8847 and 0x8848 are MPLS (RFC 3032, section 5), 0x88e7 is an I-TAG
-- (IEEE 802.1Q, table 9-1).
unfoldable pub layer_of_type : ℕ → Layout Layer
layer_of_type kind =
    choose (kind == IPV4) (mapped datagram_layer ipv4) (
    choose (kind == IPV6) (mapped datagram_layer ipv6) (
    choose ((kind == 0x8847) || (kind == 0x8848)) (mapped Wraps mpls) (
    choose (kind == 0x88e7) (mapped Wraps backbone) (
    done Unknown))))

-- The first layer of a packet of this link type; 1 is Ethernet.
unfoldable pub packet_layer : ℕ → Layout Layer
packet_layer link_type = carried link_type >>= layer_of_type

-- The layer in a tunnel that carries this EtherType.
unfoldable pub inner_layer : ℕ → Layout Layer
inner_layer kind = choose (kind == ETHERNET) (packet_layer 1) (layer_of_type kind)

-- What a packet holds behind all headers.
pub data Inside : Type 0 where
  -- the innermost datagram
  Held : Datagram → Inside
  -- another protocol
  Other : Inside
  -- truncated, or a header breaks a rule
  Unread : Inside
  -- more tunnels than are followed
  Deeper : Inside

abbrev pub view_inside : LentInside → Inside
view_inside (inside.Datagram d) = Held (view_datagram d)
view_inside inside.Other = Other
view_inside inside.Unread = Unread
view_inside inside.Deeper = Deeper

-- A packet's tunnels, outermost first, and its content.
pub record Unwrapped : Type 0 where
  pub tunnels : List Tunnel
  pub inside : Inside

abbrev pub view_unwrapped : LentUnwrapped → Unwrapped
view_unwrapped u = record { tunnels = listed u.tunnels; inside = view_inside u.inside }

-- The content behind these tunnels, by the next layer. f goes on behind a tunnel header.
abbrev pub by_layer : (Header → Unwrapped) → List Tunnel → Layer → Unwrapped
by_layer f found (Wraps h) = f h
by_layer f found (Holds d) = record { tunnels = found; inside = Held d }
by_layer f found Unknown = record { tunnels = found; inside = Other }

abbrev pub by_answer : (Header → Unwrapped) → List Tunnel → Answer Layer → Unwrapped
by_answer f found (Ok x) = by_layer f found x.0
by_answer f found (Err e) = record { tunnels = found; inside = Unread }

-- The content behind these tunnels, through at most this many more.
unfoldable pub followed : ℕ → List Tunnel → Answer Layer → Unwrapped
followed zero found read = by_answer (λ h. record { tunnels = found; inside = Deeper }) found read
followed (suc n) found read =
    by_answer (λ h. followed n (found ++ h.tunnel ∷ []) (reading (inner_layer h.kind) h.inside))
    found read

-- A packet of this link type, through at most 8 tunnels.
abbrev pub unwrapped : ℕ → Bytes → Unwrapped
unwrapped link_type b = followed 8 [] (reading (packet_layer link_type) b)

-- If a packet's datagram is found outside all tunnels, parsing the packet without following tunnels
-- returns the same datagram.
abbrev pub IsReadAlone : ℕ → Bytes → Datagram → Type 0
IsReadAlone link_type b d =
    unwrapped link_type b ≡ record { tunnels = []; inside = Held d }
    → (r : Bytes) × (reading (packet link_type) b ≡ Ok (Some d, r))
