-- Generic Routing Encapsulation (RFC 2784; RFC 2890), and ERSPAN, in which switches send copies of
-- frames (draft-foschiano-erspan).
use Rattle.std.specs.Prelude.{ℕ, ◌/◌, ◌%◌, ◌==◌, ◌&&◌, Bool, Option, Some, None, if◌then◌else◌}
use Rattle.layouts.specs.Layout.{Layout, done, number, block, test, choose, mapped, ◌>>=◌, ◌>>◌}
use Rattle.layouts.specs.declared.result.ErrorKind.TheVariants.{Verify}
use Rattle.tunnels.specs.Tunnel.{Header, ETHERNET, carrying, skipped_if, version_type, tunnel_of}
use Rattle.tunnels.specs.declared.tunnel.Tunnel.{Tunnel}
use Rattle.tunnels.specs.declared.tunnel.TunnelKind.TheVariants.{Gre, Erspan}

abbrev pub has_checksum : ℕ → Bool
has_checksum flags = flags / 0x8000 == 1

abbrev pub has_key : ℕ → Bool
has_key flags = flags / 0x2000 % 2 == 1

abbrev pub has_sequence : ℕ → Bool
has_sequence flags = flags / 0x1000 % 2 == 1

-- Version 0, and of the bits 1 to 5 only those of RFC 2890 (RFC 2784, section 2.3).
abbrev pub is_plain : ℕ → Bool
is_plain flags = (flags % 8 == 0) && ((flags / 0x4000 % 2 == 0) && (flags / 0x400 % 4 == 0))

unfoldable pub key_if : Bool → Layout (Option ℕ)
key_if present = choose present (mapped Some (number 4)) (done None)

abbrev pub erspan_tunnel : Option ℕ → Tunnel
erspan_tunnel id = tunnel_of Erspan id

-- Type II (section 4.2): version 1 and VLAN; class of service, encapsulation, truncated, session
-- (10 bits); port.
unfoldable pub erspan2 : Layout Header
erspan2 = do
  front ← number 2
  test (front / 4096 == 1) Verify
  session ← number 2
  block 4
  carrying (erspan_tunnel (Some (session % 1024))) ETHERNET

-- A GRE header without a sequence number has a type I frame behind it, and one with it a type II
-- header (section 4.1).
unfoldable pub erspan : Bool → Layout Header
erspan is_numbered = choose is_numbered erspan2 (carrying (erspan_tunnel None) ETHERNET)

-- The EtherType of a copy, by its frame type: 0 is an Ethernet frame, 2 an IP datagram.
unfoldable pub copied : ℕ → Layout ℕ
copied frame_type =
    choose (frame_type == 2) version_type (done (if frame_type == 0 then ETHERNET else 0))

-- Type III (section 4.3): version 2 and VLAN; class of service, encapsulation, truncated, session;
-- time, group tag; frame type (5 bits, after the first). The last bit is set if 8 bytes more
-- follow.
unfoldable pub erspan3 : Layout Header
erspan3 = do
  front ← number 2
  test (front / 4096 == 2) Verify
  session ← number 2
  block 6
  last ← number 2
  skipped_if (last % 2 == 1) 8
  kind ← copied (last / 1024 % 32)
  carrying (erspan_tunnel (Some (session % 1024))) kind

-- What follows the GRE header, by its protocol.
unfoldable pub gre_payload : ℕ → Bool → Option ℕ → Layout Header
gre_payload protocol is_numbered key =
    choose (protocol == 0x88be) (erspan is_numbered) (
    choose (protocol == 0x22eb) erspan3 (
    carrying (tunnel_of Gre key) protocol))

-- Flags and version; protocol, an EtherType; checksum, key and sequence number, each if its flag is
-- set.
unfoldable pub gre : Layout Header
gre = do
  flags ← number 2
  test (is_plain flags) Verify
  protocol ← number 2
  skipped_if (has_checksum flags) 4
  key ← key_if (has_key flags)
  skipped_if (has_sequence flags) 4
  gre_payload protocol (has_sequence flags) key
