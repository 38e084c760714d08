-- Overlay networks over UDP: VXLAN (RFC 7348), GENEVE (RFC 8926).
use Rattle.std.specs.Prelude.{ℕ, ◌+◌, ◌*◌, ◌==◌, ◌||◌, nat_le, Bool, Some}
use Rattle.layouts.specs.Layout.{Layout, done, number, block, test, ◌>>=◌, ◌>>◌}
use Rattle.layouts.specs.declared.result.ErrorKind.TheVariants.{Verify}
use Rattle.capture.specs.Link.{IPV4, IPV6}
use Rattle.tunnels.specs.Tunnel.{Header, ETHERNET, carrying, tunnel_of}
use Rattle.tunnels.specs.declared.tunnel.TunnelKind.TheVariants.{Vxlan, Geneve}

-- The flags: I is set (RFC 7348, section 5), and G may be, for a group in the next 3 bytes
-- (draft-smith-vxlan-group-policy). With other flags Linux drops the packet. Then network (24 bits)
-- and a reserved byte.
unfoldable pub vxlan : Layout Header
vxlan = do
  flags ← number 1
  test ((flags == 0x08) || (flags == 0x88)) Verify
  block 3
  network ← number 3
  block 1
  carrying (tunnel_of Vxlan (Some network)) ETHERNET

abbrev pub is_overlaid : ℕ → Bool
is_overlaid kind = (kind == ETHERNET) || ((kind == IPV4) || (kind == IPV6))

-- Version 0, and the length of the options in words of 4 bytes; the flags O and C, and reserved
-- ones, which are ignored; the payload's EtherType (RFC 8926, section 3.4). The value is the length
-- and the EtherType.
unfoldable pub geneve_front : Layout (ℕ × ℕ)
geneve_front = do
  words ← number 1
  test (nat_le words 63) Verify
  block 1
  kind ← number 2
  test (is_overlaid kind) Verify
  done (words, kind)

-- The front of the header, network (24 bits), reserved, options.
unfoldable pub geneve : Layout Header
geneve = do
  front ← geneve_front
  network ← number 3
  block (front.0 * 4 + 1)
  carrying (tunnel_of Geneve (Some network)) front.1
