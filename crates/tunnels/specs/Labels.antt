-- MPLS labels (RFC 3032) and the tags of provider backbones (IEEE 802.1Q, section 9.7).
use Rattle.std.specs.Prelude.{ℕ, ◌/◌, ◌%◌, ◌^◌, ◌==◌, Some, if◌then◌else◌}
use Rattle.layouts.specs.Layout.{Layout, number, list, look, test, ◌>>=◌, ◌>>◌}
use Rattle.layouts.specs.declared.result.ErrorKind.TheVariants.{Tag}
use Rattle.tunnels.specs.Tunnel.{Header, ETHERNET, carrying, skipped_if, type_of_version, tunnel_of}
use Rattle.tunnels.specs.declared.tunnel.TunnelKind.TheVariants.{Mpls, Backbone}

-- A label with another behind it: label (20 bits), traffic class (3), bottom of stack (1), time to
-- live (8) (RFC 3032, section 2.1).
unfoldable pub upper_label : Layout Unit
upper_label = do
  entry ← number 4
  test (entry / 256 % 2 == 0) Tag

-- The EtherType of what follows the labels, by its first 4 bits: an IP version, or 0 for a control
-- word, which a frame follows (RFC 4385, section 3; RFC 4448, section 4.6). It is 0 for an unknown
-- one.
abbrev pub type_behind_labels : ℕ → ℕ
type_behind_labels half = if half == 0 then ETHERNET else type_of_version half

-- Any number of labels, and the last.
unfoldable pub mpls : Layout Header
mpls = do
  list upper_label
  entry ← number 4
  first ← look (number 1)
  skipped_if (first / 16 == 0) 4
  carrying (tunnel_of Mpls (Some (entry / 4096))) (type_behind_labels (first / 16))

-- An I-TAG behind its type: priority and others (8 bits), service (24 bits); and the customer's
-- frame.
unfoldable pub backbone : Layout Header
backbone = do
  control ← number 4
  carrying (tunnel_of Backbone (Some (control % 2 ^ 24))) ETHERNET
