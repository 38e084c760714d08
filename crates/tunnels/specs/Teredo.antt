-- Teredo: IPv6 through NATs, over UDP (RFC 4380).
use Rattle.std.specs.Prelude.{ℕ, ◌+◌, ◌/◌, ◌==◌, None}
use Rattle.layouts.specs.Layout.{Layout, done, number, block, look, test, choose, mapped, ◌>>=◌, ◌>>◌}
use Rattle.layouts.specs.declared.result.ErrorKind.TheVariants.{Verify}
use Rattle.capture.specs.Link.{IPV6}
use Rattle.tunnels.specs.Tunnel.{Header, carrying, skipped_if, tunnel_of}
use Rattle.tunnels.specs.declared.tunnel.TunnelKind.TheVariants.{Teredo}

-- Type 1; the lengths of the client identifier and of the authentication value; these two, a nonce
-- of 8 bytes and a confirmation byte (section 5.1.1).
unfoldable pub authentication : Layout Unit
authentication = do
  block 2
  name ← number 1
  value ← number 1
  mapped (λ _. tt) (block (name + value + 9))

unfoldable pub authentication_if : ℕ → Layout Unit
authentication_if front = choose (front == 1) authentication (done tt)

-- An optional authentication header; an optional origin indication, which is type 0, a port and an
-- address; the datagram.
unfoldable pub teredo : Layout Header
teredo = do
  front ← look (number 2)
  authentication_if front
  behind ← look (number 2)
  skipped_if (behind == 0) 8
  first ← look (number 1)
  test (first / 16 == 6) Verify
  carrying (tunnel_of Teredo None) IPV6
