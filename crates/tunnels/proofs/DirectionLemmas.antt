-- A tunnel is the same in both directions.
use Rattle.std.proofs.Common.{◌≡◌, ap₂}
use Rattle.std.proofs.Math.Nat.{max_comm, min_comm}
use Rattle.capture.specs.Ip.{Address}
use Rattle.tunnels.specs.Tunnel.{Header, address_number, carried_between}

pub either_way : (a b : Address) (h : Header) → carried_between a b h ≡ carried_between b a h
either_way a b h =
    ap₂ (λ x y. record h {
      tunnel = record h.tunnel { endpoints = record { lower = x; upper = y } };
    })
    (min_comm (address_number a) (address_number b))
    (max_comm (address_number a) (address_number b))
