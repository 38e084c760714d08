-- Addresses.
use Rattle.std.specs.Prelude.{Bool}
use Rattle.std.specs.declared.net.ip_addr.IpAddr.{IpAddr}
use Rattle.std.specs.contracts.net.ip_addr.IpAddrPartialEq.TheImpl as address_eq

-- Whether two addresses are equal.
abbrev pub is_address : IpAddr → IpAddr → Bool
is_address = address_eq.ghosts.eq
