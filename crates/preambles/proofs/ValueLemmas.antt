-- What values hold has no influence.
use Rattle.std.proofs.Common.{ℕ, Bool, true, false, ap, refl}
use Rattle.preambles.specs.Rows.{next, packet_next}
use Rattle.preambles.specs.Tunnels.{login_next, proxy_next, socks4_next, socks5_next}
use Rattle.preambles.specs.Values.{IsBlind, SeesCommandsAlone}
use Rattle.preambles.specs.declared.phase.Dialect.{Dialect}
use Rattle.preambles.specs.declared.phase.LoginPhase.TheVariants as login
use Rattle.preambles.specs.declared.phase.Phase.TheVariants.{Command, Login, Proxy, Reply, Socks4, Socks5, Value}
use Rattle.preambles.specs.declared.phase.ProxyPhase.TheVariants as proxy
use Rattle.preambles.specs.declared.phase.Socks4Phase.TheVariants as socks4
use Rattle.preambles.specs.declared.phase.Socks5Phase.TheVariants as socks5

pub value_blind : (d : Dialect) → IsBlind (Value d)
unfolding next
value_blind d b c = refl

pub command_alone : (d : Dialect) → SeesCommandsAlone (Command d)
unfolding next
command_alone d b c same = ap (Reply d) same

pub name_blind : (n : ℕ) → IsBlind (Login (login.Name n))
unfolding next packet_next login_next
name_blind n b c = refl

pub password_blind : (n : ℕ) → IsBlind (Login (login.Password n))
unfolding next packet_next login_next
password_blind n b c = refl

pub user_blind : (is_4a : Bool) → IsBlind (Socks4 (socks4.User is_4a))
unfolding next packet_next socks4_next
user_blind true b c = refl
user_blind false b c = refl

pub host_blind : IsBlind (Socks4 socks4.Host)
unfolding next packet_next socks4_next
host_blind b c = refl

pub address_blind : (n : ℕ) → IsBlind (Socks5 (socks5.Address n))
unfolding next packet_next socks5_next
address_blind n b c = refl

pub addresses_blind : (n : ℕ) → IsBlind (Proxy (proxy.Addresses n))
unfolding next packet_next proxy_next
addresses_blind n b c = refl
