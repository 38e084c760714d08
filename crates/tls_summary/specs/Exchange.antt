-- The group in a ServerKeyExchange, or the length of its prime.
use Rattle.std.specs.Prelude.{ℕ, ◌+◌, ◌-◌, ◌*◌, ◌^◌, ◌==◌, nat_lt, Bool, true, false, if◌then◌else◌, List, [], ◌∷◌, length, Option, Some, None, Ok, Err}
use Rattle.layouts.specs.Bytes.{Bytes}
use Rattle.layouts.specs.Layout.{Layout, counted, ◌>>=◌}
use Rattle.layouts.specs.Meaning.{Answer}
use Rattle.layouts.specs.Reading.{reading}
use Rattle.tls_key_exchange.specs.KeyExchange as exchange
use Rattle.tls_base.specs.SuiteExchange.{is_over_curves, key_exchange}
use Rattle.tls_base.specs.declared.suite_exchange.KeyExchange.{KeyExchange}
use Rattle.tls_base.specs.declared.suite_exchange.Public.{Public}
use Rattle.tls_base.specs.declared.suite_exchange.Public.TheVariants.{Dh}

-- opaque psk_identity_hint<0..2^16-1>; then the parameters.
unfoldable pub hinted_parameters : Layout exchange.ECParameters
hinted_parameters = do
  hint ← counted 2
  exchange.ec_parameters

abbrev pub number_of : exchange.CurveParameters → Option ℕ
number_of (exchange.OfNamedCurve n) = Some n
number_of (exchange.OfExplicitPrime c) = None

abbrev pub named : Answer exchange.ECParameters → Option ℕ
named (Ok x) = number_of x.0.parameters
named (Err e) = None

-- The curve of a key exchange over curves. With a pre-shared key a hint precedes the parameters
-- (RFC 5489, section 2). Any other key exchange keeps the known curve.
abbrev pub curve_with : Option KeyExchange → Bytes → Option ℕ → Option ℕ
curve_with (Some k) b known =
    if is_over_curves k
    then (if k.has_identity then
    named (reading hinted_parameters b) else named (reading exchange.ec_parameters b))
    else known
curve_with None b known = known

-- The curve in a ServerKeyExchange of the chosen suite; the known one if the suite's key exchange
-- has no curve.
abbrev pub curve_by : ℕ → Bytes → Option ℕ → Option ℕ
curve_by suite b known = curve_with (key_exchange suite) b known

-- The key exchange has the parameters of finite-field Diffie-Hellman (RFC 5246, section 7.4.3).
abbrev pub is_over_primes_by : Public → Bool
is_over_primes_by Dh = true
is_over_primes_by _ = false

-- opaque psk_identity_hint<0..2^16-1>; ServerDHParams params (RFC 4279, section 3).
unfoldable pub hinted_primes : Layout exchange.ServerDHParams
hinted_primes = do
  hint ← counted 2
  exchange.dh_params

-- The length of a byte above 0 without its leading zeros, in bits.
abbrev pub byte_bits : ℕ → ℕ
byte_bits n =
    if nat_lt n 2 then 1
    else if nat_lt n 4 then 2
    else if nat_lt n 8 then 3
    else if nat_lt n 16 then 4
    else if nat_lt n 32 then 5
    else if nat_lt n 64 then 6
    else if nat_lt n 128 then 7
    else 8

-- That of a number, big-endian, without its leading zeros. Lengths above 2^28 bytes saturate.
abbrev pub bits_behind : ℕ → Bytes → ℕ
bits_behind n b =
    if nat_lt (length b) 0x10000000 then length b * 8 + byte_bits n else 2 ^ 32 - 1

abbrev pub bits_of : Bytes → ℕ
bits_of [] = 0
bits_of (n ∷ b) = if n == 0 then bits_of b else bits_behind n b

-- The length of dh_p, the prime, in bits.
abbrev pub prime_bits : Answer exchange.ServerDHParams → Option ℕ
prime_bits (Ok x) = Some (bits_of x.0.dh_p)
prime_bits (Err e) = None

abbrev pub prime_bits_with : Option KeyExchange → Bytes → Option ℕ → Option ℕ
prime_bits_with (Some k) b known =
    if is_over_primes_by k.public
    then (if k.has_identity then
    prime_bits (reading hinted_primes b) else prime_bits (reading exchange.dh_params b))
    else known
prime_bits_with None b known = known

-- The length of the prime in a ServerKeyExchange of the chosen suite; the known one if the suite's
-- key exchange has no prime.
abbrev pub prime_bits_by : ℕ → Bytes → Option ℕ → Option ℕ
prime_bits_by suite b known = prime_bits_with (key_exchange suite) b known
