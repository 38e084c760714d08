-- Key exchanges of cipher suites, as far as they decide the form of the key exchange messages. Each
-- key exchange has ranges of numbers in the registry of TLS Cipher Suites, from first to last. The
-- code has the ranges a second time.
use Rattle.std.specs.Prelude.{ℕ, Bool, true, false, List, [], ◌∷◌, Option, Some, None, nat_le, ◌&&◌, if◌then◌else◌}
use Rattle.std.specs.List.{list_any}
use Rattle.tls_base.specs.declared.suite_exchange.KeyExchange.{KeyExchange}
use Rattle.tls_base.specs.declared.suite_exchange.Public.{Public}
use Rattle.tls_base.specs.declared.suite_exchange.Public.TheVariants.{Nothing, Rsa, Dh, Ecdh}

abbrev pub unsigned : Bool → Public → KeyExchange
unsigned has_identity public =
    record { has_identity = has_identity; public = public; is_signed = false }

abbrev pub signed : Public → KeyExchange
signed public = record { has_identity = false; public = public; is_signed = true }

abbrev pub is_in : List (ℕ × ℕ) → ℕ → Bool
is_in ranges n = list_any (λ r. nat_le r.0 n && nat_le n r.1) ranges

-- RSA (RFC 5246, section 7.4.7.1), including export suites.
abbrev pub rsa : List (ℕ × ℕ)
rsa =
    (0x0001, 0x000a) ∷ (0x002f, 0x002f) ∷ (0x0035, 0x0035) ∷ (0x003b, 0x003d) ∷ (0x0041, 0x0041)
    ∷ (0x0084, 0x0084) ∷
    (0x0096, 0x0096) ∷ (0x009c, 0x009d) ∷ (0x00ba, 0x00ba) ∷ (0x00c0, 0x00c0) ∷ (0xc03c, 0xc03d)
    ∷ (0xc050, 0xc051) ∷
    (0xc07a, 0xc07b) ∷ (0xc09c, 0xc09d) ∷ (0xc0a0, 0xc0a1) ∷ []

-- Diffie-Hellman with a certificate (RFC 5246, section 7.4.3): DHE, and fixed keys.
abbrev pub dh : List (ℕ × ℕ)
dh =
    (0x000b, 0x0016) ∷ (0x0030, 0x0033) ∷ (0x0036, 0x0039) ∷ (0x003e, 0x0040) ∷ (0x0042, 0x0045)
    ∷ (0x0067, 0x006b) ∷
    (0x0085, 0x0088) ∷ (0x0097, 0x009a) ∷ (0x009e, 0x00a5) ∷ (0x00bb, 0x00be) ∷ (0x00c1, 0x00c4)
    ∷ (0xc03e, 0xc045) ∷
    (0xc052, 0xc059) ∷ (0xc07c, 0xc083) ∷ (0xc09e, 0xc09f) ∷ (0xc0a2, 0xc0a3)
    ∷ (0xccaa, 0xccaa) ∷ []

-- Diffie-Hellman without a certificate.
abbrev pub anonymous_dh : List (ℕ × ℕ)
anonymous_dh =
    (0x0017, 0x001b) ∷ (0x0034, 0x0034) ∷ (0x003a, 0x003a) ∷ (0x0046, 0x0046) ∷ (0x006c, 0x006d)
    ∷ (0x0089, 0x0089) ∷
    (0x009b, 0x009b) ∷ (0x00a6, 0x00a7) ∷ (0x00bf, 0x00bf) ∷ (0x00c5, 0x00c5) ∷ (0xc046, 0xc047)
    ∷ (0xc05a, 0xc05b) ∷
    (0xc084, 0xc085) ∷ []

-- Elliptic-curve Diffie-Hellman with a certificate (RFC 8422, section 2): ECDHE, and fixed keys.
abbrev pub ecdh : List (ℕ × ℕ)
ecdh =
    (0xc001, 0xc014) ∷ (0xc023, 0xc032) ∷ (0xc048, 0xc04f) ∷ (0xc05c, 0xc063) ∷ (0xc072, 0xc079)
    ∷ (0xc086, 0xc08d) ∷
    (0xc0ac, 0xc0af) ∷ (0xcca8, 0xcca9) ∷ []

-- Elliptic-curve Diffie-Hellman without a certificate.
abbrev pub anonymous_ecdh : List (ℕ × ℕ)
anonymous_ecdh =
    (0xc015, 0xc019) ∷ []

-- A pre-shared key (RFC 4279, section 2).
abbrev pub known_key : List (ℕ × ℕ)
known_key =
    (0x002c, 0x002c) ∷ (0x008a, 0x008d) ∷ (0x00a8, 0x00a9) ∷ (0x00ae, 0x00b1) ∷ (0xc064, 0xc065)
    ∷ (0xc06a, 0xc06b) ∷
    (0xc08e, 0xc08f) ∷ (0xc094, 0xc095) ∷ (0xc0a4, 0xc0a5) ∷ (0xc0a8, 0xc0a9)
    ∷ (0xccab, 0xccab) ∷ []

-- A pre-shared key with Diffie-Hellman (RFC 4279, section 3).
abbrev pub known_key_with_dh : List (ℕ × ℕ)
known_key_with_dh =
    (0x002d, 0x002d) ∷ (0x008e, 0x0091) ∷ (0x00aa, 0x00ab) ∷ (0x00b2, 0x00b5) ∷ (0xc066, 0xc067)
    ∷ (0xc06c, 0xc06d) ∷
    (0xc090, 0xc091) ∷ (0xc096, 0xc097) ∷ (0xc0a6, 0xc0a7) ∷ (0xc0aa, 0xc0ab)
    ∷ (0xccad, 0xccad) ∷ []

-- A pre-shared key with elliptic-curve Diffie-Hellman (RFC 5489).
abbrev pub known_key_with_ecdh : List (ℕ × ℕ)
known_key_with_ecdh =
    (0xc033, 0xc03b) ∷ (0xc070, 0xc071) ∷ (0xc09a, 0xc09b) ∷ (0xccac, 0xccac)
    ∷ (0xd001, 0xd005) ∷ []

-- A pre-shared key with RSA (RFC 4279, section 4).
abbrev pub known_key_with_rsa : List (ℕ × ℕ)
known_key_with_rsa =
    (0x002e, 0x002e) ∷ (0x0092, 0x0095) ∷ (0x00ac, 0x00ad) ∷ (0x00b6, 0x00b9) ∷ (0xc068, 0xc069)
    ∷ (0xc06e, 0xc06f) ∷
    (0xc092, 0xc093) ∷ (0xc098, 0xc099) ∷ (0xccae, 0xccae) ∷ []

-- The key exchange of a suite. Suites of TLS 1.3 have none here, nor those with Kerberos, SRP, GOST
-- or passwords, whose key exchange messages aren't parsed.
abbrev pub key_exchange : ℕ → Option KeyExchange
key_exchange n =
    if is_in rsa n then Some (unsigned false Rsa)
    else if is_in dh n then Some (signed Dh)
    else if is_in anonymous_dh n then Some (unsigned false Dh)
    else if is_in ecdh n then Some (signed Ecdh)
    else if is_in anonymous_ecdh n then Some (unsigned false Ecdh)
    else if is_in known_key n then Some (unsigned true Nothing)
    else if is_in known_key_with_dh n then Some (unsigned true Dh)
    else if is_in known_key_with_ecdh n then Some (unsigned true Ecdh)
    else if is_in known_key_with_rsa n then Some (unsigned true Rsa)
    else None

abbrev is_ecdh : Public → Bool
is_ecdh Ecdh = true
is_ecdh _ = false

-- Whether the server's key exchange has the parameters of a curve (RFC 8422, section 5.4).
abbrev pub is_over_curves : KeyExchange → Bool
is_over_curves k = is_ecdh k.public
