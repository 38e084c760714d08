-- Positions of the parts of a ClientHello within its body.
use Rattle.std.specs.Prelude.{◌≡◌, ℕ, ◌+◌, ◌≤◌, List, ◌++◌, length, Option, Some, None, ⊤}
use Rattle.std.specs.Borrow.{Bor}
use Rattle.std.specs.Option.{option_map}
use Rattle.layouts.specs.Bytes.{Bytes}
use Rattle.layouts.specs.Place.{bytes_at}
use Rattle.layouts.specs.Text.{held}
use Rattle.layouts.specs.declared.places.Place.{Place}
use Rattle.tls_hs.specs.declared.client_hello_view.ClientHelloView.{ClientHelloView}
use Rattle.tls_hs.specs.declared.client_hello_places.ClientHelloPlaces.{ClientHelloPlaces}

-- The place is within b.
abbrev pub Lies : Bytes → Place → Type 0
Lies b p = p.offset + p.length ≤ length b

-- The place of x, if it begins after o bytes.
abbrev pub place_from : ℕ → Bytes → Place
place_from o x = record { offset = o; length = length x }

-- x is at the place p, which is within b.
pub record Stands (b : Bytes) (p : Place) (x : Bytes) : Type 0 where
  pub is : bytes_at b p ≡ x
  pub within : Lies b p

-- An optional part is at its place, or there is neither part nor place.
abbrev pub MayStand : Bytes → Option Place → Option Bytes → Type 0
MayStand b (Some p) (Some x) = Stands b p x
MayStand b None None = ⊤
MayStand b p x = ⊥

-- x begins after o bytes; and an optional part does.
abbrev pub BeginsAt : Bytes → ℕ → Bytes → Type 0
BeginsAt b o x = Stands b (place_from o x) x

abbrev pub MayBeginAt : Bytes → ℕ → Option Bytes → Type 0
MayBeginAt b o v = (x : Bytes) → v ≡ Some x → BeginsAt b o x

-- b is k bytes, then x, then r.
abbrev pub Leads : ℕ → Bytes → Bytes → Bytes → Type 0
Leads k b x r = (front : Bytes) × (b ≡ front ++ (x ++ r)) × (length front ≡ k)

-- The part is at the place in b, or there is neither part nor place.
abbrev pub StandsAt : Bytes → Option Place → Option (Bor (List ℕ)) → Type 0
StandsAt b (Some p) (Some c) = bytes_at b p ≡ c.now
StandsAt b None None = ⊤
StandsAt b p c = ⊥

-- Each part of the hello h is at its place in b.
pub record HelloStands (b : Bytes) (h : ClientHelloView) (p : ClientHelloPlaces) : Type 0 where
  pub random : bytes_at b p.random ≡ h.random.now
  pub session_id : StandsAt b p.session_id h.session_id
  pub cipher_suites : bytes_at b p.ciphers ≡ h.ciphers.bytes.now
  pub compression_methods : bytes_at b p.comp ≡ h.comp.bytes.now
  pub extensions : StandsAt b p.ext h.ext

-- Each part of the hello h is at its place in b, and each place is within b.
pub record HelloStandsWithin (b : Bytes) (h : ClientHelloView)
    (p : ClientHelloPlaces) : Type 0 where
  pub random : Stands b p.random h.random.now
  pub session_id : MayStand b p.session_id (option_map (λ x. x.now) h.session_id)
  pub cipher_suites : Stands b p.ciphers h.ciphers.bytes.now
  pub compression_methods : Stands b p.comp h.comp.bytes.now
  pub extensions : MayStand b p.ext (option_map (λ x. x.now) h.ext)

-- The session id of h, empty if there is none.
abbrev pub id_of : ClientHelloView → Bytes
id_of h = held (option_map (λ x. x.now) h.session_id)

-- The number of bytes before what follows the cookie, if o bytes precede the cookie's length.
abbrev pub behind_cookie : ℕ → Option Bytes → ℕ
behind_cookie o None = o
behind_cookie o (Some c) = o + 1 + length c

-- The number of bytes before the suites' length: 2 of version, 32 of random, the session id after 1
-- byte of length, and a cookie after another.
abbrev pub in_front_of_suites : ClientHelloView → Option Bytes → ℕ
in_front_of_suites h c = behind_cookie (35 + length (id_of h)) c

-- b is laid out as the hello h, with the cookie c if it has one (RFC 5246, section 7.4.1.2; RFC
-- 6347, section 4.2.1): each part follows its length, and that follows the part before.
pub record LiesAsClientHello (b : Bytes) (h : ClientHelloView) (c : Option Bytes) : Type 0 where
  pub random : Stands b (record { offset = 2; length = 32 }) h.random.now
  pub session_id : BeginsAt b 35 (id_of h)
  pub cookie : MayBeginAt b (35 + length (id_of h) + 1) c
  pub cipher_suites : BeginsAt b (in_front_of_suites h c + 2) h.ciphers.bytes.now
  pub compression_methods :
      BeginsAt b (in_front_of_suites h c + 2 + length h.ciphers.bytes.now + 1) h.comp.bytes.now
  pub extensions :
      MayBeginAt b
      (in_front_of_suites h c + 2 + length h.ciphers.bytes.now + 1 + length h.comp.bytes.now + 2)
      (option_map (λ x. x.now) h.ext)
