-- The places of hellos' parts in their bodies.
use Rattle.std.specs.Option.{option_map}
use Rattle.layouts.specs.Bytes.{Bytes}
use Rattle.tls_hs.specs.declared.server_hello.TlsServerHelloContents.{TlsServerHelloContents}
use Rattle.tls_places.specs.Place.{Stands, MayStand, MayBeginAt, EndsIn}
use Rattle.tls_places.specs.declared.server_hello.ServerHelloPlaces.{ServerHelloPlaces}

-- Each part of the hello h is at its place in b.
pub record ServerHelloStands (b : Bytes) (h : TlsServerHelloContents)
    (p : ServerHelloPlaces) : Type 0 where
  pub random : Stands b p.random h.random.now
  pub session_id : MayStand b p.session_id (option_map (λ x. x.now) h.session_id)
  pub extensions : MayStand b p.ext (option_map (λ x. x.now) h.ext)

-- The hello h lies in b, before r: its random after 2 bytes of version, its session ID after that
-- and a byte of length, and its extensions last (RFC 5246, section 7.4.1.3).
pub record LiesAsServerHello (b : Bytes) (h : TlsServerHelloContents) (r : Bytes) : Type 0 where
  pub random : Stands b (record { offset = 2; length = 32 }) h.random.now
  pub session_id : MayBeginAt b 35 (option_map (λ x. x.now) h.session_id)
  pub extensions : EndsIn b (option_map (λ x. x.now) h.ext) r
