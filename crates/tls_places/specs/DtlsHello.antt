-- The places of the parts of a DTLS ClientHello in its body.
use Rattle.std.specs.Option.{option_map}
use Rattle.layouts.specs.Bytes.{Bytes}
use Rattle.dtls_records.specs.declared.hello_view.DTLSClientHelloView.{DTLSClientHelloView}
use Rattle.tls_places.specs.Place.{Stands, MayStand}
use Rattle.tls_places.specs.declared.dtls_hello.DtlsClientHelloPlaces.{DtlsClientHelloPlaces}

-- Each part of the hello h is at its place in b.
pub record DtlsClientHelloStands (b : Bytes) (h : DTLSClientHelloView)
    (p : DtlsClientHelloPlaces) : Type 0 where
  pub random : Stands b p.random h.random.now
  pub session_id : MayStand b p.session_id (option_map (λ x. x.now) h.session_id)
  pub cookie : Stands b p.cookie h.cookie.now
  pub cipher_suites : Stands b p.ciphers h.ciphers.bytes.now
  pub compression_methods : Stands b p.comp h.comp.bytes.now
  pub extensions : MayStand b p.ext (option_map (λ x. x.now) h.ext)
