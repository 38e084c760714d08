-- Hellos of DTLS (RFC 6347, section 4.2.1).
use Rattle.std.specs.Prelude.{ℕ, map, Some}
use Rattle.std.specs.Option.{option_map}
use Rattle.layouts.specs.Bytes.{Bytes}
use Rattle.layouts.specs.Layout.{Layout, done, number, mapped, ◌>>=◌, counted}
use Rattle.layouts.specs.Text.{held}
use Rattle.tls_hs.specs.Hello as hello
use Rattle.dtls_records.specs.declared.hello.DTLSClientHello.{DTLSClientHello}
use Rattle.dtls_records.specs.declared.hello.DTLSHelloVerifyRequest.{DTLSHelloVerifyRequest}

-- The value of a ClientHello of DTLS: that of TLS, and a cookie.
pub record ClientHello : Type 0 where
  pub hello : hello.ClientHello
  pub cookie : Bytes

abbrev pub view_client_hello : DTLSClientHello → ClientHello
view_client_hello h = record {
  hello = record {
    client_version = h.version.0;
    random = h.random.now;
    session_id = option_map (λ x. x.now) h.session_id;
    cipher_suites = map (λ x. x.0) h.ciphers.items;
    compression_methods = map (λ x. x.0) h.comp.items;
    extensions = option_map (λ x. x.now) h.ext;
  };
  cookie = h.cookie.now;
}

-- The body of a ClientHello: that of TLS, with the cookie after the session id.
unfoldable pub client_hello : Layout ClientHello
client_hello =
    mapped (λ x. record { hello = x.0; cookie = held x.1 })
    (hello.client_hello_with (mapped Some (counted 1)))

-- The value of a HelloVerifyRequest.
pub record HelloVerifyRequest : Type 0 where
  pub server_version : ℕ
  pub cookie : Bytes

abbrev pub view_hello_verify_request : DTLSHelloVerifyRequest → HelloVerifyRequest
view_hello_verify_request r = record { server_version = r.server_version.0; cookie = r.cookie.now }

-- The body of a HelloVerifyRequest.
unfoldable pub hello_verify_request : Layout HelloVerifyRequest
hello_verify_request = do
  version ← number 2
  cookie ← counted 1
  done (record { server_version = version; cookie = cookie })
