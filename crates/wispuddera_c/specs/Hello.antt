-- Hellos as C structs.
use Rattle.std.specs.Prelude.{◌≡◌}
use Rattle.std.specs.Option.{is_some}
use Rattle.layouts.specs.Bytes.{Bytes}
use Rattle.layouts.specs.Layout.{number}
use Rattle.layouts.specs.Text.{held}
use Rattle.tls_hs.specs.Hello as hello
use Rattle.tls_hs.specs.ServerHello as server
use Rattle.wispuddera_c.specs.declared.client_hello.ClientHello.{ClientHello}
use Rattle.wispuddera_c.specs.declared.server_hello.ServerHello.{ServerHello}
use Rattle.wispuddera_c.specs.Place.{StandsAt, ItemsStandAt, Follows}

-- The struct shows the ClientHello v in b, and that r follows it.
pub record ShowsClientHello (b : Bytes) (c : ClientHello) (v : hello.ClientHello)
    (r : Bytes) : Type 0 where
  pub version : c.version ≡ v.client_version
  pub random : StandsAt b c.random v.random
  pub session_id : StandsAt b c.session_id (held v.session_id)
  pub cipher_suites : ItemsStandAt (number 2) b c.cipher_suites v.cipher_suites
  pub compression_methods : ItemsStandAt (number 1) b c.compression_methods v.compression_methods
  pub has_extensions : c.has_extensions ≡ is_some v.extensions
  pub extensions : StandsAt b c.extensions (held v.extensions)
  pub next : Follows b c.next r

-- The struct shows the ServerHello v in b, and that r follows it.
pub record ShowsServerHello (b : Bytes) (c : ServerHello) (v : server.ServerHello)
    (r : Bytes) : Type 0 where
  pub version : c.version ≡ v.server_version
  pub random : StandsAt b c.random v.random
  pub session_id : StandsAt b c.session_id (held v.session_id)
  pub cipher_suite : c.cipher_suite ≡ v.cipher_suite
  pub compression_method : c.compression_method ≡ v.compression_method
  pub has_extensions : c.has_extensions ≡ is_some v.extensions
  pub extensions : StandsAt b c.extensions (held v.extensions)
  pub next : Follows b c.next r
