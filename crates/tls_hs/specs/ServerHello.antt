-- The ServerHello and its forms in drafts of TLS 1.3.
use Rattle.std.specs.Prelude.{ℕ, Bool, [], ◌∷◌, Option, None, nat_le, ◌==◌, ◌&&◌}
use Rattle.std.specs.Str.{bytes_eq}
use Rattle.std.specs.Option.{option_map}
use Rattle.layouts.specs.Bytes.{Bytes}
use Rattle.layouts.specs.Layout.{Layout, done, refuse, number, block, maybe, look, ◌>>=◌, choose, counted}
use Rattle.layouts.specs.declared.result.ErrorKind.TheVariants.{Tag}
use Rattle.tls_hs.specs.Hello.{session_id}
use Rattle.tls_hs.specs.declared.server_hello.TlsServerHelloContents.{TlsServerHelloContents}
use Rattle.tls_hs.specs.declared.server_hello.TlsServerHelloV13Draft18Contents.{TlsServerHelloV13Draft18Contents}
use Rattle.tls_hs.specs.declared.server_hello.TlsHelloRetryRequestContents.{TlsHelloRetryRequestContents}

-- The value of a ServerHello (RFC 5246, section 7.4.1.3), regardless of its place in memory. In TLS
-- 1.3 its version is 0x0303, and the version in use is in its extension supported_versions (RFC
-- 8446, section 4.2.1).
pub record ServerHello : Type 0 where
  pub server_version : ℕ
  pub random : Bytes
  pub session_id : Option Bytes
  pub cipher_suite : ℕ
  pub compression_method : ℕ
  pub extensions : Option Bytes

abbrev pub view_server_hello : TlsServerHelloContents → ServerHello
view_server_hello h = record {
  server_version = h.version.0;
  random = h.random.now;
  session_id = option_map (λ x. x.now) h.session_id;
  cipher_suite = h.cipher.0;
  compression_method = h.compression.0;
  extensions = option_map (λ x. x.now) h.ext;
}

-- The random of a ServerHello that is a HelloRetryRequest (RFC 8446, section 4.1.3).
abbrev pub hello_retry_random : Bytes
hello_retry_random =
    0xcf ∷ 0x21 ∷ 0xad ∷ 0x74 ∷ 0xe5 ∷ 0x9a ∷ 0x61 ∷ 0x11 ∷ 0xbe ∷ 0x1d ∷ 0x8c ∷ 0x02 ∷ 0x1e ∷ 0x65
    ∷ 0xb8 ∷ 0x91 ∷
    0xc2 ∷ 0xa2 ∷ 0x11 ∷ 0x16 ∷ 0x7a ∷ 0xbb ∷ 0x8c ∷ 0x5e ∷ 0x07 ∷ 0x9e ∷ 0x09 ∷ 0xe2 ∷ 0xc8 ∷ 0xa8
    ∷ 0x33 ∷ 0x9c ∷ []

abbrev pub is_retry_request : ServerHello → Bool
is_retry_request h = bytes_eq h.random hello_retry_random

-- The body of a ServerHello whose extensions have this layout.
abbrev pub server_hello_with : Layout (Option Bytes) → Layout ServerHello
server_hello_with extensions_layout = do
  version ← number 2
  random ← block 32
  id ← session_id
  suite ← number 2
  method ← number 1
  extensions ← extensions_layout
  done (record {
    server_version = version;
    random = random;
    session_id = id;
    cipher_suite = suite;
    compression_method = method;
    extensions = extensions;
  })

-- The body of a ServerHello of any version. The extensions may be missing.
unfoldable pub server_hello_any : Layout ServerHello
server_hello_any = server_hello_with (maybe (counted 2))

-- The body of a ServerHello of SSL 3.0 (RFC 6101, section 5.6.1.3), without extensions.
unfoldable pub server_hello_ssl30 : Layout ServerHello
server_hello_ssl30 = server_hello_with (done None)

-- The body of a ServerHello up to TLS 1.2. Its version, which isn't consumed, decides its form.
unfoldable pub server_hello : Layout ServerHello
server_hello = do
  version ← look (number 2)
  choose (version == 0x0300) server_hello_ssl30 (
      choose (nat_le 0x0301 version && nat_le version 0x0303) server_hello_any (
      refuse Tag))

-- The value of a ServerHello of draft 18 of TLS 1.3 (draft-ietf-tls-tls13-18, section 4.1.3).
pub record ServerHelloDraft18 : Type 0 where
  pub version : ℕ
  pub random : Bytes
  pub cipher_suite : ℕ
  pub extensions : Option Bytes

abbrev pub view_server_hello_draft18 : TlsServerHelloV13Draft18Contents → ServerHelloDraft18
view_server_hello_draft18 h = record {
  version = h.version.0;
  random = h.random.now;
  cipher_suite = h.cipher.0;
  extensions = option_map (λ x. x.now) h.ext;
}

-- The body of a ServerHello of draft 18.
unfoldable pub server_hello_draft18 : Layout ServerHelloDraft18
server_hello_draft18 = do
  version ← number 2
  random ← block 32
  suite ← number 2
  extensions ← maybe (counted 2)
  done (record {
    version = version;
    random = random;
    cipher_suite = suite;
    extensions =
        extensions;
  })

-- The value of a HelloRetryRequest of drafts of TLS 1.3 (draft-ietf-tls-tls13-19, section 4.1.4).
-- In RFC 8446 it is a ServerHello.
pub record HelloRetryRequest : Type 0 where
  pub server_version : ℕ
  pub cipher_suite : ℕ
  pub extensions : Option Bytes

abbrev pub view_hello_retry_request : TlsHelloRetryRequestContents → HelloRetryRequest
view_hello_retry_request h = record {
  server_version = h.version.0;
  cipher_suite = h.cipher.0;
  extensions = option_map (λ x. x.now) h.ext;
}

-- The body of a HelloRetryRequest.
unfoldable pub hello_retry_request : Layout HelloRetryRequest
hello_retry_request = do
  version ← number 2
  suite ← number 2
  extensions ← maybe (counted 2)
  done (record { server_version = version; cipher_suite = suite; extensions = extensions })
