-- The ClientHello (RFC 5246, section 7.4.1.2).
use Rattle.std.specs.Prelude.{ℕ, ◌/◌, ◌%◌, List, map, take, drop, length, Option, Some, None, nat_le, nat_lt, ◌==◌}
use Rattle.std.specs.Prelude.{◌&&◌, if◌then◌else◌}
use Rattle.std.specs.Option.{option_map}
use Rattle.layouts.specs.Bytes.{Bytes, number_of}
use Rattle.layouts.specs.Layout.{Layout, done, number, block, left, maybe, mapped, ◌>>=◌, ◌>>◌, test, counted, times}
use Rattle.layouts.specs.declared.result.ErrorKind.TheVariants.{LengthValue, Verify}
use Rattle.tls_hs.specs.declared.client_hello.TlsClientHelloContents.{TlsClientHelloContents}

-- The value of a ClientHello, regardless of its place in memory; the extensions are one unparsed
-- block. In TLS 1.3 its version is 0x0303, and the offered versions are in its extension
-- supported_versions (RFC 8446, section 4.2.1).
pub record ClientHello : Type 0 where
  pub client_version : ℕ
  pub random : Bytes
  pub session_id : Option Bytes
  pub cipher_suites : List ℕ
  pub compression_methods : List ℕ
  pub extensions : Option Bytes

abbrev pub view_client_hello : TlsClientHelloContents → ClientHello
view_client_hello h = record {
  client_version = h.version.0;
  random = h.random.now;
  session_id = option_map (λ x. x.now) h.session_id;
  cipher_suites = map (λ x. x.0) h.ciphers.items;
  compression_methods = map (λ x. x.0) h.comp.items;
  extensions = option_map (λ x. x.now) h.ext;
}

-- opaque SessionID<0..32>. An empty one means that there is none.
unfoldable pub session_id : Layout (Option Bytes)
session_id = do
  n ← number 1
  test (nat_le n 32) Verify
  id ← block n
  done (if n == 0 then None else Some id)

-- CipherSuite cipher_suites<2..2^16-2>, with the length in bytes. The list may be empty. The length
-- is checked before the suites are read.
unfoldable pub cipher_suites : Layout (List ℕ)
cipher_suites = do
  k ← number 2
  n ← left
  test (k % 2 == 0 && nat_le k n) LengthValue
  times (k / 2) (number 2)

-- CompressionMethod compression_methods<1..2^8-1>, 1 byte each. The list may be empty. The length
-- is checked before the methods are read.
unfoldable pub compression_methods : Layout (List ℕ)
compression_methods = do
  k ← number 1
  n ← left
  test (nat_le k n) LengthValue
  times k (number 1)

-- The body of a ClientHello whose cookie has this layout, and the cookie. In DTLS it follows the
-- session id, in TLS there is none. The extensions may be missing.
unfoldable pub client_hello_with : Layout (Option Bytes) → Layout (ClientHello × Option Bytes)
client_hello_with cookie_layout = do
  version ← number 2
  random ← block 32
  id ← session_id
  cookie ← cookie_layout
  suites ← cipher_suites
  methods ← compression_methods
  extensions ← maybe (counted 2)
  done (
    record {
      client_version = version;
      random = random;
      session_id = id;
      cipher_suites = suites;
      compression_methods = methods;
      extensions = extensions;
    },
    cookie,
  )

-- The body of a ClientHello of TLS.
unfoldable pub client_hello : Layout ClientHello
client_hello = mapped (λ x. x.0) (client_hello_with (done None))

-- uint32 gmt_unix_time: the first 4 bytes of a random as a number, 0 if there are fewer.
abbrev pub random_time : Bytes → ℕ
random_time random = if nat_lt (length random) 4 then 0 else number_of (take 4 random)

-- opaque random_bytes[28]: a random after its first 4 bytes, empty if there are fewer.
abbrev pub random_bytes : Bytes → Bytes
random_bytes random = drop 4 random
