-- The extension encrypted_client_hello of a ClientHello (RFC 9849, section 5).
use Rattle.std.specs.Prelude.{ℕ, ◌==◌, nat_le, [], ◌∷◌, Option, Some, None, Ok, Err, length}
use Rattle.layouts.specs.Bytes.{Bytes}
use Rattle.layouts.specs.Layout.{Layout, done, number, counted, test, ◌>>=◌, ◌>>◌}
use Rattle.layouts.specs.Meaning.{Answer}
use Rattle.layouts.specs.Reading.{reading}
use Rattle.layouts.specs.declared.result.ErrorKind.TheVariants.{LengthValue, Switch}
use Rattle.tls_summary.specs.declared.encrypted.EncryptedClientHello as rust

-- The number of the extension (section 11.1).
abbrev pub encrypted_client_hello : ℕ
encrypted_client_hello = 0xfe0d

-- ECHClientHello in a ClientHello that isn't encrypted: its type is outer, 0.
pub record EncryptedClientHello : Type 0 where
  -- HpkeSymmetricCipherSuite cipher_suite: HpkeKdfId and HpkeAeadId (RFC 9180, section 7)
  pub kdf : ℕ
  pub aead : ℕ
  pub config_id : ℕ
  -- the HPKE encapsulated key, empty behind a HelloRetryRequest, and the encrypted hello
  pub enc : Bytes
  pub payload : Bytes

abbrev pub view_encrypted : rust.EncryptedClientHello → EncryptedClientHello
view_encrypted e = record {
  kdf = e.kdf;
  aead = e.aead;
  config_id = e.config_id;
  enc = e.enc.now;
  payload = e.payload.now;
}

-- struct { ECHClientHelloType type; HpkeSymmetricCipherSuite cipher_suite; uint8 config_id;
-- opaque enc<0..2^16-1>; opaque payload<1..2^16-1>; } ECHClientHello
unfoldable pub ech_client_hello : Layout EncryptedClientHello
ech_client_hello = do
  kind ← number 1
  test (kind == 0) Switch
  kdf ← number 2
  aead ← number 2
  id ← number 1
  enc ← counted 2
  payload ← counted 2
  test (nat_le 1 (length payload)) LengthValue
  done (record { kdf = kdf; aead = aead; config_id = id; enc = enc; payload = payload })

-- No bytes follow it.
abbrev pub whole : {A : Type 0} → Answer A → Option A
whole (Ok (x, [])) = Some x
whole (Ok (x, n ∷ b)) = None
whole (Err e) = None

-- What an extension with this content says; None if it breaks the layout.
abbrev pub encrypted_in : Option Bytes → Option EncryptedClientHello
encrypted_in None = None
encrypted_in (Some b) = whole (reading ech_client_hello b)
