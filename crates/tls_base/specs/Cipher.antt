-- The parameters of cipher suites.
use Rattle.std.specs.Prelude.{ℕ, List, [], ◌∷◌, slice_get, Result}
use Rattle.std.specs.Option.{ok_or}
use Rattle.tls_base.specs.declared.cipher.UnknownNumber.{UnknownNumber}
use Rattle.tls_base.specs.declared.cipher.TlsCipherKx.{TlsCipherKx}
use Rattle.tls_base.specs.declared.cipher.TlsCipherKx.TheVariants as kx
use Rattle.tls_base.specs.declared.cipher.TlsCipherAu.{TlsCipherAu}
use Rattle.tls_base.specs.declared.cipher.TlsCipherAu.TheVariants as au
use Rattle.tls_base.specs.declared.cipher.TlsCipherEnc.{TlsCipherEnc}
use Rattle.tls_base.specs.declared.cipher.TlsCipherEnc.TheVariants as enc
use Rattle.tls_base.specs.declared.cipher.TlsCipherEncMode.{TlsCipherEncMode}
use Rattle.tls_base.specs.declared.cipher.TlsCipherEncMode.TheVariants as mode
use Rattle.tls_base.specs.declared.cipher.TlsCipherMac.{TlsCipherMac}
use Rattle.tls_base.specs.declared.cipher.TlsCipherMac.TheVariants as mac
use Rattle.tls_base.specs.declared.cipher.TlsPRF.{TlsPRF}
use Rattle.tls_base.specs.declared.cipher.TlsPRF.TheVariants as prf

-- The member at this position, counted from 0; the number itself, as the error, if there is none.
abbrev pub numbered : {A : Type 0} → List A → ℕ → Result A UnknownNumber
numbered members n = ok_or (slice_get members n) (record { 0 = n })

-- The members of each kind, in order.
abbrev pub key_exchanges : List TlsCipherKx
key_exchanges =
    kx.Null ∷ kx.Psk ∷ kx.Krb5 ∷ kx.Srp ∷ kx.Rsa ∷ kx.Dh ∷ kx.Dhe ∷ kx.Ecdh ∷ kx.Ecdhe ∷ kx.Aecdh
    ∷ kx.Eccpwd ∷ kx.Tls13 ∷ []

abbrev pub authentications : List TlsCipherAu
authentications =
    au.Null ∷ au.Psk ∷ au.Krb5 ∷ au.Srp ∷ au.Srp_Dss ∷ au.Srp_Rsa ∷ au.Dss ∷ au.Rsa ∷ au.Dhe
    ∷ au.Ecdsa ∷ au.Eccpwd ∷ au.Tls13 ∷ []

abbrev pub encryptions : List TlsCipherEnc
encryptions =
    enc.Null ∷ enc.Des ∷ enc.TripleDes ∷ enc.Rc2 ∷ enc.Rc4 ∷ enc.Aria ∷ enc.Idea ∷ enc.Seed
    ∷ enc.Aes ∷ enc.Camellia ∷ enc.Chacha20_Poly1305 ∷ enc.Sm4 ∷ enc.Aegis ∷ []

abbrev pub modes : List TlsCipherEncMode
modes =
    mode.Null ∷ mode.Cbc ∷ mode.Ccm ∷ mode.Gcm ∷ []

abbrev pub macs : List TlsCipherMac
macs =
    mac.Null ∷ mac.HmacMd5 ∷ mac.HmacSha1 ∷ mac.HmacSha256 ∷ mac.HmacSha384 ∷ mac.HmacSha512
    ∷ mac.Aead ∷ []

abbrev pub functions : List TlsPRF
functions =
    prf.Default ∷ prf.Null ∷ prf.Md5AndSha1 ∷ prf.Sha1 ∷ prf.Sha256 ∷ prf.Sha384 ∷ prf.Sha512
    ∷ prf.Sm3 ∷ []

-- The block length of the cipher, in bytes; 0 for a stream cipher, and without encryption.
abbrev pub block_size : TlsCipherEnc → ℕ
block_size enc.Null = 0
block_size enc.Des = 8
block_size enc.TripleDes = 8
block_size enc.Rc2 = 8
block_size enc.Rc4 = 0
block_size enc.Aria = 16
block_size enc.Idea = 8
block_size enc.Seed = 16
block_size enc.Aes = 16
block_size enc.Camellia = 16
block_size enc.Chacha20_Poly1305 = 0
block_size enc.Sm4 = 16
block_size enc.Aegis = 0

-- The length of a record's authentication code, in bytes; 0 if only the cipher authenticates, or
-- nothing does.
abbrev pub code_length : TlsCipherMac → ℕ
code_length mac.Null = 0
code_length mac.HmacMd5 = 16
code_length mac.HmacSha1 = 20
code_length mac.HmacSha256 = 32
code_length mac.HmacSha384 = 48
code_length mac.HmacSha512 = 64
code_length mac.Aead = 0
