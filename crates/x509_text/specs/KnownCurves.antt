-- The parameters of elliptic curves over prime fields: SEC 2, version 2, sections 2.3 to 2.6; RFC
-- 5639, section 3.
use Rattle.std.specs.Prelude.{ℕ, ◌+◌, ◌-◌, ◌*◌, ◌%◌, ◌^◌, nat_lt, List, [], ◌∷◌, ◌++◌, if◌then◌else◌}
use Rattle.layouts.specs.Bytes.{Bytes, bytes_of}
use Rattle.x509_text.specs.Object.{content_by}
use Rattle.x509_text.specs.declared.tables.KnownCurve.{KnownCurve as LentCurve}

-- The content of its object identifier, and those of the elements of its parameters.
pub record KnownCurve : Type 0 where
  pub content : Bytes
  pub prime : Bytes
  pub a : Bytes
  pub b : Bytes
  pub base : Bytes
  pub compressed : Bytes
  pub order : Bytes

abbrev pub view_known : LentCurve → KnownCurve
view_known c = record {
  content = c.content.now;
  prime = c.prime.now;
  a = c.a.now;
  b = c.b.now;
  base = c.base.now;
  compressed = c.compressed.now;
  order = c.order.now;
}

-- An INTEGER of k bytes, behind a 0 if it would be negative without (X.690, section 8.3.3).
abbrev pub unsigned : ℕ → ℕ → Bytes
unsigned k n = if nat_lt n (2 ^ (8 * k - 1)) then bytes_of k n else 0 ∷ bytes_of k n

-- The curve y^2 = x^3 + a x + b over the field of p elements, of k bytes each, with the base point
-- (x, y) of order n. An uncompressed point is 4, x and y; a compressed one is 2 or 3, by y's last
-- bit, and x (SEC 1, section 2.3.3).
abbrev pub over_prime : List ℕ → ℕ → ℕ → ℕ → ℕ → ℕ → ℕ → ℕ → KnownCurve
over_prime arcs k p a b x y n = record {
  content = content_by arcs;
  prime = unsigned k p;
  a = bytes_of k a;
  b = bytes_of k b;
  base = 4 ∷ bytes_of k x ++ bytes_of k y;
  compressed = (2 + y % 2) ∷ bytes_of k x;
  order = unsigned k n;
}

unfoldable pub known_curves : List KnownCurve
known_curves =
    -- secp224r1
    over_prime (1 ∷ 3 ∷ 132 ∷ 0 ∷ 33 ∷ []) 28
    (2 ^ 224 - 2 ^ 96 + 1)
    (2 ^ 224 - 2 ^ 96 - 2)
    0xb4050a850c04b3abf54132565044b0b7d7bfd8ba270b39432355ffb4
    0xb70e0cbd6bb4bf7f321390b94a03c1d356c21122343280d6115c1d21
    0xbd376388b5f723fb4c22dfe6cd4375a05a07476444d5819985007e34
    0xffffffffffffffffffffffffffff16a2e0b8f03e13dd29455c5c2a3d ∷
    -- prime256v1: secp256r1 in SEC 2
    over_prime (1 ∷ 2 ∷ 840 ∷ 10045 ∷ 3 ∷ 1 ∷ 7 ∷ []) 32
    (2 ^ 256 - 2 ^ 224 + 2 ^ 192 + 2 ^ 96 - 1)
    (2 ^ 256 - 2 ^ 224 + 2 ^ 192 + 2 ^ 96 - 4)
    0x5ac635d8aa3a93e7b3ebbd55769886bc651d06b0cc53b0f63bce3c3e27d2604b
    0x6b17d1f2e12c4247f8bce6e563a440f277037d812deb33a0f4a13945d898c296
    0x4fe342e2fe1a7f9b8ee7eb4a7c0f9e162bce33576b315ececbb6406837bf51f5
    0xffffffff00000000ffffffffffffffffbce6faada7179e84f3b9cac2fc632551 ∷
    -- secp384r1
    over_prime (1 ∷ 3 ∷ 132 ∷ 0 ∷ 34 ∷ []) 48
    (2 ^ 384 - 2 ^ 128 - 2 ^ 96 + 2 ^ 32 - 1)
    (2 ^ 384 - 2 ^ 128 - 2 ^ 96 + 2 ^ 32 - 4)
    0xb3312fa7e23ee7e4988e056be3f82d19181d9c6efe8141120314088f5013875ac656398d8a2ed19d2a85c8edd3ec2aef
    0xaa87ca22be8b05378eb1c71ef320ad746e1d3b628ba79b9859f741e082542a385502f25dbf55296c3a545e3872760ab7
    0x3617de4a96262c6f5d9e98bf9292dc29f8f41dbd289a147ce9da3113b5f0b8c00a60b1ce1d7e819d7a431d7c90ea0e5f
    0xffffffffffffffffffffffffffffffffffffffffffffffffc7634d81f4372ddf581a0db248b0a77aecec196accc52973 ∷
    -- secp521r1
    over_prime (1 ∷ 3 ∷ 132 ∷ 0 ∷ 35 ∷ []) 66
    (2 ^ 521 - 1)
    (2 ^ 521 - 4)
    0x51953eb9618e1c9a1f929a21a0b68540eea2da725b99b315f3b8b489918ef109e156193951ec7e937b1652c0bd3bb1bf073573df883d2c34f1ef451fd46b503f00
    0xc6858e06b70404e9cd9e3ecb662395b4429c648139053fb521f828af606b4d3dbaa14b5e77efe75928fe1dc127a2ffa8de3348b3c1856a429bf97e7e31c2e5bd66
    0x11839296a789a3bc0045c8a5fb42c7d1bd998f54449579b446817afbd17273e662c97ee72995ef42640c550b9013fad0761353c7086a272c24088be94769fd16650
    0x1fffffffffffffffffffffffffffffffffffffffffffffffffffffffffffffffffa51868783bf2f966b7fcc0148f709a5d03bb5c9b8899c47aebb6fb71e91386409 ∷
    -- secp256k1
    over_prime (1 ∷ 3 ∷ 132 ∷ 0 ∷ 10 ∷ []) 32
    (2 ^ 256 - 2 ^ 32 - 977)
    0
    7
    0x79be667ef9dcbbac55a06295ce870b07029bfcdb2dce28d959f2815b16f81798
    0x483ada7726a3c4655da4fbfc0e1108a8fd17b448a68554199c47d08ffb10d4b8
    0xfffffffffffffffffffffffffffffffebaaedce6af48a03bbfd25e8cd0364141 ∷
    -- brainpoolP256r1
    over_prime (1 ∷ 3 ∷ 36 ∷ 3 ∷ 3 ∷ 2 ∷ 8 ∷ 1 ∷ 1 ∷ 7 ∷ []) 32
    0xa9fb57dba1eea9bc3e660a909d838d726e3bf623d52620282013481d1f6e5377
    0x7d5a0975fc2c3057eef67530417affe7fb8055c126dc5c6ce94a4b44f330b5d9
    0x26dc5c6ce94a4b44f330b5d9bbd77cbf958416295cf7e1ce6bccdc18ff8c07b6
    0x8bd2aeb9cb7e57cb2c4b482ffc81b7afb9de27e1e3bd23c23a4453bd9ace3262
    0x547ef835c3dac4fd97f8461a14611dc9c27745132ded8e545c1d54c72f046997
    0xa9fb57dba1eea9bc3e660a909d838d718c397aa3b561a6f7901e0e82974856a7 ∷
    -- brainpoolP384r1
    over_prime (1 ∷ 3 ∷ 36 ∷ 3 ∷ 3 ∷ 2 ∷ 8 ∷ 1 ∷ 1 ∷ 11 ∷ []) 48
    0x8cb91e82a3386d280f5d6f7e50e641df152f7109ed5456b412b1da197fb71123acd3a729901d1a71874700133107ec53
    0x7bc382c63d8c150c3c72080ace05afa0c2bea28e4fb22787139165efba91f90f8aa5814a503ad4eb04a8c7dd22ce2826
    0x4a8c7dd22ce28268b39b55416f0447c2fb77de107dcd2a62e880ea53eeb62d57cb4390295dbc9943ab78696fa504c11
    0x1d1c64f068cf45ffa2a63a81b7c13f6b8847a3e77ef14fe3db7fcafe0cbd10e8e826e03436d646aaef87b2e247d4af1e
    0x8abe1d7520f9c2a45cb1eb8e95cfd55262b70b29feec5864e19c054ff99129280e4646217791811142820341263c5315
    0x8cb91e82a3386d280f5d6f7e50e641df152f7109ed5456b31f166e6cac0425a7cf3ab6af6b7fc3103b883202e9046565 ∷
    -- brainpoolP512r1
    over_prime (1 ∷ 3 ∷ 36 ∷ 3 ∷ 3 ∷ 2 ∷ 8 ∷ 1 ∷ 1 ∷ 13 ∷ []) 64
    0xaadd9db8dbe9c48b3fd4e6ae33c9fc07cb308db3b3c9d20ed6639cca703308717d4d9b009bc66842aecda12ae6a380e62881ff2f2d82c68528aa6056583a48f3
    0x7830a3318b603b89e2327145ac234cc594cbdd8d3df91610a83441caea9863bc2ded5d5aa8253aa10a2ef1c98b9ac8b57f1117a72bf2c7b9e7c1ac4d77fc94ca
    0x3df91610a83441caea9863bc2ded5d5aa8253aa10a2ef1c98b9ac8b57f1117a72bf2c7b9e7c1ac4d77fc94cadc083e67984050b75ebae5dd2809bd638016f723
    0x81aee4bdd82ed9645a21322e9c4c6a9385ed9f70b5d916c1b43b62eef4d0098eff3b1f78e2d0d48d50d1687b93b97d5f7c6d5047406a5e688b352209bcb9f822
    0x7dde385d566332ecc0eabfa9cf7822fdf209f70024a57b1aa000c55b881f8111b2dcde494a5f485e5bca4bd88a2763aed1ca2b2fa8f0540678cd1e0f3ad80892
    0xaadd9db8dbe9c48b3fd4e6ae33c9fc07cb308db3b3c9d20ed6639cca70330870553e5c414ca92619418661197fac10471db1d381085ddaddb58796829ca90069 ∷
    []
