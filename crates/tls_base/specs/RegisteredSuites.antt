-- The names in IANA's registry of TLS Cipher Suites: RFC 5246, appendix A.5, and RFC 8446, appendix
-- B.4, with those of the RFCs that the registry names.
--
-- The code has a row for each name. This is a second list, written independently, so that a wrong
-- name is refused. It is built from runs of consecutive numbers: in a run, each key exchange is
-- combined with all ciphers, in order.
use Rattle.std.specs.Prelude.{ℕ, List, [], ◌∷◌, ◌++◌, suc, map, codes}
use Rattle.tls_base.specs.Names.{Text}

-- The name of a suite up to TLS 1.2: its key exchange, then its cipher with its hash.
abbrev pub suite_name : Text → Text → Text
suite_name exchange cipher = codes "TLS_" ++ exchange ++ codes "_WITH_" ++ cipher

-- Numbers the names from n on.
abbrev pub numbered : ℕ → List Text → List (ℕ × Text)
numbered n [] = []
numbered n (name ∷ names) = (n, name) ∷ numbered (suc n) names

-- The names of each key exchange combined with each cipher.
abbrev pub names_with : List Text → List Text → List Text
names_with [] ciphers = []
names_with (exchange ∷ exchanges) ciphers =
    map (suite_name exchange) ciphers ++ names_with exchanges ciphers

-- A run of suites, with the number of the first.
abbrev pub suites : ℕ → List Text → List Text → List (ℕ × Text)
suites n exchanges ciphers = numbered n (names_with exchanges ciphers)

-- A suite whose name has no key exchange.
abbrev pub other : ℕ → Text → List (ℕ × Text)
other n name = (n, name) ∷ []

abbrev pub registered_suites : List (ℕ × Text)
registered_suites =
    suites 0x0000 (codes "NULL" ∷ []) (codes "NULL_NULL" ∷ [])
    ++ suites 0x0001 (codes "RSA" ∷ []) (codes "NULL_MD5" ∷ codes "NULL_SHA" ∷ [])
    ++ suites 0x0003 (codes "RSA_EXPORT" ∷ []) (codes "RC4_40_MD5" ∷ [])
    ++ suites 0x0004 (codes "RSA" ∷ []) (codes "RC4_128_MD5" ∷ codes "RC4_128_SHA" ∷ [])
    ++ suites 0x0006 (codes "RSA_EXPORT" ∷ []) (codes "RC2_CBC_40_MD5" ∷ [])
    ++ suites 0x0007 (codes "RSA" ∷ []) (codes "IDEA_CBC_SHA" ∷ [])
    ++ suites 0x0008 (codes "RSA_EXPORT" ∷ []) (codes "DES40_CBC_SHA" ∷ [])
    ++ suites 0x0009 (codes "RSA" ∷ []) (codes "DES_CBC_SHA" ∷ codes "3DES_EDE_CBC_SHA" ∷ [])
    ++ suites 0x000b (codes "DH_DSS_EXPORT" ∷ []) (codes "DES40_CBC_SHA" ∷ [])
    ++ suites 0x000c (codes "DH_DSS" ∷ []) (codes "DES_CBC_SHA" ∷ codes "3DES_EDE_CBC_SHA" ∷ [])
    ++ suites 0x000e (codes "DH_RSA_EXPORT" ∷ []) (codes "DES40_CBC_SHA" ∷ [])
    ++ suites 0x000f (codes "DH_RSA" ∷ []) (codes "DES_CBC_SHA" ∷ codes "3DES_EDE_CBC_SHA" ∷ [])
    ++ suites 0x0011 (codes "DHE_DSS_EXPORT" ∷ []) (codes "DES40_CBC_SHA" ∷ [])
    ++ suites 0x0012 (codes "DHE_DSS" ∷ []) (codes "DES_CBC_SHA" ∷ codes "3DES_EDE_CBC_SHA" ∷ [])
    ++ suites 0x0014 (codes "DHE_RSA_EXPORT" ∷ []) (codes "DES40_CBC_SHA" ∷ [])
    ++ suites 0x0015 (codes "DHE_RSA" ∷ []) (codes "DES_CBC_SHA" ∷ codes "3DES_EDE_CBC_SHA" ∷ [])
    ++ suites 0x0017 (codes "DH_anon_EXPORT" ∷ []) (codes "RC4_40_MD5" ∷ [])
    ++ suites 0x0018 (codes "DH_anon" ∷ []) (codes "RC4_128_MD5" ∷ [])
    ++ suites 0x0019 (codes "DH_anon_EXPORT" ∷ []) (codes "DES40_CBC_SHA" ∷ [])
    ++ suites 0x001a (codes "DH_anon" ∷ []) (codes "DES_CBC_SHA" ∷ codes "3DES_EDE_CBC_SHA" ∷ [])
    ++ suites 0x001e (codes "KRB5" ∷ [])
    (codes "DES_CBC_SHA" ∷ codes "3DES_EDE_CBC_SHA" ∷ codes "RC4_128_SHA" ∷ codes
    "IDEA_CBC_SHA" ∷ codes "DES_CBC_MD5" ∷ codes "3DES_EDE_CBC_MD5" ∷ codes "RC4_128_MD5" ∷ codes
    "IDEA_CBC_MD5" ∷ [])
    ++ suites 0x0026 (codes "KRB5_EXPORT" ∷ [])
    (codes "DES_CBC_40_SHA" ∷ codes "RC2_CBC_40_SHA" ∷ codes "RC4_40_SHA" ∷ codes
    "DES_CBC_40_MD5" ∷ codes "RC2_CBC_40_MD5" ∷ codes "RC4_40_MD5" ∷ [])
    ++ suites 0x002c (codes "PSK" ∷ codes "DHE_PSK" ∷ codes "RSA_PSK" ∷ []) (codes "NULL_SHA" ∷ [])
    ++ suites 0x002f
    (codes "RSA" ∷ codes "DH_DSS" ∷ codes "DH_RSA" ∷ codes "DHE_DSS" ∷ codes "DHE_RSA" ∷ codes
    "DH_anon" ∷ []) (codes "AES_128_CBC_SHA" ∷ [])
    ++ suites 0x0035
    (codes "RSA" ∷ codes "DH_DSS" ∷ codes "DH_RSA" ∷ codes "DHE_DSS" ∷ codes "DHE_RSA" ∷ codes
    "DH_anon" ∷ []) (codes "AES_256_CBC_SHA" ∷ [])
    ++ suites 0x003b (codes "RSA" ∷ [])
    (codes "NULL_SHA256" ∷ codes "AES_128_CBC_SHA256" ∷ codes "AES_256_CBC_SHA256" ∷ [])
    ++ suites 0x003e (codes "DH_DSS" ∷ codes "DH_RSA" ∷ codes "DHE_DSS" ∷ [])
    (codes "AES_128_CBC_SHA256" ∷ [])
    ++ suites 0x0041
    (codes "RSA" ∷ codes "DH_DSS" ∷ codes "DH_RSA" ∷ codes "DHE_DSS" ∷ codes "DHE_RSA" ∷ codes
    "DH_anon" ∷ []) (codes "CAMELLIA_128_CBC_SHA" ∷ [])
    ++ suites 0x0060 (codes "RSA_EXPORT1024" ∷ [])
    (codes "RC4_56_MD5" ∷ codes "RC2_CBC_56_MD5" ∷ codes "DES_CBC_SHA" ∷ [])
    ++ suites 0x0063 (codes "DHE_DSS_EXPORT1024" ∷ []) (codes "DES_CBC_SHA" ∷ [])
    ++ suites 0x0064 (codes "RSA_EXPORT1024" ∷ []) (codes "RC4_56_SHA" ∷ [])
    ++ suites 0x0065 (codes "DHE_DSS_EXPORT1024" ∷ []) (codes "RC4_56_SHA" ∷ [])
    ++ suites 0x0066 (codes "DHE_DSS" ∷ []) (codes "RC4_128_SHA" ∷ [])
    ++ suites 0x0067 (codes "DHE_RSA" ∷ []) (codes "AES_128_CBC_SHA256" ∷ [])
    ++ suites 0x0068 (codes "DH_DSS" ∷ codes "DH_RSA" ∷ codes "DHE_DSS" ∷ codes "DHE_RSA" ∷ [])
    (codes "AES_256_CBC_SHA256" ∷ [])
    ++ suites 0x006c (codes "DH_anon" ∷ [])
    (codes "AES_128_CBC_SHA256" ∷ codes "AES_256_CBC_SHA256" ∷ [])
    ++ suites 0x0084
    (codes "RSA" ∷ codes "DH_DSS" ∷ codes "DH_RSA" ∷ codes "DHE_DSS" ∷ codes "DHE_RSA" ∷ codes
    "DH_anon" ∷ []) (codes "CAMELLIA_256_CBC_SHA" ∷ [])
    ++ suites 0x008a (codes "PSK" ∷ codes "DHE_PSK" ∷ codes "RSA_PSK" ∷ [])
    (codes "RC4_128_SHA" ∷ codes "3DES_EDE_CBC_SHA" ∷ codes "AES_128_CBC_SHA" ∷ codes
    "AES_256_CBC_SHA" ∷ [])
    ++ suites 0x0096
    (codes "RSA" ∷ codes "DH_DSS" ∷ codes "DH_RSA" ∷ codes "DHE_DSS" ∷ codes "DHE_RSA" ∷ codes
    "DH_anon" ∷ []) (codes "SEED_CBC_SHA" ∷ [])
    ++ suites 0x009c
    (codes "RSA" ∷ codes "DHE_RSA" ∷ codes "DH_RSA" ∷ codes "DHE_DSS" ∷ codes "DH_DSS" ∷ codes
    "DH_anon" ∷ codes "PSK" ∷ codes "DHE_PSK" ∷ codes "RSA_PSK" ∷ []) (codes
    "AES_128_GCM_SHA256" ∷ codes "AES_256_GCM_SHA384" ∷ [])
    ++ suites 0x00ae (codes "PSK" ∷ codes "DHE_PSK" ∷ codes "RSA_PSK" ∷ [])
    (codes "AES_128_CBC_SHA256" ∷ codes "AES_256_CBC_SHA384" ∷ codes "NULL_SHA256" ∷ codes
    "NULL_SHA384" ∷ [])
    ++ suites 0x00ba
    (codes "RSA" ∷ codes "DH_DSS" ∷ codes "DH_RSA" ∷ codes "DHE_DSS" ∷ codes "DHE_RSA" ∷ codes
    "DH_anon" ∷ []) (codes "CAMELLIA_128_CBC_SHA256" ∷ [])
    ++ suites 0x00c0
    (codes "RSA" ∷ codes "DH_DSS" ∷ codes "DH_RSA" ∷ codes "DHE_DSS" ∷ codes "DHE_RSA" ∷ codes
    "DH_anon" ∷ []) (codes "CAMELLIA_256_CBC_SHA256" ∷ [])
    ++ other 0x00c6 (codes "TLS_SM4_GCM_SM3")
    ++ other 0x00c7 (codes "TLS_SM4_CCM_SM3")
    ++ other 0x00ff (codes "TLS_EMPTY_RENEGOTIATION_INFO_SCSV")
    ++ other 0x1301 (codes "TLS_AES_128_GCM_SHA256")
    ++ other 0x1302 (codes "TLS_AES_256_GCM_SHA384")
    ++ other 0x1303 (codes "TLS_CHACHA20_POLY1305_SHA256")
    ++ other 0x1304 (codes "TLS_AES_128_CCM_SHA256")
    ++ other 0x1305 (codes "TLS_AES_128_CCM_8_SHA256")
    ++ other 0x1306 (codes "TLS_AEGIS_256_SHA512")
    ++ other 0x1307 (codes "TLS_AEGIS_128L_SHA256")
    ++ other 0x5600 (codes "TLS_FALLBACK_SCSV")
    ++ suites 0xc001
    (codes "ECDH_ECDSA" ∷ codes "ECDHE_ECDSA" ∷ codes "ECDH_RSA" ∷ codes "ECDHE_RSA" ∷ codes
    "ECDH_anon" ∷ []) (codes "NULL_SHA" ∷ codes "RC4_128_SHA" ∷ codes "3DES_EDE_CBC_SHA" ∷ codes
    "AES_128_CBC_SHA" ∷ codes "AES_256_CBC_SHA" ∷ [])
    ++ suites 0xc01a (codes "SRP_SHA" ∷ codes "SRP_SHA_RSA" ∷ codes "SRP_SHA_DSS" ∷ [])
    (codes "3DES_EDE_CBC_SHA" ∷ [])
    ++ suites 0xc01d (codes "SRP_SHA" ∷ codes "SRP_SHA_RSA" ∷ codes "SRP_SHA_DSS" ∷ [])
    (codes "AES_128_CBC_SHA" ∷ [])
    ++ suites 0xc020 (codes "SRP_SHA" ∷ codes "SRP_SHA_RSA" ∷ codes "SRP_SHA_DSS" ∷ [])
    (codes "AES_256_CBC_SHA" ∷ [])
    ++ suites 0xc023
    (codes "ECDHE_ECDSA" ∷ codes "ECDH_ECDSA" ∷ codes "ECDHE_RSA" ∷ codes "ECDH_RSA" ∷ [])
    (codes "AES_128_CBC_SHA256" ∷ codes "AES_256_CBC_SHA384" ∷ [])
    ++ suites 0xc02b
    (codes "ECDHE_ECDSA" ∷ codes "ECDH_ECDSA" ∷ codes "ECDHE_RSA" ∷ codes "ECDH_RSA" ∷ [])
    (codes "AES_128_GCM_SHA256" ∷ codes "AES_256_GCM_SHA384" ∷ [])
    ++ suites 0xc033 (codes "ECDHE_PSK" ∷ [])
    (codes "RC4_128_SHA" ∷ codes "3DES_EDE_CBC_SHA" ∷ codes "AES_128_CBC_SHA" ∷ codes
    "AES_256_CBC_SHA" ∷ codes "AES_128_CBC_SHA256" ∷ codes "AES_256_CBC_SHA384" ∷ [])
    ++ suites 0xc039 (codes "ECDHE_PSK" ∷ [])
    (codes "NULL_SHA" ∷ codes "NULL_SHA256" ∷ codes "NULL_SHA384" ∷ [])
    ++ suites 0xc03c
    (codes "RSA" ∷ codes "DH_DSS" ∷ codes "DH_RSA" ∷ codes "DHE_DSS" ∷ codes "DHE_RSA" ∷ codes
    "DH_anon" ∷ []) (codes "ARIA_128_CBC_SHA256" ∷ codes "ARIA_256_CBC_SHA384" ∷ [])
    ++ suites 0xc048
    (codes "ECDHE_ECDSA" ∷ codes "ECDH_ECDSA" ∷ codes "ECDHE_RSA" ∷ codes "ECDH_RSA" ∷ [])
    (codes "ARIA_128_CBC_SHA256" ∷ codes "ARIA_256_CBC_SHA384" ∷ [])
    ++ suites 0xc050
    (codes "RSA" ∷ codes "DHE_RSA" ∷ codes "DH_RSA" ∷ codes "DHE_DSS" ∷ codes "DH_DSS" ∷ codes
    "DH_anon" ∷ []) (codes "ARIA_128_GCM_SHA256" ∷ codes "ARIA_256_GCM_SHA384" ∷ [])
    ++ suites 0xc05c
    (codes "ECDHE_ECDSA" ∷ codes "ECDH_ECDSA" ∷ codes "ECDHE_RSA" ∷ codes "ECDH_RSA" ∷ [])
    (codes "ARIA_128_GCM_SHA256" ∷ codes "ARIA_256_GCM_SHA384" ∷ [])
    ++ suites 0xc064 (codes "PSK" ∷ codes "DHE_PSK" ∷ codes "RSA_PSK" ∷ [])
    (codes "ARIA_128_CBC_SHA256" ∷ codes "ARIA_256_CBC_SHA384" ∷ [])
    ++ suites 0xc06a (codes "PSK" ∷ codes "DHE_PSK" ∷ codes "RSA_PSK" ∷ [])
    (codes "ARIA_128_GCM_SHA256" ∷ codes "ARIA_256_GCM_SHA384" ∷ [])
    ++ suites 0xc070 (codes "ECDHE_PSK" ∷ [])
    (codes "ARIA_128_CBC_SHA256" ∷ codes "ARIA_256_CBC_SHA384" ∷ [])
    ++ suites 0xc072
    (codes "ECDHE_ECDSA" ∷ codes "ECDH_ECDSA" ∷ codes "ECDHE_RSA" ∷ codes "ECDH_RSA" ∷ [])
    (codes "CAMELLIA_128_CBC_SHA256" ∷ codes "CAMELLIA_256_CBC_SHA384" ∷ [])
    ++ suites 0xc07a
    (codes "RSA" ∷ codes "DHE_RSA" ∷ codes "DH_RSA" ∷ codes "DHE_DSS" ∷ codes "DH_DSS" ∷ codes
    "DH_anon" ∷ []) (codes "CAMELLIA_128_GCM_SHA256" ∷ codes "CAMELLIA_256_GCM_SHA384" ∷ [])
    ++ suites 0xc086
    (codes "ECDHE_ECDSA" ∷ codes "ECDH_ECDSA" ∷ codes "ECDHE_RSA" ∷ codes "ECDH_RSA" ∷ [])
    (codes "CAMELLIA_128_GCM_SHA256" ∷ codes "CAMELLIA_256_GCM_SHA384" ∷ [])
    ++ suites 0xc08e (codes "PSK" ∷ codes "DHE_PSK" ∷ codes "RSA_PSK" ∷ [])
    (codes "CAMELLIA_128_GCM_SHA256" ∷ codes "CAMELLIA_256_GCM_SHA384" ∷ [])
    ++ suites 0xc094 (codes "PSK" ∷ codes "DHE_PSK" ∷ codes "RSA_PSK" ∷ codes "ECDHE_PSK" ∷ [])
    (codes "CAMELLIA_128_CBC_SHA256" ∷ codes "CAMELLIA_256_CBC_SHA384" ∷ [])
    ++ suites 0xc09c (codes "RSA" ∷ codes "DHE_RSA" ∷ [])
    (codes "AES_128_CCM" ∷ codes "AES_256_CCM" ∷ [])
    ++ suites 0xc0a0 (codes "RSA" ∷ codes "DHE_RSA" ∷ [])
    (codes "AES_128_CCM_8" ∷ codes "AES_256_CCM_8" ∷ [])
    ++ suites 0xc0a4 (codes "PSK" ∷ codes "DHE_PSK" ∷ [])
    (codes "AES_128_CCM" ∷ codes "AES_256_CCM" ∷ [])
    ++ suites 0xc0a8 (codes "PSK" ∷ codes "PSK_DHE" ∷ [])
    (codes "AES_128_CCM_8" ∷ codes "AES_256_CCM_8" ∷ [])
    ++ suites 0xc0ac (codes "ECDHE_ECDSA" ∷ [])
    (codes "AES_128_CCM" ∷ codes "AES_256_CCM" ∷ codes "AES_128_CCM_8" ∷ codes
    "AES_256_CCM_8" ∷ [])
    ++ suites 0xc0b0 (codes "ECCPWD" ∷ [])
    (codes "AES_128_GCM_SHA256" ∷ codes "AES_256_GCM_SHA384" ∷ codes "AES_128_CCM_SHA256" ∷ codes
    "AES_256_CCM_SHA384" ∷ [])
    ++ other 0xc0b4 (codes "TLS_SHA256_SHA256")
    ++ other 0xc0b5 (codes "TLS_SHA384_SHA384")
    ++ suites 0xc100 (codes "GOSTR341112_256" ∷ [])
    (codes "KUZNYECHIK_CTR_OMAC" ∷ codes "MAGMA_CTR_OMAC" ∷ codes "28147_CNT_IMIT" ∷ [])
    ++ suites 0xc103 (codes "GOSTR341112_256" ∷ [])
    (codes "KUZNYECHIK_MGM_L" ∷ codes "MAGMA_MGM_L" ∷ codes "KUZNYECHIK_MGM_S" ∷ codes
    "MAGMA_MGM_S" ∷ [])
    ++ suites 0xcc13 (codes "ECDHE_RSA" ∷ codes "ECDHE_ECDSA" ∷ codes "DHE_RSA" ∷ [])
    (codes "CHACHA20_POLY1305_SHA256" ∷ [])
    ++ suites 0xcca8
    (codes "ECDHE_RSA" ∷ codes "ECDHE_ECDSA" ∷ codes "DHE_RSA" ∷ codes "PSK" ∷ codes
    "ECDHE_PSK" ∷ codes "DHE_PSK" ∷ codes "RSA_PSK" ∷ []) (codes "CHACHA20_POLY1305_SHA256" ∷ [])
    ++ suites 0xd001 (codes "ECDHE_PSK" ∷ [])
    (codes "AES_128_GCM_SHA256" ∷ codes "AES_256_GCM_SHA384" ∷ codes "AES_128_CCM_8_SHA256" ∷ [])
    ++ suites 0xd005 (codes "ECDHE_PSK" ∷ []) (codes "AES_128_CCM_SHA256" ∷ [])
