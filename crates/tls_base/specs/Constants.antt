-- The names of constants, type by type, with the numbers of the RFCs' registries. The code has the
-- same numbers a second time, as constants of its types, and must show them by these names.
-- Extensions are in ExtensionNumbers.
use Rattle.std.specs.Prelude.{ℕ, List, [], ◌∷◌, Option, codes}
use Rattle.tls_base.specs.Names.{Text, look_up}

-- The Version of RFC 6962, section 3.2.
abbrev pub ct_versions : List (ℕ × Text)
ct_versions =
    (0, codes "V1")
    ∷ []

-- The AlertLevel of RFC 5246, section 7.2.
abbrev pub alert_levels : List (ℕ × Text)
alert_levels =
    (1, codes "Warning")
    ∷ (2, codes "Fatal")
    ∷ []

-- The AlertDescription of RFC 8446, section 6, with the alerts of earlier versions.
abbrev pub alert_descriptions : List (ℕ × Text)
alert_descriptions =
    (0, codes "CloseNotify")
    ∷ (10, codes "UnexpectedMessage")
    ∷ (20, codes "BadRecordMac")
    ∷ (21, codes "DecryptionFailed")
    ∷ (22, codes "RecordOverflow")
    ∷ (30, codes "DecompressionFailure")
    ∷ (40, codes "HandshakeFailure")
    ∷ (41, codes "NoCertificate")
    ∷ (42, codes "BadCertificate")
    ∷ (43, codes "UnsupportedCertificate")
    ∷ (44, codes "CertificateRevoked")
    ∷ (45, codes "CertificateExpired")
    ∷ (46, codes "CertificateUnknown")
    ∷ (47, codes "IllegalParameter")
    ∷ (48, codes "UnknownCa")
    ∷ (49, codes "AccessDenied")
    ∷ (50, codes "DecodeError")
    ∷ (51, codes "DecryptError")
    ∷ (60, codes "ExportRestriction")
    ∷ (70, codes "ProtocolVersion")
    ∷ (71, codes "InsufficientSecurity")
    ∷ (80, codes "InternalError")
    ∷ (86, codes "InappropriateFallback")
    ∷ (90, codes "UserCancelled")
    ∷ (100, codes "NoRenegotiation")
    ∷ (109, codes "MissingExtension")
    ∷ (110, codes "UnsupportedExtension")
    ∷ (111, codes "CertUnobtainable")
    ∷ (112, codes "UnrecognizedName")
    ∷ (113, codes "BadCertStatusResponse")
    ∷ (114, codes "BadCertHashValue")
    ∷ (115, codes "UnknownPskIdentity")
    ∷ (116, codes "CertificateRequired")
    ∷ (120, codes "NoApplicationProtocol")
    ∷ []

-- The ECCurveType of RFC 4492, section 5.4, of which RFC 8422, section 5.4, deprecates the first
-- two.
abbrev pub curve_types : List (ℕ × Text)
curve_types =
    (1, codes "ExplicitPrime")
    ∷ (2, codes "ExplicitChar2")
    ∷ (3, codes "NamedGroup")
    ∷ []

-- The NameType of RFC 6066, section 3.
abbrev pub name_types : List (ℕ × Text)
name_types =
    (0, codes "HostName")
    ∷ []

-- The CertificateStatusType of RFC 6066, section 8.
abbrev pub certificate_status_types : List (ℕ × Text)
certificate_status_types =
    (1, codes "OCSP")
    ∷ []

-- The HandshakeType of RFC 5246, section 7.4, with those of RFC 6347, section 4.3.2, RFC 6066,
-- section 2, and RFC 8446, section 4. HelloRetryRequest is of drafts of TLS 1.3, and NextProtocol
-- of draft-agl-tls-nextprotoneg.
abbrev pub handshake_types : List (ℕ × Text)
handshake_types =
    (0, codes "HelloRequest")
    ∷ (1, codes "ClientHello")
    ∷ (2, codes "ServerHello")
    ∷ (3, codes "HelloVerifyRequest")
    ∷ (4, codes "NewSessionTicket")
    ∷ (5, codes "EndOfEarlyData")
    ∷ (6, codes "HelloRetryRequest")
    ∷ (8, codes "EncryptedExtensions")
    ∷ (11, codes "Certificate")
    ∷ (12, codes "ServerKeyExchange")
    ∷ (13, codes "CertificateRequest")
    ∷ (14, codes "ServerDone")
    ∷ (15, codes "CertificateVerify")
    ∷ (16, codes "ClientKeyExchange")
    ∷ (20, codes "Finished")
    ∷ (21, codes "CertificateURL")
    ∷ (22, codes "CertificateStatus")
    ∷ (24, codes "KeyUpdate")
    ∷ (67, codes "NextProtocol")
    ∷ []

-- The HeartbeatMessageType of RFC 6520, section 3.
abbrev pub heartbeat_message_types : List (ℕ × Text)
heartbeat_message_types =
    (1, codes "HeartBeatRequest")
    ∷ (2, codes "HeartBeatResponse")
    ∷ []

-- The CompressionMethod of RFC 5246, section 6.1, with that of RFC 3749, section 2.
abbrev pub compression_methods : List (ℕ × Text)
compression_methods =
    (0, codes "Null")
    ∷ (1, codes "Deflate")
    ∷ []

-- The ContentType of RFC 5246, section 6.2.1, with that of RFC 6520, section 6.
abbrev pub content_types : List (ℕ × Text)
content_types =
    (20, codes "ChangeCipherSpec")
    ∷ (21, codes "Alert")
    ∷ (22, codes "Handshake")
    ∷ (23, codes "ApplicationData")
    ∷ (24, codes "Heartbeat")
    ∷ []

-- The HashAlgorithm of RFC 5246, section 7.4.1.4.1, with that of RFC 8422, section 5.1.3.
abbrev pub hash_algorithms : List (ℕ × Text)
hash_algorithms =
    (0, codes "None")
    ∷ (1, codes "Md5")
    ∷ (2, codes "Sha1")
    ∷ (3, codes "Sha224")
    ∷ (4, codes "Sha256")
    ∷ (5, codes "Sha384")
    ∷ (6, codes "Sha512")
    ∷ (8, codes "Intrinsic")
    ∷ []

-- The SignatureAlgorithm of RFC 5246, section 7.4.1.4.1, with those of RFC 8422, section 5.1.3.
abbrev pub signature_algorithms : List (ℕ × Text)
signature_algorithms =
    (0, codes "Anonymous")
    ∷ (1, codes "Rsa")
    ∷ (2, codes "Dsa")
    ∷ (3, codes "Ecdsa")
    ∷ (7, codes "Ed25519")
    ∷ (8, codes "Ed448")
    ∷ []

-- The NamedCurve of RFC 4492, section 5.1.1, with the NamedGroup of RFC 8446, section 4.2.7, and
-- the curves of RFC 7027, RFC 8734 and RFC 8998. RFC 8422, section 5.1.1, deprecates 1 to 22,
-- 0xff01 and 0xff02.
abbrev pub named_groups : List (ℕ × Text)
named_groups =
    (1, codes "Sect163k1")
    ∷ (2, codes "Sect163r1")
    ∷ (3, codes "Sect163r2")
    ∷ (4, codes "Sect193r1")
    ∷ (5, codes "Sect193r2")
    ∷ (6, codes "Sect233k1")
    ∷ (7, codes "Sect233r1")
    ∷ (8, codes "Sect239k1")
    ∷ (9, codes "Sect283k1")
    ∷ (10, codes "Sect283r1")
    ∷ (11, codes "Sect409k1")
    ∷ (12, codes "Sect409r1")
    ∷ (13, codes "Sect571k1")
    ∷ (14, codes "Sect571r1")
    ∷ (15, codes "Secp160k1")
    ∷ (16, codes "Secp160r1")
    ∷ (17, codes "Secp160r2")
    ∷ (18, codes "Secp192k1")
    ∷ (19, codes "Secp192r1")
    ∷ (20, codes "Secp224k1")
    ∷ (21, codes "Secp224r1")
    ∷ (22, codes "Secp256k1")
    ∷ (23, codes "Secp256r1")
    ∷ (24, codes "Secp384r1")
    ∷ (25, codes "Secp521r1")
    ∷ (26, codes "BrainpoolP256r1")
    ∷ (27, codes "BrainpoolP384r1")
    ∷ (28, codes "BrainpoolP512r1")
    ∷ (29, codes "EcdhX25519")
    ∷ (30, codes "EcdhX448")
    ∷ (31, codes "BrainpoolP256r1tls13")
    ∷ (32, codes "BrainpoolP384r1tls13")
    ∷ (33, codes "BrainpoolP512r1tls13")
    ∷ (41, codes "Sm2")
    ∷ (0x0100, codes "Ffdhe2048")
    ∷ (0x0101, codes "Ffdhe3072")
    ∷ (0x0102, codes "Ffdhe4096")
    ∷ (0x0103, codes "Ffdhe6144")
    ∷ (0x0104, codes "Ffdhe8192")
    ∷ (0xff01, codes "ArbitraryExplicitPrimeCurves")
    ∷ (0xff02, codes "ArbitraryExplicitChar2Curves")
    ∷ []

-- The ProtocolVersion of RFC 5246, section 6.2.1, RFC 6347, section 4.1, and RFC 8446, section
-- 4.1.2, with those of its drafts. There is no DTLS 1.1 (RFC 6347, section 1).
abbrev pub protocol_versions : List (ℕ × Text)
protocol_versions =
    (0x0300, codes "Ssl30")
    ∷ (0x0301, codes "Tls10")
    ∷ (0x0302, codes "Tls11")
    ∷ (0x0303, codes "Tls12")
    ∷ (0x0304, codes "Tls13")
    ∷ (0x7f12, codes "Tls13Draft18")
    ∷ (0x7f13, codes "Tls13Draft19")
    ∷ (0x7f14, codes "Tls13Draft20")
    ∷ (0x7f15, codes "Tls13Draft21")
    ∷ (0x7f16, codes "Tls13Draft22")
    ∷ (0x7f17, codes "Tls13Draft23")
    ∷ (0xfeff, codes "DTls10")
    ∷ (0xfefe, codes "DTls11")
    ∷ (0xfefd, codes "DTls12")
    ∷ []

-- The SignatureScheme of RFC 8446, section 4.2.3, with those of RFC 8734 and RFC 8998.
abbrev pub signature_schemes : List (ℕ × Text)
signature_schemes =
    (0x0401, codes "rsa_pkcs1_sha256")
    ∷ (0x0501, codes "rsa_pkcs1_sha384")
    ∷ (0x0601, codes "rsa_pkcs1_sha512")
    ∷ (0x0201, codes "rsa_pkcs1_sha1")
    ∷ (0x0403, codes "ecdsa_secp256r1_sha256")
    ∷ (0x0503, codes "ecdsa_secp384r1_sha384")
    ∷ (0x0603, codes "ecdsa_secp521r1_sha512")
    ∷ (0x0203, codes "ecdsa_sha1")
    ∷ (0x0708, codes "sm2sig_sm3")
    ∷ (0x0804, codes "rsa_pss_rsae_sha256")
    ∷ (0x0805, codes "rsa_pss_rsae_sha384")
    ∷ (0x0806, codes "rsa_pss_rsae_sha512")
    ∷ (0x0807, codes "ed25519")
    ∷ (0x0808, codes "ed448")
    ∷ (0x0809, codes "rsa_pss_pss_sha256")
    ∷ (0x080a, codes "rsa_pss_pss_sha384")
    ∷ (0x080b, codes "rsa_pss_pss_sha512")
    ∷ (0x081a, codes "ecdsa_brainpoolP256r1tls13_sha256")
    ∷ (0x081b, codes "ecdsa_brainpoolP384r1tls13_sha384")
    ∷ (0x081c, codes "ecdsa_brainpoolP512r1tls13_sha512")
    ∷ []

-- The length of a key, in bits, of the named groups 1 to 29: the number in the curve's name, and
-- 253 for X25519.
abbrev pub key_sizes : List (ℕ × ℕ)
key_sizes =
    (1, 163) ∷ (2, 163) ∷ (3, 163) ∷ (4, 193) ∷ (5, 193) ∷ (6, 233) ∷ (7, 233)
    ∷ (8, 239) ∷ (9, 283) ∷ (10, 283) ∷ (11, 409) ∷ (12, 409) ∷ (13, 571) ∷ (14, 571)
    ∷ (15, 160) ∷ (16, 160) ∷ (17, 160) ∷ (18, 192) ∷ (19, 192) ∷ (20, 224) ∷ (21, 224)
    ∷ (22, 256) ∷ (23, 256) ∷ (24, 384) ∷ (25, 521) ∷ (26, 256) ∷ (27, 384) ∷ (28, 512)
    ∷ (29, 253)
    ∷ []

-- The length of a key in this group, if the table has it.
abbrev pub key_bits : ℕ → Option ℕ
key_bits n = look_up key_sizes n
