-- Numbers of versions that stand for drafts of TLS 1.3, in supported_versions (RFC 8446, section
-- 4.2.1).
use Rattle.std.specs.Prelude.{ℕ, ◌-◌, ◌==◌, ◌&&◌, nat_le, if◌then◌else◌, Option, Some, None}
use Rattle.tls_summary.specs.declared.drafts.Draft.{Draft}
use Rattle.tls_summary.specs.declared.drafts.Draft.TheVariants.{BoringSsl, Facebook, Ietf}

-- 0x7f00 and the number of a draft of draft-ietf-tls-tls13 (its section 4.2.1.1). Facebook's fizz
-- has 0xfb00 and the number for two drafts, and BoringSSL had 0x7e01 to 0x7e03 for three
-- experiments with the form of the ServerHello.
abbrev pub draft_of : ℕ → Option Draft
draft_of n =
    if nat_le 0x7f00 n && nat_le n 0x7fff then Some (Ietf (n - 0x7f00))
    else if n == 0xfb17 then Some (Facebook 23)
    else if n == 0xfb1a then Some (Facebook 26)
    else if n == 0x7e01 then Some (BoringSsl 1)
    else if n == 0x7e02 then Some (BoringSsl 2)
    else if n == 0x7e03 then Some (BoringSsl 3)
    else None
