-- The last part of records, and of DTLS messages.
use Rattle.std.proofs.Common.{◌++◌, Some, nat_le, refl, sym, subst, ap}
use Rattle.layouts.specs.Layout.{done, number, block, chain, test}
use Rattle.layouts.specs.Meaning.{EndsWith}
use Rattle.layouts.proofs.EndLemmas.{ends, ends_after}
use Rattle.layouts.specs.declared.result.ErrorKind.TheVariants.{TooLarge}
use Rattle.raw_records.specs.Framing.{max_fragment_length}
use Rattle.raw_records.specs.RawRecord as tls
use Rattle.raw_records.specs.RawDtlsRecord as dtls
use Rattle.dtls_records.specs.DtlsInPlace.{RawHandshake, raw_handshake}
use Rattle.tls_places.specs.Last.{LastStands, StandsLast}
use Rattle.tls_places.proofs.LastLemmas.{allowed_last, behind, block_last, chain_last, made_last}

fragment_last : LastStands tls.raw_record (λ v. Some v.fragment)
unfolding tls.raw_record
fragment_last =
    chain_last tls.record_header (λ h. chain (test (nat_le h.length max_fragment_length) TooLarge)
    (λ _. chain (block h.length) (λ f. done (record { header = h; fragment = f })))) (λ v. Some
    v.fragment)
    (λ h. chain_last (test (nat_le h.length max_fragment_length) TooLarge)
    (λ _. chain (block h.length) (λ f. done (record { header = h; fragment = f })))
    (λ v. Some v.fragment)
    (λ u. made_last (block h.length) (λ f. record { header = h; fragment = f }) (λ x. Some x)
    (λ v. Some v.fragment)
    (λ x. refl) (block_last h.length)))

pub fragment_is_last : (v : tls.RawRecord) → StandsLast tls.raw_record v v.fragment
fragment_is_last = allowed_last tls.raw_record (λ v. v.fragment) fragment_last

dtls_fragment_last : LastStands dtls.raw_record (λ v. Some v.fragment)
unfolding dtls.raw_record
dtls_fragment_last =
    chain_last dtls.record_header (λ h. chain (test (nat_le h.length max_fragment_length) TooLarge)
    (λ _. chain (block h.length) (λ f. done (record { header = h; fragment = f })))) (λ v. Some
    v.fragment)
    (λ h. chain_last (test (nat_le h.length max_fragment_length) TooLarge)
    (λ _. chain (block h.length) (λ f. done (record { header = h; fragment = f })))
    (λ v. Some v.fragment)
    (λ u. made_last (block h.length) (λ f. record { header = h; fragment = f }) (λ x. Some x)
    (λ v. Some v.fragment)
    (λ x. refl) (block_last h.length)))

pub dtls_fragment_is_last : (v : dtls.RawRecord) → StandsLast dtls.raw_record v v.fragment
dtls_fragment_is_last = allowed_last dtls.raw_record (λ v. v.fragment) dtls_fragment_last

dtls_body_last : LastStands raw_handshake (λ v. Some v.body)
unfolding raw_handshake
dtls_body_last b v r d (
  kind,
  m1,
  d1,
  d2,
  s1,
  (
    len,
    m2,
    d3,
    d4,
    s2,
    (
      seq,
      m3,
      d5,
      d6,
      s3,
      (
        offset,
        m4,
        d7,
        d8,
        s4,
        (size, m5, d9, d10, s5, (bytes, m6, d11, d12, s6, (is, last, e6), e5), e4),
        e3,
      ),
      e2,
    ),
    e1,
  ),
  e0,
) =
    let at : EndsWith b m5 = behind (number 3) b m4 size m5 d9
    (behind (number 3) b m3 offset m4 d7 (behind (number 2) b m2 seq m3 d5
    (behind (number 3) b m1 len m2 d3 (ends (number 1) b kind m1 d1 s1) s2) s3) s4) s5 in
    let here : EndsWith b (bytes ++ m6) =
    ends_after b m5 (bytes ++ m6) at (block_last size m5 bytes m6 d11 s6) in
    subst (λ x. EndsWith b (v.body ++ x)) last
    (subst (λ x. EndsWith b (x ++ m6)) (sym (ap (λ y. y.body) is)) here)

pub dtls_body_is_last : (v : RawHandshake) → StandsLast raw_handshake v v.body
dtls_body_is_last = allowed_last raw_handshake (λ v. v.body) dtls_body_last
