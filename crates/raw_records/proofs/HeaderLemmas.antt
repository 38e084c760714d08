-- Headers of records: numbers, one after another.
use Rattle.std.proofs.Common.{◌≡◌, ℕ, ◌+◌, ◌-◌, ◌/◌, ◌%◌, ◌^◌, ◌<◌, ◌≤◌, length, take, drop, Bool, true, false, cond}
use Rattle.std.proofs.Common.{ltb, Ok, Err, refl, ap, ◌∙◌, arith}
use Rattle.std.proofs.lemmas.Bool.{ltb-true, ltb-false}
use Rattle.std.proofs.lemmas.List.{length-drop, drop-drop}
use Rattle.layouts.specs.Bytes.{Bytes, number_of}
use Rattle.layouts.specs.Layout.{Layout, done, number, chain}
use Rattle.layouts.specs.Meaning.{Answer, Lacks}
use Rattle.layouts.specs.Reading.{reading, ◌and_then◌, split_at, number_at}
use Rattle.layouts.proofs.OneAnswerLemmas.{number_read, ltb_yes}
use Rattle.raw_records.specs.Framing.{fragment_length}
use Rattle.raw_records.specs.RawRecord.{RecordHeader, record_header}
use Rattle.raw_records.specs.RawDtlsRecord as dtls

-- a number, and what follows it
number_then : {A : Type 0} (k : ℕ) (f : ℕ → Layout A) (b : Bytes) → k ≤ length b
    → reading (chain (number k) f) b ≡ reading (f (number_of (take k b))) (drop k b)
number_then k f b enough =
    ap (λ a. a and_then λ x. reading (f x.0) x.1)
    (number_read k b (take k b) (drop k b) (number_of (take k b)) enough refl refl refl)

abbrev number_in : Answer Bytes → Answer ℕ
number_in a = a and_then λ x. Ok (number_of x.0, x.1)

number_lacks : (k : ℕ) (b : Bytes) → length b < k
    → reading (number k) b ≡ Err (Lacks (k - length b))
unfolding number_at split_at
number_lacks k b short =
    ap (λ t. number_in
    (cond {A = Answer Bytes} t (Err (Lacks (k - length b))) (Ok (take k b, drop k b))))
    (ltb_yes (length b) k short)

-- fewer than m bytes are too few
abbrev WantsBytes : {A : Type 0} → ℕ → Layout A → Type 0
WantsBytes m l = (b : Bytes) → length b < m → (n : ℕ) × (reading l b ≡ Err (Lacks n))

wants : {A : Type 0} (k m : ℕ) (f : ℕ → Layout A) → ((v : ℕ) → WantsBytes m (f v))
    → WantsBytes (k + m) (chain (number k) f)
wants k m f more b short = go (ltb (length b) k) refl
  where
    go : (t : Bool) → ltb (length b) k ≡ t
        → (n : ℕ) × (reading (chain (number k) f) b ≡ Err (Lacks n))
    go true e = (
      k - length b,
      ap (λ a. a and_then λ x. reading (f x.0) x.1)
          (number_lacks k b (ltb-true (length b) k e)),
    )
    go false e =
        let enough : k ≤ length b = ltb-false (length b) k e in
        let rest = more (number_of (take k b)) (drop k b) (omega (arith, short, length-drop k b)) in
        (rest.0, number_then k f b enough ∙ rest.1)

wants_none : {A : Type 0} (l : Layout A) → WantsBytes 0 l
wants_none l b short = absurd (omega arith)

-- What follows the version, and what follows the fields before the length.
abbrev header_of : ℕ → ℕ → ℕ → Layout RecordHeader
header_of kind version length =
    done (record { content_type = kind; version = version; length = length })

abbrev header_from_length : ℕ → ℕ → Layout RecordHeader
header_from_length kind version = chain (number 2) (header_of kind version)

abbrev header_from_version : ℕ → Layout RecordHeader
header_from_version kind = chain (number 2) (λ version. header_from_length kind version)

pub short_header : WantsBytes 5 record_header
unfolding record_header
short_header =
    wants 1 4 header_from_version (λ kind. wants 2 2 (header_from_length kind)
    (λ version. wants 2 0 (header_of kind version) (λ n. wants_none (header_of kind version n))))

-- enough bytes are a header, whose length is the number in its last 2
pub long_header : (b : Bytes) → 5 ≤ length b
    → (h : RecordHeader) × (reading record_header b ≡ Ok (h, drop 5 b))
    × (h.length ≡ fragment_length 5 b)
unfolding record_header
long_header b enough =
    let kind = number_of (take 1 b) in
    let version = number_of (take 2 (drop 1 b)) in
    let header : RecordHeader = record {
      content_type = kind;
      version = version;
      length = number_of
          (take 2 (drop 2 (drop 1 b)));
    } in
    let behind : drop 2 (drop 2 (drop 1 b)) ≡ drop 5 b = ap (λ d. drop 2 d) (drop-drop 2 1 b)
    ∙ drop-drop 2 3 b in
    let read : reading record_header b ≡ Ok (header, drop 2 (drop 2 (drop 1 b)))
    = number_then 1 header_from_version b (omega (arith, enough))
    ∙ number_then 2 (header_from_length kind) (drop 1 b) (omega (arith, enough, length-drop 1 b))
    ∙ number_then 2 (header_of kind version) (drop 2 (drop 1 b))
    (omega (arith, enough, length-drop 1 b, length-drop 2 (drop 1 b))) in (
      header,
      read ∙ ap (λ r. Ok (header, r)) behind,
      ap (λ d. number_of (take 2 d)) (drop-drop 2 1 b),
    )

-- The header of DTLS.
abbrev dtls_header : ℕ → ℕ → ℕ → ℕ → dtls.RecordHeader
dtls_header kind version counter length = record {
  content_type = kind;
  version = version;
  epoch = counter / 2 ^ 48;
  sequence_number = counter % 2 ^ 48;
  length = length;
}

abbrev dtls_from_length : ℕ → ℕ → ℕ → Layout dtls.RecordHeader
dtls_from_length kind version counter =
    chain (number 2) (λ length. done (dtls_header kind version counter length))

abbrev dtls_from_counter : ℕ → ℕ → Layout dtls.RecordHeader
dtls_from_counter kind version = chain (number 8) (λ counter. dtls_from_length kind version counter)

abbrev dtls_from_version : ℕ → Layout dtls.RecordHeader
dtls_from_version kind = chain (number 2) (λ version. dtls_from_counter kind version)

pub dtls_short_header : WantsBytes 13 dtls.record_header
unfolding dtls.record_header
dtls_short_header =
    wants 1 12 dtls_from_version (λ kind. wants 2 10 (dtls_from_counter kind)
    (λ version. wants 8 2 (dtls_from_length kind version)
    (λ counter. wants 2 0 (λ n. done (dtls_header kind version counter n))
    (λ n. wants_none (done (dtls_header kind version counter n))))))

pub dtls_long_header : (b : Bytes) → 13 ≤ length b
    → (h : dtls.RecordHeader) × (reading dtls.record_header b ≡ Ok (h, drop 13 b))
    × (h.length ≡ fragment_length 13 b)
unfolding dtls.record_header
dtls_long_header b enough =
    let kind = number_of (take 1 b) in
    let version = number_of (take 2 (drop 1 b)) in
    let c = drop 2 (drop 1 b) in
    let counter = number_of (take 8 c) in
    let l = drop 8 c in
    let header : dtls.RecordHeader = dtls_header kind version counter (number_of (take 2 l)) in
    let third : c ≡ drop 3 b = drop-drop 2 1 b in
    let last : l ≡ drop 11 b = ap (λ d. drop 8 d) third ∙ drop-drop 8 3 b in
    let behind : drop 2 l ≡ drop 13 b = ap (λ d. drop 2 d) last ∙ drop-drop 2 11 b in
    let read : reading dtls.record_header b ≡ Ok (header, drop 2 l)
    = number_then 1 dtls_from_version b (omega (arith, enough))
    ∙ number_then 2 (dtls_from_counter kind) (drop 1 b) (omega (arith, enough, length-drop 1 b))
    ∙ number_then 8 (dtls_from_length kind version) c
    (omega (arith, enough, length-drop 1 b, length-drop 2 (drop 1 b)))
    ∙ number_then 2 (λ n. done (dtls_header kind version counter n)) l
    (omega (arith, enough, length-drop 1 b, length-drop 2 (drop 1 b), length-drop 8 c)) in (
      header,
      read ∙ ap (λ r. Ok (header, r)) behind,
      ap (λ d. number_of (take 2 d)) last,
    )
