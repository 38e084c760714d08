-- The state of a datagram analyzer, record by record of a datagram.
use Rattle.std.proofs.Common.{◌≡◌, ℕ, suc, true, false, Ok, Err, length, refl, sym, ◌∙◌, ap, subst}
use Rattle.layouts.specs.Bytes.{Bytes}
use Rattle.layouts.specs.Meaning.{Refusal}
use Rattle.layouts.specs.Reading.{reading}
use Rattle.raw_records.specs.RawDtlsRecord.{RawRecord}
use Rattle.raw_records.specs.DatagramRecord.{datagram_record}
use Rattle.tls_flow.specs.declared.symbol.Direction.{Direction as Side}
use Rattle.dtls_analyzer.specs.DatagramRecords.{is_known}
use Rattle.dtls_analyzer.specs.Datagrams.{IsKnown, Analyzer, received, next_received, record_received, records_received, sealed_by}
use Rattle.dtls_analyzer.specs.declared.datagram_analyzer.DatagramAnalyzer.{DatagramAnalyzer}

-- At most n records of the datagram's rest are still to be read, and all of them lead to this
-- state.
abbrev pub IsReading : Analyzer → ℕ → Side → Bytes → DatagramAnalyzer → Type 0
IsReading all n s b t = (m : Analyzer) × IsKnown m t × (records_received n m s b ≡ all)

records_none : (k : Analyzer) (s : Side) (b : Bytes) → records_received 0 k s b ≡ k
unfolding records_received
records_none k s b = refl

records_more : (n : ℕ) (k : Analyzer) (s : Side) (b : Bytes)
    → records_received (suc n) k s b ≡ next_received (reading datagram_record b) k s b
    (λ k b. records_received n k s b)
unfolding records_received
records_more n k s b = refl

pub reading_begins : (k : Analyzer) (t : DatagramAnalyzer) (s : Side) (d : Bytes) (n : ℕ)
    → n ≡ length d → IsKnown k t
    → IsReading (received k s d) n s d t
reading_begins k t s d n e is = (k, is, ap (λ n. records_received n k s d) e)

next_ok : (n m : ℕ) (k : Analyzer) (s : Side) (b rest : Bytes) (r : RawRecord) → n ≡ suc m
    → reading datagram_record b ≡ Ok (r, rest) → is_known r.header ≡ true
    → records_received n k s b ≡ records_received m (record_received k s r) s rest
next_ok n m k s b rest r e ok known =
    ap (λ n. records_received n k s b) e ∙ records_more m k s b
    ∙ ap (λ x. next_received x k s b (λ k b. records_received m k s b)) ok
    ∙ rw known refl

pub reading_next : (all : Analyzer) (n m : ℕ) (s : Side) (b rest : Bytes) (r : RawRecord)
    (t u : DatagramAnalyzer) → n ≡ suc m
    → reading datagram_record b ≡ Ok (r, rest) → is_known r.header ≡ true
    → ((k : Analyzer) → IsKnown k t → IsKnown (record_received k s r) u)
    → IsReading all n s b t → IsReading all m s rest u
reading_next all n m s b rest r t u e ok known receives was = (
  record_received was.0 s r,
  receives was.0 was.1,
  sym (next_ok n m was.0 s b rest r e ok known) ∙ was.2,
)

pub reading_fails : (all : Analyzer) (n m : ℕ) (s : Side) (b : Bytes) (x : Refusal)
    (t u : DatagramAnalyzer) → n ≡ suc m
    → reading datagram_record b ≡ Err x
    → ((k : Analyzer) → IsKnown k t → IsKnown (sealed_by k s b) u)
    → IsReading all n s b t → IsKnown all u
reading_fails all n m s b x t u e fails seals was =
    subst (λ k. IsKnown k u)
    (sym (ap (λ n. records_received n was.0 s b) e ∙ records_more m was.0 s b
    ∙ ap (λ x. next_received x was.0 s b (λ k b. records_received m k s b))
    fails) ∙ was.2) (seals was.0 was.1)

pub reading_unknown : (all : Analyzer) (n m : ℕ) (s : Side) (b rest : Bytes) (r : RawRecord)
    (t u : DatagramAnalyzer) → n ≡ suc m
    → reading datagram_record b ≡ Ok (r, rest) → is_known r.header ≡ false
    → ((k : Analyzer) → IsKnown k t → IsKnown (sealed_by k s b) u) → IsReading all n s b t
    → IsKnown all u
reading_unknown all n m s b rest r t u e ok unknown seals was =
    subst (λ k. IsKnown k u)
    (sym (ap (λ n. records_received n was.0 s b) e ∙ records_more m was.0 s b
    ∙ ap (λ x. next_received x was.0 s b (λ k b. records_received m k s b)) ok
    ∙ rw unknown refl) ∙ was.2) (seals was.0 was.1)

pub reading_ends : (all : Analyzer) (n : ℕ) (s : Side) (b : Bytes) (t : DatagramAnalyzer) → n ≡ 0
    → IsReading all n s b t
    → IsKnown all t
reading_ends all n s b t e was =
    subst (λ k. IsKnown k t)
    (sym (ap (λ n. records_received n was.0 s b) e ∙ records_none was.0 s b) ∙ was.2) was.1
