-- When records are incomplete, and when their fragments aren't parsed.
use Rattle.std.proofs.Common.{◌≡◌, ℕ, ◌<◌, ◌↔◌, length, Ok, Err, inl, subst}
use Rattle.std.specs.Result.{IsErr}
use Rattle.layouts.specs.Bytes.{Bytes, AreBytes}
use Rattle.layouts.specs.Meaning.{Lacks, Allows}
use Rattle.layouts.specs.Reading.{reading}
use Rattle.layouts.specs.Answers.{Returned, GivesOrMemory, MemorySufficed}
use Rattle.layouts.proofs.LeavesLemmas.{LeavesFewer, takes_byte}
use Rattle.raw_records.specs.Framing.{HasNoRecord, NeedsMore, IsIncomplete}
use Rattle.raw_records.specs.RawRecord.{record_header, raw_record}
use Rattle.tls_records.specs.Record.{Plaintext, record_content, plaintext}
use Rattle.raw_records.proofs.HeaderLemmas.{short_header, long_header}
use Rattle.raw_records.proofs.WholeLemmas.{record_lacks, no_record_refused, incomplete_returned}
use Rattle.raw_records.proofs.FurtherLemmas.{raw_of}
use Rattle.tls_records.proofs.FurtherLemmas.{content_never_lacks, whole_of}

pub plaintext_lacks : (b : Bytes) → AreBytes b → ((n : ℕ) × Allows plaintext b (Err (Lacks n)))
    ↔ NeedsMore 5 b
unfolding plaintext
plaintext_lacks b are =
    record_lacks record_header (λ h. h.length) record_content whole_of raw_of 5 content_never_lacks
    short_header
    long_header b are

raw_record_refused : (b : Bytes) → HasNoRecord 5 b → IsErr (reading raw_record b)
unfolding raw_record
raw_record_refused b un =
    no_record_refused record_header (λ h. h.length) record_content whole_of raw_of 5
    content_never_lacks short_header
    long_header b un

needs_none : (n : ℕ) (b : Bytes) → NeedsMore n b → HasNoRecord n b
needs_none n b needs = inl needs.0

-- Results of calls that don't run out of memory if there is no raw record.
pub plaintext_memory : {X : Type 0} (b : Bytes) (r : Returned X)
    → (IsErr (reading raw_record b) → MemorySufficed r)
    → HasNoRecord 5 b → MemorySufficed r
plaintext_memory b r memory un = memory (raw_record_refused b un)

pub plaintext_incomplete : {X : Type 0} (view : X → Plaintext) (b : Bytes) (r : Returned X)
    → AreBytes b
    → GivesOrMemory view plaintext b r → (IsErr (reading raw_record b) → MemorySufficed r)
    → IsIncomplete r ↔ NeedsMore 5 b
plaintext_incomplete view b r are g memory =
    incomplete_returned view plaintext b (NeedsMore 5 b) r are (plaintext_lacks b are) g
    (λ needs. memory (raw_record_refused b (needs_none 5 b needs)))

-- A record that is read consumes a byte.
pub plaintext_takes : (b r : Bytes) (p : Plaintext) → reading plaintext b ≡ Ok (p, r)
    → length r < length b
unfolding plaintext record_header
plaintext_takes b r p e = subst (LeavesFewer (length b)) e (takes_byte plaintext b tt)
