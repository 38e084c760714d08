-- Two kinds of frames: records and handshake messages.
use Rattle.std.specs.Prelude.{◌≡◌, ℕ, ◌+◌, ◌*◌, Option, Some, None, Ok, Err, slice_index}
use Rattle.layouts.specs.Answers.{Returned}
use Rattle.layouts.specs.Bytes.{Bytes}
use Rattle.layouts.specs.Meaning.{Answer}
use Rattle.layouts.specs.declared.result.Err.TheVariants as failed
use Rattle.layouts.specs.declared.result.ErrorKind.TheVariants.{TooLarge}
use Rattle.raw_records.specs.RawRecord.{RawRecord, record_bytes}
use Rattle.raw_records.specs.Framing.{max_fragment_length}
use Rattle.tls_stream.specs.Frames.{Kind, Shape, up_to}

-- Records of TLS (RFC 5246, section 6.2): a header of 5 bytes, the last 2 of which are the
-- fragment's length.
abbrev pub records : Kind
records = record { header = 5; body_in = λ h. slice_index h 3 * 256 + slice_index h 4 }

-- With the limit of `parse_tls_raw_record`.
abbrev pub record_frame : Shape
record_frame = up_to records max_fragment_length

-- Handshake messages (RFC 5246, section 7.4): 1 byte of type and 3 of the body's length.
abbrev pub messages : Kind
messages = record {
  header = 4;
  body_in =
      λ h. (slice_index h 1 * 256 + slice_index h 2) * 256 + slice_index h 3;
}

abbrev pub message_frame : ℕ → Shape
message_frame limit = up_to messages limit

-- The first frame and the bytes after it, if a record parses there.
abbrev pub front_of : Answer RawRecord → Bytes → Option (Bytes × Bytes)
front_of (Ok x) b = Some (record_bytes x.0 b, x.1)
front_of (Err e) b = None

-- The returned error is that the length is too large.
abbrev pub IsRefusedAsTooLarge : {X : Type 0} → Returned X → Type 0
IsRefusedAsTooLarge (Err (failed.Error e)) = e.code ≡ TooLarge
IsRefusedAsTooLarge r = ⊥

-- An answer with its rest replaced.
abbrev pub with_rest : {A : Type 0} → Bytes → Answer A → Answer A
with_rest r (Ok x) = Ok (x.0, r)
with_rest r (Err e) = Err e
