-- How many records a stream has (RFC 8446, section 5.1).
use Rattle.std.specs.Prelude.{ℕ, ◌+◌, ◌-◌, ◌*◌, ◌^◌, nat_lt, min, if◌then◌else◌, List, [], ◌∷◌}
use Rattle.tls_analyzer.specs.declared.records.RecordCounter.{RecordCounter}

-- No byte came.
abbrev pub no_records : RecordCounter
no_records = record { count = 0; came = 0; last = 0; left = 0 }

-- One more byte: of the fragment, or of a header, which has 5 bytes and whose last 2 are the
-- fragment's length. A record counts once its header has come. The count saturates.
abbrev pub with_byte : ℕ → RecordCounter → RecordCounter
with_byte b r =
    if nat_lt 0 r.left then record r { left = r.left - 1 }
    else if nat_lt r.came 4 then record r { came = r.came + 1; last = b }
    else record {
      count = min (r.count + 1) (2 ^ 64 - 1);
      came = 0;
      last = 0;
      left =
          r.last * 256 + b;
    }

-- Bytes, in order.
abbrev pub with_bytes : List ℕ → RecordCounter → RecordCounter
with_bytes [] r = r
with_bytes (b ∷ bs) r = with_bytes bs (with_byte b r)
