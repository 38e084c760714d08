-- A record that isn't encrypted, parsed with its messages.
use Rattle.std.specs.Prelude.{◌≡◌, false, [], Ok, Err}
use Rattle.layouts.specs.Bytes.{Bytes}
use Rattle.layouts.specs.Meaning.{Broken}
use Rattle.layouts.specs.Reading.{reading}
use Rattle.layouts.specs.declared.result.ErrorKind.{ErrorKind}
use Rattle.tls_records.specs.Record.{Plaintext, plaintext, raw_record}
use Rattle.tlsview.specs.Fault.{Refused}
use Rattle.tlsview.specs.Out.{Half, Part, Messages, content_part, record_part}
use Rattle.tlsview.specs.declared.direction.LineDirection.{LineDirection}

-- if it parses, its messages are printed, and then what follows it
abbrev pub PlaintextIsPrinted : LineDirection → Half → Type 0
PlaintextIsPrinted d h = (p : Plaintext) (rest : Bytes) (behind : Half → Part Half)
    → h.is_encrypted ≡ false
    → reading plaintext h.left ≡ Ok (p, rest)
    → record_part d h (reading raw_record h.left) behind ≡ content_part d h rest
    (Ok (Messages p.messages)) behind

-- if it breaks a rule, nothing is printed, and its refusal is the fault
abbrev pub PlaintextIsRefused : LineDirection → Half → Type 0
PlaintextIsRefused d h = (kind : ErrorKind) (behind : Half → Part Half) → h.is_encrypted ≡ false
    → reading plaintext h.left ≡ Err (Broken kind)
    → record_part d h (reading raw_record h.left) behind ≡ ([], Err (Refused (Broken kind)))
