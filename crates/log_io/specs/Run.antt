-- How the run over a capture ends.
use Rattle.std.specs.Prelude.{◌≡◌, ⊤, Bool, false, Result, Ok, Err, Option, IfSome}
use Rattle.std.specs.Io.KnownBytes.{IsAtEnd}
use Rattle.layouts.specs.Bytes.{Bytes}
use Rattle.packets.specs.Packets.{Whole, packets_of}
use Rattle.packets.specs.declared.reader.CaptureError.TheVariants as capture
use Rattle.packets.specs.declared.visit.VisitError.{VisitError}
use Rattle.packets.specs.declared.visit.VisitError.TheVariants as visit
use Rattle.log_io.specs.declared.failure.Exit.{Exit}
use Rattle.log_io.specs.declared.failure.Exit.TheVariants as exit
use Rattle.log_io.specs.declared.failure.Failure.{Failure}
use Rattle.log_io.specs.declared.failure.Failure.TheVariants.{Capture, OutOfMemory, Reading, Endless, Closed, Writing}
use Rattle.log_io.specs.declared.output.LineError.{LineError}
use Rattle.log_io.specs.declared.output.LineError.TheVariants as line

-- The capture is at fault: not memory, reading or writing.
abbrev pub IsOfCapture : Failure → Type 0
IsOfCapture (Capture text) = ⊤
IsOfCapture f = ⊥

-- Both are one failure; or both are faults of the capture, with any texts.
abbrev pub IsSameCause : Failure → Failure → Type 0
IsSameCause (Capture text) f = IsOfCapture f
IsSameCause e f = f ≡ e

abbrev pub failure_of_line : LineError → Failure
failure_of_line line.OutOfMemory = OutOfMemory
failure_of_line line.Closed = Closed
failure_of_line (line.Writing e) = Writing e

-- A run fails by the error that ended the visit of its packets.
abbrev pub IsFailureOf : VisitError LineError → Failure → Type 0
IsFailureOf (visit.Capture capture.OutOfMemory) f = f ≡ OutOfMemory
IsFailureOf (visit.Capture e) f = IsOfCapture f
IsFailureOf visit.BrokenOff f = IsOfCapture f
IsFailureOf (visit.Reading e) f = f ≡ Reading e
IsFailureOf visit.Endless f = f ≡ Endless
IsFailureOf (visit.Visitor e) f = f ≡ failure_of_line e

-- The source has a whole capture, and all of it was read.
abbrev pub IsReadWhole : Option Bytes → Option Bytes → Type 0
IsReadWhole old new = IfSome old (λ bytes. ((packets_of bytes).1 ≡ Whole) × IsAtEnd new)

-- The source has no capture, or a truncated one.
abbrev pub HasNoWholeCapture : Option Bytes → Type 0
HasNoWholeCapture old = IfSome old (λ bytes. (packets_of bytes).1 ≡ Whole → ⊥)

-- A run returns `Ok` if all was read, `Capture` if the capture is at fault, else another error.
abbrev pub EndsBy : Option Bytes → Option Bytes → Result Unit Failure → Type 0
EndsBy old new (Ok u) = IsReadWhole old new
EndsBy old new (Err (Capture text)) = HasNoWholeCapture old
EndsBy old new (Err f) = ⊤

-- A run exits as `Clean` if all was read, as `Broken` if the capture is at fault.
abbrev pub Exits : Option Bytes → Option Bytes → Exit → Type 0
Exits old new exit.Clean = IsReadWhole old new
Exits old new exit.Broken = HasNoWholeCapture old
Exits old new e = ⊤

-- The exit fits the failure. A failure other than `Closed` may exit as `Failed`, since the message
-- may not be printed.
abbrev pub ExitsBy : Failure → Exit → Type 0
ExitsBy f exit.Clean = ⊥
ExitsBy f exit.Closed = f ≡ Closed
ExitsBy f exit.Broken = IsOfCapture f
ExitsBy f exit.Failed = f ≡ Closed → ⊥

-- The exit isn't that of a faulty capture.
abbrev pub IsNotOfCapture : Exit → Type 0
IsNotOfCapture exit.Broken = ⊥
IsNotOfCapture e = ⊤

-- If the result has no value, the run failed.
abbrev pub HasFailed : {A : Type 0} → Result A Exit → Type 0
HasFailed (Ok a) = ⊤
HasFailed (Err exit.Failed) = ⊤
HasFailed (Err e) = ⊥

-- The exit stays the same, or is `Failed`.
abbrev pub IsAsBefore : Exit → Exit → Type 0
IsAsBefore e exit.Failed = ⊤
IsAsBefore e e' = e' ≡ e

-- After a success or a fault of the capture, no write failed if none had before.
abbrev pub StaysSound : Bool → Bool → Result Unit Failure → Type 0
StaysSound old new (Ok u) = old ≡ false → new ≡ false
StaysSound old new (Err (Capture text)) = old ≡ false → new ≡ false
StaysSound old new (Err f) = ⊤

-- Unless it exits as `Failed` or `Closed`, no write failed if none had before.
abbrev pub HasWritten : Bool → Exit → Bool → Type 0
HasWritten old exit.Failed new = ⊤
HasWritten old exit.Closed new = ⊤
HasWritten old e new = old ≡ false → new ≡ false
