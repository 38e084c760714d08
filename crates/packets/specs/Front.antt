-- The item at the front of a capture's bytes.
use Rattle.std.specs.Prelude.{◌≡◌, ℕ, ◌==◌, if◌then◌else◌, Option, Some, None, Result, Ok, Err, List, ◌++◌, ⊤}
use Rattle.std.specs.Borrow.{Bor}
use Rattle.layouts.specs.Bytes.{Bytes}
use Rattle.layouts.specs.Layout.{number}
use Rattle.layouts.specs.Meaning.{Answer, Lacks, Broken}
use Rattle.layouts.specs.Reading.{reading}
use Rattle.capture.specs.Pcap as pcap
use Rattle.capture.specs.Pcapng.{Block, SECTION, next_block}
use Rattle.packets.specs.Section.{Packet, Section, BlockResult, view_packet, view_section, beginning, block_result}
use Rattle.packets.specs.declared.reader.Form as stored
use Rattle.packets.specs.declared.reader.Packet as lent
use Rattle.packets.specs.declared.reader.Form.TheVariants as form
use Rattle.packets.specs.declared.reader.CaptureStep as rust
use Rattle.packets.specs.declared.reader.CaptureStep.TheVariants as step
use Rattle.packets.specs.declared.reader.CaptureError.{CaptureError}
use Rattle.packets.specs.declared.reader.CaptureError.TheVariants as error

-- What is known of a capture: nothing yet; a pcap file's format and link type; or a pcapng section.
pub data State : Type 0 where
  Unknown : State
  Pcap : pcap.Format → ℕ → State
  Blocks : Section → State

abbrev pub view_form : stored.Form → State
view_form form.Unknown = Unknown
view_form (form.Pcap format link) = Pcap (pcap.view_format format) link
view_form (form.Blocks section) = Blocks (view_section section)

-- A packet and the bytes behind it, another item and the bytes behind it, or too few bytes.
pub data Front : Type 0 where
  Captured : Packet → Bytes → Front
  Other : Bytes → Front
  Wait : Front

abbrev pub view_step : rust.CaptureStep → Front
view_step (step.Packet p rest) = Captured (view_packet p) rest.now
view_step (step.Other rest) = Other rest.now
view_step step.Wait = Wait

-- The item at the front, and the state behind it; or an error.
abbrev pub FrontResult : Type 0
FrontResult = Result (Front × State) CaptureError

-- The header of a pcap file.
abbrev pub header_front : Answer pcap.Header → FrontResult
header_front (Ok x) = Ok (Other x.1, Pcap x.0.format x.0.link_type)
header_front (Err (Lacks n)) = Ok (Wait, Unknown)
header_front (Err (Broken kind)) = Err error.NoCapture

-- A pcapng file begins with the type of a Section Header Block, which is left for the section's
-- parser. Any other capture begins with a pcap header.
abbrev pub form_front : Answer ℕ → Bytes → FrontResult
form_front (Err e) b = Ok (Wait, Unknown)
form_front (Ok x) b = if x.0 == SECTION then
    Ok (Other b, Blocks beginning) else header_front (reading pcap.header b)

-- A packet of a pcap file.
abbrev pub pcap_front : pcap.Format → ℕ → Answer pcap.Packet → FrontResult
pcap_front format link (Ok x) = Ok (
  Captured (record {
    time = x.0.time;
    link_type = link;
    original_length = x.0.original_length;
    bytes = x.0.bytes;
  }) x.1,
  Pcap format link,
)
pcap_front format link (Err (Lacks n)) = Ok (Wait, Pcap format link)
pcap_front format link (Err (Broken kind)) = Err error.Broken

-- A block's result, and the bytes behind it.
abbrev pub front_of_result : Bytes → BlockResult → FrontResult
front_of_result rest (Ok (Some p, s)) = Ok (Captured p rest, Blocks s)
front_of_result rest (Ok (None, s)) = Ok (Other rest, Blocks s)
front_of_result rest (Err e) = Err e

-- A block of a section.
abbrev pub block_front : Section → Answer Block → FrontResult
block_front s (Ok x) = front_of_result x.1 (block_result s x.0)
block_front s (Err (Lacks n)) = Ok (Wait, Blocks s)
block_front s (Err (Broken kind)) = Err error.Broken

-- The item at the front of these bytes, by the state behind the bytes before them.
abbrev pub front : State → Bytes → FrontResult
front Unknown b = form_front (reading (number 4) b) b
front (Pcap format link) b = pcap_front format link (reading (pcap.packet format) b)
front (Blocks s) b = block_front s (reading (next_block s.order) b)

-- When x follows the bytes, the item at their front is the same, and the bytes behind it end with
-- x. Too few bytes may become enough.
abbrev pub Longer : Bytes → FrontResult → FrontResult → Type 0
Longer x (Ok (Captured p r, s)) y = y ≡ Ok (Captured p (r ++ x), s)
Longer x (Ok (Other r, s)) y = y ≡ Ok (Other (r ++ x), s)
Longer x (Ok (Wait, s)) y = ⊤
Longer x (Err e) y = y ≡ Err e

-- A call returns what a definition gives, or runs out of memory. An error changes nothing.
abbrev pub Answers : {X Y S : Type 0} → (X → Y) → Result (Y × S) CaptureError → S
    → Result X CaptureError → S → Type 0
Answers view expected old (Ok x) new = expected ≡ Ok (view x, new)
Answers view expected old (Err error.OutOfMemory) new = new ≡ old
Answers view expected old (Err e) new = (expected ≡ Err e) × (new ≡ old)

-- A call that returns a packet of a section, or an error that changes nothing.
abbrev pub AnswersPacket : BlockResult → Section → Result lent.Packet CaptureError → Section
    → Type 0
AnswersPacket expected old r new = Answers (λ p. Some (view_packet p)) expected old r new

-- The recognized format and the bytes behind it; none if bytes are missing.
abbrev pub IsForm : FrontResult → Result (Option (stored.Form × Bor (List ℕ))) CaptureError → Type 0
IsForm expected (Ok (Some x)) = expected ≡ Ok (Other x.1.now, view_form x.0)
IsForm expected (Ok None) = expected ≡ Ok (Wait, Unknown)
IsForm expected (Err e) = expected ≡ Err e
