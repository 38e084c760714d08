-- The packets of a capture, by all its bytes.
use Rattle.std.specs.Prelude.{ℕ, zero, suc, List, [], ◌∷◌, length, Ok, Err}
use Rattle.layouts.specs.Bytes.{Bytes}
use Rattle.packets.specs.Section.{Packet}
use Rattle.packets.specs.Front.{State, Unknown, Captured, Other, Wait, FrontResult, front}
use Rattle.packets.specs.declared.reader.CaptureError.{CaptureError}
use Rattle.packets.specs.declared.reader.CaptureError.TheVariants as error

-- How a capture ends: behind an item, within one, or at an error.
pub data End : Type 0 where
  Whole : End
  BrokenOff : End
  Refused : CaptureError → End

-- The packets in order, and the end.
abbrev pub Packets : Type 0
Packets = List Packet × End

-- The end at bytes that need more: without a recognized format there is no capture.
abbrev pub end_of : State → Bytes → End
end_of Unknown b = Refused error.NoCapture
end_of s [] = Whole
end_of s (b ∷ bs) = BrokenOff

-- The item at the front of these bytes, and then what `more` finds behind it.
abbrev pub followed : FrontResult → Bytes → (State → Bytes → Packets) → Packets
followed (Ok (Captured p rest, s)) b more = (p ∷ (more s rest).0, (more s rest).1)
followed (Ok (Other rest, s)) b more = more s rest
followed (Ok (Wait, s)) b more = ([], end_of s b)
followed (Err e) b more = ([], Refused e)

-- The packets within at most this many steps.
unfoldable pub packets_in : ℕ → State → Bytes → Packets
packets_in zero s b = ([], end_of s b)
packets_in (suc n) s b = followed (front s b) b (packets_in n)

-- The packets of these bytes, by the state behind the bytes before them. Each step takes bytes,
-- except the one that recognizes pcapng.
unfoldable pub packets_from : State → Bytes → Packets
packets_from s b = packets_in (suc (suc (length b))) s b

-- The packets of a capture.
abbrev pub packets_of : Bytes → Packets
packets_of b = packets_from Unknown b
