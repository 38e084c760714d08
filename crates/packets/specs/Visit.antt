-- The packets that a visitor took, and why a visit ends.
use Rattle.std.specs.Prelude.{◌≡◌, List, [], ◌∷◌, ◌++◌, Option, Some, None, Result, Ok, Err, ⊤, Bool, true, false}
use Rattle.std.specs.Io.KnownBytes.{IsAtEnd}
use Rattle.layouts.specs.Bytes.{Bytes}
use Rattle.packets.specs.Section.{Packet}
use Rattle.packets.specs.Front.{State, FrontResult, Captured, Other, Wait}
use Rattle.packets.specs.Packets.{End, Packets, Whole, BrokenOff, Refused}
use Rattle.packets.specs.declared.reader.CaptureError.TheVariants as error
use Rattle.packets.specs.declared.visit.FrontError.{FrontError}
use Rattle.packets.specs.declared.visit.FrontError.TheVariants as stop
use Rattle.packets.specs.declared.visit.VisitError.{VisitError}
use Rattle.packets.specs.declared.visit.VisitError.TheVariants as visit

-- Known packets grow by these.
abbrev pub Adds : Option (List Packet) → Option (List Packet) → List Packet → Type 0
Adds None new ps = ⊤
Adds (Some xs) None ps = ⊥
Adds (Some xs) (Some ys) ps = ys ≡ xs ++ ps

-- A visitor took the packet, or refused it and has the packets from before.
abbrev pub Visits : {E : Type 0} → Option (List Packet) → Option (List Packet) → Result Unit E
    → Packet → Type 0
Visits old new (Ok u) p = Adds old new (p ∷ [])
Visits old new (Err e) p = Adds old new []

-- The item at the front was visited and taken off the bytes: true. It isn't all there and nothing
-- changed: false.
abbrev pub Went : FrontResult → Option (List Packet) → Option (List Packet) → State → State → Bytes
    → Bytes → Bool → Type 0
Went (Ok (Captured p rest, s)) old new t t' b b' true =
    Adds old new (p ∷ []) × (t' ≡ s) × (b' ≡ rest)
Went (Ok (Other rest, s)) old new t t' b b' true = Adds old new [] × (t' ≡ s) × (b' ≡ rest)
Went (Ok (Wait, s)) old new t t' b b' false = Adds old new [] × (t' ≡ t) × (b' ≡ b)
Went expected old new t t' b b' went = ⊥

-- The item at the front could not be visited: it breaks a rule, memory ran out, or the visitor
-- refused it.
abbrev pub Failed : {E : Type 0} → FrontResult → Option (List Packet) → Option (List Packet)
    → VisitError E → Type 0
Failed expected old new (visit.Capture error.OutOfMemory) = Adds old new []
Failed expected old new (visit.Capture e) = Adds old new [] × (expected ≡ Err e)
Failed expected old new (visit.Visitor e) = Adds old new []
Failed expected old new e = ⊥

abbrev pub Goes : {E : Type 0} → FrontResult → Option (List Packet) → Option (List Packet) → State
    → State → Bytes → Bytes → Result Bool (VisitError E) → Type 0
Goes expected old new t t' b b' (Ok went) = Went expected old new t t' b b' went
Goes expected old new t t' b b' (Err e) = Failed expected old new e

-- The error of the whole visit for an item that can't be visited.
abbrev pub visit_error : {E : Type 0} → FrontError E → VisitError E
visit_error (stop.Capture e) = visit.Capture e
visit_error (stop.Visitor e) = visit.Visitor e

abbrev pub as_visited : {A E : Type 0} → Result A (FrontError E) → Result A (VisitError E)
as_visited (Ok a) = Ok a
as_visited (Err e) = Err (visit_error e)

-- A prefix of the packets was visited.
abbrev pub AddsFront : Option (List Packet) → Option (List Packet) → Packets → Type 0
AddsFront old new all = (some others : List Packet) × (all.0 ≡ some ++ others) × Adds old new some

-- All packets were visited, and this is the end.
abbrev pub AddsAll : Option (List Packet) → Option (List Packet) → Packets → End → Type 0
AddsAll old new all end = Adds old new all.0 × (all.1 ≡ end)

-- Why a visit ended early, by all packets of the source and the source's remaining bytes. At a
-- broken rule, or at bytes that end within an item, all packets before were visited; otherwise some
-- of them.
abbrev pub IsCause : {E : Type 0} → Packets → Option (List Packet) → Option (List Packet)
    → Option Bytes → VisitError E
    → Type 0
IsCause all old new left (visit.Capture error.OutOfMemory) = AddsFront old new all
IsCause all old new left (visit.Capture e) = AddsAll old new all (Refused e)
IsCause all old new left visit.BrokenOff = AddsAll old new all BrokenOff × IsAtEnd left
IsCause all old new left e = AddsFront old new all

-- A visitor stays sound, unless it refuses a packet.
abbrev pub StaysSound : {A E : Type 0} → Bool → Bool → Result A (VisitError E) → Type 0
StaysSound old new (Ok a) = old ≡ true → new ≡ true
StaysSound old new (Err (visit.Visitor e)) = ⊤
StaysSound old new (Err e) = old ≡ true → new ≡ true

-- The result of a visit, by the capture's end.
abbrev pub IsEnd : {E : Type 0} → End → Result Unit (VisitError E) → Type 0
IsEnd Whole (Ok u) = ⊤
IsEnd BrokenOff (Err visit.BrokenOff) = ⊤
IsEnd (Refused e) (Err (visit.Capture k)) = k ≡ e
IsEnd end result = ⊥
