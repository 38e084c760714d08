-- Packets with a copy of their bytes.
use Rattle.std.specs.Prelude.{◌≡◌, ⊤, List, map}
use Rattle.std.specs.Global.{Vec}
use Rattle.packets.specs.Section.{Packet}
use Rattle.packets.specs.Packets.{Packets, BrokenOff, Refused}
use Rattle.packets.specs.declared.owned_packet.OwnedPacket as stored
use Rattle.packets.specs.declared.reader.CaptureError.TheVariants as error
use Rattle.packets.specs.declared.visit.VisitError.{VisitError}
use Rattle.packets.specs.declared.visit.VisitError.TheVariants as visit

abbrev pub view_kept : stored.OwnedPacket → Packet
view_kept p = record {
  time = p.time;
  link_type = p.link_type;
  original_length = p.original_length;
  bytes = p.bytes.items;
}

abbrev pub kept : Vec stored.OwnedPacket → List Packet
kept v = map view_kept v.items

-- Why not all packets were collected: the capture's end, or a cause that isn't in its bytes.
abbrev pub IsEndOf : {E : Type 0} → Packets → VisitError E → Type 0
IsEndOf all (visit.Capture error.OutOfMemory) = ⊤
IsEndOf all (visit.Capture e) = all.1 ≡ Refused e
IsEndOf all visit.BrokenOff = all.1 ≡ BrokenOff
IsEndOf all e = ⊤
