-- How many packets of a side its receiver dropped, and why.
use Rattle.std.specs.Prelude.{ℕ, ◌==◌, Bool, true, false, if◌then◌else◌}
use Rattle.connections.specs.Traffic.{plus}
use Rattle.connections.specs.declared.dropped.Dropped.{Dropped}
use Rattle.connections.specs.declared.receiver.DropReason.{DropReason}
use Rattle.connections.specs.declared.receiver.DropReason.TheVariants.{Checksum, NoAck, Acknowledgment, Window, Clock, Signature, Syn, Reset, Fin}

abbrev pub none_dropped : Dropped
none_dropped = record {
  packets = 0;
  checksum = false;
  no_ack = false;
  acknowledgment = false;
  window = false;
  clock = false;
  signature = false;
  syn = false;
  reset = false;
  fin = false;
}

abbrev pub has_reason : Dropped → DropReason → Bool
has_reason d Checksum = d.checksum
has_reason d NoAck = d.no_ack
has_reason d Acknowledgment = d.acknowledgment
has_reason d Window = d.window
has_reason d Clock = d.clock
has_reason d Signature = d.signature
has_reason d Syn = d.syn
has_reason d Reset = d.reset
has_reason d Fin = d.fin

abbrev pub for_reason : DropReason → Dropped → Dropped
for_reason Checksum d = record d { checksum = true }
for_reason NoAck d = record d { no_ack = true }
for_reason Acknowledgment d = record d { acknowledgment = true }
for_reason Window d = record d { window = true }
for_reason Clock d = record d { clock = true }
for_reason Signature d = record d { signature = true }
for_reason Syn d = record d { syn = true }
for_reason Reset d = record d { reset = true }
for_reason Fin d = record d { fin = true }

-- One more packet.
abbrev pub with_dropped : DropReason → Dropped → Dropped
with_dropped r d = for_reason r (record d { packets = plus d.packets 1 })

-- This many more packets with a wrong checksum.
abbrev pub with_damaged : ℕ → Dropped → Dropped
with_damaged n d = if n == 0 then
    d else for_reason Checksum (record d { packets = plus d.packets n })
