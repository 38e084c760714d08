-- the events are those at the beginning, whatever follows
use Rattle.std.proofs.Common.{◌≡◌, length}
use Rattle.tls_stream.specs.Stream.{ReadsTheSame}
use Rattle.wispuddera_c.specs.Side.{IsWithin, held_in, stream_of}
use Rattle.wispuddera_c.proofs.side.Side.settle.Given as goal

abbrev pub invariant-fragments : goal.invariant-fragments
invariant-fragments l = record {
  same : ReadsTheSame (stream_of l.known l.buffer l.self) (stream_of l.known l.fn.buffer l.fn.self);
  within : IsWithin (length l.buffer) l.self;
  over : l.self.is_over ≡ l.fn.self.is_over;
}

abbrev pub decreases-fragments : goal.decreases-fragments
decreases-fragments l = length (held_in l.buffer l.self).unread
