use Rattle.std.proofs.Common.{◌≡◌, map, take}
use Rattle.std.specs.Prelude.{vec_len, vec_capacity, length}
use Rattle.tls_hs.specs.Message.{view_message}
use Rattle.tls_records.proofs.plaintext.TlsPlaintext.try_clone.Given as goal

abbrev pub invariant-loop-message : goal.invariant-loop-message
invariant-loop-message l = record {
  messages : map view_message l.msg.items ≡ map view_message
      (take l.message-index l.self.msg.items);
  count : vec_len l.msg ≡ l.message-index;
  room : vec_capacity l.msg ≡ length l.self.msg.items;
}
