use Rattle.std.proofs.Common.{◌≡◌, ◌≤◌, ◌+◌, ◌++◌, map, take, length, vec_len, vec_capacity}
use Rattle.std.specs.List.{All}
use Rattle.tls_hs.specs.Message.{view_message}
use Rattle.tls_records.specs.RecordText.{fragment_text, InRangeMessage}
use Rattle.tls_records.proofs.writer.builder.append_messages.Given as goal

abbrev pub invariant-loop-message : goal.invariant-loop-message
invariant-loop-message l = record {
  items : l.out.items ≡ l.fn.out.items ++ fragment_text
      (map view_message (take l.message-index l.messages));
  range : All InRangeMessage (map view_message (take l.message-index l.messages));
  count : vec_len l.out ≡ vec_len l.fn.out + length
      (fragment_text (map view_message (take l.message-index l.messages)));
  room : vec_capacity l.fn.out ≤ vec_capacity l.out;
}
