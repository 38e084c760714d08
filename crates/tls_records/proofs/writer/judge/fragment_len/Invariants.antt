-- the messages so far fit, and their length is capped
use Rattle.std.proofs.Common.{◌≡◌, ◌-◌, ◌^◌, map, take, min, length}
use Rattle.std.specs.List.{All}
use Rattle.tls_hs.specs.Message.{view_message}
use Rattle.tls_records.specs.RecordText.{fragment_text, FitsMessage}
use Rattle.tls_records.proofs.writer.judge.fragment_len.Given as goal

abbrev pub invariant-loop-message : goal.invariant-loop-message
invariant-loop-message l = record {
  fits : All FitsMessage (map view_message (take l.message-index l.messages));
  count : l.len ≡ min (length (fragment_text (map view_message (take l.message-index l.messages))))
      (2 ^ 64 - 1);
}
