-- the messages so far are printed
use Rattle.std.proofs.Common.{◌≡◌, ◌++◌, take, map}
use Rattle.std.specs.Prelude.{flat_map}
use Rattle.std.specs.String.{string_bytes}
use Rattle.tls_hs.specs.Message.{view_message}
use Rattle.tlsview.specs.Out.{message_line}
use Rattle.tlsview.proofs.records.show_messages.Given as goal

abbrev pub invariant-loop-message : goal.invariant-loop-message
invariant-loop-message l =
    string_bytes l.text ≡ string_bytes l.fn.text
    ++ flat_map (message_line l.direction) (map view_message (take l.message-index l.messages))
