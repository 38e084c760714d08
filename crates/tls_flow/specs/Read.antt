-- A handshake message has the same symbol by its bytes and as parsed.
use Rattle.std.specs.Prelude.{◌≡◌, [], Ok}
use Rattle.layouts.specs.Bytes.{Bytes}
use Rattle.layouts.specs.Reading.{reading}
use Rattle.tls_hs.specs.Message as messages
use Rattle.tls_flow.specs.Bytes.{kind_of_bytes}
use Rattle.tls_flow.specs.Messages.{kind_of}

-- For every whole message that parses.
abbrev pub IsSameKind : Bytes → messages.Message → Type 0
IsSameKind b m = reading messages.handshake b ≡ Ok (m, []) → kind_of_bytes b ≡ kind_of m
