-- The encoding of records (RFC 5246, section 6.2.1) and of their messages: what can be written, why
-- the rest can't, and how it reads back.
use Rattle.std.specs.Prelude.{◌≡◌, ℕ, ◌<◌, ◌≤◌, ◌^◌, List, [], ◌∷◌, ◌++◌, length, map, ⊤}
use Rattle.std.specs.List.{All, flat_map}
use Rattle.layouts.specs.Bytes.{Bytes, bytes_of}
use Rattle.layouts.specs.Meaning.{Spells}
use Rattle.layouts.specs.Text.{counted_text}
use Rattle.layouts.specs.Writer.{RefusesFirst}
use Rattle.layouts.specs.declared.writer.GenError.{GenError}
use Rattle.layouts.specs.declared.writer.GenError.TheVariants.{NotYetImplemented}
use Rattle.tls_hs.specs.HandshakeText.{handshake_text, FitsHandshake, InRangeHandshake, refusal_of_handshake}
use Rattle.tls_hs.specs.HandshakeText.{IsReadableHandshake, normal_handshake, IsWrittenBack}
use Rattle.tls_hs.specs.Message.{Message, Handshake, ChangeCipherSpec}
use Rattle.raw_records.specs.Framing.{max_fragment_length}
use Rattle.tls_records.specs.Record.{Plaintext, plaintext}

-- A message. A ChangeCipherSpec is the byte 1 (RFC 5246, section 7.1). Kinds that the writer
-- doesn't know have no encoding.
abbrev pub message_text : Message → Bytes
message_text (Handshake m) = handshake_text m
message_text ChangeCipherSpec = 1 ∷ []
message_text m = []

-- The message can be written.
abbrev pub FitsMessage : Message → Type 0
FitsMessage (Handshake m) = FitsHandshake m
FitsMessage ChangeCipherSpec = ⊤
FitsMessage m = ⊥

-- Why a message that can't be written is refused. `RefusesMessage` also states that it can't be.
abbrev pub refusal_of_message : Message → GenError
refusal_of_message (Handshake m) = refusal_of_handshake m
refusal_of_message m = NotYetImplemented

abbrev pub RefusesMessage : Message → GenError → Type 0
RefusesMessage m e = (FitsMessage m → ⊥) × (e ≡ refusal_of_message m)

-- The numbers fit their fields, as those of every value in memory do.
abbrev pub InRangeMessage : Message → Type 0
InRangeMessage (Handshake m) = InRangeHandshake m
InRangeMessage m = ⊤

-- How a message reads back.
abbrev pub normal_message : Message → Message
normal_message (Handshake m) = Handshake (normal_handshake m)
normal_message m = m

-- The writer knows the kind, and a hello has extensions.
abbrev pub IsWrittenBackMessage : Message → Type 0
IsWrittenBackMessage (Handshake m) = IsWrittenBack m
IsWrittenBackMessage ChangeCipherSpec = ⊤
IsWrittenBackMessage m = ⊥

-- The fragment of a record: its messages, joined.
abbrev pub fragment_text : List Message → Bytes
fragment_text messages = flat_map message_text messages

-- ContentType type; ProtocolVersion version; uint16 length; the fragment. The length in the
-- record's header is ignored.
unfoldable pub plaintext_text : Plaintext → Bytes
plaintext_text p =
    bytes_of 1 p.header.content_type ++ bytes_of 2 p.header.version ++ counted_text 2
    (fragment_text p.messages)

-- The record can be written.
pub record FitsPlaintext (p : Plaintext) : Type 0 where
  pub messages : All FitsMessage p.messages
  pub fragment : length (fragment_text p.messages) ≤ 65535

-- The record can't be written, and e is the reason: that of the first message that doesn't fit,
-- else the fragment's length.
abbrev pub RefusesPlaintext : Plaintext → GenError → Type 0
RefusesPlaintext p e = RefusesFirst FitsMessage RefusesMessage p.messages e

pub record InRangePlaintext (p : Plaintext) : Type 0 where
  pub content_type : p.header.content_type < 256 ^ 1
  pub version : p.header.version < 256 ^ 2
  pub messages : All InRangeMessage p.messages

-- A record of this type with this message reads back: a handshake message in a record of type 22, a
-- ChangeCipherSpec in one of type 20.
abbrev pub IsReadableIn : ℕ → Message → Type 0
IsReadableIn kind (Handshake m) = (kind ≡ 22) × IsReadableHandshake m
IsReadableIn kind ChangeCipherSpec = kind ≡ 20
IsReadableIn kind m = ⊥

-- The record reads back: it has a message, all have the record's type, and the fragment isn't
-- longer than the maximum.
pub record IsReadable (p : Plaintext) : Type 0 where
  pub some : 0 < length p.messages
  pub messages : All (IsReadableIn p.header.content_type) p.messages
  pub fragment : length (fragment_text p.messages) ≤ max_fragment_length

-- How a record reads back: with the length of its fragment.
abbrev pub normal_plaintext : Plaintext → Plaintext
normal_plaintext p = record {
  header = record {
    content_type = p.header.content_type;
    version = p.header.version;
    length = length (fragment_text p.messages);
  };
  messages = map normal_message p.messages;
}

-- The record is written back, if it was read from b with the rest r. For this nothing may have been
-- dropped, the writer must know the kinds of its messages, and each hello must have extensions.
-- Then it can be written, and b is its encoding followed by r.
abbrev pub WritesBack : Plaintext → Bytes → Bytes → Type 0
WritesBack p b r =
    Spells plaintext b p r [] → All IsWrittenBackMessage p.messages
    → FitsPlaintext p × (b ≡ plaintext_text p ++ r)
