-- What the writers of messages and records promise. `RecordText` defines the encoding.
use Rattle.std.specs.Prelude.{ℕ, ◌≡◌, ◌≤◌, List, [], length, Option, Result, Ok}
use Rattle.std.specs.List.{All}
use Rattle.layouts.specs.Bytes.{Bytes}
use Rattle.layouts.specs.Meaning.{Allows}
use Rattle.layouts.specs.Writer.{Judges, Builds, Writes, RefusesFirst}
use Rattle.layouts.specs.declared.writer.GenError.{GenError}
use Rattle.tls_hs.specs.Handshake as handshakes
use Rattle.tls_hs.specs.HandshakeText.{IsReadableHandshake, normal_handshake}
use Rattle.tls_hs.specs.Message.{Message, Handshake, handshake}
use Rattle.tls_records.specs.Record.{Plaintext, plaintext}
use Rattle.tls_records.specs.RecordText.{message_text, FitsMessage, refusal_of_message, RefusesMessage, fragment_text}
use Rattle.tls_records.specs.RecordText.{plaintext_text, FitsPlaintext, RefusesPlaintext, IsReadable, normal_plaintext}

-- Computes the length of a message.
abbrev pub JudgesMessage : Message → Result ℕ GenError → Type 0
JudgesMessage m r = Judges (FitsMessage m) (λ e. e ≡ refusal_of_message m) (message_text m) r

-- The messages can be written in one record.
abbrev pub FitsFragment : List Message → Type 0
FitsFragment messages = All FitsMessage messages × (length (fragment_text messages) ≤ 65535)

-- Computes the length of the messages of a record.
abbrev pub JudgesFragment : List Message → Result ℕ GenError → Type 0
JudgesFragment messages r =
    Judges (FitsFragment messages) (RefusesFirst FitsMessage RefusesMessage messages)
    (fragment_text messages) r

-- Returns the encoding of a message in newly allocated memory.
abbrev pub BuildsMessage : Message → Result Bytes GenError → Type 0
BuildsMessage m r = Builds (FitsMessage m) (λ e. e ≡ refusal_of_message m) (message_text m) r

-- Returns the encoding of a record in newly allocated memory.
abbrev pub BuildsPlaintext : Plaintext → Result Bytes GenError → Type 0
BuildsPlaintext p r = Builds (FitsPlaintext p) (RefusesPlaintext p) (plaintext_text p) r

-- Appends the encoding of a message to what a `Write` holds.
abbrev pub WritesMessage : {W : Type 0} → Message → (W → Option Bytes) → W → W
    → Result Unit GenError → Type 0
WritesMessage m contents old new r =
    Writes (FitsMessage m) (λ e. e ≡ refusal_of_message m) (message_text m) contents old new r

-- Appends the encoding of a record to what a `Write` holds.
abbrev pub WritesPlaintext : {W : Type 0} → Plaintext → (W → Option Bytes) → W → W
    → Result Unit GenError → Type 0
WritesPlaintext p contents old new r =
    Writes (FitsPlaintext p) (RefusesPlaintext p) (plaintext_text p) contents old new r

-- These bytes read back as the normal form of the handshake message, with no bytes left, if it can
-- be read back.
abbrev pub HandshakeReadsBack : handshakes.Handshake → Bytes → Type 0
HandshakeReadsBack m b = IsReadableHandshake m
    → Allows handshake b (Ok (Handshake (normal_handshake m), []))

-- These bytes read back as the normal form of the record, with no bytes left, if it can be read
-- back.
abbrev pub PlaintextReadsBack : Plaintext → Bytes → Type 0
PlaintextReadsBack p b = IsReadable p → Allows plaintext b (Ok (normal_plaintext p, []))
