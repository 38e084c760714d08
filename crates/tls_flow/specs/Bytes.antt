-- The kind of a handshake message, from its bytes.
use Rattle.std.specs.Prelude.{ℕ, Option, Some, None, Ok, Err, if◌then◌else◌, ◌==◌}
use Rattle.std.specs.Option.{option_map}
use Rattle.layouts.specs.Bytes.{Bytes}
use Rattle.layouts.specs.Framed.{Framed}
use Rattle.layouts.specs.Meaning.{Answer}
use Rattle.layouts.specs.Reading.{reading}
use Rattle.tls_hs.specs.Handshake as handshakes
use Rattle.tls_hs.specs.InPlace.{raw_handshake}
use Rattle.tls_hs.specs.ServerHello as servers
use Rattle.tls_flow.specs.Messages.{kind_of_handshake, kind_of_type}
use Rattle.tls_flow.specs.declared.handshake.HandshakeMessage as rust
use Rattle.tls_flow.specs.declared.symbol.Kind.{Kind}
use Rattle.tls_flow.specs.declared.symbol.Kind.TheVariants as kind

-- A whole handshake message (RFC 8446, 4): its type, its body, and its ServerHello if that parses.
pub record HandshakeMessage : Type 0 where
  pub msg_type : ℕ
  pub body : Bytes
  pub server_hello : Option handshakes.Handshake

abbrev pub view_handshake_message : rust.HandshakeMessage → HandshakeMessage
view_handshake_message m = record {
  msg_type = m.msg_type.0;
  body = m.body.now;
  server_hello = option_map (λ h. handshakes.view_handshake h.message) m.server_hello;
}

-- A ServerHello that TLS refuses may be one of a draft of TLS 1.3. Bytes after it don't matter.
abbrev pub draft_hello : Answer handshakes.Handshake → Option handshakes.Handshake
draft_hello (Ok x) = Some x.0
draft_hello (Err e) = None

abbrev pub hello_or_draft : Answer handshakes.Handshake → Bytes → Option handshakes.Handshake
hello_or_draft (Ok x) body = Some x.0
hello_or_draft (Err e) body = draft_hello (reading handshakes.server_hello_of_draft_body body)

abbrev pub server_hello_in : Bytes → Option handshakes.Handshake
server_hello_in body = hello_or_draft (reading handshakes.server_hello_body body) body

-- The TLS message with this type and body.
abbrev pub stream_message : ℕ → Bytes → HandshakeMessage
stream_message n body = record {
  msg_type = n;
  body = body;
  server_hello = if n == 2 then server_hello_in body else None;
}

abbrev pub kind_of_hello : Option handshakes.Handshake → Kind
kind_of_hello (Some h) = kind_of_handshake h
kind_of_hello None = kind.Unknown

-- A message's kind in TLS. A ServerHello's content decides; a refused ServerHello is Unknown.
abbrev pub kind_in_stream : HandshakeMessage → Kind
kind_in_stream m = if m.msg_type == 2 then kind_of_hello m.server_hello else kind_of_type m.msg_type

abbrev pub kind_of_body : ℕ → Bytes → Kind
kind_of_body n body = kind_in_stream (stream_message n body)

-- DTLS parses a ServerHello whatever its version.
abbrev pub hello_of_any : Answer servers.ServerHello → Option handshakes.Handshake
hello_of_any (Ok x) = Some (handshakes.ServerHello x.0)
hello_of_any (Err e) = None

abbrev pub datagram_hello_in : Bytes → Option handshakes.Handshake
datagram_hello_in body = hello_of_any (reading servers.server_hello_any body)

-- The DTLS message with this type and body.
abbrev pub datagram_message : ℕ → Bytes → HandshakeMessage
datagram_message n body = record {
  msg_type = n;
  body = body;
  server_hello = if n == 2 then datagram_hello_in body else None;
}

-- A hello's kind in DTLS. A refused ServerHello counts by its type.
abbrev pub kind_of_datagram_hello : Option handshakes.Handshake → Kind
kind_of_datagram_hello (Some h) = kind_of_handshake h
kind_of_datagram_hello None = kind.ServerHello

abbrev pub kind_in_datagrams : HandshakeMessage → Kind
kind_in_datagrams m =
    if m.msg_type == 2 then kind_of_datagram_hello m.server_hello else kind_of_type m.msg_type

abbrev pub kind_of_datagram_body : ℕ → Bytes → Kind
kind_of_datagram_body n body = kind_in_datagrams (datagram_message n body)

abbrev pub kind_of_datagrams : Option HandshakeMessage → Kind
kind_of_datagrams (Some m) = kind_in_datagrams m
kind_of_datagrams None = kind.Unknown

-- The TLS message in these bytes: a type, a length of 3 bytes, and the body.
abbrev pub message_of_raw : Answer Framed → Option HandshakeMessage
message_of_raw (Ok x) = Some (stream_message x.0.kind x.0.content)
message_of_raw (Err e) = None

abbrev pub message_of : Bytes → Option HandshakeMessage
message_of b = message_of_raw (reading raw_handshake b)

-- The kind of a message by its bytes; Unknown if it isn't whole.
abbrev pub kind_of_message : Option HandshakeMessage → Kind
kind_of_message (Some m) = kind_in_stream m
kind_of_message None = kind.Unknown

abbrev pub kind_of_bytes : Bytes → Kind
kind_of_bytes b = kind_of_message (message_of b)
