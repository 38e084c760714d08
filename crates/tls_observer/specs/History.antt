-- The history of both sides, with a letter for each event, as in Zeek's ssl_history.
use Rattle.std.specs.Prelude.{ℕ, ◌-◌, ◌==◌, Bool, true, false, nat_lt, if◌then◌else◌, Option, Some, None, List, [], ◌∷◌, ◌++◌, length}
use Rattle.std.specs.Str.{byte}
use Rattle.layouts.specs.Bytes.{Bytes}
use Rattle.tls_stream.specs.Item as stream
use Rattle.dtls_stream.specs.Messages as datagrams
use Rattle.tls_stream.specs.FlowEvents.{kind_of_stream_event}
use Rattle.dtls_stream.specs.FlowEvents.{kind_in_datagram}
use Rattle.tls_flow.specs.declared.symbol.Direction.{Direction as Side}
use Rattle.tls_flow.specs.declared.symbol.Direction.TheVariants.{ToServer, FromServer}
use Rattle.tls_flow.specs.declared.symbol.Kind.{Kind}
use Rattle.tls_flow.specs.declared.symbol.Kind.TheVariants as kind

-- The letter of a handshake message by its type (RFC 8446, section 4, and RFC 5246, section 7.4; of
-- DTLS RFC 6347, section 4.3.2; RFC 6066, sections 5 and 8; RFC 4680, section 3), in the server's
-- lower case. All other types share z.
abbrev pub letter_of_type : ℕ → ℕ
letter_of_type n =
    -- hello_request, client_hello, server_hello, hello_verify_request
    if n == 0 then byte "h"
    else if n == 1 then byte "c"
    else if n == 2 then byte "s"
    else if n == 3 then byte "v"
    -- new_session_ticket, end_of_early_data, hello_retry_request of a draft of TLS 1.3,
    -- encrypted_extensions
    else if n == 4 then byte "t"
    else if n == 5 then byte "e"
    else if n == 6 then byte "j"
    else if n == 8 then byte "o"
    -- certificate, server_key_exchange, certificate_request, server_hello_done
    else if n == 11 then byte "x"
    else if n == 12 then byte "k"
    else if n == 13 then byte "r"
    else if n == 14 then byte "n"
    -- certificate_verify, client_key_exchange, finished
    else if n == 15 then byte "y"
    else if n == 16 then byte "g"
    else if n == 20 then byte "f"
    -- certificate_url, certificate_status, supplemental_data
    else if n == 21 then byte "w"
    else if n == 22 then byte "u"
    else if n == 23 then byte "a"
    -- key_update, message_hash
    else if n == 24 then byte "p"
    else if n == 254 then byte "m"
    else byte "z"

abbrev pub is_retry : Kind → Bool
is_retry kind.HelloRetryRequest = true
is_retry k = false

abbrev pub letter_of_first : Bytes → ℕ
letter_of_first [] = byte "z"
letter_of_first (n ∷ b) = letter_of_type n

-- The letter of a whole TLS handshake message of this kind. A HelloRetryRequest is a ServerHello
-- with a fixed random (RFC 8446, section 4.1.4).
abbrev pub letter_of_message : Kind → Bytes → ℕ
letter_of_message k b = if is_retry k then byte "j" else letter_of_first b

-- The letter of a TLS side's event, where k is the kind of its handshake message. Encrypted records
-- and faults have none.
abbrev pub letter_with : Kind → stream.Event → Option ℕ
letter_with k (stream.Handshake b) = Some (letter_of_message k b)
letter_with k stream.ChangeCipherSpec = Some (byte "i")
letter_with k (stream.Alert a) = Some (byte "l")
letter_with k (stream.Heartbeat b) = Some (byte "b")
letter_with k (stream.ApplicationData b) = Some (byte "d")
letter_with k _ = None

abbrev pub letter_of : stream.Event → Option ℕ
letter_of v = letter_with (kind_of_stream_event v) v

-- The letter of a DTLS handshake message.
abbrev pub letter_of_datagram_message : Kind → ℕ → ℕ
letter_of_datagram_message k n = if is_retry k then byte "j" else letter_of_type n

-- The letter of a DTLS side's event, where k is the kind of its handshake message.
abbrev pub letter_in_datagram_with : Kind → datagrams.Event → Option ℕ
letter_in_datagram_with k (datagrams.Handshake m) = Some (letter_of_datagram_message k m.msg_type)
letter_in_datagram_with k datagrams.ChangeCipherSpec = Some (byte "i")
letter_in_datagram_with k (datagrams.Alert a) = Some (byte "l")
letter_in_datagram_with k _ = None

abbrev pub letter_in_datagram : datagrams.Event → Option ℕ
letter_in_datagram e = letter_in_datagram_with (kind_in_datagram e) e

-- The client's letters are upper case, whose ASCII codes are 32 lower.
abbrev pub cased : Side → ℕ → ℕ
cased ToServer n = n - 32
cased FromServer n = n

-- The first 100 letters are kept.
abbrev pub with_letter : Side → List ℕ → Option ℕ → List ℕ
with_letter s h None = h
with_letter s h (Some n) = if nat_lt (length h) 100 then h ++ cased s n ∷ [] else h

-- The history after these events of a side, the latest first.
abbrev pub history : Side → List ℕ → List stream.Event → List ℕ
history s h [] = h
history s h (v ∷ vs) = with_letter s (history s h vs) (letter_of v)
