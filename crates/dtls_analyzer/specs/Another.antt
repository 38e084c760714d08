-- When a datagram begins another association between the same ports (RFC 6347, section 4.2.8).
use Rattle.std.specs.Prelude.{Bool, true, false, not, ◌&&◌, ◌||◌, ◌==◌, if◌then◌else◌, Option, Some, None, Ok, Err, length}
use Rattle.std.specs.Str.{bytes_eq}
use Rattle.layouts.specs.Bytes.{Bytes}
use Rattle.layouts.specs.Meaning.{Answer}
use Rattle.layouts.specs.Reading.{reading}
use Rattle.tls_hs.specs.Hello as hello
use Rattle.dtls_records.specs.DtlsHello.{ClientHello, client_hello}
use Rattle.raw_records.specs.RawDtlsRecord.{RawRecord}
use Rattle.dtls_stream.specs.Fragments.{Fragment}
use Rattle.raw_records.specs.DatagramRecord.{datagram_record}
use Rattle.tls_flow.specs.Table.{outcome_at}
use Rattle.tls_flow.specs.declared.state.Outcome.{Outcome}
use Rattle.tls_flow.specs.declared.state.Outcome.TheVariants as outcome
use Rattle.dtls_analyzer.specs.DatagramRecords.{is_known}
use Rattle.dtls_analyzer.specs.Datagrams.{Analyzer, first_fragment}
use Rattle.tls_observer.specs.Ends.{is_complete}

abbrev pub random_in : Answer ClientHello → Option Bytes
random_in (Ok x) = Some x.0.hello.random
random_in (Err e) = None

-- This fragment is a whole ClientHello, and the first message of its sender.
abbrev pub is_first_hello : Fragment → Bool
is_first_hello f = f.msg_type == 1 && f.message_seq == 0 && f.fragment_offset == 0
    && length f.body == f.length

abbrev pub random_by : Option Fragment → Option Bytes
random_by None = None
random_by (Some f) = if is_first_hello f then random_in (reading client_hello f.body) else None

-- In a record in the clear.
abbrev pub random_of : Answer RawRecord → Option Bytes
random_of (Err e) = None
random_of (Ok x) = if is_known x.0.header && x.0.header.epoch == 0 then
    random_by (first_fragment x.0) else None

-- The random of the ClientHello with which a datagram begins an association: it comes first, in the
-- clear, whole, and has the number 0.
abbrev pub first_random : Bytes → Option Bytes
first_random d = random_of (reading datagram_record d)

-- An alert ended the handshake.
abbrev pub is_broken_off : Outcome → Bool
is_broken_off outcome.BrokenOff = true
is_broken_off _ = false

-- The handshake ended, with success or by an alert.
abbrev pub has_ended : Outcome → Bool
has_ended o = is_complete o || is_broken_off o

-- A hello isn't this association's, retransmitted: its random differs.
abbrev pub is_other : Option hello.ClientHello → Bytes → Bool
is_other None random = true
is_other (Some h) random = not (bytes_eq h.random random)

abbrev pub is_by_other : Option Bytes → Option hello.ClientHello → Bool
is_by_other None own = false
is_by_other (Some random) own = is_other own random

-- A datagram begins with the hello of another association than this hello's.
abbrev pub has_other_hello : Bytes → Option hello.ClientHello → Bool
has_other_hello d own = is_by_other (first_random d) own

-- A datagram of the client begins another association: this handshake has ended, and the datagram
-- begins with a new ClientHello.
abbrev pub begins_another : Analyzer → Bytes → Bool
begins_another k d = has_ended (outcome_at k.flow.state) && has_other_hello d k.handshake.client
