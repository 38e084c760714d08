-- Who sends a datagram, by the hello that it begins with.
use Rattle.std.specs.Prelude.{ℕ, Bool, not, ◌&&◌, ◌||◌, ◌==◌, if◌then◌else◌, Option, Some, None, Ok, Err, is_some}
use Rattle.layouts.specs.Bytes.{Bytes}
use Rattle.layouts.specs.Meaning.{Answer}
use Rattle.layouts.specs.Reading.{reading}
use Rattle.raw_records.specs.RawDtlsRecord.{RawRecord}
use Rattle.raw_records.specs.DatagramRecord.{datagram_record}
use Rattle.dtls_stream.specs.Fragments.{Fragment}
use Rattle.tls_flow.specs.declared.symbol.Direction.{Direction as Side}
use Rattle.tls_flow.specs.declared.symbol.Direction.TheVariants.{ToServer, FromServer}
use Rattle.tls_summary.specs.HandshakeSummary.{HandshakeSummary}
use Rattle.dtls_analyzer.specs.DatagramRecords.{is_known}
use Rattle.dtls_analyzer.specs.Datagrams.{Analyzer, first_fragment}

-- A ClientHello, 1, goes to the server. A ServerHello, 2, and a HelloVerifyRequest, 3, come from it
-- (RFC 6347, section 4.2.2).
abbrev pub direction_of_type : ℕ → Option Side
direction_of_type n =
    if n == 1 then Some ToServer else if n == 2 || n == 3 then Some FromServer else None

abbrev pub direction_of_fragment : Option Fragment → Option Side
direction_of_fragment None = None
direction_of_fragment (Some f) = direction_of_type f.msg_type

-- In a record in the clear.
abbrev pub direction_of_record : Answer RawRecord → Option Side
direction_of_record (Err e) = None
direction_of_record (Ok x) = if is_known x.0.header && x.0.header.epoch == 0 then
    direction_of_fragment (first_fragment x.0) else None

abbrev pub hello_direction : Bytes → Option Side
hello_direction d = direction_of_record (reading datagram_record d)

-- The first ClientHello shows which side is the client. Until it comes, the first ServerHello or a
-- HelloVerifyRequest before it shows that.
abbrev pub decides : Side → HandshakeSummary → Bool
decides ToServer h = not (is_some h.client)
decides FromServer h = not (is_some h.client) && not (is_some h.server)

abbrev pub deciding : Option Side → HandshakeSummary → Option Side
deciding None h = None
deciding (Some s) h = if decides s h then Some s else None

-- The direction of a datagram, if the hello that it begins with shows which side is the client.
abbrev pub deciding_direction : Analyzer → Bytes → Option Side
deciding_direction k d = deciding (hello_direction d) k.handshake
