-- TDS, the protocol of SQL Server ([MS-TDS]): PRELOGIN, a packet of the type 18 (section 2.2.6.5),
-- and the server's answer, one of the type 4. A packet's header has 8 bytes (section 2.2.3.1): the
-- type, the status, which is 1 for the only packet of a message, the packet's length with its
-- header in 2 bytes, and 4 bytes that don't matter here.
--
-- Options follow. Each has a number, and in 2 bytes each the place and the length of its value. The
-- first is VERSION, with the number 0. The second is ENCRYPTION, 1: a server without TLS answers 2.
-- Behind another answer TLS begins, in packets (specs/TdsPayload.antt).
use Rattle.std.specs.Prelude.{ℕ, ◌+◌, ◌-◌, ◌*◌, ◌&&◌, ◌==◌, nat_le, nat_lt, if◌then◌else◌, List, ◌∷◌, length, get_or, Option, Some, None}
use Rattle.preambles.specs.declared.phase.Frame.{Frame}
use Rattle.preambles.specs.declared.phase.Frame.TheVariants.{Count}
use Rattle.preambles.specs.declared.phase.Outcome.TheVariants.{Tls, Plain, Unknown}
use Rattle.preambles.specs.declared.phase.Phase.{Phase}
use Rattle.preambles.specs.declared.phase.Phase.TheVariants.{Tds, Over}
use Rattle.preambles.specs.declared.phase.Protocol.TheVariants as protocol
use Rattle.preambles.specs.declared.phase.Side.{Side}
use Rattle.preambles.specs.declared.phase.Side.TheVariants.{Client, Server}
use Rattle.preambles.specs.declared.phase.TdsPhase.{TdsPhase}
use Rattle.preambles.specs.declared.phase.TdsPhase.TheVariants.{Header, Options, AnswerHeader, Answer}

unfoldable pub tds_reads : TdsPhase → Side
tds_reads Header = Client
tds_reads (Options n) = Client
tds_reads AnswerHeader = Server
tds_reads (Answer n) = Server

unfoldable pub tds_frame : TdsPhase → Frame
tds_frame Header = Count 7
tds_frame (Options n) = Count n
tds_frame AnswerHeader = Count 8
tds_frame (Answer n) = Count n

-- Behind the type.
unfoldable pub prelogin_header : List ℕ → Phase
prelogin_header (status ∷ high ∷ low ∷ rest) =
    if status == 1
    then (if nat_le (high * 256 + low) 8 then Over Unknown
    else Tds (Options (high * 256 + low - 8)))
    else Over Unknown
prelogin_header _ = Over Unknown

unfoldable pub options : List ℕ → Phase
options (number ∷ rest) = if number == 0 then Tds AnswerHeader else Over Unknown
options _ = Over Unknown

unfoldable pub answer_header : List ℕ → Phase
answer_header (type ∷ status ∷ high ∷ low ∷ rest) =
    if type == 4 && status == 1
    then (if nat_le (high * 256 + low) 8 then Over Unknown
    else Tds (Answer (high * 256 + low - 8)))
    else Over Unknown
answer_header _ = Over Unknown

unfoldable pub encryption_place : List ℕ → Option ℕ
encryption_place (first ∷ p1 ∷ p2 ∷ l1 ∷ l2 ∷ second ∷ high ∷ low ∷ rest) =
    if first == 0 && second == 1 then Some (high * 256 + low) else None
encryption_place _ = None

abbrev pub byte_at : List ℕ → Option ℕ → Option ℕ
byte_at b None = None
byte_at b (Some n) = if nat_lt n (length b) then Some (get_or b n 0) else None

unfoldable pub behind_encryption : Option ℕ → Phase
behind_encryption None = Over Unknown
behind_encryption (Some value) = if value == 2 then Over Plain else Over (Tls protocol.Tds)

unfoldable pub tds_next : TdsPhase → List ℕ → Phase
tds_next Header b = prelogin_header b
tds_next (Options n) b = options b
tds_next AnswerHeader b = answer_header b
tds_next (Answer n) b = behind_encryption (byte_at b (encryption_place b))
