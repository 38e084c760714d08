-- The protocols of packets: PostgreSQL, MySQL and RDP.
use Rattle.std.specs.Prelude.{ℕ, ◌+◌, ◌-◌, ◌*◌, ◌/◌, ◌%◌, ◌&&◌, ◌==◌, not, nat_lt, if◌then◌else◌, List, [], ◌∷◌, codes}
use Rattle.preambles.specs.Words.{begins}
use Rattle.preambles.specs.declared.phase.Frame.{Frame}
use Rattle.preambles.specs.declared.phase.Frame.TheVariants.{Count}
use Rattle.preambles.specs.declared.phase.MysqlPhase.{MysqlPhase}
use Rattle.preambles.specs.declared.phase.MysqlPhase.TheVariants as mysql
use Rattle.preambles.specs.declared.phase.Outcome.TheVariants.{Tls, Plain, Unknown}
use Rattle.preambles.specs.declared.phase.Phase.{Phase}
use Rattle.preambles.specs.declared.phase.Phase.TheVariants.{Postgres, Mysql, Rdp, Over}
use Rattle.preambles.specs.declared.phase.PostgresPhase.{PostgresPhase}
use Rattle.preambles.specs.declared.phase.PostgresPhase.TheVariants as postgres
use Rattle.preambles.specs.declared.phase.Protocol.TheVariants as protocol
use Rattle.preambles.specs.declared.phase.RdpPhase.{RdpPhase}
use Rattle.preambles.specs.declared.phase.RdpPhase.TheVariants as rdp
use Rattle.preambles.specs.declared.phase.Side.{Side}
use Rattle.preambles.specs.declared.phase.Side.TheVariants.{Client, Server}

-- PostgreSQL (its manual, "Message Formats"): SSLRequest is a length of 8 and 80877103, behind
-- which the server answers S or N. GSSENCRequest, 80877104, may come before it, and be answered N.
unfoldable pub postgres_reads : PostgresPhase → Side
postgres_reads postgres.Request = Client
postgres_reads postgres.Again = Client
postgres_reads postgres.Answer = Server
postgres_reads postgres.GssAnswer = Server

unfoldable pub postgres_frame : PostgresPhase → Frame
postgres_frame postgres.Request = Count 7
postgres_frame postgres.Answer = Count 1
postgres_frame postgres.GssAnswer = Count 1
postgres_frame postgres.Again = Count 8

unfoldable pub postgres_next : PostgresPhase → List ℕ → Phase
postgres_next postgres.Request b =
    if begins (0 ∷ 0 ∷ 8 ∷ 4 ∷ 210 ∷ 22 ∷ 47 ∷ []) b then Postgres postgres.Answer
    else if begins (0 ∷ 0 ∷ 8 ∷ 4 ∷ 210 ∷ 22 ∷ 48 ∷ []) b then Postgres postgres.GssAnswer
    else Over Unknown
postgres_next postgres.Answer b =
    if begins (codes "S") b then Over (Tls protocol.Postgres) else Over Plain
postgres_next postgres.GssAnswer b =
    if begins (codes "N") b then Postgres postgres.Again else Over Plain
postgres_next postgres.Again b =
    if begins (0 ∷ 0 ∷ 0 ∷ 8 ∷ 4 ∷ 210 ∷ 22 ∷ 47 ∷ []) b then Postgres postgres.Answer
    else Over Plain

-- MySQL (its manual, "Connection Phase"): SSLRequest has 32 bytes behind a header of a length of 3
-- bytes and the number 1; of its flags CLIENT_SSL, 0x0800, is set. TLS begins behind it, and on the
-- server's side behind the greeting, packet number 0 of protocol version 10.
unfoldable pub mysql_reads : MysqlPhase → Side
mysql_reads mysql.Request = Client
mysql_reads mysql.Greeting = Server
mysql_reads (mysql.Rest n) = Server

unfoldable pub mysql_frame : MysqlPhase → Frame
mysql_frame mysql.Request = Count 35
mysql_frame mysql.Greeting = Count 5
mysql_frame (mysql.Rest n) = Count n

unfoldable pub mysql_request : List ℕ → Phase
mysql_request (a ∷ b ∷ number ∷ f ∷ flags ∷ rest) =
    if a == 0 && b == 0 && number == 1 && (flags / 8) % 2 == 1 then Mysql mysql.Greeting
    else Over Unknown
mysql_request _ = Over Unknown

unfoldable pub mysql_greeting : List ℕ → Phase
mysql_greeting (low ∷ middle ∷ high ∷ number ∷ version ∷ rest) =
    if number == 0 && version == 10
    then (if nat_lt (low + middle * 256 + high * 65536) 2 then Over Unknown
    else Mysql (mysql.Rest (low + middle * 256 + high * 65536 - 1)))
    else Over Unknown
mysql_greeting _ = Over Unknown

unfoldable pub mysql_next : MysqlPhase → List ℕ → Phase
mysql_next mysql.Request b = mysql_request b
mysql_next mysql.Greeting b = mysql_greeting b
mysql_next (mysql.Rest n) b = Over (Tls protocol.Mysql)

-- RDP (MS-RDPBCGR, sections 2.2.1.1 and 2.2.1.2): a connection request in TPKT, whose header has
-- version 3 and a length with itself (RFC 1006, section 6). TLS begins behind a connection confirm
-- of 19 bytes with RDP_NEG_RSP, which selects another protocol than 0, RDP's own.
unfoldable pub rdp_reads : RdpPhase → Side
rdp_reads rdp.Header = Client
rdp_reads (rdp.Request n) = Client
rdp_reads rdp.Answer = Server
rdp_reads rdp.Confirm = Server

unfoldable pub rdp_frame : RdpPhase → Frame
rdp_frame rdp.Header = Count 3
rdp_frame (rdp.Request n) = Count n
rdp_frame rdp.Answer = Count 4
rdp_frame rdp.Confirm = Count 15

unfoldable pub rdp_header : List ℕ → Phase
rdp_header (r ∷ high ∷ low ∷ rest) =
    if r == 0
    then (if nat_lt (high * 256 + low) 11 then Over Unknown
    else Rdp (rdp.Request (high * 256 + low - 4)))
    else Over Unknown
rdp_header _ = Over Unknown

unfoldable pub rdp_confirm : List ℕ → Phase
rdp_confirm (li ∷ code ∷ d1 ∷ d2 ∷ s1 ∷ s2 ∷ class ∷ type ∷ flags ∷ l1 ∷ l2 ∷ chosen ∷ rest) =
    if li == 14 && code == 208 && type == 2 && l1 == 8 && l2 == 0 && not (chosen == 0)
    then Over (Tls protocol.Rdp) else Over Plain
rdp_confirm _ = Over Plain

unfoldable pub rdp_next : RdpPhase → List ℕ → Phase
rdp_next rdp.Header b = rdp_header b
rdp_next (rdp.Request n) b = Rdp rdp.Answer
rdp_next rdp.Answer b = if begins (3 ∷ 0 ∷ 0 ∷ 19 ∷ []) b then Rdp rdp.Confirm else Over Plain
rdp_next rdp.Confirm b = rdp_confirm b
