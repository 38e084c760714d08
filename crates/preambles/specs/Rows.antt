-- The grammar of dialogues: for each phase, which side it reads, how far, and what follows.
use Rattle.std.specs.Prelude.{ℕ, Bool, true, false, ◌&&◌, ◌||◌, ◌==◌, nat_le, if◌then◌else◌, List, [], ◌∷◌, codes, Option, Some, None}
use Rattle.std.specs.Str.{bytes_eq}
use Rattle.preambles.specs.Lines.{answer, behind_answer, greeting, greeting_rest, irc_answer, is_starttls}
use Rattle.preambles.specs.Ldap.{ldap_frame, ldap_next, ldap_reads}
use Rattle.preambles.specs.Packets.{mysql_frame, mysql_next, mysql_reads, postgres_frame, postgres_next, postgres_reads, rdp_frame, rdp_next, rdp_reads}
use Rattle.preambles.specs.Tds.{tds_frame, tds_next, tds_reads}
use Rattle.preambles.specs.Tunnels.{connect_frame, connect_next, connect_reads, login_frame, login_next, login_reads, proxy_frame, proxy_next, socks4_frame, socks4_next, socks4_reads, socks5_frame, socks5_next, socks5_reads}
use Rattle.preambles.specs.Words.{begins, command_of}
use Rattle.preambles.specs.Xmpp.{xmpp_next, xmpp_reads}
use Rattle.preambles.specs.declared.phase.Command.{Command as Words}
use Rattle.preambles.specs.declared.phase.ConnectPhase.TheVariants as connect
use Rattle.preambles.specs.declared.phase.LdapPhase.TheVariants as ldap
use Rattle.preambles.specs.declared.phase.LoginPhase.TheVariants as login
use Rattle.preambles.specs.declared.phase.MysqlPhase.TheVariants as mysql
use Rattle.preambles.specs.declared.phase.PostgresPhase.TheVariants as postgres
use Rattle.preambles.specs.declared.phase.ProxyPhase.TheVariants as proxy
use Rattle.preambles.specs.declared.phase.RdpPhase.TheVariants as rdp
use Rattle.preambles.specs.declared.phase.Socks4Phase.TheVariants as socks4
use Rattle.preambles.specs.declared.phase.TdsPhase.TheVariants as tds
use Rattle.preambles.specs.declared.phase.XmppPhase.TheVariants as xmpp
use Rattle.preambles.specs.declared.phase.Role.TheVariants as role
use Rattle.preambles.specs.declared.phase.Frame.{Frame}
use Rattle.preambles.specs.declared.phase.Frame.TheVariants as frame
use Rattle.preambles.specs.declared.phase.Outcome.{Outcome}
use Rattle.preambles.specs.declared.phase.Outcome.TheVariants.{Undecided, Plain, Unknown}
use Rattle.preambles.specs.declared.phase.Outcome.TheVariants as outcome
use Rattle.preambles.specs.declared.phase.Phase.{Phase}
use Rattle.preambles.specs.declared.phase.Phase.TheVariants.{Opening, Greeting, GreetingRest, Command, Value, Reply, Listing, IrcCommand, IrcReply, Connect, Socks4, Socks5, Proxy, Postgres, Mysql, Rdp, Tds, Ldap, Xmpp, Over}
use Rattle.preambles.specs.declared.phase.Phase.TheVariants as phase
use Rattle.preambles.specs.declared.phase.Protocol.TheVariants as protocol
use Rattle.preambles.specs.declared.phase.Side.{Side}
use Rattle.preambles.specs.declared.phase.Side.TheVariants.{Client, Server}
use Rattle.preambles.specs.declared.phase.Word.TheVariants.{Authenticate}

-- A client's first byte begins a line if it is a letter, a digit other than 0 or a dot.
unfoldable pub is_text : ℕ → Bool
is_text b = (nat_le 65 b && nat_le b 90) || (nat_le 97 b && nat_le b 122)
    || (nat_le 49 b && nat_le b 57) || b == 46

-- The side that a phase of tunnels and packets reads.
unfoldable pub packet_reads : Phase → Side
packet_reads (Connect q) = connect_reads q
packet_reads (Socks4 q) = socks4_reads q
packet_reads (phase.Login q) = login_reads q
packet_reads (Socks5 q) = socks5_reads q
packet_reads (Postgres q) = postgres_reads q
packet_reads (Mysql q) = mysql_reads q
packet_reads (Rdp q) = rdp_reads q
packet_reads (Tds q) = tds_reads q
packet_reads (Ldap r q) = ldap_reads r
packet_reads (Xmpp q) = xmpp_reads q
packet_reads p = Client

-- The side that a phase reads.
unfoldable pub reads : Phase → Option Side
reads Opening = Some Client
reads (Command d) = Some Client
reads (Value d) = Some Client
reads IrcCommand = Some Client
reads (Greeting c) = Some Server
reads (GreetingRest d c) = Some Server
reads (Reply d c) = Some Server
reads (Listing d) = Some Server
reads IrcReply = Some Server
reads (Over o) = None
reads p = Some (packet_reads p)

-- How far it reads; lines to an LF.
unfoldable pub frame_of : Phase → Frame
frame_of Opening = frame.Opening
frame_of (Connect q) = connect_frame q
frame_of (Socks4 q) = socks4_frame q
frame_of (phase.Login q) = login_frame q
frame_of (Socks5 q) = socks5_frame q
frame_of (Proxy q) = proxy_frame q
frame_of (Postgres q) = postgres_frame q
frame_of (Mysql q) = mysql_frame q
frame_of (Rdp q) = rdp_frame q
frame_of (Tds q) = tds_frame q
frame_of (Ldap r q) = ldap_frame q
frame_of (Xmpp q) = frame.Until 62
frame_of p = frame.Until 10

-- Requests of WebDAV (RFC 4918, section 9; RFC 3253, section 3.6; RFC 5323, section 2).
unfoldable pub is_webdav : List ℕ → Bool
is_webdav line = begins (codes "PROPFIND ") line || begins (codes "PROPPATCH ") line
    || begins (codes "MKCOL ") line || begins (codes "COPY ") line || begins (codes "MOVE ") line
    || begins (codes "LOCK ") line || begins (codes "UNLOCK ") line || begins (codes "REPORT ") line
    || begins (codes "SEARCH ") line

-- Requests of HTTP (RFC 9110, section 9.3; RFC 5789, section 2) but CONNECT, and the preface of
-- HTTP/2 (RFC 9113, section 3.4).
unfoldable pub is_plain_http : List ℕ → Bool
is_plain_http line = begins (codes "GET ") line || begins (codes "POST ") line
    || begins (codes "PUT ") line || begins (codes "HEAD ") line || begins (codes "OPTIONS ") line
    || begins (codes "DELETE ") line || begins (codes "PATCH ") line || begins (codes "TRACE ") line
    || begins (codes "PRI * HTTP/2.0") line || is_webdav line

-- The client's first line. The header of the PROXY protocol, version 1, is a line (section 2.1 of
-- its text). CAP and NICK begin IRC (RFC 2812, section 3.1). Any other line may be a command,
-- which the server's greeting explains.
unfoldable pub first_line : List ℕ → Phase
first_line line =
    if is_plain_http line then Over Plain
    else if begins (codes "CONNECT ") line then Connect connect.Header
    else if begins (codes "PROXY ") line then Over (outcome.Tls protocol.Proxy)
    else if begins (codes "CAP ") line || begins (codes "NICK ") line then IrcCommand
    else Greeting (command_of line)

-- A first byte that isn't text: of a length of 4 bytes (PostgreSQL), of TPKT's version (RDP), of
-- SOCKS's version, of the PROXY protocol's version 2, of a packet's type (TDS), of a length of 32
-- (MySQL), of a SEQUENCE (LDAP), of a tag (XMPP).
unfoldable pub first_byte : ℕ → Phase
first_byte b =
    if b == 0 then Postgres postgres.Request
    else if b == 3 then Rdp rdp.Header
    else if b == 4 then Socks4 socks4.Request
    else if b == 5 then phase.Login login.Count
    else if b == 13 then Proxy proxy.Header
    else if b == 18 then Tds tds.Header
    else if b == 32 then Mysql mysql.Request
    else if b == 48 then Ldap role.Request ldap.Length
    else if b == 60 then Xmpp xmpp.First
    else Over Unknown

unfoldable pub first_unit : List ℕ → Phase
first_unit [] = Over Unknown
first_unit (b ∷ front) = if is_text b then first_line (b ∷ front) else first_byte b

unfoldable pub irc_command : List ℕ → Phase
irc_command line = if is_starttls (command_of line).first then IrcReply else IrcCommand

-- A value is no command: a positive answer to it ends a login.
abbrev pub value : Words
value = record { first = Authenticate; second = Authenticate }

-- What follows a phase of tunnels and packets.
unfoldable pub packet_next : Phase → List ℕ → Phase
packet_next (Connect q) b = connect_next q b
packet_next (Socks4 q) b = socks4_next q b
packet_next (phase.Login q) b = login_next q b
packet_next (Socks5 q) b = socks5_next q b
packet_next (Proxy q) b = proxy_next q b
packet_next (Postgres q) b = postgres_next q b
packet_next (Mysql q) b = mysql_next q b
packet_next (Rdp q) b = rdp_next q b
packet_next (Tds q) b = tds_next q b
packet_next (Ldap r q) b = ldap_next r q b
packet_next (Xmpp q) b = xmpp_next q b
packet_next p b = Over Unknown

-- What follows, by the first 64 bytes of what was read.
unfoldable pub next : Phase → List ℕ → Phase
next Opening b = first_unit b
next (Greeting c) b = greeting c b
next (GreetingRest d c) b = greeting_rest d c b
next (Command d) b = Reply d (command_of b)
next (Value d) b = Reply d value
next (Reply d c) b = behind_answer d c (answer d c b)
next (Listing d) b =
    if bytes_eq b (codes ".\r") || bytes_eq b (codes ".") then Command d else Listing d
next IrcCommand b = irc_command b
next IrcReply b = irc_answer b
next (Over o) b = Over o
next p b = packet_next p b

unfoldable pub outcome_of : Phase → Outcome
outcome_of (Over o) = o
outcome_of p = Undecided

-- In front of these phases the bytes have shown which protocol it is, by the server's greeting or
-- by a line with which no other protocol begins. Any number of lines may follow. In front of the
-- other phases there are a few packets at most, which may still turn out to be of no dialogue.
unfoldable pub recognizes : Phase → Bool
recognizes (GreetingRest d c) = true
recognizes (Command d) = true
recognizes (Value d) = true
recognizes (Reply d c) = true
recognizes (Listing d) = true
recognizes IrcCommand = true
recognizes IrcReply = true
recognizes (Connect q) = true
recognizes p = false
