-- The protocols of tunnels, in front of whatever is sent through them.
use Rattle.std.specs.Prelude.{ℕ, ◌+◌, ◌*◌, ◌/◌, Bool, true, false, ◌&&◌, ◌||◌, ◌==◌, not, nat_lt, if◌then◌else◌, List, [], ◌∷◌, codes}
use Rattle.preambles.specs.Words.{begins, behind_word, code_of, number_in}
use Rattle.preambles.specs.declared.phase.ConnectPhase.{ConnectPhase}
use Rattle.preambles.specs.declared.phase.ConnectPhase.TheVariants as connect
use Rattle.preambles.specs.declared.phase.Frame.{Frame}
use Rattle.preambles.specs.declared.phase.Frame.TheVariants.{Until, Count}
use Rattle.preambles.specs.declared.phase.LoginPhase.{LoginPhase}
use Rattle.preambles.specs.declared.phase.LoginPhase.TheVariants as login
use Rattle.preambles.specs.declared.phase.Outcome.TheVariants.{Tls, Plain, Unknown}
use Rattle.preambles.specs.declared.phase.Phase.{Phase}
use Rattle.preambles.specs.declared.phase.Phase.TheVariants.{Connect, Socks4, Login, Socks5, Proxy, Over}
use Rattle.preambles.specs.declared.phase.Protocol.TheVariants as protocol
use Rattle.preambles.specs.declared.phase.ProxyPhase.{ProxyPhase}
use Rattle.preambles.specs.declared.phase.ProxyPhase.TheVariants as proxy
use Rattle.preambles.specs.declared.phase.Side.{Side}
use Rattle.preambles.specs.declared.phase.Side.TheVariants.{Client, Server}
use Rattle.preambles.specs.declared.phase.Socks4Phase.{Socks4Phase}
use Rattle.preambles.specs.declared.phase.Socks4Phase.TheVariants as socks4
use Rattle.preambles.specs.declared.phase.Socks5Phase.{Socks5Phase}
use Rattle.preambles.specs.declared.phase.Socks5Phase.TheVariants as socks5

-- HTTP's CONNECT (RFC 9110, section 9.3.6): the request's header ends with a blank line (RFC 9112,
-- section 2.1). The tunnel begins behind the blank line of a 2xx response. 1xx comes before another
-- response (RFC 9110, section 15.2). Another response, such as 407, has a body of Content-Length
-- bytes (RFC 9112, section 6.3), and the client may ask again.
unfoldable pub is_blank : List ℕ → Bool
is_blank [] = true
is_blank (b ∷ []) = b == 13
is_blank (b ∷ c ∷ line) = false

unfoldable pub connect_reads : ConnectPhase → Side
connect_reads connect.Header = Client
connect_reads connect.Again = Client
connect_reads p = Server

unfoldable pub connect_frame : ConnectPhase → Frame
connect_frame (connect.Body n) = Count n
connect_frame p = Until 10

unfoldable pub status_line : List ℕ → Phase
status_line line =
    if not (begins (codes "HTTP/1.") line) || nat_lt (code_of (behind_word line)) 100
    then Over Unknown
    else if nat_lt (code_of (behind_word line)) 200 then Connect connect.Interim
    else if nat_lt (code_of (behind_word line)) 300 then Connect connect.Accepted
    else Connect (connect.Refused 0)

unfoldable pub refused_line : ℕ → List ℕ → Phase
refused_line n line =
    if is_blank line
    then (if n == 0 then Connect connect.Again else Connect (connect.Body n))
    else if begins (codes "CONTENT-LENGTH:") line then Connect (connect.Refused (number_in line))
    else if begins (codes "TRANSFER-ENCODING:") line then Over Plain
    else Connect (connect.Refused n)

unfoldable pub again : List ℕ → Phase
again line = if begins (codes "CONNECT ") line then Connect connect.Header else Over Plain

unfoldable pub connect_next : ConnectPhase → List ℕ → Phase
connect_next connect.Header line =
    if is_blank line then Connect connect.Status else Connect connect.Header
connect_next connect.Status line = status_line line
connect_next connect.Accepted line =
    if is_blank line then Over (Tls protocol.HttpConnect) else Connect connect.Accepted
connect_next connect.Interim line =
    if is_blank line then Connect connect.Status else Connect connect.Interim
connect_next (connect.Refused n) line = refused_line n line
connect_next (connect.Body n) line = Connect connect.Again
connect_next connect.Again line = again line

-- SOCKS 4, behind the version 4: command 1, port and address, 7 bytes; the user's name to a 0. With
-- an address 0.0.0.x, where x isn't 0, a host's name to a 0 follows (SOCKS 4A). The reply has 8
-- bytes, 0 and 90 if the request is granted.
unfoldable pub socks4_reads : Socks4Phase → Side
socks4_reads socks4.Reply = Server
socks4_reads p = Client

unfoldable pub socks4_frame : Socks4Phase → Frame
socks4_frame socks4.Request = Count 7
socks4_frame (socks4.User is_4a) = Until 0
socks4_frame socks4.Host = Until 0
socks4_frame socks4.Reply = Count 8

unfoldable pub socks4_request : List ℕ → Phase
socks4_request (command ∷ p ∷ q ∷ a ∷ b ∷ c ∷ d ∷ rest) =
    if command == 1
    then Socks4 (socks4.User (a == 0 && b == 0 && c == 0 && not (d == 0)))
    else Over Unknown
socks4_request _ = Over Unknown

abbrev pub socks4_reply : List ℕ → Phase
socks4_reply (a ∷ b ∷ rest) =
    if a == 0 && b == 90 then Over (Tls protocol.Socks4) else Over Plain
socks4_reply _ = Over Plain

unfoldable pub socks4_next : Socks4Phase → List ℕ → Phase
socks4_next socks4.Request b = socks4_request b
socks4_next (socks4.User true) b = Socks4 socks4.Host
socks4_next (socks4.User false) b = Socks4 socks4.Reply
socks4_next socks4.Host b = Socks4 socks4.Reply
socks4_next socks4.Reply b = socks4_reply b

-- SOCKS 5, behind the version 5: the number of methods and these; the server chooses 0 (none), 2 (a
-- name and password) or 255 (none that fits) (RFC 1928, section 3). Method 2: version 1, the name
-- and the password, each behind its length; the server answers 1 and 0 (RFC 1929, section 2).
unfoldable pub login_reads : LoginPhase → Side
login_reads login.Choice = Server
login_reads login.Status = Server
login_reads p = Client

unfoldable pub login_frame : LoginPhase → Frame
login_frame login.Count = Count 1
login_frame login.PasswordLength = Count 1
login_frame login.Choice = Count 2
login_frame login.User = Count 2
login_frame login.Status = Count 2
login_frame (login.Methods n) = Count n
login_frame (login.Name n) = Count n
login_frame (login.Password n) = Count n

unfoldable pub chosen : List ℕ → Phase
chosen (v ∷ m ∷ rest) =
    if v == 5 && m == 0 then Socks5 socks5.Request
    else if v == 5 && m == 2 then Login login.User
    else if v == 5 && m == 255 then Over Plain
    else Over Unknown
chosen _ = Over Unknown

unfoldable pub name_of : List ℕ → Phase
name_of (v ∷ n ∷ rest) =
    if v == 1 && n == 0 then Login login.PasswordLength
    else if v == 1 then Login (login.Name n)
    else Over Unknown
name_of _ = Over Unknown

abbrev pub methods : List ℕ → Phase
methods [] = Over Unknown
methods (n ∷ rest) = if n == 0 then Over Unknown else Login (login.Methods n)

abbrev pub password : List ℕ → Phase
password [] = Over Unknown
password (n ∷ rest) = if n == 0 then Login login.Status else Login (login.Password n)

abbrev pub admitted : List ℕ → Phase
admitted (v ∷ s ∷ rest) = if v == 1 && s == 0 then Socks5 socks5.Request else Over Plain
admitted _ = Over Plain

unfoldable pub login_next : LoginPhase → List ℕ → Phase
login_next login.Count b = methods b
login_next (login.Methods n) b = Login login.Choice
login_next login.Choice b = chosen b
login_next login.User b = name_of b
login_next (login.Name n) b = Login login.PasswordLength
login_next login.PasswordLength b = password b
login_next (login.Password n) b = Login login.Status
login_next login.Status b = admitted b

-- The request (RFC 1928, sections 4 and 5): version 5, command 1, a reserved byte, the type of the
-- address: 1 for 4 bytes, 3 for a name behind its length, 4 for 16 bytes; then a port of 2 bytes.
-- The reply (section 6) has this form too, with 0 for the command if the request is granted.
unfoldable pub socks5_reads : Socks5Phase → Side
socks5_reads socks5.Request = Client
socks5_reads socks5.HostLength = Client
socks5_reads (socks5.Address n) = Client
socks5_reads socks5.Reply = Server
socks5_reads socks5.BoundLength = Server
socks5_reads (socks5.Bound n) = Server

unfoldable pub socks5_frame : Socks5Phase → Frame
socks5_frame socks5.Request = Count 4
socks5_frame socks5.Reply = Count 4
socks5_frame socks5.HostLength = Count 1
socks5_frame socks5.BoundLength = Count 1
socks5_frame (socks5.Address n) = Count n
socks5_frame (socks5.Bound n) = Count n

unfoldable pub requested : List ℕ → Phase
requested (v ∷ command ∷ r ∷ type ∷ rest) =
    if v == 5 && command == 1 && type == 1 then Socks5 (socks5.Address 6)
    else if v == 5 && command == 1 && type == 3 then Socks5 socks5.HostLength
    else if v == 5 && command == 1 && type == 4 then Socks5 (socks5.Address 18)
    else Over Unknown
requested _ = Over Unknown

unfoldable pub bound : List ℕ → Phase
bound (v ∷ reply ∷ r ∷ type ∷ rest) =
    if v == 5 && reply == 0 && type == 1 then Socks5 (socks5.Bound 6)
    else if v == 5 && reply == 0 && type == 3 then Socks5 socks5.BoundLength
    else if v == 5 && reply == 0 && type == 4 then Socks5 (socks5.Bound 18)
    else Over Plain
bound _ = Over Plain

unfoldable pub host_of : List ℕ → ℕ
host_of [] = 2
host_of (n ∷ rest) = n + 2

unfoldable pub socks5_next : Socks5Phase → List ℕ → Phase
socks5_next socks5.Request b = requested b
socks5_next socks5.HostLength b = Socks5 (socks5.Address (host_of b))
socks5_next (socks5.Address n) b = Socks5 socks5.Reply
socks5_next socks5.Reply b = bound b
socks5_next socks5.BoundLength b = Socks5 (socks5.Bound (host_of b))
socks5_next (socks5.Bound n) b = Over (Tls protocol.Socks5)

-- The PROXY protocol, version 2 (section 2.2 of its text), behind its first byte: 11 bytes that are
-- fixed, version 2 with a command, a family, and the length of addresses and TLVs.
unfoldable pub proxy_frame : ProxyPhase → Frame
proxy_frame proxy.Header = Count 15
proxy_frame (proxy.Addresses n) = Count n

abbrev pub proxy_rest : List ℕ → Phase
proxy_rest (a ∷ b ∷ c ∷ d ∷ e ∷ f ∷ g ∷ h ∷ i ∷ j ∷ k ∷ version ∷ family ∷ high ∷ low ∷ rest) =
    if not (version / 16 == 2) then Over Unknown
    else if high * 256 + low == 0 then Over (Tls protocol.Proxy)
    else Proxy (proxy.Addresses (high * 256 + low))
proxy_rest _ = Over Unknown

unfoldable pub proxy_header : List ℕ → Phase
proxy_header b =
    if begins (10 ∷ 13 ∷ 10 ∷ 0 ∷ 13 ∷ 10 ∷ 81 ∷ 85 ∷ 73 ∷ 84 ∷ 10 ∷ []) b then proxy_rest b
    else Over Unknown

unfoldable pub proxy_next : ProxyPhase → List ℕ → Phase
proxy_next proxy.Header b = proxy_header b
proxy_next (proxy.Addresses n) b = Over (Tls protocol.Proxy)
