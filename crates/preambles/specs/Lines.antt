-- The protocols of lines, which go on in TLS once the server accepts a command. A client's line is
-- a command, answered by one reply of the server; it reaches to the LF.
use Rattle.std.specs.Prelude.{ℕ, Bool, true, false, ◌&&◌, ◌||◌, ◌==◌, not, nat_le, nat_lt, if◌then◌else◌, List, codes}
use Rattle.preambles.specs.Words.{begins, behind_word, code_of, is_last}
use Rattle.preambles.specs.declared.phase.Answer.{Answer}
use Rattle.preambles.specs.declared.phase.Answer.TheVariants.{More, Done, Asks, Lists, Accepts, Ends, Foreign}
use Rattle.preambles.specs.declared.phase.Command.{Command as Words}
use Rattle.preambles.specs.declared.phase.Dialect.{Dialect}
use Rattle.preambles.specs.declared.phase.Dialect.TheVariants as dialect
use Rattle.preambles.specs.declared.phase.Outcome.TheVariants as outcome
use Rattle.preambles.specs.declared.phase.Phase.{Phase}
use Rattle.preambles.specs.declared.phase.Phase.TheVariants.{GreetingRest, Command, Value, Reply, Listing, IrcCommand, IrcReply, Over}
use Rattle.preambles.specs.declared.phase.Protocol.TheVariants as protocol
use Rattle.preambles.specs.declared.phase.Word.{Word}
use Rattle.preambles.specs.declared.phase.Word.TheVariants as word

abbrev pub is_starttls : Word → Bool
is_starttls word.Starttls = true
is_starttls w = false

abbrev pub is_auth : Word → Bool
is_auth word.Auth = true
is_auth w = false

abbrev pub is_tls : Word → Bool
is_tls word.Tls = true
is_tls w = false

abbrev pub is_lhlo : Word → Bool
is_lhlo word.Lhlo = true
is_lhlo w = false

-- SMTP and LMTP: STARTTLS is accepted by 220 (RFC 3207, section 4). FTP: AUTH TLS is accepted by
-- 234 (RFC 4217, section 4). 334 asks for a value (RFC 4954, section 4; RFC 2228), 354 for a mail;
-- 221 and 421 close. 1yz of FTP comes before another reply (RFC 959, section 4.2), and the lines
-- in its replies may lack the code.
unfoldable pub codes_answer : Bool → Words → List ℕ → Answer
codes_answer is_lmtp c line =
    if nat_lt (code_of line) 200 || not (is_last line) then More
    else if code_of line == 220 && is_starttls c.first
    then Accepts (if is_lmtp then protocol.Lmtp else protocol.Smtp)
    else if code_of line == 234 && is_auth c.first && is_tls c.second then Accepts protocol.Ftp
    else if code_of line == 334 then Asks
    else if code_of line == 354 || code_of line == 221 || code_of line == 421 then Ends
    else Done

-- NNTP: STARTTLS is accepted by 382 (RFC 4642, section 2.2). 383 asks for a value (RFC 4643,
-- section 2.4). A list follows 100, 101, 215, 220 to 222, 224, 225, 230 and 231 (RFC 3977, section
-- 3.2), and none other of 220 to 231 but 223 is used.
unfoldable pub nntp_answer : Words → List ℕ → Answer
nntp_answer c line =
    if code_of line == 382 && is_starttls c.first then Accepts protocol.Nntp
    else if code_of line == 383 then Asks
    else if code_of line == 100 || code_of line == 101 || code_of line == 215
    || (nat_le 220 (code_of line) && nat_le (code_of line) 231 && not (code_of line == 223))
    then Lists
    else if code_of line == 205 || code_of line == 400 then Ends
    else if code_of line == 0 then Foreign
    else Done

-- POP3: a positive answer to STLS (RFC 2595, section 4), or to CAPA, which a list follows (RFC
-- 2449, section 5). Behind a login STLS isn't allowed.
abbrev pub pop3_ok : Word → Answer
pop3_ok word.Stls = Accepts protocol.Pop3
pop3_ok word.Capa = Lists
pop3_ok word.Login = Ends
pop3_ok word.Authenticate = Ends
pop3_ok word.Auth = Ends
pop3_ok w = Done

unfoldable pub pop3_answer : Words → List ℕ → Answer
pop3_answer c line =
    if begins (codes "-ERR") line then Done
    else if begins (codes "+OK") line then pop3_ok c.first
    else if begins (codes "+ ") line then Asks
    else Foreign

-- IMAP: the tagged OK of STARTTLS, the second word of its line (RFC 9051, sections 2.2 and 6.2.1).
-- Untagged lines come before it; "+" asks for a value of AUTHENTICATE, or for a literal (section
-- 4.3), which isn't followed. Behind a login STARTTLS isn't allowed.
abbrev pub imap_ok : Word → Answer
imap_ok word.Starttls = Accepts protocol.Imap
imap_ok word.Login = Ends
imap_ok word.Authenticate = Ends
imap_ok w = Done

abbrev pub imap_asks : Word → Answer
imap_asks word.Authenticate = Asks
imap_asks w = Ends

unfoldable pub imap_answer : Words → List ℕ → Answer
imap_answer c line =
    if begins (codes "* BYE") line then Ends
    else if begins (codes "* ") line then More
    else if begins (codes "+") line then imap_asks c.second
    else if begins (codes "OK") (behind_word line) then imap_ok c.second
    else if begins (codes "NO") (behind_word line) || begins (codes "BAD") (behind_word line)
    then Done
    else Foreign

-- ManageSieve: OK answers STARTTLS (RFC 5804, sections 1.3 and 2.2).
abbrev pub sieve_ok : Word → Answer
sieve_ok word.Starttls = Accepts protocol.Sieve
sieve_ok word.Login = Ends
sieve_ok word.Authenticate = Ends
sieve_ok w = Done

unfoldable pub sieve_answer : Words → List ℕ → Answer
sieve_answer c line =
    if begins (codes "OK") line then sieve_ok c.first
    else if begins (codes "NO") line then Done
    else if begins (codes "BYE") line then Ends
    else More

unfoldable pub answer : Dialect → Words → List ℕ → Answer
answer dialect.Codes c line = codes_answer false c line
answer dialect.Lmtp c line = codes_answer true c line
answer dialect.Nntp c line = nntp_answer c line
answer dialect.Pop3 c line = pop3_answer c line
answer dialect.Imap c line = imap_answer c line
answer dialect.Sieve c line = sieve_answer c line

unfoldable pub behind_answer : Dialect → Words → Answer → Phase
behind_answer d c More = Reply d c
behind_answer d c Done = Command d
behind_answer d c Asks = Value d
behind_answer d c Lists = Listing d
behind_answer d c (Accepts p) = Over (outcome.Tls p)
behind_answer d c Ends = Over outcome.Plain
behind_answer d c Foreign = Over outcome.Unknown

-- IRC: numeric 670 accepts STARTTLS, 691 refuses it (IRCv3, tls-3.1); it follows the server's name.
unfoldable pub irc_answer : List ℕ → Phase
irc_answer line =
    if begins (codes "670 ") (behind_word line) then Over (outcome.Tls protocol.Irc)
    else if begins (codes "691 ") (behind_word line) then IrcCommand
    else IrcReply

unfoldable pub greeted : Dialect → Words → Bool → Phase
greeted d c is_last = if is_last then Reply d c else GreetingRest d c

-- The server's first line says which protocol it is: 220 (RFC 5321, section 3.1; RFC 959, section
-- 5.4), 200 or 201 (RFC 3977, section 5.1), +OK (RFC 1939, section 4), an untagged line (RFC 9051,
-- section 7.1), a capability in quotes (RFC 5804, section 1.7), or a line with a prefix (RFC 1459,
-- section 2.3). c is the client's first command, which it answers. An answer of HTTP (RFC 9112,
-- section 4) shows that the client's line was a request.
unfoldable pub greeting : Words → List ℕ → Phase
greeting c line =
    if code_of line == 220 && is_lhlo c.first then greeted dialect.Lmtp c (is_last line)
    else if code_of line == 220 then greeted dialect.Codes c (is_last line)
    else if code_of line == 200 || code_of line == 201 then Reply dialect.Nntp c
    else if nat_le 400 (code_of line) || begins (codes "HTTP/1.") line then Over outcome.Plain
    else if begins (codes "+OK") line then Reply dialect.Pop3 c
    else if begins (codes "* ") line then Reply dialect.Imap c
    else if begins (codes "\"") line then GreetingRest dialect.Sieve c
    else if begins (codes ":") line || begins (codes "NOTICE ") line
    then (if is_starttls c.first then irc_answer line else IrcCommand)
    else Over outcome.Unknown

abbrev pub is_sieve : Dialect → Bool
is_sieve dialect.Sieve = true
is_sieve d = false

unfoldable pub greeting_rest : Dialect → Words → List ℕ → Phase
greeting_rest d c line =
    if is_sieve d then
    (if begins (codes "OK") line then Reply d c
    else if begins (codes "NO") line || begins (codes "BYE") line then Over outcome.Plain
    else GreetingRest d c)
    else greeted d c (nat_lt 0 (code_of line) && is_last line)
