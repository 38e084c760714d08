-- The dialogue in front of TLS: where it is, by the bytes of both sides. The client is the
-- originator.
use Rattle.std.specs.Prelude.{ℕ, ◌-◌, ◌==◌, Bool, true, false, ◌||◌, nat_lt, if◌then◌else◌, is_some, Option, Some, None, [], ◌∷◌, length, drop}
use Rattle.layouts.specs.Bytes.{Bytes}
use Rattle.preambles.specs.Gaps.{again, passed}
use Rattle.preambles.specs.Rows.{outcome_of, recognizes}
use Rattle.preambles.specs.Walk.{End, Place, begun, is_due, read, view}
use Rattle.preambles.specs.declared.phase.Outcome.{Outcome}
use Rattle.preambles.specs.declared.phase.Outcome.TheVariants as outcome
use Rattle.preambles.specs.declared.phase.Protocol.{Protocol}
use Rattle.preambles.specs.declared.phase.Protocol.TheVariants as protocol
use Rattle.preambles.specs.declared.phase.Side.{Side}
use Rattle.preambles.specs.declared.phase.Side.TheVariants.{Client, Server}
use Rattle.tls_detection.specs.Place.{place_behind}
use Rattle.log_connections.specs.declared.dialogue.Dialogue.{Dialogue}
use Rattle.log_connections.specs.declared.dialogue.Dialogue.TheVariants as dialogue
use Rattle.log_connections.specs.declared.dialogue.Followed.{Followed}
use Rattle.log_connections.specs.declared.dialogue.Step.{Step}

-- How far a dialogue was read: to a place, and these many of the next bytes of client and server.
pub record Reader : Type 0 where
  pub place : Place
  pub client : ℕ
  pub server : ℕ

-- It goes on: behind the tunnel of a protocol, if there is one, at this place. Of the next bytes of
-- the client and of the server, it read these many. Or it goes on behind missing bytes: of its line
-- or packet a part was missing, or all. Or TLS begins with the next byte of each side, behind the
-- dialogue of a protocol. Or it goes on without TLS, or none is known.
pub data State : Type 0 where
  GoesOn : Option Protocol → Place → ℕ → ℕ → State
  Resumes : Reader → Reader → State
  Tls : Protocol → State
  Plain : State
  Unknown : State

abbrev pub view_reader : Followed → Reader
view_reader f = record { place = view f.preamble; client = f.client; server = f.server }

abbrev pub state_of : Dialogue → State
state_of dialogue.New = GoesOn None begun 0 0
state_of (dialogue.GoesOn f) = GoesOn f.tunnel (view f.preamble) f.client f.server
state_of (dialogue.Resumes f g) = Resumes (view_reader f) (view_reader g)
state_of (dialogue.Tls p) = Tls p
state_of dialogue.Plain = Plain
state_of dialogue.Unknown = Unknown

-- Behind these another dialogue may follow.
abbrev pub is_tunnel : Protocol → Bool
is_tunnel protocol.Proxy = true
is_tunnel protocol.HttpConnect = true
is_tunnel protocol.Socks4 = true
is_tunnel protocol.Socks5 = true
is_tunnel p = false

-- Where no dialogue is known, TLS is searched for; but behind a tunnel it begins at once.
abbrev pub unknown_behind : Option Protocol → State
unknown_behind None = Unknown
unknown_behind (Some p) = Tls p

abbrev pub begun_by : Protocol → State
begun_by p = if is_tunnel p then GoesOn (Some p) begun 0 0 else Tls p

-- What the next bytes lead to, and how many of the client's and of the server's are skipped.
pub record Steps : Type 0 where
  pub state : State
  pub client : ℕ
  pub server : ℕ

abbrev pub view_step : Step → Steps
view_step s = record { state = state_of s.dialogue; client = s.client; server = s.server }

abbrev pub staying : State → Steps
staying s = record { state = s; client = 0; server = 0 }

-- It goes on. The bytes that it read are skipped once they show the protocol. Until then they are
-- kept, to be searched if they are of no dialogue.
abbrev pub goes_on : Option Protocol → Place → ℕ → ℕ → Steps
goes_on tunnel p m n =
    if recognizes p.phase
    then record { state = GoesOn None p 0 0; client = m; server = n }
    else staying (GoesOn tunnel p m n)

-- By the outcome, where m bytes of the client and n of the server were read.
abbrev pub stepped_by : Outcome → Option Protocol → Place → ℕ → ℕ → Steps
stepped_by outcome.Undecided tunnel p m n = goes_on tunnel p m n
stepped_by (outcome.Tls q) tunnel p m n = record { state = begun_by q; client = m; server = n }
stepped_by outcome.Plain tunnel p m n = staying Plain
stepped_by outcome.Unknown tunnel p m n = staying (unknown_behind tunnel)

abbrev pub stepped_from : Option Protocol → Bytes → Bytes → End → Steps
stepped_from tunnel client server e =
    stepped_by (outcome_of e.place.phase) tunnel e.place (length client - length e.client)
    (length server - length e.server)

-- A side's bytes wait for the other's, at most 65,536 of them.
abbrev pub are_too_many : Bytes → Bytes → Bool
are_too_many client server = nat_lt 65536 (length client) || nat_lt 65536 (length server)

-- The first byte is a handshake record's (RFC 8446, section 5.1).
abbrev pub begins_record : Bytes → Bool
begins_record [] = false
begins_record (b ∷ rest) = b == 22

-- The next bytes are read on.
abbrev pub reader_at : Bytes → Bytes → End → Reader
reader_at client server e = record {
  place = e.place;
  client = length client - length e.client;
  server = length server - length e.server;
}

abbrev pub reading_on : Reader → Bytes → Bytes → Reader
reading_on r client server =
    reader_at client server (read (drop r.client client) (drop r.server server) r.place)

-- They lead to TLS.
abbrev pub reached_by : Outcome → Reader → Option Steps
reached_by (outcome.Tls q) r =
    Some (record { state = begun_by q; client = r.client; server = r.server })
reached_by o r = None

abbrev pub reached : Reader → Option Steps
reached r = reached_by (outcome_of r.place.phase) r

abbrev pub first_of : Option Steps → Option Steps → Steps → Steps
first_of (Some s) o otherwise = s
first_of None (Some s) otherwise = s
first_of None None otherwise = otherwise

-- Behind missing bytes the dialogue leads to TLS from one of its places. None is known any more once
-- the client's bytes hold a hello.
abbrev pub resumed : Reader → Reader → Bytes → Steps
resumed again passed client = first_of (reached again) (reached passed)
    (staying (if is_some (place_behind false client) then Unknown else Resumes again passed))

-- At most 8,192 bytes of a side wait then.
abbrev pub are_too_many_behind : Bytes → Bytes → Bool
are_too_many_behind client server = nat_lt 8192 (length client) || nat_lt 8192 (length server)

-- What the next bytes of client and server lead to.
unfoldable pub stepped : State → Bytes → Bytes → Steps
stepped (Resumes again passed) client server =
    if are_too_many_behind client server then staying Unknown
    else resumed (reading_on again client server) (reading_on passed client server) client
stepped (GoesOn tunnel p i j) client server =
    if are_too_many client server then staying (unknown_behind tunnel)
    else stepped_from tunnel client server (read (drop i client) (drop j server) p)
stepped s client server = staying s

-- No more bytes come.
abbrev pub ended_in : State → State
ended_in (GoesOn tunnel p i j) = unknown_behind tunnel
ended_in (Resumes again passed) = Unknown
ended_in s = s

-- It isn't over.
abbrev pub is_followed : Dialogue → Bool
is_followed dialogue.New = true
is_followed (dialogue.GoesOn f) = true
is_followed (dialogue.Resumes f g) = true
is_followed d = false

-- The protocol of the dialogue behind which TLS begins.
abbrev pub protocol_in : Dialogue → Option Protocol
protocol_in (dialogue.Tls p) = Some p
protocol_in d = None

-- Without more bytes.
abbrev pub behind_tunnel : Option Protocol → Dialogue
behind_tunnel None = dialogue.Unknown
behind_tunnel (Some p) = dialogue.Tls p

abbrev pub without_more : Dialogue → Dialogue
without_more dialogue.New = dialogue.Unknown
without_more (dialogue.GoesOn f) = behind_tunnel f.tunnel
without_more (dialogue.Resumes f g) = dialogue.Unknown
without_more d = d

-- Missing bytes of a side are skipped where the dialogue reads that side next, unless it is behind a
-- tunnel, where TLS may begin; and where none is known.
abbrev pub awaits : Side → State → Bool
awaits side (GoesOn None p i j) = is_due side p
awaits side (Resumes again passed) = true
awaits side Unknown = true
awaits side s = false

-- Of that side no bytes were read then.
abbrev pub unread_of : Side → Reader → Reader
unread_of Client r = record r { client = 0 }
unread_of Server r = record r { server = 0 }

abbrev pub resuming : Side → Place → ℕ → ℕ → State
resuming side p i j = Resumes
    (unread_of side (record { place = again p; client = i; server = j }))
    (unread_of side (record { place = passed p; client = i; server = j }))

-- Missing bytes of a side were skipped.
abbrev pub behind_missing : Side → State → State
behind_missing side (GoesOn None p i j) = resuming side p i j
behind_missing side (Resumes first second) =
    Resumes (unread_of side first) (unread_of side second)
behind_missing side s = s
