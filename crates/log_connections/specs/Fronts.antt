-- Where TLS begins in a side's stream.
use Rattle.std.specs.Prelude.{◌≡◌, ℕ, ◌+◌, ◌-◌, ◌^◌, ◌==◌, min, Bool, true, false, not, ◌&&◌, ◌||◌, nat_le, nat_lt, if◌then◌else◌, is_some, Option, Some, None, Ok, Err, [], ◌∷◌, length}
use Rattle.layouts.specs.Bytes.{Bytes}
use Rattle.layouts.specs.Meaning.{Answer}
use Rattle.layouts.specs.Reading.{reading}
use Rattle.ssl2_hello.specs.ClientHello.{ClientHello, client_hello, view_client_hello}
use Rattle.ssl2_hello.specs.Front.{begins_ssl2_hello_in}
use Rattle.preambles.specs.TdsPayload.{begun, reader_at}
use Rattle.preambles.specs.declared.phase.Side as speaker
use Rattle.preambles.specs.declared.phase.Side.TheVariants as speakers
use Rattle.tls_detection.specs.Front.{begins_tls}
use Rattle.tls_detection.specs.Place.{place_behind}
use Rattle.connections.specs.declared.connection.Side.{Side}
use Rattle.connections.specs.declared.connection.Side.TheVariants.{Originator, Responder}
use Rattle.log_connections.specs.Dialogue.{State, GoesOn, Resumes, Tls, Plain, Unknown, Steps, behind_missing, protocol_in, state_of, stepped, without_more}
use Rattle.log_connections.specs.declared.dialogue.Dialogue.TheVariants as dialogue
use Rattle.log_connections.specs.declared.fronts.Preambles.{Preambles}
use Rattle.log_connections.specs.declared.fronts.Beginning.{Beginning}
use Rattle.log_connections.specs.declared.fronts.Beginning.TheVariants as beginnings

-- Where TLS begins on a side: undecided (too few bytes), not within this many bytes, after this
-- many, with a first byte that isn't in the stream, with an SSL 2.0 ClientHello in a record of this many bytes, with the next byte or before
-- it, or nowhere.
pub data Start : Type 0 where
  Waits : Start
  PassesOver : ℕ → Start
  At : ℕ → Start
  BehindFirst : Start
  InSsl2 : ClientHello → ℕ → Start
  Next : Start
  Nowhere : Start

abbrev pub view_beginning : Beginning → Start
view_beginning beginnings.Waits = Waits
view_beginning (beginnings.PassesOver n) = PassesOver n
view_beginning (beginnings.At n) = At n
view_beginning beginnings.BehindFirst = BehindFirst
view_beginning (beginnings.InSsl2 hello n) = InSsl2 (view_client_hello hello) n
view_beginning beginnings.Next = Next
view_beginning beginnings.Nowhere = Nowhere

-- The count saturates.
abbrev pub behind : ℕ → ℕ → ℕ
behind skipped n = min (skipped + n) (2 ^ 64 - 1)

-- TLS begins at the first hello (on a side that answers, at the first hello or alert) within the
-- side's first 65,536 bytes. Without one, the last 10 of these bytes are searched again when more
-- come.
abbrev pub found : Option ℕ → Bool → ℕ → ℕ → Start
found (Some n) last skipped count =
    if nat_lt (behind skipped n) 65536 then At n else Nowhere
found None last skipped count =
    if last || nat_le 65536 (behind skipped (count - 10)) then Nowhere
    else PassesOver (count - 10)

-- TLS begins with the side's first byte, a record header's (RFC 8446, section 5.1). The byte after
-- the header shows whether the side is the client or the server.
abbrev pub begins_there : Bytes → Bool → Bool
begins_there b last = (nat_lt 5 (length b) || last) && begins_tls b

-- TLS may begin at the first of these bytes, once more come: there are fewer than 11, or they begin
-- an SSL 2.0 ClientHello, which has to be complete (RFC 5246, appendix E.2).
abbrev pub may_begin : ℕ → Bytes → Bool
may_begin skipped b = nat_lt (length b) 11 || (skipped == 0 && begins_ssl2_hello_in b)

-- More bytes are needed to decide: the side sent less than a record header, or TLS may begin here.
abbrev pub is_waiting : ℕ → Bytes → Bool → Bool
is_waiting skipped b last =
    (skipped == 0 && nat_lt (length b) 5) || (not last && may_begin skipped b)

-- Where TLS begins, if not with the side's first byte.
abbrev pub beginning_behind : Bool → Bool → ℕ → Bytes → Start
beginning_behind answers last skipped b =
    if is_waiting skipped b last then Waits
    else found (place_behind answers b) last skipped (length b)

-- Where TLS begins, by the answer of parsing an SSL 2.0 ClientHello at the front.
abbrev pub beginning_by : Answer ClientHello → Bool → Bool → ℕ → Bytes → Start
beginning_by (Ok h) answers last skipped b = InSsl2 h.0 (length b - length h.1)
beginning_by (Err e) answers last skipped b = beginning_behind answers last skipped b

-- The stream lacks the first byte of a handshake record that begins with a hello: a single byte
-- without a SYN before it may be a keep-alive (RFC 9293, section 3.8.4), and begins no stream.
abbrev pub is_hello_front : Bytes → Bool
is_hello_front front = is_some (place_behind false front) || is_some (place_behind true front)

-- With that byte in front, the first 11 bytes.
abbrev pub with_first : Bytes → Option Bytes
with_first (a ∷ b ∷ c ∷ d ∷ e ∷ f ∷ g ∷ h ∷ i ∷ j ∷ rest) =
    Some (22 ∷ a ∷ b ∷ c ∷ d ∷ e ∷ f ∷ g ∷ h ∷ i ∷ j ∷ [])
with_first _ = None

abbrev pub is_some_hello_front : Option Bytes → Bool
is_some_hello_front (Some front) = is_hello_front front
is_some_hello_front None = false

abbrev pub lacks_first : Bytes → Bool
lacks_first b = is_some_hello_front (with_first b)

abbrev pub beginning_at_once : Bool → Bool → ℕ → Bytes → Start
beginning_at_once answers last skipped b =
    if begins_there b last then At 0
    else if lacks_first b then BehindFirst
    else beginning_by (reading client_hello b) answers last skipped b

-- Where a search finds TLS in a side's next bytes, behind those that were skipped. They may be its
-- last ones. A side answers if the other side's TLS began.
abbrev pub beginning_by_search : Bool → Bool → ℕ → Bytes → Start
beginning_by_search answers last skipped b =
    if skipped == 0 then beginning_at_once answers last skipped b
    else beginning_behind answers last skipped b

-- Where TLS begins on a side. Behind a known dialogue it begins with the next byte, whatever that
-- is, once 6 bytes show whether the side is the client or the server; or nowhere if the dialogue
-- goes on without TLS. While the dialogue is followed, both sides wait. Where none is known, TLS is
-- searched for.
abbrev pub beginning_in : State → Bool → Bool → ℕ → Bytes → Start
beginning_in (GoesOn tunnel p i j) answers last skipped b = Waits
beginning_in (Resumes again passed) answers last skipped b = Waits
beginning_in (Tls p) answers last skipped b = if nat_lt 5 (length b) || last then Next else Waits
beginning_in Plain answers last skipped b = Nowhere
beginning_in Unknown answers last skipped b = beginning_by_search answers last skipped b

-- Where TLS begins, if it didn't begin before, that is, if it is still sought.
abbrev pub beginning : State → Bool → Bool → Bool → ℕ → Bytes → Start
beginning s sought answers last skipped b =
    if not sought then Next else beginning_in s answers last skipped b

abbrev pub preamble : Side → Preambles → ℕ
preamble Originator f = f.originator
preamble Responder f = f.responder

abbrev pub with_preamble : Side → ℕ → Preambles → Preambles
with_preamble Originator n f = record f { originator = n }
with_preamble Responder n f = record f { responder = n }

-- No bytes were skipped or read.
abbrev pub no_preambles : Preambles
no_preambles = record {
  originator = 0;
  responder = 0;
  dialogue = dialogue.New;
  packets_of_originator = reader_at begun;
  packets_of_responder = reader_at begun;
}

-- This many more bytes of a side are skipped.
abbrev pub passing : Side → ℕ → Preambles → Preambles
passing s n f = with_preamble s (behind (preamble s f) n) f

-- Both sides' next bytes lead the dialogue on. Those that it passes are skipped.
abbrev pub IsPassedBy : Steps → Preambles → Preambles → ℕ × ℕ → Type 0
IsPassedBy step f g n =
    (state_of g.dialogue ≡ step.state)
    × (g ≡ record (passing Responder step.server (passing Originator step.client f)) {
      dialogue = g.dialogue;
    })
    × (n ≡ (step.client, step.server))

abbrev pub IsFollowedBy : Bytes → Bytes → Preambles → Preambles → ℕ × ℕ → Type 0
IsFollowedBy originator responder f g n =
    IsPassedBy (stepped (state_of f.dialogue) originator responder) f g n

-- No more bytes of the dialogue come.
abbrev pub without_dialogue : Preambles → Preambles
without_dialogue f = record f { dialogue = without_more f.dialogue }

-- The client of a dialogue is the originator.
abbrev pub speaker_of : Side → speaker.Side
speaker_of Originator = speakers.Client
speaker_of Responder = speakers.Server

-- This many bytes of a side were skipped since some were missing.
abbrev pub IsBehindMissing : Side → ℕ → Preambles → Preambles → Type 0
IsBehindMissing side n f g =
    (state_of g.dialogue ≡ behind_missing (speaker_of side) (state_of f.dialogue))
    × (g ≡ record (passing side n f) { dialogue = g.dialogue })
