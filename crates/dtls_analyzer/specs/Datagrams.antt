-- The state of a datagram analyzer, record by record (RFC 6347, RFC 9147). What a peer would drop
-- changes nothing.
use Rattle.std.specs.Prelude.{◌≡◌, ℕ, zero, suc, max, Bool, true, false, not, ◌&&◌, ◌||◌, ◌==◌, nat_lt, is_some, if◌then◌else◌, Option, Some, None, Ok, Err, List, [], ◌∷◌, length}
use Rattle.std.specs.Str.{bytes_eq}
use Rattle.layouts.specs.Bytes.{Bytes}
use Rattle.layouts.specs.Meaning.{Answer}
use Rattle.layouts.specs.Reading.{reading}
use Rattle.raw_records.specs.RawDtlsRecord.{RawRecord}
use Rattle.dtls_stream.specs.Fragments.{Fragment, fragment}
use Rattle.dtls_stream.specs.Messages.{Alert, ChangeCipherSpec, Encrypted, Event, Handshake, Received, Kept, Limits, Stands, nothing as none_received, nothing_from}
use Rattle.raw_records.specs.DatagramRecord.{datagram_record}
use Rattle.dtls_stream.specs.Datagrams.{Step, record_step}
use Rattle.tls_flow.specs.Steps.{follow, silence}
use Rattle.tls_flow.specs.Table.{is_failed, is_waiting, outcome_at}
use Rattle.tls_flow.specs.declared.event.FlowEvent.{FlowEvent as Followed}
use Rattle.tls_flow.specs.declared.flow.Flow.{Flow}
use Rattle.tls_flow.specs.declared.symbol.Direction.{Direction as Side}
use Rattle.tls_flow.specs.declared.symbol.Direction.TheVariants.{ToServer, FromServer}
use Rattle.dtls_stream.specs.FlowEvents.{event_in_datagram_with, kind_in_datagram, message_in_datagram}
use Rattle.tls_flow.specs.Bytes.{HandshakeMessage}
use Rattle.tls_flow.specs.declared.symbol.Kind.{Kind}
use Rattle.tls_flow.specs.declared.symbol.Kind.TheVariants as kind
use Rattle.tls_flow.specs.declared.state.Outcome.{Outcome}
use Rattle.tls_summary.specs.HandshakeSummary.{HandshakeSummary, is_stray, nothing, of_alert, of_datagrams, view_summary}
use Rattle.raw_records.specs.Ciphertext.{Ciphertext, ciphertext}
use Rattle.tls_observer.specs.Ends.{has_finished, is_13}
use Rattle.tls_stream.specs.Events.{default_limit}
use Rattle.tls_summary.specs.Fields.{client_session_id, connection_id_length, offers_ticket, server_session_id}
use Rattle.dtls_analyzer.specs.DatagramRecords.{is_known}
use Rattle.replay_window.specs.Replay.{RecordNumber, Remembers, is_new}
use Rattle.tls_observer.specs.History.{letter_in_datagram, with_letter}
use Rattle.dtls_analyzer.specs.declared.account.Account.{Account}
use Rattle.dtls_analyzer.specs.declared.account.Progress.{Progress}
use Rattle.dtls_analyzer.specs.declared.datagram_side.DatagramSide.{DatagramSide}
use Rattle.dtls_analyzer.specs.declared.datagram_analyzer.DatagramAnalyzer.{DatagramAnalyzer}

-- The summary after an event of this side, where m is its handshake message.
abbrev pub noted_by : Side → Option HandshakeMessage → HandshakeSummary → HandshakeSummary
noted_by s (Some m) f = of_datagrams s m f
noted_by s None f = f

abbrev pub noted_in_datagram_with : Side → HandshakeSummary → Event → Option HandshakeMessage
    → HandshakeSummary
noted_in_datagram_with s f (Handshake h) m = noted_by s m f
noted_in_datagram_with s f (Alert a) m = of_alert a.description f
noted_in_datagram_with s f e m = f

abbrev pub noted_in_datagram : Side → HandshakeSummary → Event → HandshakeSummary
noted_in_datagram s f e = noted_in_datagram_with s f e (message_in_datagram e)

abbrev pub is_change : Event → Bool
is_change ChangeCipherSpec = true
is_change e = false

abbrev pub is_sealed : Event → Bool
is_sealed (Encrypted r) = true
is_sealed e = false

abbrev pub is_client : Side → Bool
is_client ToServer = true
is_client FromServer = false

abbrev pub followed_by : Flow → Option Followed → Flow
followed_by f (Some e) = follow f e
followed_by f None = f

-- The flow after an event of this side, where k is the kind of its handshake message.
abbrev pub followed_with : Side → Flow → Event → Kind → Flow
followed_with s f e k = followed_by f (event_in_datagram_with s e k)

abbrev pub followed : Side → Flow → Event → Flow
followed s f e = followed_with s f e (kind_in_datagram e)

-- The flow after an event of this side, given the summary before it. A hello that doesn't belong to
-- the handshake is no step: so the handshake goes on if the question for a second hello was lost.
abbrev pub advanced_with : Side → Flow → HandshakeSummary → Event → Kind → Flow
advanced_with s f h e k = if is_stray s k h then f else followed_with s f e k

abbrev pub advanced : Side → Flow → HandshakeSummary → Event → Flow
advanced s f h e = advanced_with s f h e (kind_in_datagram e)

-- A HelloVerifyRequest (RFC 6347, section 4.2.1) or a HelloRetryRequest answers a hello that wasn't
-- captured. It is dropped: the handshake begins with the hello that it asks for.
abbrev pub is_question : Kind → Bool
is_question kind.HelloVerifyRequest = true
is_question kind.HelloRetryRequest = true
is_question k = false

abbrev pub asks_unseen : Side → HandshakeSummary → Event → Bool
asks_unseen ToServer h e = false
asks_unseen FromServer h e = not (is_some h.client) && is_question (kind_in_datagram e)

-- What both sides have sent, and how far one of them has come: whether it has sent its
-- ChangeCipherSpec, and whether it has sent an encrypted record.
pub record Observed : Type 0 where
  pub flow : Flow
  pub handshake : HandshakeSummary
  pub history : List ℕ
  pub has_changed : Bool
  pub is_encrypted : Bool

abbrev pub observed_of : Account → Progress → Observed
observed_of a p = record {
  flow = a.flow;
  handshake = view_summary a.handshake;
  history = a.history.items;
  has_changed = p.has_changed;
  is_encrypted = p.is_encrypted;
}

-- The server's hello resumes a session if it repeats the client's session ID. If the client's is
-- empty, what follows decides whether the offered ticket is accepted (RFC 5077, section 3.4).
abbrev pub takes_up : Option Bytes → Option Bytes → Bool → Bool
takes_up None server ticket = ticket
takes_up (Some id) None ticket = false
takes_up (Some id) (Some same) ticket = bytes_eq id same

abbrev pub may_resume : HandshakeSummary → Bool
may_resume f = takes_up (client_session_id f) (server_session_id f) (offers_ticket f)

-- The outcome that a ChangeCipherSpec of this side would give.
abbrev pub behind_change : Side → Flow → Outcome
behind_change s f = outcome_at (followed s f ChangeCipherSpec).state

-- The handshake has reached this side's ChangeCipherSpec: it doesn't fail with it. A server's, if
-- the client's is still to come, needs a resumed session (RFC 5246, section 7.3).
abbrev pub has_come_to_change : Side → Flow → HandshakeSummary → Bool
has_come_to_change s f a =
    not (is_waiting (outcome_at f.state) && is_failed (behind_change s f))
    && (is_client s || not (is_waiting (behind_change s f)) || may_resume a)

-- A ChangeCipherSpec counts once for each side, and only if the handshake has reached it, which is
-- after the ServerHello. Any other is dropped: it is a retransmission (RFC 6347, section 4.2.4), or
-- there is nothing to change to.
abbrev pub awaits_change : Side → Observed → Bool
awaits_change s t = not t.has_changed && is_some t.handshake.server
    && has_come_to_change s t.flow t.handshake

abbrev pub with_event : Side → Observed → Event → Observed
with_event s t e = record {
  flow = advanced s t.flow t.handshake e;
  handshake = noted_in_datagram s t.handshake e;
  history = with_letter s t.history (letter_in_datagram e);
  has_changed = t.has_changed || is_change e;
  is_encrypted = t.is_encrypted || is_sealed e;
}

-- An event of the side.
abbrev pub observed : Side → Observed → Event → Observed
observed s t e =
    if (is_change e && not (awaits_change s t)) || asks_unseen s t.handshake e then t
    else with_event s t e

-- Events of the side, in order.
abbrev pub observed_all : Side → Observed → List Event → Observed
observed_all s t [] = t
observed_all s t (e ∷ es) = observed_all s (observed s t e) es

-- The limits for a side: the length of a message, and fragments of 16 messages at a time.
abbrev pub allowed : Limits
allowed = record { message = default_limit; ahead = 16 }

-- The state of one side: its reassembly, the numbers of its records, and how far it has come.
pub record SideProgress : Type 0 where
  pub received : Received
  -- the numbers of the accepted records
  pub came : List RecordNumber
  -- whether a fragment of it was added, and whether the messages before it are missing
  pub is_begun : Bool
  pub lacks_front : Bool
  pub has_changed : Bool
  pub is_encrypted : Bool

-- The state of an analyzer.
pub record Analyzer : Type 0 where
  pub client : SideProgress
  pub server : SideProgress
  pub flow : Flow
  pub handshake : HandshakeSummary
  pub history : List ℕ
  -- whether a datagram began with a record of DTLS of epoch 0
  pub is_dtls : Bool
  -- the length of the client's longest encrypted record of DTLS 1.3, without early data
  pub longest : ℕ

abbrev pub no_side_progress : SideProgress
no_side_progress =
    record {
      received = none_received;
      came = [];
      is_begun = false;
      lacks_front = false;
      has_changed =
          false;
      is_encrypted = false;
    }

-- Nothing came.
abbrev pub nothing_observed : Analyzer
nothing_observed = record {
  client = no_side_progress;
  server = no_side_progress;
  flow = silence;
  handshake =
      nothing;
  history = [];
  is_dtls = false;
  longest = 0;
}

abbrev pub side_progress : Analyzer → Side → SideProgress
side_progress k ToServer = k.client
side_progress k FromServer = k.server

-- A side is skipped once it is encrypted and the handshake has ended.
abbrev pub is_over : Analyzer → Side → Bool
is_over k s = (side_progress k s).is_encrypted && not (is_waiting (outcome_at k.flow.state))

abbrev pub observed_by : Analyzer → SideProgress → Observed
observed_by k p =
    record {
      flow = k.flow;
      handshake = k.handshake;
      history = k.history;
      has_changed =
          p.has_changed;
      is_encrypted = p.is_encrypted;
    }

abbrev pub side_progress_by : SideProgress → Received → Observed → SideProgress
side_progress_by p h t =
    record p { received = h; has_changed = t.has_changed; is_encrypted = t.is_encrypted }

abbrev pub with_observed : Analyzer → Side → Received → Observed → Analyzer
with_observed k ToServer h t =
    record k {
      client = side_progress_by k.client h t;
      flow = t.flow;
      handshake = t.handshake;
      history =
          t.history;
    }
with_observed k FromServer h t =
    record k {
      server = side_progress_by k.server h t;
      flow = t.flow;
      handshake = t.handshake;
      history =
          t.history;
    }

-- A side's events are followed and recorded.
abbrev pub stepped : Analyzer → Side → Step → Analyzer
stepped k s x = with_observed k s x.0 (observed_all s (observed_by k (side_progress k s)) x.1)

abbrev pub fragment_in : Answer Fragment → Option Fragment
fragment_in (Ok x) = Some x.0
fragment_in (Err e) = None

-- The handshake fragment that a record begins with.
abbrev pub first_fragment : RawRecord → Option Fragment
first_fragment r = if r.header.content_type == 22 then
    fragment_in (reading fragment r.fragment) else None

-- The first message after the missing ones: a second ClientHello, or the ServerHello after a
-- HelloVerifyRequest (RFC 6347, section 4.2.2, which numbers the first messages 0).
abbrev pub hello_type : Side → ℕ
hello_type ToServer = 1
hello_type FromServer = 2

abbrev pub is_behind_front : Side → Fragment → Bool
is_behind_front s f = f.msg_type == hello_type s && f.message_seq == 1

-- The first fragment of a side gives the number at which its messages begin.
abbrev pub begun : Side → Fragment → SideProgress → SideProgress
begun s f p =
    if p.is_begun then p
    else if is_behind_front s f then
    record p { received = nothing_from 1; is_begun = true; lacks_front = true }
    else record p { is_begun = true }

abbrev pub with_side_progress : Analyzer → Side → SideProgress → Analyzer
with_side_progress k ToServer p = record k { client = p }
with_side_progress k FromServer p = record k { server = p }

abbrev pub begun_by : Option Fragment → Analyzer → Side → Analyzer
begun_by None k s = k
begun_by (Some f) k s = with_side_progress k s (begun s f (side_progress k s))

-- The epoch of the records that a side's peer accepts (section 4.1): 1 after the side's
-- ChangeCipherSpec. Records of an epoch that hasn't begun or is over are dropped. Later epochs
-- begin after the handshake, with an encrypted ChangeCipherSpec.
abbrev pub epoch_of : SideProgress → ℕ
epoch_of p = if p.has_changed then 1 else 0

-- A ClientHello, ServerHello or HelloVerifyRequest.
abbrev pub is_hello : Fragment → Bool
is_hello f = f.msg_type == 1 || f.msg_type == 2 || f.msg_type == 3

-- After the ServerHello no hello is due (RFC 5246, section 7.3; RFC 6347, section 4.2.4, figure 1).
-- A new one is dropped.
abbrev pub is_late : Option Fragment → Analyzer → Side → Bool
is_late None k s = false
is_late (Some f) k s =
    is_some k.handshake.server && is_hello f
    && not (nat_lt f.message_seq (side_progress k s).received.next)

-- The beginning of a client's first message.
abbrev pub is_opening : Option Fragment → Bool
is_opening None = false
is_opening (Some f) = f.msg_type == 1 && f.message_seq == 0 && f.fragment_offset == 0

-- The client gave up behind its first hello, and numbers the records of another association from 0
-- again. Before its ServerHello a server keeps no numbers (RFC 6347, section 4.2.1).
abbrev pub renumbers : Analyzer → Side → RawRecord → Bool
renumbers k s r =
    is_client s && is_some k.handshake.client && not (is_some k.handshake.server)
    && r.header.sequence_number == 0 && is_opening (first_fragment r)

abbrev pub number_of : RawRecord → RecordNumber
number_of r = record { epoch = r.header.epoch; sequence_number = r.header.sequence_number }

-- The numbers of this side's records before this one.
abbrev pub came_before : Analyzer → Side → RawRecord → List RecordNumber
came_before k s r = if renumbers k s r then [] else (side_progress k s).came

-- The peer accepts a record of this side: it is of the present epoch, and its number is new
-- (RFC 6347, section 4.1.2.6).
abbrev pub accepts : Analyzer → Side → RawRecord → Bool
accepts k s r =
    k.is_dtls && not (is_over k s) && r.header.epoch == epoch_of (side_progress k s)
    && is_new (came_before k s r) (number_of r)

abbrev pub with_numbers : Analyzer → Side → List RecordNumber → Analyzer
with_numbers k s came = with_side_progress k s (record (side_progress k s) { came = came })

abbrev pub numbered : Analyzer → Side → RawRecord → Analyzer
numbered k s r = with_numbers k s (number_of r ∷ came_before k s r)

abbrev pub taken : Analyzer → Side → RawRecord → Analyzer
taken k s r = stepped k s (record_step allowed (side_progress k s).received r)

-- An accepted record is read, unless it is a late hello.
abbrev pub accepted : Analyzer → Side → RawRecord → Analyzer
accepted k s r =
    if is_late (first_fragment r) k s then k else taken (begun_by (first_fragment r) k s) s r

abbrev pub record_received_in : Analyzer → Side → RawRecord → Analyzer
record_received_in k s r = if accepts k s r then accepted (numbered k s r) s r else k

-- A record of this side. The first one of epoch 0 shows that it is DTLS.
abbrev pub record_received : Analyzer → Side → RawRecord → Analyzer
record_received k s r =
    record_received_in (record k { is_dtls = k.is_dtls || r.header.epoch == 0 }) s r

-- The encrypted record of DTLS 1.3 that the bytes begin with (RFC 9147, section 4).
abbrev pub sealed_record : Answer Ciphertext → Option Ciphertext
sealed_record (Ok x) = Some x.0
sealed_record (Err e) = None

-- If a record in the form of DTLS 1.3 comes next, and DTLS 1.3 was negotiated, the side is
-- encrypted. A record that comes before its peer knows that is dropped.
abbrev pub sealed_next : Analyzer → Side → Bytes → Option Ciphertext
sealed_next k s b = if is_13 (outcome_at k.flow.state) then
    sealed_record (reading (ciphertext (connection_id_length s k.handshake)) b) else None

abbrev pub sealed : SideProgress → SideProgress
sealed p = record p { is_encrypted = true }

-- The client's longest encrypted record. Early data has the epoch 1 (RFC 9147, section 6.1), and
-- isn't counted.
abbrev pub longest_with : Side → Ciphertext → ℕ → ℕ
longest_with ToServer c n =
    if c.header.epoch_bits == 1 then n else max n (length c.encrypted_record)
longest_with FromServer c n = n

abbrev pub sealed_with : Option Ciphertext → Analyzer → Side → Analyzer
sealed_with None k s = k
sealed_with (Some c) k s =
    with_side_progress (record k { longest = longest_with s c k.longest }) s
    (sealed (side_progress k s))

abbrev pub sealed_by : Analyzer → Side → Bytes → Analyzer
sealed_by k s b = sealed_with (sealed_next k s b) k s

-- The client has sent a record that can hold its Finished. So can an ACK of three or more records
-- (RFC 9147, section 7), which can't be told from one.
abbrev pub has_finished_by : Analyzer → Bool
has_finished_by k = has_finished 12 k.handshake k.longest

abbrev pub next_received : Answer RawRecord → Analyzer → Side → Bytes
    → (Analyzer → Bytes → Analyzer) → Analyzer
next_received (Err e) k s b more = sealed_by k s b
next_received (Ok x) k s b more = if is_known x.0.header then
    more (record_received k s x.0) x.1 else sealed_by k s b

-- At most n records of a datagram, in order. Bytes that are no whole DTLS record are dropped with
-- what follows them (section 4.1.2.7); so is a datagram that begins with such bytes, since other
-- protocols may use the same ports (RFC 7983). In DTLS 1.3 encrypted records may follow the others,
-- and the first one marks the side as encrypted.
unfoldable pub records_received : ℕ → Analyzer → Side → Bytes → Analyzer
records_received zero k s b = k
records_received (suc n) k s b =
    next_received (reading datagram_record b) k s b (λ k b. records_received n k s b)

-- A datagram of this side. A record has at least one byte, so there are no more records than bytes.
abbrev pub received : Analyzer → Side → Bytes → Analyzer
received k s d = records_received (length d) k s d

-- All of these datagrams, in order.
abbrev pub received_all : Analyzer → List (Side × Bytes) → Analyzer
received_all k [] = k
received_all k (d ∷ ds) = received_all (received k d.0 d.1) ds

-- The program's data of one side, and of the analyzer, agree with the state.
pub record IsSideProgress (p : SideProgress) (t : DatagramSide) : Type 0 where
  pub stands : Stands allowed p.received t.messages
  pub window : Remembers p.came t.window
  pub is_begun : t.is_begun ≡ p.is_begun
  pub lacks_front : t.lacks_front ≡ p.lacks_front
  pub has_changed : t.progress.has_changed ≡ p.has_changed
  pub is_encrypted : t.progress.is_encrypted ≡ p.is_encrypted

pub record IsKnown (k : Analyzer) (t : DatagramAnalyzer) : Type 0 where
  pub client : IsSideProgress k.client t.client
  pub server : IsSideProgress k.server t.server
  pub flow : t.account.flow ≡ k.flow
  pub handshake : view_summary t.account.handshake ≡ k.handshake
  pub history : t.account.history.items ≡ k.history
  pub is_dtls : t.is_dtls ≡ k.is_dtls
  pub longest : t.longest ≡ k.longest

abbrev pub datagram_side_of : DatagramAnalyzer → Side → DatagramSide
datagram_side_of t ToServer = t.client
datagram_side_of t FromServer = t.server

-- The side's events were followed and recorded.
pub record IsStepped (s : Side) (x : Step) (t u : Observed) (n : Kept) : Type 0 where
  pub stands : Stands allowed x.0 n
  pub emitted : u ≡ observed_all s t x.1

-- A datagram_side read a record and its events were added, in terms of the account and the progress
-- before and after.
abbrev pub SideReads : Side → Received → RawRecord → Account → Account → DatagramSide
    → DatagramSide → Type 0
SideReads s h r a b t u =
    IsStepped s (record_step allowed h r) (observed_of a t.progress)
    (observed_of b u.progress) u.messages

-- Another state of the same side, apart from its messages.
abbrev pub IsSameSide : DatagramSide → DatagramSide → Type 0
IsSameSide t u =
    (u.is_begun ≡ t.is_begun) × (u.lacks_front ≡ t.lacks_front) × (u.window ≡ t.window)
