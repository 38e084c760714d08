-- The events of one direction's datagrams (RFC 6347, sections 4.1 and 4.2).
use Rattle.std.specs.Prelude.{◌≡◌, ℕ, zero, suc, ◌+◌, cond, nat_lt, Option, Some, None, Ok, Err, ◌==◌, ◌&&◌, if◌then◌else◌, List, [], ◌∷◌, ◌++◌, length, take, map}
use Rattle.std.specs.Borrow.{Bor}
use Rattle.layouts.specs.Bytes.{Bytes}
use Rattle.layouts.specs.Layout.{list1}
use Rattle.layouts.specs.Meaning.{Answer, Broken, Lacks, Refusal}
use Rattle.layouts.specs.Reading.{reading}
use Rattle.layouts.specs.declared.result.ErrorKind.{ErrorKind}
use Rattle.layouts.specs.declared.result.ErrorKind.TheVariants.{Complete, Switch}
use Rattle.raw_records.specs.RawDtlsRecord.{RawRecord}
pub use Rattle.raw_records.specs.DatagramRecord.{limit, content, datagram_record}
use Rattle.dtls_records.specs.DtlsRecord.{record_content}
use Rattle.dtls_records.specs.DtlsRecord as dtls_record
use Rattle.dtls_records.specs.DtlsHandshake as handshakes
use Rattle.dtls_stream.specs.Fragments.{Fragment, fragment}
use Rattle.dtls_stream.specs.Messages.{Alert, ChangeCipherSpec, Encrypted, EncryptedRecord, Event, Failed, Handshake, Received, Kept, Limits, Message, Stands, after, events, messages}

abbrev pub fragment_by : handshakes.Handshake → handshakes.Body → Option Fragment
fragment_by m (handshakes.Fragment b) = Some (record {
  msg_type = m.msg_type;
  length = m.length;
  message_seq = m.message_seq;
  fragment_offset = m.fragment_offset;
  body = b;
})
fragment_by m b = None

-- The fragment in a handshake message, if its body is one.
abbrev pub fragment_in : handshakes.Handshake → Option Fragment
fragment_in m = fragment_by m m.body

-- The fault of a refusal. A datagram is whole, so missing bytes won't come.
abbrev pub kind_of : Refusal → ErrorKind
kind_of (Broken k) = k
kind_of (Lacks n) = Complete

-- Bytes left after what was parsed are a fault.
abbrev pub left_over : Bytes → List Event
left_over [] = []
left_over (b ∷ bs) = Failed Complete ∷ []

abbrev pub event_of : dtls_record.Message → Event
event_of dtls_record.ChangeCipherSpec = ChangeCipherSpec
event_of (dtls_record.Alert a) = Alert a
event_of m = Failed Switch

-- The state of a direction, and new events.
abbrev pub Step : Type 0
Step = Received × List Event

abbrev pub then_step : Step → (Received → Step) → Step
then_step s f = ((f s.0).0, s.1 ++ (f s.0).1)

-- The fragments in a record of type 22.
abbrev pub fragments_step : Answer (List Fragment) → Limits → Received → Step
fragments_step (Ok x) l h = (after l h x.0, events l h x.0 ++ left_over x.1)
fragments_step (Err e) l h = (h, Failed (kind_of e) ∷ [])

abbrev pub fragment_record_step : Bytes → Limits → Received → Step
fragment_record_step b l h = fragments_step (reading (list1 fragment) b) l h

-- The messages in a record of another type.
abbrev pub content_step : Answer (List dtls_record.Message) → Received → Step
content_step (Ok x) h = (h, map event_of x.0 ++ left_over x.1)
content_step (Err e) h = (h, Failed (kind_of e) ∷ [])

-- The bytes that a record's messages are parsed from. In version 0x0100, which OpenSSL used before
-- RFC 4347, a message number of 2 bytes follows a ChangeCipherSpec.
unfoldable pub content_bytes : RawRecord → Bytes
content_bytes r =
    if r.header.version == 0x0100 && (r.header.content_type == 20 && length r.fragment == 3) then
    take 1 r.fragment else r.fragment

-- A record that isn't of type handshake.
abbrev pub content_record_step : RawRecord → Received → Step
content_record_step r h = content_step (reading (record_content r.header) (content_bytes r)) h

-- A record of an epoch above 0, with its fragment unparsed.
abbrev pub encrypted : RawRecord → EncryptedRecord
encrypted r = record {
  content_type = r.header.content_type;
  version = r.header.version;
  epoch = r.header.epoch;
  sequence_number = r.header.sequence_number;
  fragment = r.fragment;
}

-- One record. An epoch above 0 is encrypted and isn't parsed.
abbrev pub record_step : Limits → Received → RawRecord → Step
record_step l h r =
    cond (nat_lt 0 r.header.epoch) (h, Encrypted (encrypted r) ∷ []) (
    cond (r.header.content_type == 22) (fragment_record_step r.fragment l h)
    (content_record_step r h))

-- If no record can be parsed, the rest is a fault.
abbrev pub unread : Bytes → Refusal → List Event
unread [] e = []
unread (b ∷ bs) e = Failed (kind_of e) ∷ []

abbrev pub next_record : Answer RawRecord → Limits → Received → Bytes → (Received → Bytes → Step)
    → Step
next_record (Err e) l h b more = (h, unread b e)
next_record (Ok x) l h b more = then_step (record_step l h x.0) (λ h. more h x.1)

-- At most n records of a datagram, in order.
unfoldable pub records_step : ℕ → Limits → Received → Bytes → Step
records_step zero l h b = (h, [])
records_step (suc n) l h b = next_record (reading datagram_record b) l h b (records_step n l)

-- A datagram. A record has at least one byte, so there are no more records than bytes.
abbrev pub datagram : Limits → Received → Bytes → Step
datagram l h b = records_step (length b) l h b

-- The state and the events after these datagrams, in order.
unfoldable pub datagrams : Limits → Received → List Bytes → Step
datagrams l h [] = (h, [])
datagrams l h (d ∷ ds) = then_step (datagram l h d) (λ h. datagrams l h ds)

-- The bytes of each datagram.
abbrev pub views : List (Bor (List ℕ)) → List Bytes
views ds = map (λ d. d.now) ds

-- The step was made: its events were appended, and the buffer has its state.
pub record IsStep (l : Limits) (s : Step) (es : List Event) (es' : List Event)
    (k' : Kept) : Type 0 where
  pub events : es' ≡ es ++ s.1
  pub stands : Stands l s.0 k'

abbrev pub those_read : Answer (List Fragment) → List Fragment
those_read (Ok x) = x.0
those_read (Err e) = []

-- The fragments in the content of a record of type 22.
abbrev pub fragments_in_content : Bytes → List Fragment
fragments_in_content b = those_read (reading (list1 fragment) b)

-- The fragments in a record, which has some if its epoch is 0 and its type is 22.
abbrev pub fragments_in_record : RawRecord → List Fragment
fragments_in_record r =
    cond (nat_lt 0 r.header.epoch) [] (
    cond (r.header.content_type == 22) (fragments_in_content r.fragment) [])

abbrev pub fragments_from : Answer RawRecord → (Bytes → List Fragment) → List Fragment
fragments_from (Err e) more = []
fragments_from (Ok x) more = fragments_in_record x.0 ++ more x.1

-- The fragments in at most n records of a datagram.
unfoldable pub fragments_within : ℕ → Bytes → List Fragment
fragments_within zero b = []
fragments_within (suc n) b = fragments_from (reading datagram_record b) (fragments_within n)

-- All fragments in a datagram, in order.
abbrev pub fragments_of : Bytes → List Fragment
fragments_of b = fragments_within (length b) b

-- Memory ran out while these events were appended: a prefix of them was.
pub record AreEmittedInPart (all : List Event) (es : List Event) (es' : List Event) : Type 0 where
  pub front : List Event
  pub not_emitted : List Event
  pub split : all ≡ front ++ not_emitted
  pub emitted : es' ≡ es ++ front

-- Memory ran out within records with these fragments and these events. Earlier events stay, and a
-- prefix of the fragments was added. Each of their messages is either reported or buffered, in
-- order; the buffered ones are whole and come next.
pub record IsCut (l : Limits) (h : Received) (fs : List Fragment) (all : List Event)
    (es : List Event)
    (es' : List Event) (k' : Kept) : Type 0 where
  pub first : List Fragment
  pub behind : List Fragment
  pub split : fs ≡ first ++ behind
  pub front : List Event
  pub emitted : es' ≡ es ++ front
  pub kept : List Message
  pub none_lost : messages front ++ kept ≡ messages (events l h first)
  pub not_emitted : List Event
  pub in_order : front ++ map Handshake kept ++ not_emitted ≡ all
  pub next : ℕ
  pub count : next + length kept ≡ (after l h first).next
  pub stands : Stands l (record { taken = (after l h first).taken; next = next }) k'

-- Memory ran out within a record, and within a datagram.
abbrev pub IsRecordCut : Limits → Received → RawRecord → List Event → List Event → Kept → Type 0
IsRecordCut l h r es es' k' = IsCut l h (fragments_in_record r) (record_step l h r).1 es es' k'

abbrev pub IsDatagramCut : Limits → Received → Bytes → List Event → List Event → Kept → Type 0
IsDatagramCut l h b es es' k' = IsCut l h (fragments_of b) (datagram l h b).1 es es' k'
