-- The printed text and the status for an input.
use Rattle.std.specs.Prelude.{
  ℕ,
  zero,
  suc,
  ◌+◌,
  ◌||◌,
  Bool,
  true,
  false,
  List,
  [],
  ◌∷◌,
  ◌++◌,
  length,
  flat_map,
  codes,
  Option,
  Some,
  None,
  Result,
  Ok,
  Err,
}
use Rattle.std.specs.Io.BufRead.{strip_last}
use Rattle.std.specs.List.{list_any}
use Rattle.layouts.specs.Bytes.{Bytes}
use Rattle.layouts.specs.Meaning.{Answer, Refusal, Broken, Lacks}
use Rattle.layouts.specs.Reading.{reading}
use Rattle.tls_hs.specs.Message.{Message}
use Rattle.tls_records.specs.Record.{RawRecord, raw_record, record_content}
use Rattle.tls_states.specs.States.{state_name}
use Rattle.tls_states.specs.declared.state.TlsState.{TlsState}
use Rattle.tls_states.specs.declared.state.TlsState.TheVariants as states
use Rattle.tlsview.specs.Lines.{lines_of}
use Rattle.tlsview.specs.Direction.{sign_of}
use Rattle.tlsview.specs.Statement.{Line, line_of}
use Rattle.tlsview.specs.Fault.{Fault, Refused, BadLine, fault_line, fault_text, fault_status}
use Rattle.tlsview.specs.Names.{message_name}
use Rattle.tlsview.specs.Transition.{state_after, changes_cipher}
use Rattle.tlsview.specs.declared.conversation.ViewedSide.{ViewedSide}
use Rattle.tlsview.specs.declared.conversation.ViewedConversation.{ViewedConversation}
use Rattle.tlsview.specs.declared.direction.LineDirection.{LineDirection}
use Rattle.tlsview.specs.declared.direction.LineDirection.TheVariants.{ToServer, FromServer}

-- the content of a record: an encrypted one isn't parsed
pub data Content : Type 0 where
  Encrypted : Content
  Messages : List Message → Content

-- the messages of a record that isn't encrypted, from its fragment and its header
abbrev pub messages_of : Answer (List Message) → Result Content Refusal
messages_of (Ok x) = Ok (Messages x.0)
messages_of (Err e) = Err e

abbrev pub content_of : Bool → RawRecord → Result Content Refusal
content_of true v = Ok Encrypted
content_of false v = messages_of (reading (record_content v.header) v.fragment)

abbrev pub message_line : LineDirection → Message → List ℕ
message_line d message = sign_of d ∷ 32 ∷ (message_name message ++ codes "\n")

abbrev pub content_text : LineDirection → Content → List ℕ
content_text d Encrypted = sign_of d ∷ 32 ∷ (codes "Encrypted" ++ codes "\n")
content_text d (Messages ms) = flat_map (message_line d) ms

-- one direction of a conversation: its bytes left to read, whether it has sent its
-- ChangeCipherSpec; and the conversation's state
pub record Half : Type 0 where
  pub left : Bytes
  pub is_encrypted : Bool
  pub state : TlsState

-- an encrypted record changes nothing
abbrev pub state_behind : LineDirection → TlsState → Content → TlsState
state_behind d state Encrypted = state
state_behind d state (Messages ms) = state_after d state ms

abbrev pub cipher_behind : Content → Bool
cipher_behind Encrypted = false
cipher_behind (Messages ms) = list_any changes_cipher ms

abbrev pub half_behind : LineDirection → Half → Content → Bytes → Half
half_behind d h c rest = record {
  left = rest;
  is_encrypted = h.is_encrypted || cipher_behind c;
  state =
      state_behind d h.state c;
}

-- what a part of the input prints, and the state after it or the fault that ends it
abbrev pub Part : Type 0 → Type 0
Part A = List ℕ × Result A Fault

abbrev pub content_part : LineDirection → Half → Bytes → Result Content Refusal → (Half → Part Half)
    → Part Half
content_part d h rest (Err e) behind = ([], Err (Refused e))
content_part d h rest (Ok c) behind = (
  content_text d c ++ (behind (half_behind d h c rest)).0,
  (behind (half_behind d h c rest)).1,
)

-- the next record, and those after it; an unfinished record is left to read
abbrev pub record_part : LineDirection → Half → Answer RawRecord → (Half → Part Half) → Part Half
record_part d h (Ok x) behind = content_part d h x.1 (content_of h.is_encrypted x.0) behind
record_part d h (Err (Lacks n)) behind = ([], Ok h)
record_part d h (Err (Broken kind)) behind = ([], Err (Refused (Broken kind)))

-- the records in order, fewer than n of them
abbrev pub records_part : ℕ → LineDirection → Half → Part Half
records_part zero d h = ([], Ok h)
records_part (suc n) d h = record_part d h (reading raw_record h.left) (records_part n d)

-- all whole records: there are no more of them than bytes
abbrev pub half_part : LineDirection → Half → Part Half
half_part d h = records_part (suc (length h.left)) d h

-- one direction of a conversation, and the conversation after it is read
abbrev pub half : ViewedSide → TlsState → Half
half side state = record { left = side.stream; is_encrypted = side.is_encrypted; state = state }

abbrev pub side_of : LineDirection → ViewedConversation → ViewedSide
side_of ToServer c = c.to_server
side_of FromServer c = c.from_server

abbrev pub side_behind : Half → ViewedSide
side_behind h = record { stream = h.left; is_encrypted = h.is_encrypted }

abbrev pub conversation_behind : LineDirection → ViewedConversation → Half → ViewedConversation
conversation_behind ToServer c h =
    record { to_server = side_behind h; from_server = c.from_server; context = h.state }
conversation_behind FromServer c h =
    record { to_server = c.to_server; from_server = side_behind h; context = h.state }

abbrev pub result_behind : LineDirection → ViewedConversation → Result Half Fault
    → Result ViewedConversation Fault
result_behind d c (Ok h) = Ok (conversation_behind d c h)
result_behind d c (Err fault) = Err fault

abbrev pub with_half : LineDirection → ViewedConversation → Part Half → Part ViewedConversation
with_half d c p = (p.0, result_behind d c p.1)

-- more bytes of a direction, after those that it has left
abbrev pub fed : ViewedSide → Bytes → ViewedSide
fed side bytes = record { stream = side.stream ++ bytes; is_encrypted = side.is_encrypted }

abbrev pub part_of_line : ViewedConversation → Option Line → Part ViewedConversation
part_of_line c None = ([], Err BadLine)
part_of_line c (Some line) =
    with_half line.0 c (half_part line.0 (half (fed (side_of line.0 c) line.1) c.context))

-- an empty line is skipped
abbrev pub line_part : ViewedConversation → List ℕ → Part ViewedConversation
line_part c [] = ([], Ok c)
line_part c (b ∷ bs) = part_of_line c (line_of (b ∷ bs))

-- a line's part, and then the other lines, unless it ends the run
abbrev pub followed_by : ℕ → Part ViewedConversation → (ViewedConversation → List ℕ × ℕ)
    → List ℕ × ℕ
followed_by k (text, Ok c) others = (text ++ (others c).0, (others c).1)
followed_by k (text, Err fault) others = (text ++ fault_line k fault, fault_status fault)

-- how many bytes the unfinished record lacks
abbrev pub missing_in : Answer RawRecord → Option ℕ
missing_in (Err (Lacks n)) = Some n
missing_in _ = None

abbrev pub missing : Bytes → Option ℕ
missing [] = None
missing (b ∷ bs) = missing_in (reading raw_record (b ∷ bs))

abbrev pub either_missing : Option ℕ → Option ℕ → Option ℕ
either_missing (Some n) second = Some n
either_missing None second = second

-- the end of the input: a direction with an unfinished record, the one to the server first, or the
-- state
abbrev pub end_part : Option ℕ → TlsState → List ℕ × ℕ
end_part (Some n) state = (codes "end: " ++ fault_text (Refused (Lacks n)) ++ codes "\n", 1)
end_part None state = (codes "state " ++ state_name state ++ codes "\n", 0)

abbrev pub end_of : ViewedConversation → List ℕ × ℕ
end_of c = end_part (either_missing (missing c.to_server.stream) (missing c.from_server.stream))
    c.context

-- the lines from line k on, each without one carriage return at its end
abbrev pub out_from : ℕ → ViewedConversation → List (List ℕ) → List ℕ × ℕ
out_from k c [] = end_of c
out_from k c (line ∷ lines) =
    followed_by k (line_part c (strip_last 13 line)) (λ c. out_from (k + 1) c lines)

-- nothing was read
abbrev pub silence : ViewedConversation
silence = record {
  to_server = record { stream = []; is_encrypted = false };
  from_server =
      record { stream = []; is_encrypted = false };
  context = states.None;
}

abbrev pub out : List ℕ → List ℕ × ℕ
out x = out_from 1 silence (lines_of x)
