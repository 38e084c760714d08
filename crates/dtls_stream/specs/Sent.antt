-- What a peer sends: messages numbered by their places, each cut into fragments (RFC 6347, sections
-- 4.2.2 and 4.2.3).
use Rattle.std.specs.Prelude.{◌≡◌, ℕ, suc, ◌+◌, ◌<◌, ◌≤◌, ⊤, List, [], ◌∷◌, length, take, drop}
use Rattle.std.proofs.Common.{get_or}
use Rattle.layouts.specs.Bytes.{Bytes}
use Rattle.dtls_stream.specs.Fragments.{Cover, Fragment}
use Rattle.dtls_stream.specs.Messages.{Limits, Message, of_message}

-- A message that is sent.
pub record Sent : Type 0 where
  pub msg_type : ℕ
  pub body : Bytes

-- The message with number k.
abbrev pub sent : List Sent → ℕ → Sent
sent ms k = get_or ms k (record { msg_type = 0; body = [] })

-- The messages with their numbers, from k on.
abbrev pub numbered : ℕ → List Sent → List Message
numbered k [] = []
numbered k (m ∷ ms) =
    record { msg_type = m.msg_type; message_seq = k; body = m.body } ∷ numbered (suc k) ms

-- A fragment of a message: any bytes of its body, at their place.
pub record IsOf (m : Sent) (f : Fragment) : Type 0 where
  pub msg_type : f.msg_type ≡ m.msg_type
  pub size : f.length ≡ length m.body
  pub inside : f.fragment_offset + length f.body ≤ length m.body
  pub bytes : f.body ≡ take (length f.body) (drop f.fragment_offset m.body)

-- Each is a fragment of the message whose number it has.
abbrev pub AreOf : List Sent → List Fragment → Type 0
AreOf ms [] = ⊤
AreOf ms (f ∷ fs) = (f.message_seq < length ms) × IsOf (sent ms f.message_seq) f × AreOf ms fs

-- The message with number k is covered: it has at least one fragment, and every place lies in one.
abbrev pub IsCovered : List Sent → List Fragment → ℕ → Type 0
IsCovered ms fs k = Cover (of_message k fs) (length (sent ms k).body)

-- The messages delivered are the longest prefix of those that these fragments cover: each message
-- is there exactly if it and all before it are covered.
pub record IsHandedOut (ms : List Sent) (fs : List Fragment) (out : List Message) : Type 0 where
  pub count : ℕ
  pub low : count ≤ length ms
  pub front : out ≡ take count (numbered 0 ms)
  pub covered : (k : ℕ) → k < count → IsCovered ms fs k
  pub next : count < length ms → IsCovered ms fs count → ⊥

-- No message is longer than the limit.
abbrev pub AreSmall : Limits → List Sent → Type 0
AreSmall l ms = (k : ℕ) → length (sent ms k).body ≤ l.message
