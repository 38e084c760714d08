-- Records in place: what is checked of them, and their values.
use Rattle.std.proofs.Common.{
  ◌≡◌,
  ℕ,
  ◌-◌,
  List,
  [],
  ◌∷◌,
  ◌++◌,
  map,
  length,
  take,
  drop,
  Result,
  Ok,
  Err,
  cond,
  refl,
  sym,
  subst,
  ◌∙◌,
  ap,
  le_refl,
}
use Rattle.std.proofs.lemmas.List.{take_all}
use Rattle.std.specs.Borrow.{Bor}
use Rattle.layouts.specs.Bytes.{Bytes}
use Rattle.layouts.specs.Layout.{Layout, list1, mapped, complete}
use Rattle.layouts.specs.Meaning.{Refusal, Answer, Broken, Lacks}
use Rattle.layouts.specs.Reading.{reading, split_at, completed, ◌and_then◌}
use Rattle.layouts.specs.Items.{items_in, decode_while, with_decoded, list_read, value_of, Returns}
use Rattle.layouts.specs.Framed.{Framed}
use Rattle.layouts.specs.declared.result.Error.{Error}
use Rattle.layouts.specs.declared.result.Err.{Err as Failed}
use Rattle.layouts.proofs.LeavesLemmas.{takes_byte}
use Rattle.layouts.proofs.OneAnswerLemmas.{ltb_no}
use Rattle.layouts.proofs.ItemsLemmas.{items_decoded}
use Rattle.layouts.proofs.FramedLemmas.{framed_decodes}
use Rattle.tls_base.specs.Alert as alerts
use Rattle.tls_hs.specs.Handshake.{handshake_body}
use Rattle.tls_hs.specs.Message as message
use Rattle.tls_hs.specs.Message.{Message, change_cipher_spec, alert, handshake, application_data, heartbeat}
use Rattle.tls_hs.specs.InPlace.{raw_handshake, handshake_of}
use Rattle.tls_hs.specs.Messages.{Whole, Handshake, message_of, messages_of_type}
use Rattle.raw_records.specs.First.{judged, first_judged}
use Rattle.raw_records.proofs.FirstLemmas.{with_value, returned_value, list_returned}
use Rattle.tls_records.specs.Record.{
  RecordHeader,
  RawRecord,
  Plaintext,
  raw_record,
  record_content,
  plaintext,
  read_content,
}
use Rattle.tls_records.proofs.ContentLemmas.{plaintext_is_raw_then_content}

-- messages that need no decoding, and handshake messages that are decoded
whole : (xs : List Message) → xs ≡ decode_while message_of (map Whole xs)
whole [] = refl
whole (x ∷ xs) = ap (λ ys. x ∷ ys) (whole xs)

decoded : (xs : List Framed)
    → decode_while handshake_of xs ≡ decode_while message_of (map Handshake xs)
decoded [] = refl
decoded (x ∷ xs) = ap (λ ys. with_decoded (handshake_of x) ys) (decoded xs)

pub change_cipher_specs : (b : Bytes) (r : Result Unit (Failed (Error (Bor (List ℕ)))))
    → Returns (λ u. tt) (first_judged change_cipher_spec b) r
    → Returns (λ u. decode_while message_of (map Whole (items_in change_cipher_spec b)))
    (value_of (reading (list1 change_cipher_spec) b)) r
unfolding change_cipher_spec
change_cipher_specs b r t = list_returned change_cipher_spec b _ (takes_byte change_cipher_spec b tt)
    (whole (items_in change_cipher_spec b)) r t

pub some_alerts : (b : Bytes) (r : Result Unit (Failed (Error (Bor (List ℕ)))))
    → Returns (λ u. tt) (first_judged alert b) r
    → Returns (λ u. decode_while message_of (map Whole (items_in alert b)))
    (value_of (reading (list1 alert) b)) r
unfolding alert alerts.alert
some_alerts b r t = list_returned alert b _ (takes_byte alert b tt) (whole (items_in alert b)) r t

pub handshakes : (b : Bytes) (r : Result Unit (Failed (Error (Bor (List ℕ)))))
    → Returns (λ u. tt) (first_judged handshake b) r
    → Returns (λ u. decode_while message_of (map Handshake (items_in raw_handshake b)))
    (value_of (reading (list1 handshake) b)) r
unfolding handshake
handshakes b r t =
    list_returned handshake b _ (takes_byte handshake b tt)
    (items_decoded handshake raw_handshake handshake_of
    (framed_decodes message.Handshake handshake_body 1 3) b
    ∙ decoded (items_in raw_handshake b)) r t

pub all_data : (b : Bytes) → value_of (reading (mapped (λ m. m ∷ []) application_data) b)
    ≡ Ok (message.ApplicationData b ∷ [])
unfolding application_data split_at
all_data b =
    ap read_as (ap (λ t. cond {A = Answer Bytes} t (Err (Lacks (length b - length b)))
    (Ok (take (length b) b, drop (length b) b))) (ltb_no (length b) (length b) (le_refl _)))
    ∙ ap (λ c. Ok (message.ApplicationData c ∷ [])) (take_all (length b) b (le_refl _))
  where
    read_as : Answer Bytes → Result (List Message) Refusal
    read_as a = value_of (◌and_then◌ {Y = List Message × Bytes}
        (◌and_then◌ {Y = Message × Bytes} a (λ x. Ok (message.ApplicationData x.0, x.1)))
        (λ x. Ok (x.0 ∷ [], x.1)))

complete_value : (a : Answer (List Message))
    → value_of (completed a) ≡ with_value (judged (completed a)) (list_read a)
complete_value (Ok x) = refl
complete_value (Err (Broken k)) = refl
complete_value (Err (Lacks n)) = refl

pub one_heartbeat : (len : ℕ) (b : Bytes) (r : Result Unit (Failed (Error (Bor (List ℕ)))))
    → Returns (λ u. tt) (first_judged (heartbeat len) b) r
    → Returns (λ u. decode_while message_of (map Whole (list_read (reading (heartbeat len) b))))
    (value_of (reading (complete (heartbeat len)) b)) r
one_heartbeat len b r t =
    let a : Answer (List Message) = reading (heartbeat len) b in
    let xs : List Message = decode_while message_of (map Whole (list_read a)) in
    subst (λ y. Returns (λ u. xs) y r) (sym (complete_value a
    ∙ ap (λ ys. with_value (judged (completed a)) ys) (whole (list_read a))))
    (returned_value (first_judged (heartbeat len) b) xs r t)

-- the value of a record: its header, and the value of its fragment
content_returns : (h : RecordHeader) (r : Bytes) (a : Answer (List Message)) (xs : List Message)
    → value_of a ≡ Ok xs
    → ◌and_then◌ {Y = Plaintext × Bytes} a (λ m. Ok (record { header = h; messages = m.0 }, r))
    ≡ Ok (record { header = h; messages = xs }, r)
content_returns h r (Ok x) xs e = let same : ◌≡◌ {A = Result (List Message) Refusal} (Ok x.0) (Ok xs) =
    e in let is : x.0 ≡ xs = cc in ap (λ ms. Ok (record { header = h; messages = ms }, r)) is
content_returns h r (Err k) xs e =
    absurd (let no : ◌≡◌ {A = Result (List Message) Refusal} (Err k) (Ok xs) = e in cc)

content_refuses : (h : RecordHeader) (r : Bytes) (a : Answer (List Message)) (k : Refusal)
    → value_of a ≡ Err k
    → ◌and_then◌ {Y = Plaintext × Bytes} a
    (λ m. Ok (record { header = h; messages = m.0 }, r)) ≡ Err k
content_refuses h r (Ok x) k e =
    absurd (let no : ◌≡◌ {A = Result (List Message) Refusal} (Ok x.0) (Err k) = e in cc)
content_refuses h r (Err j) k e =
    let same : ◌≡◌ {A = Result (List Message) Refusal} (Err j) (Err k) =
    e in let is : j ≡ k = cc in ap Err is

pub content_read : (b f r : Bytes) (h : RecordHeader) (xs : List Message)
    → reading raw_record b ≡ Ok (record { header = h; fragment = f }, r)
    → Ok xs ≡ value_of (reading (record_content h) f)
    → reading plaintext b ≡ Ok (record { header = h; messages = xs }, r)
content_read b f r h xs e g = plaintext_is_raw_then_content b ∙ ap (λ a. a and_then read_content) e
    ∙ content_returns h r (reading (record_content h) f) xs (sym g)

pub content_refused : (b f r : Bytes) (h : RecordHeader) (k : Refusal)
    → reading raw_record b ≡ Ok (record { header = h; fragment = f }, r)
    → Err k ≡ value_of (reading (record_content h) f) → reading plaintext b ≡ Err k
content_refused b f r h k e g = plaintext_is_raw_then_content b
    ∙ ap (λ a. a and_then read_content) e
    ∙ content_refuses h r (reading (record_content h) f) k (sym g)

-- the fragment of a record, by its type
abbrev Judges : ℕ → ℕ → ℕ → Bytes → Result Unit (Failed (Error (Bor (List ℕ)))) → Type 0
Judges t v n b r = Returns (λ u. decode_while message_of (messages_of_type t n b))
    (value_of (reading (record_content (record { content_type = t; version = v; length = n })) b)) r

pub judges_change_cipher_specs : (t v n : ℕ) (b : Bytes)
    (r : Result Unit (Failed (Error (Bor (List ℕ))))) → t ≡ 20
    → Returns (λ u. tt) (first_judged change_cipher_spec b) r → Judges t v n b r
unfolding record_content
judges_change_cipher_specs t v n b r e x =
    subst (λ k. Judges k v n b r) (sym e) (change_cipher_specs b r x)

pub judges_alerts : (t v n : ℕ) (b : Bytes) (r : Result Unit (Failed (Error (Bor (List ℕ)))))
    → t ≡ 21
    → Returns (λ u. tt) (first_judged alert b) r → Judges t v n b r
unfolding record_content
judges_alerts t v n b r e x = subst (λ k. Judges k v n b r) (sym e) (some_alerts b r x)

pub judges_handshakes : (t v n : ℕ) (b : Bytes) (r : Result Unit (Failed (Error (Bor (List ℕ)))))
    → t ≡ 22
    → Returns (λ u. tt) (first_judged handshake b) r → Judges t v n b r
unfolding record_content
judges_handshakes t v n b r e x = subst (λ k. Judges k v n b r) (sym e) (handshakes b r x)

pub judges_heartbeat : (t v n : ℕ) (b : Bytes) (r : Result Unit (Failed (Error (Bor (List ℕ)))))
    → t ≡ 24
    → Returns (λ u. tt) (first_judged (heartbeat n) b) r → Judges t v n b r
unfolding record_content
judges_heartbeat t v n b r e x = subst (λ k. Judges k v n b r) (sym e) (one_heartbeat n b r x)
