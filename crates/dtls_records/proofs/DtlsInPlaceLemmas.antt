-- Records of DTLS in place: what is checked of them, and their values.
use Rattle.std.proofs.Common.{
  ◌≡◌,
  ℕ,
  List,
  [],
  ◌∷◌,
  map,
  Bool,
  Result,
  Ok,
  Err,
  nat_lt,
  ◌||◌,
  refl,
  sym,
  subst,
  ◌∙◌,
  ap,
}
use Rattle.std.specs.Borrow.{Bor}
use Rattle.layouts.specs.Bytes.{Bytes}
use Rattle.layouts.specs.Layout.{Layout, done, number, block, window, list1, ◌>>=◌}
use Rattle.layouts.specs.Meaning.{Refusal, Answer}
use Rattle.layouts.specs.Reading.{reading, split_at, ◌and_then◌}
use Rattle.layouts.specs.Items.{items_in, decode_while, with_decoded, value_of, Returns, ReadsThenDecodes}
use Rattle.layouts.specs.declared.result.Error.{Error}
use Rattle.layouts.specs.declared.result.Err.{Err as Failed}
use Rattle.layouts.proofs.LeavesLemmas.{takes_byte}
use Rattle.layouts.proofs.ItemsLemmas.{items_decoded}
use Rattle.tls_base.specs.Alert as base_alert
use Rattle.tls_hs.specs.Message as tls_message
use Rattle.dtls_records.specs.DtlsHandshake as dtls_handshake
use Rattle.dtls_records.specs.DtlsRecord as dtls_record
use Rattle.dtls_records.specs.DtlsHandshake.{Body, body}
use Rattle.dtls_records.specs.DtlsRecord.{
  Message,
  RecordHeader,
  RawRecord,
  Plaintext,
  change_cipher_spec,
  alert,
  handshake,
  raw_record,
  record_content,
  plaintext,
  read_content,
}
use Rattle.dtls_records.specs.DtlsInPlace.{
  RawHandshake,
  raw_handshake,
  handshake_of,
  is_part,
  handshake_with,
  with_read_body,
  Handshake,
  Whole,
  message_of,
  messages_of_type,
}
use Rattle.raw_records.specs.First.{first_judged}
use Rattle.dtls_records.proofs.ContentLemmas.{dtls_plaintext_is_raw_then_content}
use Rattle.raw_records.proofs.FirstLemmas.{list_returned}

-- a raw message with its body read
abbrev pub with_body_read : RawHandshake × Bytes → Answer dtls_handshake.Handshake
with_body_read x =
    value_of (reading (body x.0.msg_type x.0.length (is_part x.0)) x.0.body) and_then λ y. Ok
    (handshake_with x.0 y, x.1)

-- the last parts of both readings
abbrev raw_of : ℕ → ℕ → ℕ → ℕ → ℕ → Bytes → RawHandshake
raw_of kind length seq offset n bytes = record {
  msg_type = kind;
  length = length;
  message_seq = seq;
  fragment_offset =
      offset;
  fragment_length = n;
  body = bytes;
}

abbrev part : ℕ → ℕ → ℕ → Bool
part length offset n = nat_lt 0 offset || nat_lt n length

module _ (kind length seq offset n : ℕ) where
  abbrev read_last : Body × Bytes → Answer dtls_handshake.Handshake
  read_last x = Ok (handshake_with (raw_of kind length seq offset n []) x.0, x.1)

  abbrev raw_last : Bytes × Bytes → Answer RawHandshake
  raw_last x = Ok (raw_of kind length seq offset n x.0, x.1)

  abbrev in_window : Bytes × Bytes → Answer Body
  in_window w = reading (body kind length (part length offset n)) w.0 and_then λ x. Ok (x.0, w.1)

  by_body : (bytes r : Bytes) (a : Answer Body) → ((a and_then λ x. Ok (x.0, r)) and_then read_last)
      ≡ (value_of a and_then λ y. Ok (handshake_with (raw_of kind length seq offset n bytes) y, r))
  by_body bytes r (Ok x) = refl
  by_body bytes r (Err e) = refl

  by_window : (a : Answer Bytes)
      → ((a and_then in_window) and_then read_last)
      ≡ ((a and_then raw_last) and_then with_body_read)
  by_window (Ok w) = by_body w.0 w.1 (reading (body kind length (part length offset n)) w.0)
  by_window (Err e) = refl

-- a number at the start of both
step : (a : Answer ℕ) (f : ℕ × Bytes → Answer dtls_handshake.Handshake)
    (g : ℕ × Bytes → Answer RawHandshake)
    → ((x : ℕ × Bytes) → f x ≡ (g x and_then with_body_read))
    → (a and_then f) ≡ ((a and_then g) and_then with_body_read)
step (Ok x) f g h = h x
step (Err e) f g h = refl

-- a handshake message is a raw one, then its body alone
pub handshake_is_raw_then_body : (b : Bytes)
    → reading dtls_handshake.handshake b ≡ (reading raw_handshake b and_then with_body_read)
unfolding dtls_handshake.handshake raw_handshake
handshake_is_raw_then_body b =
    step (reading (number 1) b) _ _ (λ kind.
    step (reading (number 3) kind.1) _ _ (λ length.
    step (reading (number 2) length.1) _ _ (λ seq.
    step (reading (number 3) seq.1) _ _ (λ offset.
    step (reading (number 3) offset.1) _ _ (λ n.
    by_window kind.0 length.0 seq.0 offset.0 n.0 (split_at n.0 n.1))))))

-- and as a message of a record
abbrev as_message : dtls_handshake.Handshake × Bytes → Answer Message
as_message x = Ok (dtls_record.Handshake x.0, x.1)

message_body : (h : RawHandshake) (r : Bytes) (b : Result Body Refusal)
    → ((b and_then λ y. Ok (handshake_with h y, r)) and_then as_message)
    ≡ (with_read_body h b and_then λ y. Ok (y, r))
message_body h r (Ok b) = refl
message_body h r (Err e) = refl

message_decodes : (a : Answer RawHandshake)
    → ((a and_then with_body_read) and_then as_message)
    ≡ (a and_then λ x. handshake_of x.0 and_then λ y. Ok (y, x.1))
message_decodes (Ok x) =
    message_body x.0 x.1 (value_of (reading (body x.0.msg_type x.0.length (is_part x.0)) x.0.body))
message_decodes (Err e) = refl

pub handshake_decodes : ReadsThenDecodes handshake raw_handshake handshake_of
unfolding handshake
handshake_decodes b =
    ap (λ a. a and_then as_message) (handshake_is_raw_then_body b)
    ∙ message_decodes (reading raw_handshake b)

whole : (xs : List Message) → xs ≡ decode_while message_of (map Whole xs)
whole [] = refl
whole (x ∷ xs) = ap (λ ys. x ∷ ys) (whole xs)

decoded : (xs : List RawHandshake)
    → decode_while handshake_of xs ≡ decode_while message_of (map Handshake xs)
decoded [] = refl
decoded (x ∷ xs) = ap (λ ys. with_decoded (handshake_of x) ys) (decoded xs)

pub change_cipher_specs : (b : Bytes) (r : Result Unit (Failed (Error (Bor (List ℕ)))))
    → Returns (λ u. tt) (first_judged change_cipher_spec b) r
    → Returns (λ u. decode_while message_of (map Whole (items_in change_cipher_spec b)))
    (value_of (reading (list1 change_cipher_spec) b)) r
unfolding change_cipher_spec tls_message.change_cipher_spec
change_cipher_specs b r t = list_returned change_cipher_spec b _ (takes_byte change_cipher_spec b tt)
    (whole (items_in change_cipher_spec b)) r t

pub some_alerts : (b : Bytes) (r : Result Unit (Failed (Error (Bor (List ℕ)))))
    → Returns (λ u. tt) (first_judged alert b) r
    → Returns (λ u. decode_while message_of (map Whole (items_in alert b)))
    (value_of (reading (list1 alert) b)) r
unfolding alert base_alert.alert
some_alerts b r t = list_returned alert b _ (takes_byte alert b tt) (whole (items_in alert b)) r t

pub handshakes : (b : Bytes) (r : Result Unit (Failed (Error (Bor (List ℕ)))))
    → Returns (λ u. tt) (first_judged handshake b) r
    → Returns (λ u. decode_while message_of (map Handshake (items_in raw_handshake b)))
    (value_of (reading (list1 handshake) b)) r
unfolding handshake dtls_handshake.handshake
handshakes b r t =
    list_returned handshake b _ (takes_byte handshake b tt)
    (items_decoded handshake raw_handshake handshake_of handshake_decodes b
    ∙ decoded (items_in raw_handshake b)) r t

-- the value of a record: its header, and the value of its fragment
content_returns : (h : RecordHeader) (r : Bytes) (a : Answer (List Message)) (xs : List Message)
    → value_of a ≡ Ok xs
    → ◌and_then◌ {Y = Plaintext × Bytes} a (λ m. Ok (record { header = h; messages = m.0 }, r))
    ≡ Ok (record { header = h; messages = xs }, r)
content_returns h r (Ok x) xs e = let same : ◌≡◌ {A = Result (List Message) Refusal} (Ok x.0) (Ok xs) =
    e in let is : x.0 ≡ xs = cc in ap (λ ms. Ok (record { header = h; messages = ms }, r)) is
content_returns h r (Err k) xs e =
    absurd (let no : ◌≡◌ {A = Result (List Message) Refusal} (Err k) (Ok xs) = e in cc)

content_refuses : (h : RecordHeader) (r : Bytes) (a : Answer (List Message)) (k : Refusal)
    → value_of a ≡ Err k
    → ◌and_then◌ {Y = Plaintext × Bytes} a
    (λ m. Ok (record { header = h; messages = m.0 }, r)) ≡ Err k
content_refuses h r (Ok x) k e =
    absurd (let no : ◌≡◌ {A = Result (List Message) Refusal} (Ok x.0) (Err k) = e in cc)
content_refuses h r (Err j) k e =
    let same : ◌≡◌ {A = Result (List Message) Refusal} (Err j) (Err k) =
    e in let is : j ≡ k = cc in ap Err is

pub content_read : (b f r : Bytes) (h : RecordHeader) (xs : List Message)
    → reading raw_record b ≡ Ok (record { header = h; fragment = f }, r)
    → Ok xs ≡ value_of (reading (record_content h) f)
    → reading plaintext b ≡ Ok (record { header = h; messages = xs }, r)
content_read b f r h xs e g = dtls_plaintext_is_raw_then_content b
    ∙ ap (λ a. a and_then read_content) e
    ∙ content_returns h r (reading (record_content h) f) xs (sym g)

pub content_refused : (b f r : Bytes) (h : RecordHeader) (k : Refusal)
    → reading raw_record b ≡ Ok (record { header = h; fragment = f }, r)
    → Err k ≡ value_of (reading (record_content h) f) → reading plaintext b ≡ Err k
content_refused b f r h k e g = dtls_plaintext_is_raw_then_content b
    ∙ ap (λ a. a and_then read_content) e
    ∙ content_refuses h r (reading (record_content h) f) k (sym g)

-- the fragment of a record, by its type
abbrev Judges : RecordHeader → ℕ → Bytes → Result Unit (Failed (Error (Bor (List ℕ)))) → Type 0
Judges h t b r = Returns (λ u. decode_while message_of (messages_of_type t b))
    (value_of (reading (record_content (record {
      content_type = t;
      version = h.version;
      epoch =
          h.epoch;
      sequence_number = h.sequence_number;
      length = h.length;
    })) b)) r

pub judges_change_cipher_specs : (h : RecordHeader) (b : Bytes)
    (r : Result Unit (Failed (Error (Bor (List ℕ)))))
    → h.content_type ≡ 20 → Returns (λ u. tt) (first_judged change_cipher_spec b) r
    → Judges h h.content_type b r
unfolding record_content
judges_change_cipher_specs h b r e x =
    subst (λ k. Judges h k b r) (sym e) (change_cipher_specs b r x)

pub judges_alerts : (h : RecordHeader) (b : Bytes) (r : Result Unit (Failed (Error (Bor (List ℕ)))))
    → h.content_type ≡ 21 → Returns (λ u. tt) (first_judged alert b) r → Judges h h.content_type b r
unfolding record_content
judges_alerts h b r e x = subst (λ k. Judges h k b r) (sym e) (some_alerts b r x)

pub judges_handshakes : (h : RecordHeader) (b : Bytes)
    (r : Result Unit (Failed (Error (Bor (List ℕ)))))
    → h.content_type ≡ 22 → Returns (λ u. tt) (first_judged handshake b) r
    → Judges h h.content_type b r
unfolding record_content
judges_handshakes h b r e x = subst (λ k. Judges h k b r) (sym e) (handshakes b r x)
