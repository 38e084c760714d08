-- A record that isn't encrypted, parsed with its messages.
use Rattle.std.proofs.Common.{◌≡◌, false, List, [], Ok, Err, refl, sym, ◌∙◌, ap}
use Rattle.layouts.specs.Bytes.{Bytes}
use Rattle.layouts.specs.Meaning.{Answer, Broken, Lacks}
use Rattle.layouts.specs.Reading.{reading, ◌and_then◌}
use Rattle.layouts.specs.declared.result.ErrorKind.{ErrorKind}
use Rattle.tls_hs.specs.Message.{Message}
use Rattle.tls_records.specs.Record.{Plaintext, RawRecord, plaintext, raw_record, record_content, read_content}
use Rattle.tls_records.proofs.ContentLemmas.{plaintext_is_raw_then_content}
use Rattle.tlsview.specs.Fault.{Refused}
use Rattle.tlsview.specs.Out.{Half, Part, Messages, messages_of, content_of, content_part, record_part}
use Rattle.tlsview.specs.declared.direction.LineDirection.{LineDirection}

abbrev with_messages : RawRecord × Bytes → Answer (List Message) → Answer Plaintext
with_messages x a = a and_then λ m. Ok (record { header = x.0.header; messages = m.0 }, x.1)

-- what a raw record prints if it isn't encrypted
plain_part : (d : LineDirection) (h : Half) (x : RawRecord × Bytes) (k : Answer (List Message))
    (behind : Half → Part Half)
    → h.is_encrypted ≡ false
    → reading (record_content x.0.header) x.0.fragment ≡ k
    → record_part d h (Ok x) behind ≡ content_part d h x.1 (messages_of k) behind
plain_part d h x k behind plain e =
    ap (λ t. content_part d h x.1 (content_of t x.0) behind) plain
    ∙ ap (λ a. content_part d h x.1 (messages_of a) behind) e

pub plain_read : (d : LineDirection) (h : Half) (p : Plaintext) (rest : Bytes)
    (behind : Half → Part Half)
    → h.is_encrypted ≡ false → reading plaintext h.left ≡ Ok (p, rest)
    → record_part d h (reading raw_record h.left) behind ≡ content_part d h rest
    (Ok (Messages p.messages)) behind
plain_read d h p rest behind plain e =
    go (reading raw_record h.left) (sym (plaintext_is_raw_then_content h.left) ∙ e)
  where
    held : (x : RawRecord × Bytes) (k : Answer (List Message))
        → reading (record_content x.0.header) x.0.fragment ≡ k
        → with_messages x k ≡ Ok (p, rest)
        → record_part d h (Ok x) behind ≡ content_part d h rest (Ok (Messages p.messages)) behind
    held x (Err f) read g = absurd cc
    held x (Ok m) read g =
        let both : (record { header = x.0.header; messages = m.0 }, x.1) ≡ (p, rest) = cc in
        plain_part d h x (Ok m) behind plain read
        ∙ ap (λ (y : Plaintext × Bytes). content_part d h y.1 (Ok (Messages y.0.messages)) behind)
        both

    go : (a : Answer RawRecord) → a and_then read_content ≡ Ok (p, rest)
        → record_part d h a behind ≡ content_part d h rest (Ok (Messages p.messages)) behind
    go (Ok x) g = held x (reading (record_content x.0.header) x.0.fragment) refl g
    go (Err f) g = absurd cc

pub plain_refused : (d : LineDirection) (h : Half) (kind : ErrorKind) (behind : Half → Part Half)
    → h.is_encrypted ≡ false
    → reading plaintext h.left ≡ Err (Broken kind)
    → record_part d h (reading raw_record h.left) behind ≡ ([], Err (Refused (Broken kind)))
plain_refused d h kind behind plain e =
    go (reading raw_record h.left) (sym (plaintext_is_raw_then_content h.left) ∙ e)
  where
    held : (x : RawRecord × Bytes) (k : Answer (List Message))
        → reading (record_content x.0.header) x.0.fragment ≡ k
        → with_messages x k ≡ Err (Broken kind)
        → record_part d h (Ok x) behind ≡ ([], Err (Refused (Broken kind)))
    held x (Ok m) read g = absurd cc
    held x (Err f) read g =
        let is : f ≡ Broken kind = cc in
        plain_part d h x (Err f) behind plain read ∙ ap (λ f. ([], Err (Refused f))) is

    go : (a : Answer RawRecord) → a and_then read_content ≡ Err (Broken kind)
        → record_part d h a behind ≡ ([], Err (Refused (Broken kind)))
    go (Ok x) g = held x (reading (record_content x.0.header) x.0.fragment) refl g
    go (Err (Lacks n)) g = absurd cc
    go (Err (Broken k)) g = let is : k ≡ kind = cc in ap (λ k. ([], Err (Refused (Broken k)))) is
