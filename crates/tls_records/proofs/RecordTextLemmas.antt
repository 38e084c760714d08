-- A record of handshake messages or of ChangeCipherSpecs is encoded by its text, and by no other
-- bytes.
use Rattle.std.proofs.Common.{◌≡◌, ℕ, ◌^◌, ◌<◌, List, [], ◌∷◌, ◌++◌, length, map, Ok, nat_le, ◌==◌, refl, sym, inl, inr}
use Rattle.std.proofs.Common.{◌⊎◌, ◌∙◌, ap, subst, arith, append_assoc, append-nil}
use Rattle.std.proofs.lemmas.List.{length-append}
use Rattle.std.proofs.lemmas.List.Elements.{All-head, All-tail}
use Rattle.std.proofs.lemmas.Bool.{le-leb, eqb-true}
use Rattle.std.specs.List.{All, flat_map}
use Rattle.layouts.specs.Bytes.{Bytes, bytes_of}
use Rattle.layouts.specs.Layout.{Layout, done, number, window, list, complete, chain, test, choose, behind, list1}
use Rattle.layouts.specs.Layout.{refuse}
use Rattle.layouts.specs.Answers.{Returned}
use Rattle.layouts.specs.Meaning.{Spells, Allows}
use Rattle.std.specs.Prelude.{Result, Err, IfOk}
use Rattle.std.specs.Global.{Vec}
use Rattle.std.specs.Result.{result_map_both}
use Rattle.layouts.specs.Text.{counted_text}
use Rattle.layouts.specs.Writer.{Builds}
use Rattle.layouts.specs.declared.writer.GenError.{GenError}
use Rattle.layouts.specs.declared.result.ErrorKind.TheVariants.{TooLarge, Switch, Verify}
use Rattle.layouts.proofs.NumberLemmas.{length-bytes_of}
use Rattle.layouts.proofs.TextLemmas.{Joined, more_joined, parts, joined, filled, Reads, reads_chain, reads_window}
use Rattle.layouts.proofs.TextLemmas.{reads_allowed, list_reads, number_spelled, test_spelled, test_whole}
use Rattle.layouts.proofs.TextLemmas.{list_whole, First, Second, picked}
use Rattle.tls_hs.specs.Message as message
use Rattle.tls_hs.specs.Handshake.{Handshake}
use Rattle.tls_hs.specs.HandshakeText.{msg_type_of, body_text}
use Rattle.tls_hs_writer.proofs.HandshakeTextLemmas.{handshake_reads, handshake_whole}
use Rattle.raw_records.specs.Framing.{max_fragment_length}
use Rattle.raw_records.specs.RawRecord.{RecordHeader, record_header}
use Rattle.tls_records.specs.Record.{Plaintext, record_content, plaintext}
use Rattle.tls_records.specs.RecordText.{message_text, FitsMessage, InRangeMessage, normal_message, IsWrittenBackMessage}
use Rattle.tls_records.specs.RecordText.{IsReadableIn, plaintext_text, FitsPlaintext, RefusesPlaintext, InRangePlaintext}
use Rattle.tls_records.specs.RecordText.{IsReadable, normal_plaintext, WritesBack}

-- a ChangeCipherSpec
change_cipher_spec_spelled : (r : Bytes) → Spells message.change_cipher_spec (1 ∷ r) message.ChangeCipherSpec r []
unfolding message.change_cipher_spec
change_cipher_spec_spelled r =
    joined (number 1) (λ n. chain (test (n == 1) Verify) (λ _. done message.ChangeCipherSpec)) (1 ∷ r)
    message.ChangeCipherSpec r 1 r (number_spelled 1 1 r (omega arith))
    (joined (test (1 == 1) Verify) (λ _. done message.ChangeCipherSpec) r message.ChangeCipherSpec r tt r
    (refl, refl, refl) (refl, refl, refl))

-- as messages of a list
abbrev pub IsGood : message.Message → Type 0
IsGood m = FitsMessage m × InRangeMessage m

pub message_reads : (m : message.Message) (r : Bytes) → IsGood m × IsReadableIn 22 m
    → Reads message.handshake (message_text m ++ r) (normal_message m) r
message_reads (message.Handshake m) r good = handshake_reads m r good.0.0 good.0.1 good.1.1
message_reads message.ChangeCipherSpec r good = let e : ◌≡◌ {A = ℕ} 22 20 = good.1 in absurd (omega arith)
message_reads m r good = absurd good.0.0

pub cipher_spec_reads : (m : message.Message) (r : Bytes) → IsGood m × IsReadableIn 20 m
    → Reads message.change_cipher_spec (message_text m ++ r) (normal_message m) r
cipher_spec_reads (message.Handshake m) r good = let e : ◌≡◌ {A = ℕ} 20 22 = good.1.0 in absurd (omega arith)
cipher_spec_reads message.ChangeCipherSpec r good = ([], change_cipher_spec_spelled r)
cipher_spec_reads m r good = absurd good.0.0

handshake_of : (b : Bytes) (m : message.Message) (r : Bytes) → Spells message.handshake b m r []
    → (h : Handshake) × (m ≡ message.Handshake h)
unfolding message.handshake
handshake_of b m r (k, m1, d1, d2, s, (n, m2, d3, d4, t, (h, m3, d5, d6, u, x, e), f), g) = (h, x.0)

pub message_whole : (b : Bytes) (m : message.Message) (r : Bytes) → IsWrittenBackMessage m
    → Spells message.handshake b m r [] → IsGood m × (b ≡ message_text m ++ r)
message_whole b (message.Handshake m) r is s = let h = handshake_whole b r m is s in ((h.0, h.1), h.2)
message_whole b message.ChangeCipherSpec r is s =
    let h = handshake_of b message.ChangeCipherSpec r s in let e : message.ChangeCipherSpec ≡ message.Handshake h.0 =
    h.1 in absurd cc
message_whole b m r is s = absurd is

pub cipher_spec_whole : (b : Bytes) (m : message.Message) (r : Bytes) → IsWrittenBackMessage m
    → Spells message.change_cipher_spec b m r [] → IsGood m × (b ≡ message_text m ++ r)
unfolding message.change_cipher_spec
cipher_spec_whole b m r is s =
    let p = parts (number 1) (λ n. chain (test (n == 1) Verify) (λ _. done message.ChangeCipherSpec)) b m r s in
    let q = parts (test (p.value == 1) Verify) (λ _. done message.ChangeCipherSpec) p.middle m r p.then in
    let t = test_whole (p.value == 1) Verify p.middle q.value q.middle [] q.first in
    let one : p.value ≡ 1 = eqb-true p.value 1 t.0 in
    let what : b ≡ 1 ∷ r = p.first.1 ∙ ap (λ n. bytes_of 1 n ++ p.middle) one ∙ ap (λ x. 1 ∷ x) (t.1 ∙ q.then.1) in
    subst (λ m. IsGood m × (b ≡ message_text m ++ r)) (sym q.then.0) ((tt, tt), what)

-- a header
abbrev header_of : ℕ → ℕ → ℕ → RecordHeader
header_of kind version n = record { content_type = kind; version = version; length = n }

abbrev after_version : ℕ → ℕ → Layout RecordHeader
after_version kind version = chain (number 2) (λ n. done (header_of kind version n))

abbrev after_kind : ℕ → Layout RecordHeader
after_kind kind = chain (number 2) (after_version kind)

header_spelled : (kind version n : ℕ) (r : Bytes) → kind < 256 ^ 1 → version < 256 ^ 2 → n < 256 ^ 2
    → Spells record_header (bytes_of 1 kind ++ (bytes_of 2 version ++ (bytes_of 2 n ++ r))) (header_of kind version n)
    r []
unfolding record_header
header_spelled kind version n r h g i =
    let v = header_of kind version n in
    joined (number 1) after_kind (bytes_of 1 kind ++ (bytes_of 2 version ++ (bytes_of 2 n ++ r))) v r kind
    (bytes_of 2 version ++ (bytes_of 2 n ++ r)) (number_spelled 1 kind _ h)
    (joined (number 2) (after_version kind) (bytes_of 2 version ++ (bytes_of 2 n ++ r)) v r version
    (bytes_of 2 n ++ r) (number_spelled 2 version _ g)
    (joined (number 2) (λ n. done (header_of kind version n)) (bytes_of 2 n ++ r) v r n r (number_spelled 2 n r i)
    (refl, refl, refl)))

pub record HeaderBytes (h : RecordHeader) (b r : Bytes) : Type 0 where
  pub content_type : h.content_type < 256 ^ 1
  pub version : h.version < 256 ^ 2
  pub length : h.length < 256 ^ 2
  pub is : b ≡ bytes_of 1 h.content_type ++ (bytes_of 2 h.version ++ (bytes_of 2 h.length ++ r))

header_whole : (b : Bytes) (h : RecordHeader) (r : Bytes) → Spells record_header b h r [] → HeaderBytes h b r
unfolding record_header
header_whole b h r s =
    let p = parts (number 1) after_kind b h r s in
    let q = parts (number 2) (after_version p.value) p.middle h r p.then in
    let z = parts (number 2) (λ n. done (header_of p.value q.value n)) q.middle h r q.then in
    let is : h ≡ header_of p.value q.value z.value = z.then.0 in
    subst (λ h. HeaderBytes h b r) (sym is) (record {
      content_type = p.first.0;
      version = q.first.0;
      length = z.first.0;
      is = p.first.1 ∙ ap (λ m. bytes_of 1 p.value ++ m)
          (q.first.1 ∙ ap (λ m. bytes_of 2 q.value ++ m) (z.first.1 ∙ ap (λ m. bytes_of 2 z.value ++ m) z.then.1));
    })

-- messages, at least one
some_bytes : (m : message.Message) → IsGood m → 0 < length (message_text m)
some_bytes (message.Handshake m) fits =
    omega (
      arith,
      length-append (bytes_of 1 (msg_type_of m)) (counted_text 3 (body_text m)),
      length-bytes_of 1
          (msg_type_of m),
    )
some_bytes message.ChangeCipherSpec fits = omega arith
some_bytes m fits = absurd fits.0

module _ (l : Layout message.Message) where
  messages_read : (Fits : message.Message → Type 0)
      → ((m : message.Message) (r : Bytes) → Fits m → Reads l (message_text m ++ r) (normal_message m) r)
      → ((m : message.Message) → Fits m → 0 < length (message_text m)) → (ms : List message.Message) → 0 < length ms
      → All Fits ms → Reads (list1 l) (flat_map message_text ms) (map normal_message ms) []
  messages_read Fits one some_text [] some fits = absurd (omega arith)
  messages_read Fits one some_text (m ∷ ms) some fits =
      reads_chain (complete l) (λ x. behind (x ∷ []) (list l)) (message_text m ++ flat_map message_text ms)
      (normal_message m ∷ map normal_message ms) [] (normal_message m) (flat_map message_text ms)
      (one m (flat_map message_text ms) (All-head Fits m ms fits))
      (reads_chain (list l) (λ ys. done ((normal_message m ∷ []) ++ ys)) (flat_map message_text ms)
      (normal_message m ∷ map normal_message ms) [] (map normal_message ms) []
      (list_reads l message_text normal_message Fits one some_text ms (All-tail Fits m ms fits))
      ([], (refl, refl, refl)))

  list1_whole : ((b : Bytes) (m : message.Message) (r : Bytes) → IsWrittenBackMessage m → Spells l b m r []
      → IsGood m × (b ≡ message_text m ++ r)) → (b : Bytes) (ms : List message.Message) (r : Bytes)
      → All IsWrittenBackMessage ms → Spells (list1 l) b ms r [] → Joined message_text IsGood b ms r
  list1_whole one b ms r written s =
      let p = parts (complete l) (λ x. behind (x ∷ []) (list l)) b ms r s in
      let q = parts (list l) (λ ys. done ((p.value ∷ []) ++ ys)) p.middle ms r p.then in
      let is : ms ≡ p.value ∷ q.value = q.then.0 in
      let all : All IsWrittenBackMessage (p.value ∷ q.value) = subst (All IsWrittenBackMessage) is written in
      let here = one b p.value p.middle (All-head IsWrittenBackMessage p.value q.value all) p.first in
      let more = list_whole l message_text IsGood IsWrittenBackMessage one p.middle q.value r
      (All-tail IsWrittenBackMessage p.value q.value all)
      (subst (λ m. Spells (list l) p.middle q.value m []) q.then.1 q.first) in
      subst (λ ms. Joined message_text IsGood b ms r) (sym is)
      (more_joined message_text IsGood b p.value p.middle q.value r here.0 here.1 more)

-- a fragment
abbrev Reading : ℕ → message.Message → Type 0
Reading kind m = IsGood m × IsReadableIn kind m

some_reading : (kind : ℕ) (m : message.Message) → Reading kind m → 0 < length (message_text m)
some_reading kind m good = some_bytes m good.0

type_of : (kind : ℕ) (ms : List message.Message) → 0 < length ms → All (Reading kind) ms → (kind ≡ 22) ⊎ (kind ≡ 20)
type_of kind [] some all = absurd (omega arith)
type_of kind (m ∷ ms) some all = go m (All-head (Reading kind) m ms all)
  where
    go : (m : message.Message) → Reading kind m → (kind ≡ 22) ⊎ (kind ≡ 20)
    go (message.Handshake h) good = inl good.1.0
    go message.ChangeCipherSpec good = inr good.1
    go m good = absurd good.1

abbrev ContentReads : ℕ → ℕ → ℕ → List message.Message → Type 0
ContentReads kind version n ms =
    Reads (record_content (header_of kind version n)) (flat_map message_text ms) (map normal_message ms) []

content_22 : (version n : ℕ) (ms : List message.Message) → 0 < length ms → All (Reading 22) ms
    → ContentReads 22 version n ms
unfolding record_content
content_22 version n ms some all =
    messages_read message.handshake (Reading 22) message_reads (some_reading 22) ms some all

content_20 : (version n : ℕ) (ms : List message.Message) → 0 < length ms → All (Reading 20) ms
    → ContentReads 20 version n ms
unfolding record_content
content_20 version n ms some all =
    messages_read message.change_cipher_spec (Reading 20) cipher_spec_reads (some_reading 20) ms some all

content_reads : (kind version n : ℕ) (ms : List message.Message) → 0 < length ms → All (Reading kind) ms
    → ContentReads kind version n ms
content_reads kind version n ms some all = go (type_of kind ms some all)
  where
    go : (kind ≡ 22) ⊎ (kind ≡ 20) → ContentReads kind version n ms
    go (inl e) =
        subst (λ k. ContentReads k version n ms) (sym e)
        (content_22 version n ms some (subst (λ k. All (Reading k) ms) e all))
    go (inr e) =
        subst (λ k. ContentReads k version n ms) (sym e)
        (content_20 version n ms some (subst (λ k. All (Reading k) ms) e all))

-- Other layouts encode no messages that are written back.
abbrev Never : Layout message.Message → Type 0
Never l = (b : Bytes) (m : message.Message) (r d : Bytes) → Spells l b m r d → IsWrittenBackMessage m → ⊥

alert_never : Never message.alert
unfolding message.alert
alert_never b m r d (a, m1, d1, d2, s, t, e) written = subst IsWrittenBackMessage t.0 written

list1_never : (l : Layout message.Message) → Never l → (b : Bytes) (ms : List message.Message) (r d : Bytes)
    → Spells (list1 l) b ms r d → All IsWrittenBackMessage ms → ⊥
list1_never l never b ms r d (x, m1, d1, d2, s, (ys, m2, d3, d4, t, u, e), f) written =
    never b x m1 d1 s (All-head IsWrittenBackMessage x ys (subst (All IsWrittenBackMessage) u.0 written))

application_data_never : (b : Bytes) (ms : List message.Message) (r d : Bytes)
    → Spells (chain message.application_data (λ m. done (m ∷ []))) b ms r d → All IsWrittenBackMessage ms → ⊥
unfolding message.application_data
application_data_never b ms r d (m, m1, d1, d2, (x, m2, d3, d4, s, t, e), u, f) written =
    subst IsWrittenBackMessage t.0 (All-head IsWrittenBackMessage m [] (subst (All IsWrittenBackMessage) u.0 written))

heartbeat_never : (n : ℕ) (b : Bytes) (ms : List message.Message) (r d : Bytes)
    → Spells (message.heartbeat n) b ms r d → All IsWrittenBackMessage ms → ⊥
unfolding message.heartbeat
heartbeat_never n b ms r d (
  kind,
  m1,
  d1,
  d2,
  s,
  (k, m2, d3, d4, t, (x, m3, d5, d6, u, (p, m4, d7, d8, w, z, e), f), g),
  i,
) written =
    All-head IsWrittenBackMessage _ [] (subst (All IsWrittenBackMessage) z.0 written)

content_whole : (h : RecordHeader) (w : Bytes) (ms : List message.Message) → All IsWrittenBackMessage ms
    → Spells (record_content h) w ms [] [] → Joined message_text IsGood w ms []
unfolding record_content
content_whole h w ms written s =
    elim (picked (h.content_type == 20) (list1 message.change_cipher_spec) _ w ms [] [] s) [
      | First e f ↦ list1_whole message.change_cipher_spec cipher_spec_whole w ms [] written f
      | Second e f ↦
          after_20 f
    ]
  where
    after_24 : Spells (choose (h.content_type == 24) (complete (message.heartbeat h.length)) (refuse Switch)) w ms []
        [] → Joined message_text IsGood w ms []
    after_24 s =
        elim (picked (h.content_type == 24) (complete (message.heartbeat h.length)) _ w ms [] [] s)
        [ First e f ↦ absurd (heartbeat_never h.length w ms [] [] f written) | Second e f ↦ absurd f ]

    after_23 : Spells (choose (h.content_type == 23) (chain message.application_data (λ m. done (m ∷ [])))
        (choose (h.content_type == 24) (complete (message.heartbeat h.length)) (refuse Switch))) w ms [] []
        → Joined message_text IsGood w ms []
    after_23 s =
        elim (picked (h.content_type == 23) (chain message.application_data (λ m. done (m ∷ []))) _ w ms [] [] s)
        [ First e f ↦ absurd (application_data_never w ms [] [] f written) | Second e f ↦ after_24 f ]

    after_22 : Spells (choose (h.content_type == 22) (list1 message.handshake)
        (choose (h.content_type == 23) (chain message.application_data (λ m. done (m ∷ [])))
        (choose (h.content_type == 24) (complete (message.heartbeat h.length)) (refuse Switch)))) w ms [] []
        → Joined message_text IsGood w ms []
    after_22 s =
        elim (picked (h.content_type == 22) (list1 message.handshake) _ w ms [] [] s)
        [ First e f ↦ list1_whole message.handshake message_whole w ms [] written f | Second e f ↦ after_23 f ]

    after_20 : Spells (choose (h.content_type == 21) (list1 message.alert)
        (choose (h.content_type == 22) (list1 message.handshake)
        (choose (h.content_type == 23) (chain message.application_data (λ m. done (m ∷ [])))
        (choose (h.content_type == 24) (complete (message.heartbeat h.length)) (refuse Switch))))) w ms [] []
        → Joined message_text IsGood w ms []
    after_20 s =
        elim (picked (h.content_type == 21) (list1 message.alert) _ w ms [] [] s) [
          | First e f ↦ absurd (list1_never message.alert alert_never w ms [] [] f written)
          | Second e f ↦ after_22
              f
        ]

-- a record
abbrev plaintext_of : RecordHeader → List message.Message → Plaintext
plaintext_of h ms = record { header = h; messages = ms }

abbrev after_test : RecordHeader → Layout Plaintext
after_test h = chain (window h.length (record_content h)) (λ ms. done (plaintext_of h ms))

abbrev after_header : RecordHeader → Layout Plaintext
after_header h = chain (test (nat_le h.length max_fragment_length) TooLarge) (λ _. after_test h)

nested : (a b c d r : Bytes) → a ++ b ++ (c ++ d) ++ r ≡ a ++ (b ++ (c ++ (d ++ r)))
nested a b c d r = simp append_assoc

pub plaintext_reads : (p : Plaintext) (r : Bytes) → FitsPlaintext p → InRangePlaintext p → IsReadable p
    → Reads plaintext (plaintext_text p ++ r) (normal_plaintext p) r
unfolding plaintext plaintext_text
plaintext_reads p r fits range readable =
    let w = flat_map message_text p.messages in
    let h = (normal_plaintext p).header in
    subst (λ b. Reads (chain record_header after_header) b (normal_plaintext p) r)
    (sym (nested (bytes_of 1 p.header.content_type) (bytes_of 2 p.header.version) (bytes_of 2 (length w)) w r))
    (reads_chain record_header after_header (bytes_of 1 p.header.content_type
    ++ (bytes_of 2 p.header.version ++ (bytes_of 2 (length w) ++ (w ++ r)))) (normal_plaintext p) r h (w ++ r) (
      [],
      header_spelled p.header.content_type p.header.version (length w) (w ++ r) range.content_type range.version
          (omega (arith, fits.fragment)),
    )
    (reads_chain (test (nat_le (length w) max_fragment_length) TooLarge) (λ _. after_test h) (w ++ r)
    (normal_plaintext p) r tt (w ++ r) (
      [],
      test_spelled (nat_le (length w) max_fragment_length) TooLarge (w ++ r)
          (le-leb (length w) max_fragment_length readable.fragment),
    )
    (reads_chain (window (length w) (record_content h)) (λ ms. done (plaintext_of h ms)) (w ++ r) (normal_plaintext p)
    r (map normal_message p.messages) r
    (reads_window (record_content h) w (map normal_message p.messages) [] r
    (content_reads p.header.content_type p.header.version (length w) p.messages readable.some
    (λ k d lt. ((fits.messages k d lt, range.messages k d lt), readable.messages k d lt))))
    ([], (refl, refl, refl)))))

pub plaintext_allowed : (p : Plaintext) (r : Bytes) → FitsPlaintext p → InRangePlaintext p → IsReadable p
    → Allows plaintext (plaintext_text p ++ r) (Ok (normal_plaintext p, r))
plaintext_allowed p r fits range readable =
    reads_allowed plaintext (plaintext_text p ++ r) (normal_plaintext p) r (plaintext_reads p r fits range readable)

pub plaintext_alone : (p : Plaintext) → FitsPlaintext p → InRangePlaintext p → IsReadable p
    → Allows plaintext (plaintext_text p) (Ok (normal_plaintext p, []))
plaintext_alone p fits range readable =
    subst (λ b. Allows plaintext b (Ok (normal_plaintext p, []))) (append-nil (plaintext_text p))
    (plaintext_allowed p [] fits range readable)

-- what is read from b can be written, and b is its encoding
pub record WrittenPlaintext (p : Plaintext) (b r : Bytes) : Type 0 where
  pub fits : FitsPlaintext p
  pub range : InRangePlaintext p
  pub is : b ≡ plaintext_text p ++ r

pub plaintext_whole : (b r : Bytes) (p : Plaintext) → All IsWrittenBackMessage p.messages → Spells plaintext b p r []
    → WrittenPlaintext p b r
unfolding plaintext plaintext_text
plaintext_whole b r p written s =
    let p1 = parts record_header after_header b p r s in
    let q = parts (test (nat_le p1.value.length max_fragment_length) TooLarge) (λ _. after_test p1.value) p1.middle p
    r p1.then in
    let t = test_whole (nat_le p1.value.length max_fragment_length) TooLarge p1.middle q.value q.middle [] q.first in
    let z = parts (window p1.value.length (record_content p1.value)) (λ ms. done (plaintext_of p1.value ms)) q.middle
    p r q.then in
    let h = p1.value in
    let ms = z.value in
    let is : p ≡ plaintext_of h ms = z.then.0 in
    let w = filled h.length (record_content h) q.middle ms z.middle z.first in
    let c = content_whole h w.content ms (subst (λ p. All IsWrittenBackMessage p.messages) is written) w.inner in
    let text : w.content ≡ flat_map message_text ms = c.is ∙ append-nil (flat_map message_text ms) in
    let size : h.length ≡ length (flat_map message_text ms) = sym w.size ∙ ap length text in
    let known = header_whole b h p1.middle p1.first in
    let inside : p1.middle ≡ flat_map message_text ms ++ r = t.1 ∙ w.is ∙ ap (λ x. x ++ z.middle) text
    ∙ ap (λ x. flat_map message_text ms ++ x) z.then.1 in
    let all : b ≡ bytes_of 1 h.content_type ++ (bytes_of 2 h.version
    ++ (bytes_of 2 (length (flat_map message_text ms)) ++ (flat_map message_text ms ++ r))) =
    known.is ∙ ap (λ x. bytes_of 1 h.content_type ++ (bytes_of 2 h.version ++ x))
    (ap (λ n. bytes_of 2 n ++ p1.middle) size ∙ ap (λ x. bytes_of 2 (length (flat_map message_text ms)) ++ x)
    inside) in
    subst (λ p. WrittenPlaintext p b r) (sym is) (record {
      fits = record { messages = λ k d lt. (c.fits k d lt).0; fragment = omega (arith, size, known.length) };
      range = record {
        content_type = known.content_type;
        version = known.version;
        messages = λ k d lt.
            (c.fits k d lt).1;
      };
      is = all ∙ sym (nested (bytes_of 1 h.content_type) (bytes_of 2 h.version)
          (bytes_of 2 (length (flat_map message_text ms))) (flat_map message_text ms) r);
    })

-- What is built, and what is written, reads back.
pub built_reads : (p : Plaintext) (r : Result (Vec ℕ) GenError)
    → Builds (FitsPlaintext p) (RefusesPlaintext p) (plaintext_text p) (result_map_both (λ v. v.items) (λ e. e) r)
    → IfOk r (λ _. InRangePlaintext p) → IfOk r (λ v. IsReadable p → Allows plaintext v.items
    (Ok (normal_plaintext p, [])))
built_reads p (Ok v) built range =
    λ readable. subst (λ t. Allows plaintext t (Ok (normal_plaintext p, []))) (sym built.1)
    (plaintext_alone p built.0 range readable)
built_reads p (Err e) built range = tt

pub written_reads : (p : Plaintext) (r : Result Unit GenError) → FitsPlaintext p → InRangePlaintext p
    → IfOk r (λ _. IsReadable p → Allows plaintext (plaintext_text p) (Ok (normal_plaintext p, [])))
written_reads p (Ok u) fits range = λ readable. plaintext_alone p fits range readable
written_reads p (Err e) fits range = tt

-- What is read is written back.
pub plaintext_writes_back : {X : Type 0} (view : X → Plaintext) (b : Bytes) (r : Returned X)
    → IfOk r (λ x. WritesBack (view x.1) b x.0.now)
plaintext_writes_back view b (Ok x) =
    λ s written. let w = plaintext_whole b x.0.now (view x.1) written s in (w.fits, w.is)
plaintext_writes_back view b (Err e) = tt
