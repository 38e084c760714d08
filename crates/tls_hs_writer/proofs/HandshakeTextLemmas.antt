-- Handshake messages are encoded by their texts, and by no other bytes.
use Rattle.std.proofs.Common.{◌≡◌, ℕ, ◌^◌, ◌<◌, ◌≤◌, [], ◌++◌, length, eqb, ◌==◌, refl, sym, ◌∙◌, ap, subst, arith}
use Rattle.std.proofs.Common.{append_assoc, append-nil, true, false, Ok, Err, Result, IfOk}
use Rattle.std.specs.Option.{IsSome}
use Rattle.layouts.specs.Bytes.{Bytes, bytes_of}
use Rattle.layouts.specs.Layout.{Layout, done, number, block, window, look, chain, choose}
use Rattle.std.specs.Result.{result_map_both}
use Rattle.layouts.specs.Meaning.{Spells, Allows}
use Rattle.layouts.specs.Writer.{Builds}
use Rattle.layouts.specs.declared.writer.GenError.{GenError}
use Rattle.layouts.proofs.OneAnswerLemmas.{eqb_other}
use Rattle.tls_hs.specs.Hello as hello
use Rattle.tls_hs.specs.ServerHello as server
use Rattle.tls_hs.specs.Session as session
use Rattle.tls_hs.specs.Handshake.{Handshake, HelloRequest, ClientHello, ServerHello, ServerHelloV13Draft18}
use Rattle.tls_hs.specs.Handshake.{ClientKeyExchange, Finished, hello_request_body, client_hello_body}
use Rattle.tls_hs.specs.Handshake.{server_hello_body, client_key_exchange_body, finished_body, body_from_finished}
use Rattle.tls_hs.specs.Handshake.{body_from_certificate, handshake_body}
use Rattle.tls_hs_writer.specs.HandshakeWriter.{HasText}
use Rattle.tls_hs.specs.Message as message
use Rattle.layouts.specs.Text.{counted_text}
use Rattle.tls_hs.specs.HandshakeText.{client_hello_text, normal_client_hello, FitsClientHello, InRangeClientHello}
use Rattle.tls_hs.specs.HandshakeText.{server_hello_text, normal_server_hello, FitsServerHello, InRangeServerHello}
use Rattle.tls_hs.specs.HandshakeText.{server_hello_draft18_text, normal_server_hello_draft18, FitsServerHelloDraft18}
use Rattle.tls_hs.specs.HandshakeText.{InRangeServerHelloDraft18, client_key_exchange_text, FitsClientKeyExchange}
use Rattle.tls_hs.specs.HandshakeText.{msg_type_of, body_text, FitsBody, IsReadableHandshake, normal_handshake}
use Rattle.tls_hs.specs.HandshakeText.{IsWrittenBack, handshake_text, FitsHandshake, InRangeHandshake}
use Rattle.layouts.proofs.TextLemmas.{Reads, reads_chain, reads_window, reads_allowed, parts, joined, filled}
use Rattle.layouts.proofs.TextLemmas.{then_text, number_spelled, First, Second, picked, picks_first, picks_second}
use Rattle.tls_hs_writer.proofs.ClientHelloTextLemmas.{client_hello_spelled, client_hello_whole, Written}
use Rattle.tls_hs_writer.proofs.ServerHelloTextLemmas.{server_reads, draft_reads, server_looked, draft_looked}
use Rattle.tls_hs_writer.proofs.ServerHelloTextLemmas.{server_hello_whole, draft18_whole, WrittenServer, WrittenDraft}
use Rattle.tls_hs.proofs.MsgTypeLemmas.{body_makes}

-- each body, in its window
hello_request_spelled : (n : ℕ) → Spells (handshake_body 0 n) [] HelloRequest [] []
unfolding handshake_body hello_request_body
hello_request_spelled n = (refl, refl, refl)

client_hello_body_spelled : (n : ℕ) (h : hello.ClientHello) → FitsClientHello h
    → InRangeClientHello h
    → Spells (handshake_body 1 n) (client_hello_text h) (ClientHello (normal_client_hello h)) [] []
unfolding handshake_body client_hello_body
client_hello_body_spelled n h fits range =
    joined hello.client_hello (λ x. done (ClientHello x)) (client_hello_text h)
    (ClientHello (normal_client_hello h))
    [] (normal_client_hello h) []
    (subst (λ t. Spells hello.client_hello t (normal_client_hello h) [] [])
    (append-nil (client_hello_text h))
    (client_hello_spelled h [] fits range))
    (refl, refl, refl)

finished_spelled : (b : Bytes) → Spells (handshake_body 20 (length b)) b (Finished b) [] []
unfolding handshake_body body_from_certificate body_from_finished finished_body
finished_spelled b =
    joined (block (length b)) (λ x. done (Finished x)) b (Finished b) [] b []
    (refl, sym (append-nil b), refl)
    (refl, refl, refl)

key_exchange_spelled : (b : Bytes)
    → Spells (handshake_body 16 (length b)) b (ClientKeyExchange (session.Unknown b))
    [] []
unfolding handshake_body body_from_certificate client_key_exchange_body
key_exchange_spelled b =
    joined (block (length b)) (λ x. done (ClientKeyExchange (session.Unknown x))) b
    (ClientKeyExchange (session.Unknown b)) [] b [] (refl, sym (append-nil b), refl)
    (refl, refl, refl)

-- a body that is read within its length; the extensions of a ServerHello of SSL 3.0 are left, and
-- dropped
abbrev BodyReads : ℕ → ℕ → Bytes → Handshake → Type 0
BodyReads msg_type n w m = (e : Bytes) × Reads (handshake_body msg_type n) w m e

abbrev server_form : ℕ → Layout Handshake
server_form version =
    choose (version == 0x7f12)
    (chain server.server_hello_draft18 (λ h. done (ServerHelloV13Draft18 h)))
    (chain server.server_hello (λ h. done (ServerHello h)))

server_body_reads : (n : ℕ) (h : server.ServerHello) → FitsServerHello h → InRangeServerHello h
    → IsReadableHandshake (ServerHello h)
    → BodyReads 2 n (server_hello_text h) (ServerHello (normal_server_hello h))
unfolding handshake_body server_hello_body
server_body_reads n h fits range readable =
    let b = server_hello_text h in
    let v = ServerHello (normal_server_hello h) in
    let s = server_reads h fits range readable.0 readable.1 in
    let high : h.server_version ≤ 0x0303 = readable.1 in
    let other : (h.server_version == 0x7f12) ≡ false = eqb_other h.server_version 0x7f12
    (λ e. absurd (omega arith)) in (
      s.0,
      (
        [],
        joined (look (number 2)) server_form b v s.0 h.server_version b
            (server_looked h range.version)
            (picks_second (h.server_version == 0x7f12) (chain server.server_hello_draft18
            (λ h. done (ServerHelloV13Draft18 h))) (chain server.server_hello
            (λ h. done (ServerHello h))) b v s.0
            [] other
            (joined server.server_hello (λ h. done (ServerHello h)) b v s.0
            (normal_server_hello h) s.0 s.1
            (refl, refl, refl))),
      ),
    )

draft_body_reads : (n : ℕ) (h : server.ServerHelloDraft18) → FitsServerHelloDraft18 h
    → InRangeServerHelloDraft18 h
    → h.version ≡ 0x7f12 → BodyReads 2 n (server_hello_draft18_text h)
    (ServerHelloV13Draft18 (normal_server_hello_draft18 h))
unfolding handshake_body server_hello_body
draft_body_reads n h fits range is =
    let b = server_hello_draft18_text h in
    let v = ServerHelloV13Draft18 (normal_server_hello_draft18 h) in
    let this : (h.version == 0x7f12) ≡ true = ap (λ x. eqb x 0x7f12) is in (
      [],
      (
        [],
        joined (look (number 2)) server_form b v [] h.version b (draft_looked h range.version)
            (picks_first (h.version == 0x7f12) (chain server.server_hello_draft18
            (λ h. done (ServerHelloV13Draft18 h))) (chain server.server_hello
            (λ h. done (ServerHello h))) b v []
            [] this
            (joined server.server_hello_draft18 (λ h. done (ServerHelloV13Draft18 h)) b v []
            (normal_server_hello_draft18 h) [] (draft_reads h fits range) (refl, refl, refl))),
      ),
    )

body_reads : (m : Handshake) → FitsBody m → InRangeHandshake m → IsReadableHandshake m
    → BodyReads (msg_type_of m) (length (body_text m)) (body_text m) (normal_handshake m)
body_reads HelloRequest fits range readable = ([], ([], hello_request_spelled 0))
body_reads (ClientHello h) fits range readable =
    ([], ([], client_hello_body_spelled (length (client_hello_text h)) h fits range))
body_reads (ServerHello h) fits range readable =
    server_body_reads (length (server_hello_text h)) h fits range readable
body_reads (ServerHelloV13Draft18 h) fits range readable =
    draft_body_reads (length (server_hello_draft18_text h)) h fits range readable
body_reads (ClientKeyExchange k) fits range readable =
    ([], ([], key_exchange_spelled (client_key_exchange_text k)))
body_reads (Finished b) fits range readable = ([], ([], finished_spelled b))
body_reads m fits range readable = absurd fits

abbrev behind_length : ℕ → ℕ → Layout message.Message
behind_length msg_type n =
    chain (window n (handshake_body msg_type n)) (λ body. done (message.Handshake body))

abbrev behind_type : ℕ → Layout message.Message
behind_type msg_type = chain (number 3) (behind_length msg_type)

small_type : (m : Handshake) → FitsBody m → msg_type_of m < 256 ^ 1
small_type HelloRequest fits = omega arith
small_type (ClientHello h) fits = omega arith
small_type (ServerHello h) fits = omega arith
small_type (ServerHelloV13Draft18 h) fits = omega arith
small_type (ClientKeyExchange k) fits = omega arith
small_type (Finished b) fits = omega arith
small_type m fits = absurd fits

pub handshake_reads : (m : Handshake) (r : Bytes) → FitsHandshake m → InRangeHandshake m
    → IsReadableHandshake m
    → Reads message.handshake (handshake_text m ++ r) (message.Handshake (normal_handshake m)) r
unfolding message.handshake
handshake_reads m r fits range readable =
    let w = body_text m in
    let v = message.Handshake (normal_handshake m) in
    let body = body_reads m fits.body range readable in
    let all = reads_chain (number 1) behind_type
    (bytes_of 1 (msg_type_of m) ++ (bytes_of 3 (length w) ++ (w ++ r))) v
    r (msg_type_of m) (bytes_of 3 (length w) ++ (w ++ r)) (
      [],
      number_spelled 1 (msg_type_of m) (bytes_of 3 (length w) ++ (w ++ r))
          (small_type m fits.body),
    )
    (reads_chain (number 3) (behind_length (msg_type_of m)) (bytes_of 3 (length w) ++ (w ++ r)) v r
    (length w) (w ++ r)
    ([], number_spelled 3 (length w) (w ++ r) (omega (arith, fits.length)))
    (reads_chain (window (length w) (handshake_body (msg_type_of m) (length w)))
    (λ body. done (message.Handshake body)) (w ++ r) v r (normal_handshake m) r
    (reads_window (handshake_body (msg_type_of m) (length w)) w (normal_handshake m)
    body.0 r body.1)
    ([], (refl, refl, refl)))) in
    subst (λ b. Reads (chain (number 1) behind_type) b v r)
    (sym (then_text (handshake_text m ++ r) (bytes_of 1 (msg_type_of m)) (counted_text 3 w ++ r)
    (counted_text 3 w) r (append_assoc (bytes_of 1 (msg_type_of m)) (counted_text 3 w) r) refl
    ∙ append_assoc (bytes_of 1 (msg_type_of m)) (counted_text 3 w) r
    ∙ ap (λ x. bytes_of 1 (msg_type_of m) ++ x) (append_assoc (bytes_of 3 (length w)) w r))) all

pub handshake_allowed : (m : Handshake) (r : Bytes) → FitsHandshake m → InRangeHandshake m
    → IsReadableHandshake m
    → Allows message.handshake (handshake_text m ++ r)
    (Ok (message.Handshake (normal_handshake m), r))
handshake_allowed m r fits range readable =
    reads_allowed message.handshake (handshake_text m ++ r)
    (message.Handshake (normal_handshake m)) r
    (handshake_reads m r fits range readable)

-- the encoding of a message equal to one that fits
pub text_read : (b : Bytes) (n m : Handshake) → FitsHandshake n → InRangeHandshake n
    → b ≡ handshake_text n → n ≡ m
    → IsReadableHandshake m
    → Allows message.handshake b (Ok (message.Handshake (normal_handshake m), []))
text_read b n m fits range text same readable =
    subst (λ m. IsReadableHandshake m
    → Allows message.handshake b (Ok (message.Handshake (normal_handshake m), [])))
    same
    (λ readable. subst
    (λ b. Allows message.handshake b (Ok (message.Handshake (normal_handshake n), [])))
    (sym (text ∙ sym (append-nil (handshake_text n))))
    (handshake_allowed n [] fits range readable)) readable

-- the encoding built for a message equal to one in range
pub built_read : {V : Type 0} (items : V → Bytes) (result : Result V GenError) (n m : Handshake)
    (Refused : GenError → Type 0) → Builds (FitsHandshake n) Refused (handshake_text n)
    (result_map_both items (λ e. e) result) → IfOk result (λ _. InRangeHandshake n) → n ≡ m
    → IfOk result (λ v. IsReadableHandshake m → Allows message.handshake (items v) (Ok
    (message.Handshake (normal_handshake m), [])))
built_read items (Ok v) n m Refused built range same =
    λ readable. text_read (items v) n m built.0 range built.1 same readable
built_read items (Err e) n m Refused built range same = tt

-- what is read from a body's bytes has these as its encoding
hello_request_whole : (n : ℕ) (w : Bytes)
    → Spells (handshake_body 0 n) w HelloRequest [] [] → w ≡ []
unfolding handshake_body hello_request_body
hello_request_whole n w s = s.1

hello_body_whole : (n : ℕ) (w : Bytes) (h : hello.ClientHello) → IsSome h.extensions
    → Spells (handshake_body 1 n) w (ClientHello h) [] [] → Written h w []
unfolding handshake_body client_hello_body
hello_body_whole n w h some s =
    let p = parts hello.client_hello (λ x. done (ClientHello x)) w (ClientHello h) [] s in
    let is : h ≡ p.value = (let e : ClientHello h ≡ ClientHello p.value = p.then.0 in cc) in
    client_hello_whole w h [] some (subst (λ x. Spells hello.client_hello w x [] []) (sym is)
    (subst (λ m. Spells hello.client_hello w p.value m []) p.then.1 p.first))

finished_whole : (n : ℕ) (w b : Bytes) → Spells (handshake_body 20 n) w (Finished b) [] [] → w ≡ b
unfolding handshake_body body_from_certificate body_from_finished finished_body
finished_whole n w b s =
    let p = parts (block n) (λ x. done (Finished x)) w (Finished b) [] s in
    let is : b ≡ p.value = (let e : Finished b ≡ Finished p.value = p.then.0 in cc) in
    p.first.1 ∙ ap (λ x. p.value ++ x) p.then.1 ∙ append-nil p.value ∙ sym is

server_body_whole : (n : ℕ) (w : Bytes) (h : server.ServerHello) → IsSome h.extensions
    → Spells (handshake_body 2 n) w (ServerHello h) [] [] → WrittenServer h w []
unfolding handshake_body server_hello_body
server_body_whole n w h some s =
    let p = parts (look (number 2)) server_form w (ServerHello h) [] s in
    subst (λ x. WrittenServer h x []) (sym p.first.0)
    (elim (picked (p.value == 0x7f12)
    (chain server.server_hello_draft18 (λ h. done (ServerHelloV13Draft18 h)))
    (chain server.server_hello (λ h. done (ServerHello h))) p.middle (ServerHello h) [] [] p.then)
    [ First e f ↦ draft p.middle f | Second e f ↦ this p.middle f ])
  where
    draft : (m : Bytes)
        → Spells (chain server.server_hello_draft18 (λ h. done (ServerHelloV13Draft18 h))) m
        (ServerHello h) [] [] → WrittenServer h m []
    draft m s = let e : ServerHello h ≡ ServerHelloV13Draft18 s.0 = s.5.0 in absurd cc

    this : (m : Bytes)
        → Spells (chain server.server_hello (λ h. done (ServerHello h))) m (ServerHello h) [] []
        → WrittenServer h m []
    this m s =
        let p = parts server.server_hello (λ h. done (ServerHello h)) m (ServerHello h) [] s in
        let is : h ≡ p.value = (let e : ServerHello h ≡ ServerHello p.value = p.then.0 in cc) in
        server_hello_whole m h [] some (subst (λ x. Spells server.server_hello m x [] []) (sym is)
        (subst (λ q. Spells server.server_hello m p.value q []) p.then.1 p.first))

draft_body_whole : (n : ℕ) (w : Bytes) (h : server.ServerHelloDraft18) → IsSome h.extensions
    → Spells (handshake_body 2 n) w (ServerHelloV13Draft18 h) [] [] → WrittenDraft h w []
unfolding handshake_body server_hello_body
draft_body_whole n w h some s =
    let p = parts (look (number 2)) server_form w (ServerHelloV13Draft18 h) [] s in
    subst (λ x. WrittenDraft h x []) (sym p.first.0)
    (elim (picked (p.value == 0x7f12)
    (chain server.server_hello_draft18 (λ h. done (ServerHelloV13Draft18 h)))
    (chain server.server_hello (λ h. done (ServerHello h))) p.middle (ServerHelloV13Draft18 h)
    [] [] p.then)
    [ First e f ↦ this p.middle f | Second e f ↦ other p.middle f ])
  where
    other : (m : Bytes)
        → Spells (chain server.server_hello (λ h. done (ServerHello h))) m (ServerHelloV13Draft18 h)
        [] [] → WrittenDraft h m []
    other m s = let e : ServerHelloV13Draft18 h ≡ ServerHello s.0 = s.5.0 in absurd cc

    this : (m : Bytes)
        → Spells (chain server.server_hello_draft18 (λ h. done (ServerHelloV13Draft18 h))) m
        (ServerHelloV13Draft18 h) [] [] → WrittenDraft h m []
    this m s =
        let p = parts server.server_hello_draft18 (λ h. done (ServerHelloV13Draft18 h)) m
        (ServerHelloV13Draft18 h) []
        s in
        let is : h ≡ p.value =
        (let e : ServerHelloV13Draft18 h ≡ ServerHelloV13Draft18 p.value = p.then.0 in cc) in
        draft18_whole m h [] some
        (subst (λ x. Spells server.server_hello_draft18 m x [] []) (sym is)
        (subst (λ q. Spells server.server_hello_draft18 m p.value q []) p.then.1 p.first))

key_exchange_whole : (n : ℕ) (w : Bytes) (k : session.ClientKeyExchange)
    → Spells (handshake_body 16 n) w (ClientKeyExchange k) [] []
    → FitsClientKeyExchange k × (w ≡ client_key_exchange_text k)
unfolding handshake_body body_from_certificate client_key_exchange_body
key_exchange_whole n w k s =
    let p = parts (block n) (λ x. done (ClientKeyExchange (session.Unknown x))) w
    (ClientKeyExchange k) [] s in
    let is : k ≡ session.Unknown p.value = (let e : ClientKeyExchange k ≡ ClientKeyExchange
    (session.Unknown p.value) = p.then.0 in cc) in
    subst (λ k. FitsClientKeyExchange k × (w ≡ client_key_exchange_text k)) (sym is)
    (tt, p.first.1 ∙ ap (λ x. p.value ++ x) p.then.1 ∙ append-nil p.value)

body_whole : (n : ℕ) (w : Bytes) (m : Handshake) → IsWrittenBack m
    → Spells (handshake_body (msg_type_of m) n) w m [] [] → FitsBody m × InRangeHandshake m
    × (w ≡ body_text m)
body_whole n w HelloRequest is s = (tt, tt, hello_request_whole n w s)
body_whole n w (ClientHello h) is s =
    let k = hello_body_whole n w h is s in
    (k.fits, k.range, k.is ∙ append-nil (client_hello_text h))
body_whole n w (ServerHello h) is s =
    let k = server_body_whole n w h is s in
    (k.fits, k.range, k.is ∙ append-nil (server_hello_text h))
body_whole n w (ServerHelloV13Draft18 h) is s =
    let k = draft_body_whole n w h is s in
    (k.fits, k.range, k.is ∙ append-nil (server_hello_draft18_text h))
body_whole n w (ClientKeyExchange k) is s = let h = key_exchange_whole n w k s in (h.0, tt, h.1)
body_whole n w (Finished b) is s = (tt, tt, finished_whole n w b s)
body_whole n w m is s = absurd is

pub handshake_whole : (b r : Bytes) (m : Handshake) → IsWrittenBack m
    → Spells message.handshake b (message.Handshake m) r []
    → FitsHandshake m × InRangeHandshake m × (b ≡ handshake_text m ++ r)
unfolding message.handshake
handshake_whole b r m written s =
    let p = parts (number 1) behind_type b (message.Handshake m) r s in
    let q = parts (number 3) (behind_length p.value) p.middle (message.Handshake m) r p.then in
    let z = parts (window q.value (handshake_body p.value q.value))
    (λ body. done (message.Handshake body)) q.middle
    (message.Handshake m) r q.then in
    let is : m ≡ z.value =
    (let e : message.Handshake m ≡ message.Handshake z.value = z.then.0 in cc) in
    let w = filled q.value (handshake_body p.value q.value) q.middle z.value z.middle z.first in
    let inner : Spells (handshake_body p.value q.value) w.content m [] [] =
    subst (λ x. Spells (handshake_body p.value q.value) w.content x [] []) (sym is) w.inner in
    let msg_type : p.value ≡ msg_type_of m = body_makes p.value q.value w.content m [] [] inner in
    let body = body_whole q.value w.content m written
    (subst (λ k. Spells (handshake_body k q.value) w.content m [] []) msg_type inner) in
    let size : q.value ≡ length (body_text m) = sym w.size ∙ ap length body.2 in
    let one : b ≡ bytes_of 1 (msg_type_of m) ++ p.middle =
    p.first.1 ∙ ap (λ k. bytes_of 1 k ++ p.middle) msg_type in
    let two : p.middle ≡ bytes_of 3 (length (body_text m)) ++ q.middle =
    q.first.1 ∙ ap (λ n. bytes_of 3 n ++ q.middle) size in
    let three : q.middle ≡ body_text m ++ r = w.is ∙ ap (λ x. x ++ z.middle) body.2
    ∙ ap (λ x. body_text m ++ x) z.then.1 in (
      record { body = body.0; length = omega (arith, size, q.first.0) },
      body.1,
      then_text b (bytes_of 1 (msg_type_of m)) p.middle (counted_text 3 (body_text m)) r one
          (then_text p.middle (bytes_of 3 (length (body_text m))) q.middle (body_text m) r
          two three),
    )

pub handshake_written_back : (b r : Bytes) (m : Handshake) → IsWrittenBack m
    → Spells message.handshake b (message.Handshake m) r [] → HasText m b r
handshake_written_back b r m written s =
    let all = handshake_whole b r m written s in
    record { fits = all.0; range = all.1; text = all.2 }
