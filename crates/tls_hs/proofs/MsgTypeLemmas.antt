-- The type of a handshake message is that of its kind, for each body in the table.
use Rattle.std.proofs.Common.{◌≡◌, ℕ, Ok, Err, sym, refl, subst, ◌==◌, Bool, true, false}
use Rattle.std.specs.Prelude.{Result, ⊤}
use Rattle.std.proofs.lemmas.Bool.{eqb-true}
use Rattle.layouts.specs.Bytes.{Bytes}
use Rattle.layouts.specs.Layout.{Layout, done, refuse, chain, choose}
use Rattle.layouts.specs.Meaning.{Spells, Refusal}
use Rattle.layouts.specs.Reading.{reading, ◌and_then◌}
use Rattle.tls_hs.specs.Handshake.{Handshake, hello_request_body, client_hello_body, server_hello_body}
use Rattle.tls_hs.specs.Handshake.{new_session_ticket_body, end_of_early_data_body, hello_retry_request_body, certificate_body}
use Rattle.tls_hs.specs.Handshake.{server_key_exchange_body, certificate_request_body, server_done_body}
use Rattle.tls_hs.specs.Handshake.{certificate_verify_body, client_key_exchange_body, finished_body}
use Rattle.tls_hs.specs.Handshake.{certificate_status_body, next_protocol_body, key_update_body}
use Rattle.tls_hs.specs.Handshake.{body_from_finished, body_from_certificate, handshake_body}
use Rattle.tls_hs.specs.HandshakeText.{msg_type_of}

-- P holds for every value of a layout, as its last part alone shows
abbrev Ends : {A : Type 0} → (A → Type 0) → Layout A → Type 0
Ends P (done a) = P a
Ends P (refuse e) = ⊤
Ends P (chain l f) = (a : _) → Ends P (f a)
Ends {A} P l = (a : A) → P a

spelled_ends : {A : Type 0} (P : A → Type 0) (l : Layout A) → Ends P l
    → (b : Bytes) (v : A) (r d : Bytes)
    → Spells l b v r d → P v
spelled_ends P (done a) h b v r d s = subst P (sym s.0) h
spelled_ends P (refuse e) h b v r d s = absurd s
spelled_ends P (chain l f) h b v r d (a, m, d1, d2, s, t, e) = spelled_ends P (f a) (h a) m v r d2 t
spelled_ends P l h b v r d s = h v

then_ok : {X Y : Type 0} (r : Result X Refusal) (f : X → Result Y Refusal) (y : Y)
    → (r and_then f) ≡ Ok y
    → (x : X) × (f x ≡ Ok y)
then_ok (Ok x) f y e = (x, e)
then_ok (Err r) f y e = cc

done_is : {A : Type 0} (a : A) (b : Bytes) (x : A × Bytes)
    → ◌≡◌ {A = Result (A × Bytes) Refusal} (Ok (a, b)) (Ok x)
    → a ≡ x.0
done_is a b x e = cc

read_ends : {A : Type 0} (P : A → Type 0) (l : Layout A) → Ends P l → (b : Bytes) (x : A × Bytes)
    → reading l b ≡ Ok x → P x.0
read_ends P (done a) h b x e = subst P (done_is a b x e) h
read_ends P (refuse k) h b x e = cc
read_ends P (chain l f) h b x e =
    let y = then_ok (reading l b) _ x e in
    read_ends P (f y.0.0) (h y.0.0) y.0.1 x y.1
read_ends P l h b x e = h x.0

-- the layout's values are messages of type k alone
abbrev Makes : ℕ → Layout Handshake → Type 0
Makes k l = Ends (λ m. k ≡ msg_type_of m) l

either_way : (k : ℕ) (t : Bool) (l m : Layout Handshake) → Makes k l → Makes k m
    → Makes k (choose t l m)
either_way k true l m one two = one
either_way k false l m one two = two

-- the body of this type, or of a later one
chosen : (msg_type k : ℕ) (l m : Layout Handshake) → Makes k l → Makes msg_type m
    → Makes msg_type (choose (msg_type == k) l m)
chosen msg_type k l m one two = go (msg_type == k) refl
  where
    go : (t : Bool) → msg_type == k ≡ t → Makes msg_type (choose t l m)
    go true e = subst (λ n. Makes n l) (sym (eqb-true msg_type k e)) one
    go false e = two

finished_makes : (msg_type n : ℕ) → Makes msg_type (body_from_finished msg_type n)
unfolding body_from_finished finished_body certificate_status_body key_update_body
    next_protocol_body
finished_makes msg_type n = search (chosen) depth 20

certificate_makes : (msg_type n : ℕ) → Makes msg_type (body_from_certificate msg_type n)
unfolding body_from_certificate certificate_body server_key_exchange_body certificate_request_body
    server_done_body
    certificate_verify_body client_key_exchange_body
certificate_makes msg_type n = search (chosen, finished_makes) depth 20

server_hello_makes : Makes 2 server_hello_body
unfolding server_hello_body
server_hello_makes x = search (either_way) depth 20

handshake_makes : (msg_type n : ℕ) → Makes msg_type (handshake_body msg_type n)
unfolding handshake_body hello_request_body client_hello_body new_session_ticket_body
    end_of_early_data_body
    hello_retry_request_body
handshake_makes msg_type n = search (chosen, server_hello_makes, certificate_makes) depth 20

pub body_makes : (msg_type n : ℕ) (b : Bytes) (m : Handshake) (r d : Bytes)
    → Spells (handshake_body msg_type n) b m r d → msg_type ≡ msg_type_of m
body_makes msg_type n = spelled_ends (λ m. msg_type ≡ msg_type_of m) (handshake_body msg_type n)
    (handshake_makes msg_type n)

pub body_reads : (msg_type n : ℕ) (b : Bytes) (x : Handshake × Bytes)
    → reading (handshake_body msg_type n) b ≡ Ok x → msg_type ≡ msg_type_of x.0
body_reads msg_type n = read_ends (λ m. msg_type ≡ msg_type_of m) (handshake_body msg_type n)
    (handshake_makes msg_type n)
