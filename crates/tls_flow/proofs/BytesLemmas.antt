-- The kind of a handshake message by its bytes equals that of the parsed message.
use Rattle.std.proofs.Common.{
  ◌≡◌,
  ℕ,
  ◌==◌,
  [],
  Bool,
  true,
  false,
  Ok,
  Err,
  refl,
  sym,
  ◌∙◌,
  ap,
  subst,
}
use Rattle.std.specs.Prelude.{Result, None, if◌then◌else◌}
use Rattle.std.proofs.lemmas.Bool.{eqb-true}
use Rattle.layouts.specs.Bytes.{Bytes}
use Rattle.layouts.specs.Framed.{framed}
use Rattle.layouts.specs.Layout.{counted}
use Rattle.layouts.specs.Meaning.{Refusal}
use Rattle.layouts.specs.Reading.{reading, split_at, number_at, ◌and_then◌}
use Rattle.tls_hs.specs.Handshake as handshakes
use Rattle.tls_hs.specs.HandshakeText.{msg_type_of}
use Rattle.tls_hs.specs.InPlace.{raw_handshake}
use Rattle.tls_hs.specs.Message as messages
use Rattle.tls_hs.proofs.MsgTypeLemmas.{body_reads}
use Rattle.tls_flow.specs.Bytes.{hello_or_draft, kind_of_body, kind_of_hello, kind_of_message, message_of_raw, server_hello_in}
use Rattle.tls_flow.specs.Messages.{kind_of, kind_of_handshake, kind_of_type}
use Rattle.tls_flow.specs.Read.{IsSameKind}

then_ok : {X Y : Type 0} (r : Result X Refusal) (f : X → Result Y Refusal) (y : Y)
    → (r and_then f) ≡ Ok y
    → (x : X) × (r ≡ Ok x) × (f x ≡ Ok y)
then_ok (Ok x) f y e = (x, refl, e)
then_ok (Err r) f y e = cc

ok_is : {X : Type 0} (x y : X) → ◌≡◌ {A = Result X Refusal} (Ok x) (Ok y) → x ≡ y
ok_is x y e = cc

-- A message has the kind of its type, unless it is a ServerHello.
kind_by_type : (m : handshakes.Handshake) → msg_type_of m == 2 ≡ false
    → kind_of_handshake m ≡ kind_of_type (msg_type_of m)
kind_by_type (handshakes.ServerHello hello) e = cc
kind_by_type (handshakes.ServerHelloV13Draft18 hello) e = cc
kind_by_type m e = refl

-- For a body of any type.
same_body : (t n : ℕ) (w : Bytes) (x : handshakes.Handshake × Bytes)
    → reading (handshakes.handshake_body t n) w ≡ Ok x → kind_of_body t w ≡ kind_of_handshake x.0
unfolding handshakes.handshake_body
same_body t n w x e = go (t == 2) refl
  where
    go : (b : Bool) → t == 2 ≡ b → kind_of_body t w ≡ kind_of_handshake x.0
    go true at =
        let is : t ≡ 2 = eqb-true t 2 at in
        let hello : reading handshakes.server_hello_body w ≡ Ok x =
        subst (λ t. reading (handshakes.handshake_body t n) w ≡ Ok x) is e in
        subst (λ t. kind_of_body t w ≡ kind_of_handshake x.0) (sym is)
        (ap (λ a. kind_of_hello (hello_or_draft a w)) hello)
    go false at =
        let is : t ≡ msg_type_of x.0 = body_reads t n w x e in
        let other : kind_of_body t w ≡ kind_of_type t = ap (λ b. if b
        then kind_of_hello (if b then server_hello_in w else None) else kind_of_type t) at in
        other ∙ ap kind_of_type is ∙ sym (kind_by_type x.0 (ap (λ t. t == 2) (sym is) ∙ at))

-- Goes on after an answer that is known.
after : {X Y : Type 0} (r : Result X Refusal) (f : X → Result Y Refusal) (x : X)
    (z : Result Y Refusal)
    → r ≡ Ok x → f x ≡ z → (r and_then f) ≡ z
after r f x z e h = ap (λ r. r and_then f) e ∙ h

-- A message from its type, length and body.
raw_of : (b : Bytes) (t n : ℕ × Bytes) (w : Bytes × Bytes)
    → number_at 1 b ≡ Ok t → number_at 3 t.1 ≡ Ok n → split_at n.0 n.1 ≡ Ok w
    → reading raw_handshake b ≡ Ok (record { kind = t.0; content = w.0 }, w.1)
unfolding framed
raw_of b t n w is_type is_length is_body =
    after (number_at 1 b) _ t _ is_type
    (after (reading (counted 3) t.1) _ w _ (after (number_at 3 t.1) _ n _ is_length is_body) refl)

pub same_kind : (b : Bytes) (m : messages.Message) → IsSameKind b m
unfolding messages.handshake
same_kind b m e =
    let t = then_ok (number_at 1 b) _ (m, []) e in
    let n = then_ok (number_at 3 t.0.1) _ (m, []) t.2 in
    let y = then_ok
    (split_at n.0.0 n.0.1 and_then λ w. reading (handshakes.handshake_body t.0.0 n.0.0) w.0
    and_then λ x. Ok (x.0, w.1)) _ (m, []) n.2 in
    let w = then_ok (split_at n.0.0 n.0.1) _ y.0 y.1 in
    let x = then_ok (reading (handshakes.handshake_body t.0.0 n.0.0) w.0.0) _ y.0 w.2 in
    let is_y : ◌≡◌ {A = handshakes.Handshake × Bytes} (x.0.0, w.0.1) y.0 =
    ok_is (x.0.0, w.0.1) y.0 x.2 in
    let is_m : ◌≡◌ {A = messages.Message × Bytes} (messages.Handshake y.0.0, y.0.1) (m, []) =
    ok_is (messages.Handshake y.0.0, y.0.1) (m, []) y.2 in
    ap (λ r. kind_of_message (message_of_raw r)) (raw_of b t.0 n.0 w.0 t.1 n.1 w.1)
    ∙ same_body t.0.0 n.0.0 w.0.0 x.0 x.1
    ∙ ap (λ (p : handshakes.Handshake × Bytes). kind_of_handshake p.0) is_y
    ∙ ap (λ (p : messages.Message × Bytes). kind_of p.0) is_m
