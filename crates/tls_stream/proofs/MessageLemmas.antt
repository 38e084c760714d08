-- A message parses by itself as it does in its stream.
use Rattle.std.proofs.Common.{
  ◌≡◌,
  ℕ,
  ◌+◌,
  ◌-◌,
  ◌≤◌,
  [],
  ◌∷◌,
  cond,
  length,
  take,
  drop,
  Some,
  Ok,
  Err,
  refl,
  sym,
  ◌∙◌,
  ap,
  arith,
  le_refl,
  ◌<◌,
  ltb,
  Bool,
  true,
  false,
}
use Rattle.std.proofs.lemmas.Bool.{le-ltb, lt-ltb, ltb-true, ltb-false}
use Rattle.std.proofs.lemmas.List.{drop-drop, drop-take, take-take, length-drop, length-take-le}
use Rattle.std.proofs.Math.Seq.{drop-length}
use Rattle.layouts.specs.Bytes.{Bytes, number_of}
use Rattle.layouts.specs.Layout.{Layout, done, number, window, chain}
use Rattle.layouts.specs.Meaning.{Answer, Lacks}
use Rattle.layouts.specs.Reading.{reading, number_at, split_at, ◌and_then◌}
use Rattle.layouts.proofs.OneAnswerLemmas.{number_read}
use Rattle.tls_hs.specs.Message.{Message, handshake, Handshake}
use Rattle.tls_hs.specs.Handshake as handshakes
use Rattle.tls_stream.specs.Frames.{IsWhole, front, size, body_length}
use Rattle.tls_stream.specs.Records.{message_frame, with_rest}
use Rattle.tls_stream.proofs.FrontLemmas.{first_in}

number_then : {A : Type 0} (k : ℕ) (f : ℕ → Layout A) (b : Bytes) → k ≤ length b
    → reading (chain (number k) f) b ≡ reading (f (number_of (take k b))) (drop k b)
number_then k f b enough = ap (λ a. a and_then λ x. reading (f x.0) x.1)
    (number_read k b (take k b) (drop k b) (number_of (take k b)) enough refl refl refl)

split_here : (k : ℕ) (b : Bytes) → k ≤ length b → split_at k b ≡ Ok (take k b, drop k b)
unfolding split_at
split_here k b h =
    ap (λ t. cond {A = Answer Bytes} t (Err (Lacks (k - length b))) (Ok (take k b, drop k b)))
    (le-ltb (length b) k h)

-- the body's answer as the message's, with this rest
abbrev with_body : Bytes → handshakes.Handshake × Bytes → Answer handshakes.Handshake
with_body r x = Ok (x.0, r)

abbrev as_message : handshakes.Handshake × Bytes → Answer Message
as_message x = Ok (Handshake x.0, x.1)

abbrev after : Bytes → Answer handshakes.Handshake → Answer Message
after r a = (a and_then with_body r) and_then as_message

abbrev in_window : ℕ → ℕ → Bytes × Bytes → Answer handshakes.Handshake
in_window t n w = reading (handshakes.handshake_body t n) w.0 and_then with_body w.1

abbrev message_in : ℕ → ℕ → Answer Bytes → Answer Message
message_in t n s = (s and_then in_window t n) and_then as_message

rest_after : (r : Bytes) (a : Answer handshakes.Handshake) → after r a ≡ with_rest r (after [] a)
rest_after r (Ok x) = refl
rest_after r (Err e) = refl

abbrev kind : Bytes → ℕ
kind b = number_of (take 1 b)

abbrev long : Bytes → ℕ
long b = number_of (take 3 (drop 1 b))

abbrev behind : Bytes → Bytes
behind b = drop 3 (drop 1 b)

read_handshake : (b : Bytes) → 4 + long b ≤ length b
    → reading handshake b ≡ after (drop (long b) (behind b))
    (reading (handshakes.handshake_body (kind b) (long b)) (take (long b) (behind b)))
unfolding handshake
read_handshake b h =
    number_then 1 (λ t. chain (number 3) (λ n. chain (window n (handshakes.handshake_body t n))
    (λ m. done (Handshake m)))) b (omega (arith, h))
    ∙ number_then 3
    (λ n. chain (window n (handshakes.handshake_body (kind b) n)) (λ m. done (Handshake m)))
    (drop 1 b)
    (omega (arith, h, length-drop 1 b))
    ∙ ap (message_in (kind b) (long b))
    (split_here (long b) (behind b) (omega (arith, h, length-drop 1 b, length-drop 3 (drop 1 b))))

length_is : (limit : ℕ) (b : Bytes) → 4 ≤ length b → body_length (message_frame limit) b ≡ long b
length_is limit (a ∷ b ∷ c ∷ d ∷ r) h = omega arith
length_is limit b h = absurd (omega (arith, h))

pub message_is_read : (limit : ℕ) (b y r : Bytes) → front (message_frame limit) b ≡ Some (y, r)
    → reading handshake b ≡ with_rest r (reading handshake y)
message_is_read limit b y r e =
    let i = first_in (message_frame limit) b (y, r) e in
    let n = long b in
    let whole : size (message_frame limit) b ≤ length b = i.is_whole in
    let same : size (message_frame limit) b ≡ 4 + n =
    omega (arith, length_is limit b (omega (arith, whole))) in
    let enough : 4 + n ≤ length b = omega (arith, same, whole) in
    let y_is : y ≡ take (4 + n) b = i.frame_is ∙ ap (λ k. take k b) same in
    let r_is : r ≡ drop (4 + n) b = i.rest_is ∙ ap (λ k. drop k b) same in
    read_both b y r n refl enough y_is r_is
  where
    read_both : (b y r : Bytes) (n : ℕ) → long b ≡ n → 4 + n ≤ length b → y ≡ take (4 + n) b
        → r ≡ drop (4 + n) b
        → reading handshake b ≡ with_rest r (reading handshake y)
    read_both b y r n is enough y_is r_is =
        let w = take n (behind b) in
        let deep : n ≤ length (behind b) =
        omega (arith, enough, length-drop 1 b, length-drop 3 (drop 1 b)) in
        let first : take 1 y ≡ take 1 b = ap (λ y. take 1 y) y_is
        ∙ take-take 1 (4 + n) b (omega arith) in
        let one : 4 + n ≡ 1 + (3 + n) = omega arith in
        let past : drop 1 y ≡ take (3 + n) (drop 1 b) =
        ap (λ y. drop 1 y) y_is ∙ ap (λ k. drop 1 (take k b)) one ∙ drop-take 1 (3 + n) b in
        let long_y : long y ≡ n = ap (λ d. number_of (take 3 d)) past
        ∙ ap number_of (take-take 3 (3 + n) (drop 1 b) (omega arith)) ∙ is in
        let behind_y : behind y ≡ w = ap (λ d. drop 3 d) past ∙ drop-take 3 n (drop 1 b) in
        let body_y : take (long y) (behind y) ≡ w =
        ap (λ k. take k (behind y)) long_y ∙ ap (λ d. take n d) behind_y
        ∙ take-take n n (behind b) (le_refl n) in
        let none_y : drop (long y) (behind y) ≡ [] =
        ap (λ k. drop k (behind y)) long_y ∙ ap (λ d. drop n d) behind_y
        ∙ ap (λ k. drop k w) (sym (length-take-le n (behind b) deep)) ∙ drop-length w in
        let four : behind b ≡ drop 4 b = drop-drop 3 1 b in
        let rest_b : drop n (behind b) ≡ r = ap (λ d. drop n d) four ∙ drop-drop n 4 b
        ∙ ap (λ k. drop k b) (omega arith) ∙ sym r_is in
        let all_y : 4 + long y ≤ length y =
        omega (arith, long_y, ap length y_is, length-take-le (4 + n) b enough) in
        let of_b : reading handshake b ≡ after r
        (reading (handshakes.handshake_body (kind b) n) w) =
        read_handshake b (omega (arith, is, enough))
        ∙ ap (λ k. after (drop k (behind b))
        (reading (handshakes.handshake_body (kind b) k) (take k (behind b)))) is
        ∙ ap (λ s. after s (reading (handshakes.handshake_body (kind b) n) w)) rest_b in
        let of_y : reading handshake y ≡ after []
        (reading (handshakes.handshake_body (kind b) n) w) =
        read_handshake y all_y
        ∙ ap (λ s. after s
        (reading (handshakes.handshake_body (kind y) (long y)) (take (long y) (behind y)))) none_y
        ∙ ap (λ v. after [] (reading (handshakes.handshake_body (kind y) (long y)) v)) body_y
        ∙ ap (λ k. after [] (reading (handshakes.handshake_body (kind y) k) w)) long_y
        ∙ ap (λ k. after [] (reading (handshakes.handshake_body (number_of k) n) w)) first in
        of_b ∙ rest_after r (reading (handshakes.handshake_body (kind b) n) w)
        ∙ ap (with_rest r) (sym of_y)

-- If a message isn't whole, more bytes are asked for.
split_short : (k : ℕ) (b : Bytes) → length b < k → split_at k b ≡ Err (Lacks (k - length b))
unfolding split_at
split_short k b h =
    ap (λ t. cond {A = Answer Bytes} t (Err (Lacks (k - length b))) (Ok (take k b, drop k b)))
    (lt-ltb (length b) k h)

abbrev number_in : Answer Bytes → Answer ℕ
number_in a = a and_then λ x. Ok (number_of x.0, x.1)

number_short : {A : Type 0} (k : ℕ) (f : ℕ → Layout A) (b : Bytes) → length b < k
    → reading (chain (number k) f) b ≡ Err (Lacks (k - length b))
unfolding number_at
number_short k f b h = ap (λ s. number_in s and_then λ x. reading (f x.0) x.1) (split_short k b h)

abbrev Waits : Bytes → Type 0
Waits b = (n : ℕ) × (reading handshake b ≡ Err (Lacks n))

abbrev behind_length : ℕ → ℕ → Layout Message
behind_length t n = chain (window n (handshakes.handshake_body t n)) (λ m. done (Handshake m))

abbrev behind_type : ℕ → Layout Message
behind_type t = chain (number 3) (behind_length t)

type_short : (b : Bytes) → length b < 1 → Waits b
unfolding handshake
type_short b h = (1 - length b, number_short 1 behind_type b h)

length_short : (b : Bytes) → 1 ≤ length b → length b < 4 → Waits b
unfolding handshake
length_short b one h = (
  3 - length (drop 1 b),
  number_then 1 behind_type b one ∙ number_short 3 (behind_length (kind b)) (drop 1 b)
      (omega (arith, h, length-drop 1 b)),
)

body_short : (b : Bytes) → 4 ≤ length b → length (behind b) < long b → Waits b
unfolding handshake
body_short b enough h = (
  long b - length (behind b),
  number_then 1 behind_type b (omega (arith, enough))
      ∙ number_then 3 (behind_length (kind b)) (drop 1 b) (omega (arith, enough, length-drop 1 b))
      ∙ ap (message_in (kind b) (long b)) (split_short (long b) (behind b) h),
)

pub message_waits : (limit : ℕ) (b : Bytes) → (IsWhole (message_frame limit) b → ⊥) → Waits b
message_waits limit b not = of_type (ltb (length b) 1) refl
  where
    of_body : 4 ≤ length b → (t : Bool) → ltb (length (behind b)) (long b) ≡ t → Waits b
    of_body enough true e = body_short b enough (ltb-true (length (behind b)) (long b) e)
    of_body enough false e =
        let all : long b ≤ length (behind b) = ltb-false (length (behind b)) (long b) e in
        let whole : size (message_frame limit) b ≤ length b =
        omega (
          arith,
          length_is limit b enough,
          all,
          length-drop 1 b,
          length-drop 3 (drop 1 b),
          enough,
        ) in
        absurd (not whole)

    of_length : 1 ≤ length b → (t : Bool) → ltb (length b) 4 ≡ t → Waits b
    of_length one true e = length_short b one (ltb-true (length b) 4 e)
    of_length one false e =
        of_body (ltb-false (length b) 4 e) (ltb (length (behind b)) (long b)) refl

    of_type : (t : Bool) → ltb (length b) 1 ≡ t → Waits b
    of_type true e = type_short b (ltb-true (length b) 1 e)
    of_type false e = of_length (ltb-false (length b) 1 e) (ltb (length b) 4) refl
