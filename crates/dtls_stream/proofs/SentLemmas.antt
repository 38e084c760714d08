-- The messages delivered of those that a peer sends.
use Rattle.std.proofs.Common.{
  ◌≡◌,
  ℕ,
  zero,
  suc,
  ◌+◌,
  ◌-◌,
  ◌<◌,
  ◌≤◌,
  Bool,
  true,
  false,
  cond,
  nat_eq,
  nat_lt,
  nat_le,
  Some,
  None,
  Option,
  List,
  [],
  ◌∷◌,
  length,
  take,
  drop,
  refl,
  sym,
  ◌∙◌,
  ap,
  subst,
  arith,
  get_or,
}
use Rattle.std.specs.Prelude.{IsSome, slice_index, ◌==◌}
use Rattle.std.specs.Option.{option_map}
use Rattle.std.proofs.lemmas.Bool.{ltb-true, ltb-false, leb-true, leb-false, eqb-true, eqb-false}
use Rattle.std.proofs.lemmas.List.{get_or-take, get_or-drop}
use Rattle.std.proofs.Math.Seq.{drop-cons}
use Rattle.layouts.specs.Bytes.{Bytes}
use Rattle.dtls_stream.specs.Fragments.{Cover, Fragment, byte_at, first_at, or_else}
use Rattle.dtls_stream.specs.Messages.{Message, bytes_from, followed, message_of, of_message, whole_from}
use Rattle.dtls_stream.specs.Sent.{AreOf, IsCovered, IsOf, Sent, numbered, sent}
use Rattle.dtls_stream.proofs.FragmentLemmas.{given_in, given_below, given_above}
use Rattle.dtls_stream.proofs.ReceivedLemmas.{of_message_first}
use Rattle.dtls_stream.proofs.PartLemmas.{bytes_some, bytes_all}

-- Each is a fragment of this message.
abbrev pub AreAll : Sent → List Fragment → Type 0
AreAll m [] = Unit {0}
AreAll m (f ∷ fs) = IsOf m f × AreAll m fs

pub all_of_message : (ms : List Sent) (seq : ℕ) (fs : List Fragment) → AreOf ms fs
    → AreAll (sent ms seq) (of_message seq fs)
all_of_message ms seq [] of = tt
all_of_message ms seq (f ∷ fs) of = go (f.message_seq == seq) refl (all_of_message ms seq fs of.2)
  where
    go : (b : Bool) → (f.message_seq == seq) ≡ b → AreAll (sent ms seq) (of_message seq fs)
        → AreAll (sent ms seq) (cond b (f ∷ of_message seq fs) (of_message seq fs))
    go true e all = (subst (λ k. IsOf (sent ms k) f) (eqb-true f.message_seq seq e) of.1, all)
    go false e all = all

-- Bytes of the message's fragments are the message's bytes.
byte_of : (m : Sent) (f : Fragment) (i y : ℕ) → IsOf m f → byte_at f i ≡ Some y
    → y ≡ slice_index m.body i
byte_of m f i y of is =
    go (nat_le f.fragment_offset i) (nat_lt i (f.fragment_offset + length f.body)) refl refl
  where
    go : (s t : Bool) → nat_le f.fragment_offset i ≡ s
        → nat_lt i (f.fragment_offset + length f.body) ≡ t
        → y ≡ slice_index m.body i
    go false t e g = let none =
        sym (given_below f.fragment_offset (length f.body) i f.body
        (leb-false f.fragment_offset i e)) ∙ is in absurd cc
    go true false e g = let none =
        sym (given_above f.fragment_offset (length f.body) i f.body
        (ltb-false i (f.fragment_offset + length f.body) g))
        ∙ is in absurd cc
    go true true e g =
        let from : f.fragment_offset ≤ i = leb-true f.fragment_offset i e in
        let to : i < f.fragment_offset + length f.body =
        ltb-true i (f.fragment_offset + length f.body) g in
        let same = sym is ∙ given_in f.fragment_offset (length f.body) i f.body from to in
        let at : y ≡ slice_index f.body (i - f.fragment_offset) = cc in
        at
        ∙ ap (λ b. slice_index b (i - f.fragment_offset)) of.bytes
        ∙ get_or-take (length f.body) (drop f.fragment_offset m.body) (i - f.fragment_offset) 0
        (omega (arith, from, to))
        ∙ get_or-drop f.fragment_offset m.body (i - f.fragment_offset) 0
        ∙ ap (λ j. slice_index m.body j) (omega (arith, from))

first_of : (m : Sent) (fs : List Fragment) (i x : ℕ) → AreAll m fs → first_at fs i ≡ Some x
    → x ≡ slice_index m.body i
first_of m [] i x of is = absurd cc
first_of m (f ∷ fs) i x of is = go (byte_at f i) refl is (first_of m fs i x of.1)
  where
    go : (b : Option ℕ) → byte_at f i ≡ b → or_else b (first_at fs i) ≡ Some x
        → (first_at fs i ≡ Some x → x ≡ slice_index m.body i) → x ≡ slice_index m.body i
    go None e s again = again s
    go (Some y) e s again = let same : x ≡ y = cc in same ∙ byte_of m f i y of.0 e

some_first : (m : Sent) (fs : List Fragment) (i : ℕ) → AreAll m fs → IsSome (first_at fs i)
    → first_at fs i ≡ Some (slice_index m.body i)
some_first m fs i of = go (first_at fs i) refl
  where
    go : (o : Option ℕ) → first_at fs i ≡ o → IsSome o → o ≡ Some (slice_index m.body i)
    go None e s = absurd cc
    go (Some x) e s = ap Some (first_of m fs i x of e)

-- The message of fragments that cover it.
abbrev pub message_at : List Sent → ℕ → Message
message_at ms k =
    record { msg_type = (sent ms k).msg_type; message_seq = k; body = (sent ms k).body }

covered_from : (ms : List Sent) (k : ℕ) (gs : List Fragment)
    → ((g : Fragment) (rest : List Fragment) → gs ≡ g ∷ rest → g.message_seq ≡ k)
    → AreAll (sent ms k) gs →
    Cover gs (length (sent ms k).body) → message_of gs ≡ Some (message_at ms k)
covered_from ms k [] first all cover = absurd (omega (arith, cover.some))
covered_from ms k (g ∷ gs) first all cover =
    let there : bytes_from (g ∷ gs) 0 g.length ≡ Some (sent ms k).body =
    bytes_some (g ∷ gs) 0 g.length (sent ms k).body (sym all.0.size)
    (λ i l. ap (first_at (g ∷ gs)) (omega arith)
    ∙ some_first (sent ms k) (g ∷ gs) i all (cover.each i (omega (arith, l, all.0.size)))) in
    ap (option_map (λ b. record { msg_type = g.msg_type; message_seq = g.message_seq; body = b }))
    there
    ∙ ap (λ t. Some (record { msg_type = t; message_seq = g.message_seq; body = (sent ms k).body }))
    all.0.msg_type
    ∙ ap (λ s. Some
    (record { msg_type = (sent ms k).msg_type; message_seq = s; body = (sent ms k).body }))
    (first g gs refl)

pub covered_message : (ms : List Sent) (fs : List Fragment) (k : ℕ) → AreOf ms fs
    → IsCovered ms fs k
    → message_of (of_message k fs) ≡ Some (message_at ms k)
covered_message ms fs k of cover =
    covered_from ms k (of_message k fs) (λ g rest e. of_message_first k fs g rest e)
    (all_of_message ms k fs of) cover

-- If the message is known, its fragments cover it.
cover_from : (m : Sent) (gs : List Fragment) (x : Message) → AreAll m gs → message_of gs ≡ Some x
    → Cover gs (length m.body)
cover_from m [] x all is = absurd cc
cover_from m (g ∷ gs) x all is = go (bytes_from (g ∷ gs) 0 g.length) refl is
  where
    go : (o : Option Bytes) → bytes_from (g ∷ gs) 0 g.length ≡ o
        → option_map (λ b. record { msg_type = g.msg_type; message_seq = g.message_seq; body = b })
        o ≡ Some x
        → Cover (g ∷ gs) (length m.body)
    go None e is = absurd cc
    go (Some b) e is = record {
      some = omega arith;
      each = λ i l. subst (λ j. IsSome (first_at (g ∷ gs) j)) (omega arith)
          (bytes_all (g ∷ gs) 0 g.length b e i (omega (arith, l, all.0.size)));
    }

pub message_covered : (ms : List Sent) (fs : List Fragment) (k : ℕ) (x : Message) → AreOf ms fs
    → message_of (of_message k fs) ≡ Some x → IsCovered ms fs k
message_covered ms fs k x of is =
    cover_from (sent ms k) (of_message k fs) x (all_of_message ms k fs of) is

-- A known message is one of those sent.
pub number_low : (ms : List Sent) (fs : List Fragment) (k : ℕ) (x : Message) → AreOf ms fs
    → message_of (of_message k fs) ≡ Some x → k < length ms
number_low ms [] k x of is = absurd cc
number_low ms (f ∷ fs) k x of is = go (f.message_seq == k) refl (number_low ms fs k x of.2) is
  where
    go : (b : Bool) → (f.message_seq == k) ≡ b
        → (message_of (of_message k fs) ≡ Some x → k < length ms)
        → message_of (cond b (f ∷ of_message k fs) (of_message k fs)) ≡ Some x → k < length ms
    go true e again is = let same = eqb-true f.message_seq k e in omega (arith, same, of.0)
    go false e again is = again is

-- The messages with their numbers.
pub length-numbered : (k : ℕ) (ms : List Sent) → length (numbered k ms) ≡ length ms
length-numbered k [] = refl
length-numbered k (m ∷ ms) = let again = length-numbered (suc k) ms in omega (arith, again)

numbered_at : (k i : ℕ) (ms : List Sent) (d : Message) → i < length ms
    → get_or (numbered k ms) i d
    ≡ record { msg_type = (sent ms i).msg_type; message_seq = k + i; body = (sent ms i).body }
numbered_at k i [] d l = absurd (omega (arith, l))
numbered_at k zero (m ∷ ms) d l =
    ap (λ s. record { msg_type = m.msg_type; message_seq = s; body = m.body }) (omega arith)
numbered_at k (suc i) (m ∷ ms) d l =
    numbered_at (suc k) i ms d (omega (arith, l))
    ∙ ap (λ s. record { msg_type = (sent ms i).msg_type; message_seq = s; body = (sent ms i).body })
    (omega arith)

next_of : (ms : List Sent) (k : ℕ) → k < length ms
    → drop k (numbered 0 ms) ≡ message_at ms k ∷ drop (suc k) (numbered 0 ms)
next_of ms k l =
    drop-cons (numbered 0 ms) k (message_at ms k) (omega (arith, l, length-numbered 0 ms))
    ∙ ap (λ m. m ∷ drop (suc k) (numbered 0 ms))
    (numbered_at 0 k ms (message_at ms k) l
    ∙ ap (λ s. record { msg_type = (sent ms k).msg_type; message_seq = s; body = (sent ms k).body })
    (omega arith))

-- A run of whole messages.
pub record IsRun (ms : List Sent) (ts : List Fragment) (n k : ℕ) (w : List Message) : Type 0 where
  pub low : k + length w ≤ length ms
  pub front : w ≡ take (length w) (drop k (numbered 0 ms))
  pub covered : (i : ℕ) → k ≤ i → i < k + length w → IsCovered ms ts i
  pub few : length w ≤ n
  pub end : length w < n → message_of (of_message (k + length w) ts) ≡ None

pub run_of : (ms : List Sent) (ts : List Fragment) (n k : ℕ) → AreOf ms ts → k ≤ length ms
    → IsRun ms ts n k (whole_from n k ts)
run_of ms ts zero k of l = record {
  low = omega (arith, l);
  front = refl;
  covered = λ i a b. absurd (omega (arith, a, b));
  few = omega arith;
  end = λ h. absurd (omega (arith, h));
}
run_of ms ts (suc n) k of l =
    go (message_of (of_message k ts)) refl (λ h. run_of ms ts n (suc k) of h)
  where
    go : (o : Option Message) → message_of (of_message k ts) ≡ o
        → (suc k ≤ length ms → IsRun ms ts n (suc k) (whole_from n (suc k) ts)) →
        IsRun ms ts (suc n) k (followed o (whole_from n (suc k) ts))
    go None e again = record {
      low = omega (arith, l);
      front = refl;
      covered = λ i a b. absurd (omega (arith, a, b));
      few = omega arith;
      end = λ h. ap (λ j. message_of (of_message j ts)) (omega arith) ∙ e;
    }
    go (Some x) e again =
        let here : k < length ms = number_low ms ts k x of e in
        let more = again (omega (arith, here)) in
        let cover : IsCovered ms ts k = message_covered ms ts k x of e in
        let same : Some x ≡ Some (message_at ms k) = sym e ∙ covered_message ms ts k of cover in
        let is : x ≡ message_at ms k = cc in
        record {
          low = omega (arith, more.low);
          front = ap (λ m. m ∷ whole_from n (suc k) ts) is
              ∙ ap (λ w. message_at ms k ∷ w) more.front
              ∙ sym (ap (take (suc (length (whole_from n (suc k) ts)))) (next_of ms k here));
          covered = λ i a b. at i a b (nat_eq i k) refl;
          few = omega (arith, more.few);
          end = λ h. ap (λ j. message_of (of_message j ts)) (omega arith)
              ∙ more.end (omega (arith, h));
        }
      where
        at : (i : ℕ) → k ≤ i → i < k + suc (length (whole_from n (suc k) ts)) → (t : Bool)
            → nat_eq i k ≡ t
            → IsCovered ms ts i
        at i a b true e' =
            subst (IsCovered ms ts) (sym (eqb-true i k e')) (message_covered ms ts k x of e)
        at i a b false e' = let other = eqb-false i k e' in
            (again (number_low ms ts k x of e)).covered i (omega (arith, a, other))
            (omega (arith, b))
