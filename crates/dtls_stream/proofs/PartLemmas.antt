-- The buffer of a message agrees with its fragments.
use Rattle.std.proofs.Common.{
  ◌≡◌,
  ◌↔◌,
  ℕ,
  zero,
  suc,
  ◌+◌,
  ◌<◌,
  true,
  Some,
  None,
  Option,
  List,
  [],
  ◌∷◌,
  length,
  refl,
  sym,
  ◌∙◌,
  ap,
  subst,
  arith,
}
use Rattle.std.specs.Prelude.{IsSome, IfSome, is_some, slice_index}
use Rattle.std.specs.Borrow.{Bor}
use Rattle.std.specs.Option.{option_map}
use Rattle.layouts.specs.Bytes.{Bytes}
use Rattle.segments.specs.Cells.{run}
use Rattle.dtls_stream.specs.Fragments.{Fragment, Held, IsBody, IsComplete, first_at}
use Rattle.dtls_stream.specs.Messages.{
  Received,
  IsPart,
  Kept,
  Limits,
  Stands,
  bytes_from,
  message_of,
  of_message,
  slot,
  with_byte,
}

-- Bytes that are known at each place.
pub bytes_some : (fs : List Fragment) (i n : ℕ) (b : Bytes) → length b ≡ n
    → ((k : ℕ) → k < n → first_at fs (i + k) ≡ Some (slice_index b k)) → bytes_from fs i n ≡ Some b
bytes_some fs i zero [] e at = refl
bytes_some fs i zero (x ∷ b) e at = absurd (omega (arith, e))
bytes_some fs i (suc n) [] e at = absurd (omega (arith, e))
bytes_some fs i (suc n) (x ∷ b) e at =
    let first : first_at fs i ≡ Some x = ap (first_at fs) (omega arith) ∙ at 0 (omega arith) in
    let rest : bytes_from fs (suc i) n ≡ Some b =
    bytes_some fs (suc i) n b (omega (arith, e))
    (λ k l. ap (first_at fs) (omega arith) ∙ at (suc k) (omega (arith, l))) in
    ap (λ o. with_byte o (bytes_from fs (suc i) n)) first ∙ ap (with_byte (Some x)) rest

-- Each place of the bytes is known.
pub bytes_all : (fs : List Fragment) (i n : ℕ) (b : Bytes) → bytes_from fs i n ≡ Some b
    → (k : ℕ) → k < n
    → IsSome (first_at fs (i + k))
bytes_all fs i zero b e k l = absurd (omega (arith, l))
bytes_all fs i (suc n) b e k l =
    go (first_at fs i) refl (bytes_from fs (suc i) n) refl e (λ c g. bytes_all fs (suc i) n c g)
  where
    go : (o : Option ℕ) → first_at fs i ≡ o → (r : Option Bytes) → bytes_from fs (suc i) n ≡ r
        → with_byte o r ≡ Some b
        →
        ((c : Bytes) → bytes_from fs (suc i) n ≡ Some c → (k : ℕ) → k < n
        → IsSome (first_at fs (suc i + k)))
        → IsSome (first_at fs (i + k))
    go None e r g s again = absurd cc
    go (Some x) e None g s again = absurd cc
    go (Some x) e (Some c) g s again = at k l (again c g)
      where
        at : (k : ℕ) → k < suc n → ((k : ℕ) → k < n → IsSome (first_at fs (suc i + k)))
            → IsSome (first_at fs (i + k))
        at zero l more = let same : first_at fs (i + 0) ≡ Some x =
            ap (first_at fs) (omega arith) ∙ e in
            subst IsSome (sym same) refl
        at (suc k) l more =
            subst (λ j. IsSome (first_at fs j)) (omega arith) (more k (omega (arith, l)))

-- A message whose bytes are all known.
pub part_message : (fs : List Fragment) (h : Held) (b : Bytes) → IsPart fs (Some h) → IsBody h b →
    message_of fs ≡ Some (record { msg_type = h.msg_type; message_seq = h.message_seq; body = b })
part_message [] h b is body = absurd is
part_message (f ∷ fs) h b is body =
    let there : bytes_from (f ∷ fs) 0 f.length ≡ Some b =
    bytes_some (f ∷ fs) 0 f.length b (body.size ∙ is.same.size)
    (λ k l. ap (first_at (f ∷ fs)) (omega arith) ∙ sym (is.bytes k)
    ∙ body.bytes k (omega (arith, l, is.same.size))) in
    ap (option_map (λ b. record { msg_type = f.msg_type; message_seq = f.message_seq; body = b }))
    there
    ∙ ap (λ t. Some (record { msg_type = t; message_seq = f.message_seq; body = b }))
    (sym is.same.msg_type)
    ∙ ap (λ s. Some (record { msg_type = h.msg_type; message_seq = s; body = b }))
    (sym is.same.message_seq)

-- A message that misses a byte.
pub part_none : (fs : List Fragment) (h : Held) → IsPart fs (Some h) → (IsComplete h → ⊥)
    → message_of fs ≡ None
part_none [] h is not = refl
part_none (f ∷ fs) h is not = go (bytes_from (f ∷ fs) 0 f.length) refl
  where
    go : (o : Option Bytes) → bytes_from (f ∷ fs) 0 f.length ≡ o → message_of (f ∷ fs) ≡ None
    go None e = ap (option_map
        (λ b. record { msg_type = f.msg_type; message_seq = f.message_seq; body = b })) e
    go (Some b) e = absurd (not (λ i l. subst IsSome (sym (is.bytes i))
        (subst (λ j. IsSome (first_at (f ∷ fs) j)) (omega arith)
        (bytes_all (f ∷ fs) 0 f.length b e i (omega (arith, l, is.same.size))))))

pub part_empty : (fs : List Fragment) → IsPart fs None → message_of fs ≡ None
part_empty [] is = refl
part_empty (f ∷ fs) is = absurd is

-- The buffer of the next message.
pub front_part : (l : Limits) (h : Received) (k : Kept) (o : Option Held) → Stands l h k → slot k 0 ≡ o
    → IsPart (of_message h.next h.taken) o
front_part l h k o st e =
    subst (λ n. IsPart (of_message n h.taken) o) (omega arith)
    (subst (IsPart (of_message (h.next + 0) h.taken)) e (st.each 0))

pub front_some : (l : Limits) (h : Received) (k : Kept) (p : Held) (b : Bytes) → Stands l h k
    → slot k 0 ≡ Some p
    → IsBody p b →
    Some (record { msg_type = p.msg_type; message_seq = p.message_seq; body = b })
    ≡ message_of (of_message h.next h.taken)
front_some l h k p b st e body =
    sym (part_message (of_message h.next h.taken) p b (front_part l h k (Some p) st e) body)

pub front_none : (l : Limits) (h : Received) (k : Kept) (p : Held) → Stands l h k → slot k 0 ≡ Some p
    → (IsComplete p → ⊥)
    → None ≡ message_of (of_message h.next h.taken)
front_none l h k p st e not =
    sym (part_none (of_message h.next h.taken) p (front_part l h k (Some p) st e) not)

-- Whether it is whole.
pub front_whole : (l : Limits) (h : Received) (k : Kept) (p : Held) (o : Option (Bor (List ℕ)))
    → Stands l h k
    → slot k 0 ≡ Some p →
    (IsSome o ↔ IsComplete p) → IfSome o (λ b. IsBody p b.now)
    → is_some o ≡ is_some (message_of (of_message h.next h.taken))
front_whole l h k p None st e whole body =
    ap is_some (front_none l h k p st e (λ all. let some = whole.1 all in absurd cc))
front_whole l h k p (Some b) st e whole body = ap is_some (front_some l h k p b.now st e body)

pub body_held : (o : Option (Bor (List ℕ))) (p : Held) → IfSome o (λ b. IsBody p b.now)
    → IfSome o (λ b. b.now ≡ run p.cells)
    → is_some o ≡ true → IsBody p (run p.cells)
body_held None p body held some = absurd cc
body_held (Some b) p body held some = subst (IsBody p) held body
