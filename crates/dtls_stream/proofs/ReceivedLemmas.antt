-- The buffer agrees with the state.
use Rattle.std.proofs.Common.{
  ◌≡◌,
  ℕ,
  ◌+◌,
  ◌<◌,
  ◌≤◌,
  Bool,
  true,
  false,
  cond,
  nat_eq,
  nat_lt,
  nat_le,
  Some,
  None,
  Option,
  Result,
  Ok,
  Err,
  List,
  [],
  ◌∷◌,
  ◌++◌,
  refl,
  sym,
  ◌∙◌,
  ap,
  subst,
  arith,
}
use Rattle.std.specs.Prelude.{◌==◌, OnOk}
use Rattle.std.proofs.Common.{append-nil}
use Rattle.std.proofs.lemmas.Bool.{le-ltb, lt-leb, eq-eqb, eqb-true, eqb-false}
use Rattle.dtls_stream.specs.Fragments.{Fragment, Held, agrees, byte_at, first_at, or_else}
use Rattle.dtls_stream.specs.Messages.{
  Received,
  IsChangedAt,
  IsOrMemory,
  IsPart,
  IsSlotAdded,
  Kept,
  Limits,
  Stands,
  agreed,
  of_message,
  slot,
  slot_judged,
  verdict,
  view_limits,
  with_taken,
}
use Rattle.dtls_stream.specs.declared.fragments.FragmentError.{FragmentError}
use Rattle.dtls_stream.specs.declared.fragments.FragmentError.TheVariants.{Old, TooFarAhead, TooLarge, OtherMessage}
use Rattle.dtls_stream.proofs.FragmentLemmas.{or_none}

eqb-ne : (a b : ℕ) → (a ≡ b → ⊥) → (a == b) ≡ false
eqb-ne a b not = go (a == b) refl
  where
    go : (t : Bool) → (a == b) ≡ t → t ≡ false
    go true e = absurd (not (eqb-true a b e))
    go false e = refl

-- The fragments of a message, and one more.
pub of_message_more : (seq : ℕ) (ts : List Fragment) (f : Fragment)
    → of_message seq (ts ++ f ∷ []) ≡ of_message seq ts ++ of_message seq (f ∷ [])
of_message_more seq [] f = refl
of_message_more seq (t ∷ ts) f = go (t.message_seq == seq) (of_message_more seq ts f)
  where
    go : (b : Bool) → of_message seq (ts ++ f ∷ []) ≡ of_message seq ts ++ of_message seq (f ∷ []) →
        cond b (t ∷ of_message seq (ts ++ f ∷ [])) (of_message seq (ts ++ f ∷ []))
        ≡ cond b (t ∷ of_message seq ts) (of_message seq ts) ++ of_message seq (f ∷ [])
    go true e = ap (λ gs. t ∷ gs) e
    go false e = e

pub of_message_same : (seq : ℕ) (f : Fragment) → f.message_seq ≡ seq
    → of_message seq (f ∷ []) ≡ f ∷ []
of_message_same seq f e = ap (λ b. cond b (f ∷ []) []) (eq-eqb f.message_seq seq e)

pub of_message_other : (seq : ℕ) (f : Fragment) → (f.message_seq ≡ seq → ⊥)
    → of_message seq (f ∷ []) ≡ []
of_message_other seq f not = ap (λ b. cond b (f ∷ []) []) (eqb-ne f.message_seq seq not)

-- The first of them is one of them.
pub of_message_first : (seq : ℕ) (ts : List Fragment) (g : Fragment) (gs : List Fragment)
    → of_message seq ts ≡ g ∷ gs
    → g.message_seq ≡ seq
of_message_first seq [] g gs e = absurd cc
of_message_first seq (t ∷ ts) g gs e =
    go (t.message_seq == seq) refl (of_message_first seq ts g gs) e
  where
    go : (b : Bool) → (t.message_seq == seq) ≡ b
        → (of_message seq ts ≡ g ∷ gs → g.message_seq ≡ seq)
        → cond b (t ∷ of_message seq ts) (of_message seq ts) ≡ g ∷ gs → g.message_seq ≡ seq
    go true e again is = let same : t ≡ g = cc in ap (λ f. f.message_seq) (sym same)
        ∙ eqb-true t.message_seq seq e
    go false e again is = again is

-- A slot refuses as the state does.
pub judged_as_received : (gs : List Fragment) (o : Option Held) (f : Fragment)
    → ((g : Fragment) (rest : List Fragment) → gs ≡ g ∷ rest → g.message_seq ≡ f.message_seq) →
    IsPart gs o → slot_judged o f ≡ agreed gs f
judged_as_received [] None f first is = refl
judged_as_received [] (Some h) f first is = absurd is
judged_as_received (g ∷ gs) None f first is = absurd is
judged_as_received (g ∷ gs) (Some h) f first is =
    ap (λ b. cond {A = Result Unit FragmentError} b (agrees h.size f) (Err OtherMessage))
    (eq-eqb h.message_seq f.message_seq (is.same.message_seq ∙ first g gs refl))
    ∙ ap (λ n. agrees n f) is.same.size

-- A fragment that is near enough and not too large is judged by the others of its message.
pub verdict_near : (l : Limits) (h : Received) (f : Fragment) → h.next ≤ f.message_seq
    → f.message_seq < h.next + l.ahead
    → f.length ≤ l.message →
    verdict l h f ≡ agreed (of_message f.message_seq h.taken) f
verdict_near l h f new near small =
    ap (λ b. cond {A = Result Unit FragmentError} b (Err Old)
    (cond (nat_le (h.next + l.ahead) f.message_seq) (Err TooFarAhead)
    (cond (nat_lt l.message f.length) (Err TooLarge)
    (agreed (of_message f.message_seq h.taken) f))))
    (le-ltb f.message_seq h.next new)
    ∙ ap (λ b. cond {A = Result Unit FragmentError} b (Err TooFarAhead)
    (cond (nat_lt l.message f.length) (Err TooLarge) (agreed (of_message f.message_seq h.taken) f)))
    (lt-leb (h.next + l.ahead) f.message_seq near)
    ∙ ap (λ b. cond {A = Result Unit FragmentError} b (Err TooLarge)
    (agreed (of_message f.message_seq h.taken) f))
    (le-ltb l.message f.length small)

pub answered : (l : Limits) (h : Received) (k : Kept) (f : Fragment) (at : ℕ)
    (r : Result Unit FragmentError)
    → Stands l h k →
    k.next + at ≡ f.message_seq → at < k.limits.ahead → f.length ≤ k.limits.message →
    IsOrMemory r (slot_judged (slot k at) f) → IsOrMemory r (verdict l h f)
answered l h k f at r st there near small or_memory =
    let ahead : k.limits.ahead ≡ l.ahead = ap (λ a. a.ahead) st.limits in
    let message : k.limits.message ≡ l.message = ap (λ a. a.message) st.limits in
    let seq : h.next + at ≡ f.message_seq = omega (arith, there, st.next) in
    let same : slot_judged (slot k at) f ≡ verdict l h f =
    judged_as_received (of_message f.message_seq h.taken) (slot k at) f
    (λ g rest e. of_message_first f.message_seq h.taken g rest e)
    (subst (λ n. IsPart (of_message n h.taken) (slot k at)) seq (st.each at))
    ∙ sym (verdict_near l h f (omega (arith, seq)) (omega (arith, seq, near, ahead))
    (omega (arith, small, message))) in
    subst (IsOrMemory r) same or_memory

-- One more fragment of a message.
or_assoc : (a b c : Option ℕ) → or_else (or_else a b) c ≡ or_else a (or_else b c)
or_assoc None b c = refl
or_assoc (Some x) b c = refl

pub first_at_more : (fs : List Fragment) (f : Fragment) (i : ℕ)
    → first_at (fs ++ f ∷ []) i ≡ or_else (first_at fs i) (byte_at f i)
first_at_more [] f i = or_none (byte_at f i)
first_at_more (g ∷ fs) f i = ap (or_else (byte_at g i)) (first_at_more fs f i)
    ∙ sym (or_assoc (byte_at g i) (first_at fs i) (byte_at f i))

pub part_more : (gs : List Fragment) (o n : Option Held) (f : Fragment) → IsPart gs o
    → IsSlotAdded o f n
    → IsPart (gs ++ f ∷ []) n
part_more [] None None f is added = absurd added
part_more [] None (Some n) f is added = added
part_more [] (Some h) n f is added = absurd is
part_more (g ∷ gs) None n f is added = absurd is
part_more (g ∷ gs) (Some h) None f is added = absurd added
part_more (g ∷ gs) (Some h) (Some n) f is added = record {
  same = record {
    msg_type = added.msg_type ∙ is.same.msg_type;
    size = added.size ∙ is.same.size;
    message_seq = added.message_seq ∙ is.same.message_seq;
  };
  bytes = λ i. added.bytes i ∙ ap (λ b. or_else b (byte_at f i)) (is.bytes i)
      ∙ sym (first_at_more (g ∷ gs) f i);
}

pub stands_more : (l : Limits) (h : Received) (k new : Kept) (f : Fragment) (at : ℕ) → Stands l h k
    → k.next + at ≡ f.message_seq → at < k.limits.ahead →
    IsSlotAdded (slot k at) f (slot new at) → IsChangedAt k at new
    → Stands l (record h { taken = with_taken h f }) new
stands_more l h k new f at st there near added changed = record {
  limits = ap view_limits changed.limits ∙ st.limits;
  next = changed.next ∙ st.next;
  few = let ahead : k.limits.ahead ≡ l.ahead = ap (λ a. a.ahead) st.limits in
      changed.few l.ahead st.few (omega (arith, near, ahead));
  each = λ i. go i (nat_eq i at) refl;
}
  where
    go : (i : ℕ) (t : Bool) → nat_eq i at ≡ t
        → IsPart (of_message (h.next + i) (h.taken ++ f ∷ [])) (slot new i)
    go i true e =
        let here : i ≡ at = eqb-true i at e in
        let seq : f.message_seq ≡ h.next + i = omega (arith, here, there, st.next) in
        subst (λ gs. IsPart gs (slot new i))
        (sym (of_message_more (h.next + i) h.taken f
        ∙ ap (λ gs. of_message (h.next + i) h.taken ++ gs) (of_message_same (h.next + i) f seq)))
        (part_more (of_message (h.next + i) h.taken) (slot k i) (slot new i) f (st.each i)
        (subst (λ j. IsSlotAdded (slot k j) f (slot new j)) (sym here) added))
    go i false e =
        let other : i ≡ at → ⊥ = eqb-false i at e in
        let away : f.message_seq ≡ h.next + i → ⊥ = λ s. other (omega (arith, s, there, st.next)) in
        subst (λ gs. IsPart gs (slot new i))
        (sym (of_message_more (h.next + i) h.taken f
        ∙ ap (λ gs. of_message (h.next + i) h.taken ++ gs) (of_message_other (h.next + i) f away)
        ∙ append-nil (of_message (h.next + i) h.taken)))
        (subst (IsPart (of_message (h.next + i) h.taken)) (sym (changed.others i other))
        (st.each i))

pub taken_ok : (l : Limits) (h : Received) (k new : Kept) (f : Fragment) (at : ℕ)
    (r : Result Unit FragmentError)
    → Stands l h k → k.next + at ≡ f.message_seq → at < k.limits.ahead →
    OnOk r (IsSlotAdded (slot k at) f (slot new at)) → OnOk r (IsChangedAt k at new)
    → OnOk r (Stands l (record h { taken = with_taken h f }) new)
taken_ok l h k new f at (Ok t) st there near added changed =
    stands_more l h k new f at st there near added changed
taken_ok l h k new f at (Err e) st there near added changed = tt
