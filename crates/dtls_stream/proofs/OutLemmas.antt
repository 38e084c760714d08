-- The messages delivered after any fragments.
use Rattle.std.proofs.Common.{
  ◌≡◌,
  ℕ,
  zero,
  suc,
  ◌+◌,
  ◌<◌,
  ◌≤◌,
  Bool,
  true,
  false,
  cond,
  nat_lt,
  nat_le,
  Some,
  None,
  Option,
  Result,
  Ok,
  Err,
  List,
  [],
  ◌∷◌,
  ◌++◌,
  length,
  take,
  drop,
  map,
  refl,
  sym,
  ◌∙◌,
  ap,
  subst,
  arith,
  append_assoc,
  append-nil,
  length-append,
}
use Rattle.std.specs.Prelude.{IsSome}
use Rattle.std.proofs.lemmas.Bool.{le-leb, lt-ltb, eq-eqb, ltb-true, ltb-false, leb-false}
use Rattle.dtls_stream.specs.Fragments.{Cover, Fragment, byte_at, first_at, inside, or_else}
use Rattle.dtls_stream.specs.Messages.{
  Event,
  Alert,
  ChangeCipherSpec,
  Encrypted,
  Failed,
  Handshake,
  Received,
  Limits,
  Message,
  Refused,
  after,
  agreed,
  events,
  received,
  received_by,
  message_of,
  messages,
  of_message,
  emitted,
  emitted_by,
  verdict,
  whole_from,
  with_taken,
}
use Rattle.dtls_stream.specs.Sent.{AreOf, AreSmall, IsCovered, IsHandedOut, IsOf, Sent, numbered, sent}
use Rattle.dtls_stream.specs.declared.fragments.FragmentError.{FragmentError}
use Rattle.dtls_stream.specs.declared.fragments.FragmentError.TheVariants.{
  Old,
  TooFarAhead,
  TooLarge,
  Outside,
  OtherLength,
}
use Rattle.dtls_stream.proofs.ReceivedLemmas.{of_message_more, of_message_other, verdict_near}
use Rattle.dtls_stream.proofs.SentLemmas.{AreAll, IsRun, all_of_message, covered_message, run_of}

-- The messages among joined events, and among events that are all messages.
messages-append : (es fs : List Event) → messages (es ++ fs) ≡ messages es ++ messages fs
messages-append [] fs = refl
messages-append (Handshake m ∷ es) fs = ap (λ ms. m ∷ ms) (messages-append es fs)
messages-append (ChangeCipherSpec ∷ es) fs = messages-append es fs
messages-append (Alert a ∷ es) fs = messages-append es fs
messages-append (Encrypted r ∷ es) fs = messages-append es fs
messages-append (Refused s e ∷ es) fs = messages-append es fs
messages-append (Failed k ∷ es) fs = messages-append es fs

messages-map : (ms : List Message) → messages (map Handshake ms) ≡ ms
messages-map [] = refl
messages-map (m ∷ ms) = ap (λ xs. m ∷ xs) (messages-map ms)

-- More fragments don't uncover a message.
cover_more : (gs hs : List Fragment) (n : ℕ) → Cover gs n → Cover (gs ++ hs) n
cover_more gs hs n c = record
    { some = omega (arith, c.some, length-append gs hs); each = λ i l. more gs i (c.each i l) }
  where
    both : (a b : Option ℕ) → IsSome a → IsSome (or_else a b)
    both (Some x) b s = refl
    both None b s = absurd cc

    second : (a b c : Option ℕ) → (IsSome b → IsSome c) → IsSome (or_else a b)
        → IsSome (or_else a c)
    second (Some x) b c f s = refl
    second None b c f s = f s

    more : (gs : List Fragment) (i : ℕ) → IsSome (first_at gs i) → IsSome (first_at (gs ++ hs) i)
    more [] i s = absurd cc
    more (g ∷ gs) i s = second (byte_at g i) (first_at gs i) (first_at (gs ++ hs) i) (more gs i) s

covered_more : (ms : List Sent) (ts : List Fragment) (f : Fragment) (k : ℕ) → IsCovered ms ts k
    → IsCovered ms (ts ++ f ∷ []) k
covered_more ms ts f k c =
    subst (λ gs. Cover gs (length (sent ms k).body)) (sym (of_message_more k ts f))
    (cover_more (of_message k ts) (of_message k (f ∷ [])) (length (sent ms k).body) c)

are_more : (ms : List Sent) (ts : List Fragment) (f : Fragment) → AreOf ms ts
    → f.message_seq < length ms
    → IsOf (sent ms f.message_seq) f → AreOf ms (ts ++ f ∷ [])
are_more ms [] f of l is = (l, is, tt)
are_more ms (t ∷ ts) f of l is = (of.0, of.1, are_more ms ts f of.2 l is)

-- A fragment that is added is near enough.
taken_near : (l : Limits) (h : Received) (f : Fragment) (t : Unit) → verdict l h f ≡ Ok t
    → f.message_seq < h.next + l.ahead
taken_near l h f t = go (nat_lt f.message_seq h.next) (nat_le (h.next + l.ahead) f.message_seq) refl
  where
    go : (a b : Bool) → nat_le (h.next + l.ahead) f.message_seq ≡ b →
        cond {A = Result Unit FragmentError} a (Err Old)
        (cond b (Err TooFarAhead)
        (cond (nat_lt l.message f.length) (Err TooLarge)
        (agreed (of_message f.message_seq h.taken) f))) ≡ Ok t
        → f.message_seq < h.next + l.ahead
    go true b e is = absurd cc
    go false true e is = absurd cc
    go false false e is = leb-false (h.next + l.ahead) f.message_seq e

-- What holds after each fragment: all next messages that are whole were delivered.
pub record IsOut (ms : List Sent) (l : Limits) (h : Received) (out : List Message) : Type 0 where
  pub taken : AreOf ms h.taken
  pub low : h.next ≤ length ms
  pub front : out ≡ take h.next (numbered 0 ms)
  pub covered : (k : ℕ) → k < h.next → IsCovered ms h.taken k
  pub none_next : message_of (of_message h.next h.taken) ≡ None
  pub near : (k : ℕ) → h.next + l.ahead ≤ k → of_message k h.taken ≡ []

take-drop : (a b : ℕ) (xs : List Message) → take a xs ++ take b (drop a xs) ≡ take (a + b) xs
take-drop zero b xs = let e : b ≡ 0 + b = omega arith in ap (λ n. take n xs) e
take-drop (suc a) b [] = nil b ∙ sym (nil (suc a + b))
  where
    nil : (n : ℕ) → take {A = Message} n [] ≡ []
    nil zero = refl
    nil (suc n) = refl
take-drop (suc a) b (x ∷ xs) = let e : suc (a + b) ≡ suc a + b = omega arith in
    ap (λ ys. x ∷ ys) (take-drop a b xs) ∙ ap (λ n. take n (x ∷ xs)) e

out_taken : (ms : List Sent) (l : Limits) (h : Received) (out : List Message) (f : Fragment)
    → IsOut ms l h out
    → f.message_seq < length ms → IsOf (sent ms f.message_seq) f →
    f.message_seq < h.next + l.ahead
    → IsOut ms l (received_by (Ok tt) l h f) (out ++ messages (emitted_by (Ok tt) l h f))
out_taken ms l h out f was number is near =
    let ts : List Fragment = with_taken h f in
    let w : List Message = whole_from l.ahead h.next ts in
    let of : AreOf ms ts = are_more ms h.taken f was.taken number is in
    let run : IsRun ms ts l.ahead h.next w = run_of ms ts l.ahead h.next of was.low in
    let beyond : (k : ℕ) → h.next + l.ahead ≤ k → of_message k ts ≡ [] =
    λ k g. of_message_more k h.taken f ∙ ap (λ gs. gs ++ of_message k (f ∷ [])) (was.near k g)
    ∙ of_message_other k f (λ e. absurd (omega (arith, e, g, near))) in
    record {
      taken = of;
      low = run.low;
      front = ap (λ m. out ++ m) (messages-map w) ∙ ap (λ o. o ++ w) was.front
          ∙ ap (λ v. take h.next (numbered 0 ms) ++ v) run.front
          ∙ take-drop h.next (length w) (numbered 0 ms);
      covered = λ k g. covers ms l h out f was w run k g (nat_lt k h.next) refl;
      none_next = ended ms l h f w run beyond (nat_lt (length w) l.ahead) refl;
      near = λ k g. beyond k (omega (arith, g));
    }
  where
    covers : (ms : List Sent) (l : Limits) (h : Received) (out : List Message) (f : Fragment)
        → IsOut ms l h out
        → (w : List Message) → IsRun ms (with_taken h f) l.ahead h.next w →
        (k : ℕ) → k < h.next + length w → (b : Bool) → nat_lt k h.next ≡ b
        → IsCovered ms (with_taken h f) k
    covers ms l h out f was w run k g true e =
        covered_more ms h.taken f k (was.covered k (ltb-true k h.next e))
    covers ms l h out f was w run k g false e = run.covered k (ltb-false k h.next e) g

    ended : (ms : List Sent) (l : Limits) (h : Received) (f : Fragment) (w : List Message)
        → IsRun ms (with_taken h f) l.ahead h.next w
        → ((k : ℕ) → h.next + l.ahead ≤ k → of_message k (with_taken h f) ≡ []) →
        (b : Bool) → nat_lt (length w) l.ahead ≡ b
        → message_of (of_message (h.next + length w) (with_taken h f)) ≡ None
    ended ms l h f w run beyond true e = run.end (ltb-true (length w) l.ahead e)
    ended ms l h f w run beyond false e = let full = ltb-false (length w) l.ahead e in
        ap message_of (beyond (h.next + length w) (omega (arith, full)))

out_step : (ms : List Sent) (l : Limits) (h : Received) (out : List Message) (f : Fragment)
    → IsOut ms l h out
    → f.message_seq < length ms → IsOf (sent ms f.message_seq) f →
    IsOut ms l (received l h f) (out ++ messages (emitted l h f))
out_step ms l h out f was number is = go (verdict l h f) refl
  where
    go : (v : Result Unit FragmentError) → verdict l h f ≡ v
        → IsOut ms l (received_by v l h f) (out ++ messages (emitted_by v l h f))
    go (Ok t) e = out_taken ms l h out f was number is (taken_near l h f t e)
    go (Err x) e = subst (IsOut ms l h) (sym (append-nil out)) was

pub out_all : (ms : List Sent) (l : Limits) (h : Received) (out : List Message) (fs : List Fragment)
    → IsOut ms l h out
    → AreOf ms fs → IsOut ms l (after l h fs) (out ++ messages (events l h fs))
unfolding after events
out_all ms l h out [] was of = subst (IsOut ms l h) (sym (append-nil out)) was
out_all ms l h out (f ∷ fs) was of =
    subst (IsOut ms l (after l (received l h f) fs))
    (append_assoc out (messages (emitted l h f)) (messages (events l (received l h f) fs))
    ∙ sym (ap (λ m. out ++ m) (messages-append (emitted l h f) (events l (received l h f) fs))))
    (out_all ms l (received l h f) (out ++ messages (emitted l h f)) fs
    (out_step ms l h out f was of.0 of.1) of.2)

pub out_begins : (ms : List Sent) (l : Limits) → IsOut ms l (record { taken = []; next = 0 }) []
out_begins ms l = record {
  taken = tt;
  low = omega arith;
  front = refl;
  covered = λ k g. absurd (omega (arith, g));
  none_next = refl;
  near = λ k g. refl;
}

pub taken_hand_out : (ms : List Sent) (l : Limits) (fs : List Fragment) → AreOf ms fs →
    IsHandedOut ms (after l (record { taken = []; next = 0 }) fs).taken
    (messages (events l (record { taken = []; next = 0 }) fs))
taken_hand_out ms l fs of =
    let all = out_all ms l (record { taken = []; next = 0 }) [] fs (out_begins ms l) of in
    record {
      count = (after l (record { taken = []; next = 0 }) fs).next;
      low = all.low;
      front = all.front;
      covered = all.covered;
      next = λ low cover. let no = sym all.none_next
          ∙ covered_message ms (after l (record { taken = []; next = 0 }) fs).taken
          (after l (record { taken = []; next = 0 }) fs).next all.taken cover in absurd cc;
    }

-- If no message is too far ahead or too large, all fragments count: those refused are
-- retransmissions.
pub record IsAll (ms : List Sent) (h : Received) (fs : List Fragment) : Type 0 where
  pub same : (k : ℕ) → h.next ≤ k → of_message k h.taken ≡ of_message k fs
  pub done : (k : ℕ) → k < h.next → IsCovered ms fs k

inside_ok : (m : Sent) (f : Fragment) → IsOf m f → inside f ≡ Ok tt
inside_ok m f is = ap (λ b. cond {A = Result Unit FragmentError} b (Ok tt) (Err Outside))
    (le-leb (f.fragment_offset + length f.body) f.length (omega (arith, is.inside, is.size)))

agreed_ok : (m : Sent) (gs : List Fragment) (f : Fragment) → AreAll m gs → IsOf m f
    → agreed gs f ≡ Ok tt
agreed_ok m [] f all is = inside_ok m f is
agreed_ok m (g ∷ gs) f all is =
    ap (λ b. cond {A = Result Unit FragmentError} b (inside f) (Err OtherLength))
    (eq-eqb g.length f.length (all.0.size ∙ sym is.size))
    ∙ inside_ok m f is

all_old : (ms : List Sent) (l : Limits) (h : Received) (fs : List Fragment) (f : Fragment)
    → IsAll ms h fs
    → f.message_seq < h.next → IsAll ms h (fs ++ f ∷ [])
all_old ms l h fs f was old = record {
  same = λ k g. was.same k g
      ∙ sym (of_message_more k fs f
      ∙ ap (λ gs. of_message k fs ++ gs)
      (of_message_other k f (λ e. absurd (omega (arith, e, g, old))))
      ∙ append-nil (of_message k fs));
  done = λ k g. covered_more ms fs f k (was.done k g);
}

all_taken : (ms : List Sent) (l : Limits) (h : Received) (fs : List Fragment) (f : Fragment)
    → IsAll ms h fs →
    ((k : ℕ) → k < (received_by (Ok tt) l h f).next → IsCovered ms (with_taken h f) k)
    → IsAll ms (received_by (Ok tt) l h f) (fs ++ f ∷ [])
all_taken ms l h fs f was covers = record {
  same = λ k g. both k (omega (arith, g));
  done = λ k g. at k g (nat_lt k h.next) refl;
}
  where
    both : (k : ℕ) → h.next ≤ k → of_message k (with_taken h f) ≡ of_message k (fs ++ f ∷ [])
    both k g = of_message_more k h.taken f ∙ ap (λ gs. gs ++ of_message k (f ∷ [])) (was.same k g)
        ∙ sym (of_message_more k fs f)

    at : (k : ℕ) → k < (received_by (Ok tt) l h f).next → (b : Bool) → nat_lt k h.next ≡ b
        → IsCovered ms (fs ++ f ∷ []) k
    at k g true e = covered_more ms fs f k (was.done k (ltb-true k h.next e))
    at k g false e = subst (λ gs. Cover gs (length (sent ms k).body))
        (of_message_more k h.taken f
        ∙ ap (λ gs. gs ++ of_message k (f ∷ [])) (was.same k (ltb-false k h.next e))
        ∙ sym (of_message_more k fs f)) (covers k g)

old_verdict : (l : Limits) (h : Received) (f : Fragment) → f.message_seq < h.next
    → verdict l h f ≡ Err Old
old_verdict l h f old = ap
    (λ b. cond {A = Result Unit FragmentError} b (Err Old)
    (cond (nat_le (h.next + l.ahead) f.message_seq) (Err TooFarAhead)
    (cond (nat_lt l.message f.length) (Err TooLarge)
    (agreed (of_message f.message_seq h.taken) f))))
    (lt-ltb f.message_seq h.next old)

-- What holds after a fragment.
pub record IsStep (ms : List Sent) (l : Limits) (h : Received) (out : List Message)
    (fs : List Fragment)
    (f : Fragment) : Type 0 where
  pub outs : IsOut ms l (received l h f) (out ++ messages (emitted l h f))
  pub all : IsAll ms (received l h f) (fs ++ f ∷ [])

all_step : (ms : List Sent) (l : Limits) (h : Received) (out : List Message) (fs : List Fragment)
    (f : Fragment)
    → length ms ≤ l.ahead → AreSmall l ms → IsOut ms l h out → IsAll ms h fs →
    f.message_seq < length ms → IsOf (sent ms f.message_seq) f → IsStep ms l h out fs f
all_step ms l h out fs f few small was all number is =
    go (nat_lt f.message_seq h.next) refl (out_step ms l h out f was number is)
  where
    go : (b : Bool) → nat_lt f.message_seq h.next ≡ b
        → IsOut ms l (received l h f) (out ++ messages (emitted l h f))
        → IsStep ms l h out fs f
    go true e now = record {
      outs = now;
      all = subst (λ v. IsAll ms (received_by v l h f) (fs ++ f ∷ []))
          (sym (old_verdict l h f (ltb-true f.message_seq h.next e)))
          (all_old ms l h fs f all (ltb-true f.message_seq h.next e));
    }
    go false e now =
        let new : h.next ≤ f.message_seq = ltb-false f.message_seq h.next e in
        let ok : verdict l h f ≡ Ok tt =
        verdict_near l h f new (omega (arith, number, few))
        (omega (arith, is.size, small f.message_seq))
        ∙ agreed_ok (sent ms f.message_seq) (of_message f.message_seq h.taken) f
        (all_of_message ms f.message_seq h.taken was.taken) is in
        record {
          outs = now;
          all = subst (λ v. IsAll ms (received_by v l h f) (fs ++ f ∷ [])) (sym ok)
              (all_taken ms l h fs f all
              (subst (λ v. IsOut ms l (received_by v l h f) (out ++ messages (emitted_by v l h f))) ok
              now).covered);
        }

-- The events of these fragments, in order.
pub record IsEnd (ms : List Sent) (l : Limits) (h : Received) (out : List Message)
    (fs gs : List Fragment) : Type 0 where
  pub outs : IsOut ms l (after l h gs) (out ++ messages (events l h gs))
  pub all : IsAll ms (after l h gs) (fs ++ gs)

all_end : (ms : List Sent) (l : Limits) (h : Received) (out : List Message) (fs gs : List Fragment)
    → length ms ≤ l.ahead
    → AreSmall l ms → IsOut ms l h out → IsAll ms h fs → AreOf ms gs → IsEnd ms l h out fs gs
unfolding after events
all_end ms l h out fs [] few small was all of =
    record {
      outs = subst (IsOut ms l h) (sym (append-nil out)) was;
      all = subst (IsAll ms h) (sym (append-nil fs)) all;
    }
all_end ms l h out fs (f ∷ gs) few small was all of =
    let one = all_step ms l h out fs f few small was all of.0 of.1 in
    let more = all_end ms l (received l h f) (out ++ messages (emitted l h f)) (fs ++ f ∷ []) gs few small
    one.outs one.all
    of.2 in
    record {
      outs = subst (IsOut ms l (after l (received l h f) gs))
          (append_assoc out (messages (emitted l h f)) (messages (events l (received l h f) gs))
          ∙ sym (ap (λ m. out ++ m)
          (messages-append (emitted l h f) (events l (received l h f) gs)))) more.outs;
      all = subst (IsAll ms (after l (received l h f) gs)) (append_assoc fs (f ∷ []) gs) more.all;
    }

pub all_hand_out : (ms : List Sent) (l : Limits) (fs : List Fragment) → length ms ≤ l.ahead
    → AreSmall l ms
    → AreOf ms fs → IsHandedOut ms fs (messages (events l (record { taken = []; next = 0 }) fs))
all_hand_out ms l fs few small of =
    let end = all_end ms l (record { taken = []; next = 0 }) [] [] fs few small (out_begins ms l)
    (record { same = λ k g. refl; done = λ k g. absurd (omega (arith, g)) }) of in
    let h : Received = after l (record { taken = []; next = 0 }) fs in
    record {
      count = h.next;
      low = end.outs.low;
      front = end.outs.front;
      covered = end.all.done;
      next = λ low cover.
          let mine : IsCovered ms h.taken h.next =
          subst (λ gs. Cover gs (length (sent ms h.next).body))
          (sym (end.all.same h.next (omega arith))) cover in
          let no = sym end.outs.none_next ∙ covered_message ms h.taken h.next end.outs.taken mine in
          absurd cc;
    }
