-- What further bytes can change about an answer.
use Rattle.std.proofs.Common.{
  ◌≡◌,
  ℕ,
  ◌-◌,
  ◌<◌,
  ◌≤◌,
  [],
  ◌∷◌,
  ◌++◌,
  length,
  take,
  drop,
  Ok,
  Err,
  Bool,
  true,
  false,
  cond,
  ltb,
  eqb,
  refl,
  sym,
  ◌∙◌,
  ap,
  subst,
  arith,
}
use Rattle.std.proofs.lemmas.List.{length-append, take-append-le, drop-append-le}
use Rattle.std.proofs.lemmas.Bool.{ltb-false}
use Rattle.layouts.specs.Bytes.{Bytes, AreBytes, number_of}
use Rattle.layouts.specs.Layout.{
  Layout,
  done,
  refuse,
  number,
  ignored,
  block,
  left,
  tag,
  window,
  list,
  maybe,
  either,
  complete,
  look,
  chain,
}
use Rattle.layouts.specs.Meaning.{Refusal, Broken, Lacks, Answer, Allows}
use Rattle.layouts.specs.Reading.{split_at, number_at, ignored_at, tag_at, reading, ◌and_then◌}
use Rattle.layouts.specs.Stable.{IsStable, NeverLacks, CountsMissing, Decides, CountsDown}
use Rattle.layouts.specs.declared.result.ErrorKind.{ErrorKind}
use Rattle.layouts.specs.declared.result.ErrorKind.TheVariants.{Tag}
use Rattle.layouts.proofs.NumberLemmas.{AreBytes-append}
use Rattle.layouts.proofs.OneAnswerLemmas.{
  ltb_yes,
  ltb_no,
  read_allowed,
  only_reading,
  AreBytes-window,
  AreBytes-read,
}

-- y is the answer on more bytes, and x decided it
abbrev pub Stays : {A : Type 0} → Bytes → Answer A → Answer A → Type 0
Stays s (Ok x) y = y ≡ Ok (x.0, x.1 ++ s)
Stays s (Err (Broken k)) y = y ≡ Err (Broken k)
Stays s (Err (Lacks n)) y = Unit {0}

split_stays : (n : ℕ) (b s : Bytes) → Stays s (split_at n b) (split_at n (b ++ s))
unfolding split_at number_at ignored_at tag_at
split_stays n b s = go (ltb (length b) n) refl
  where
    go : (t : Bool) → ltb (length b) n ≡ t
        → Stays s (cond t (Err (Lacks (n - length b))) (Ok (take n b, drop n b)))
        (split_at n (b ++ s))
    go true e = tt
    go false e =
        let long : n ≤ length b = ltb-false (length b) n e in
        ap (λ t. cond t (Err (Lacks (n - length (b ++ s)))) (Ok (take n (b ++ s), drop n (b ++ s))))
        (ltb_no (length (b ++ s)) n (omega (arith, length-append b s)))
        ∙ rw (take-append-le, drop-append-le)

tag_tests : (c : Bool) (s : Bytes) (k : ErrorKind) (x y : Answer Unit) → Stays s x y
    → Stays s (cond c x (Err (Broken k))) (cond c y (Err (Broken k)))
tag_tests true s k x y h = h
tag_tests false s k x y h = refl

tag_stays : (t b s : Bytes) → Stays s (tag_at t b) (tag_at t (b ++ s))
unfolding split_at number_at ignored_at tag_at
tag_stays [] b s = refl
tag_stays (x ∷ t) [] s = tt
tag_stays (x ∷ t) (y ∷ b) s =
    tag_tests (eqb x y) s Tag (tag_at t b) (tag_at t (b ++ s)) (tag_stays t b s)

-- a step that computes from an answer and passes its rest on
then_stays : {A B : Type 0} (s : Bytes) (f : A × Bytes → Answer B)
    → ((x : A × Bytes) → Stays s (f x) (f (x.0, x.1 ++ s))) → (x y : Answer A) → Stays s x y
    → Stays s (x and_then f) (y and_then f)
then_stays s f h (Ok x) y e = subst (λ z. Stays s (f x) (z and_then f)) (sym e) (h x)
then_stays s f h (Err (Broken k)) y e = ap (λ a. a and_then f) e
then_stays s f h (Err (Lacks n)) y e = tt

window_stays : {A : Type 0} (r s : Bytes) (a : Answer A)
    → Stays s (a and_then λ x. Ok (x.0, r)) (a and_then λ x. Ok (x.0, r ++ s))
window_stays r s (Ok x) = refl
window_stays r s (Err (Broken k)) = refl
window_stays r s (Err (Lacks n)) = tt

pub stays : {A : Type 0} (l : Layout A) → IsStable l → (b s : Bytes)
    → Stays s (reading l b) (reading l (b ++ s))
unfolding split_at number_at ignored_at tag_at
stays (done a) h b s = refl
stays (refuse k) h b s = refl
stays (number k) h b s =
    then_stays s (λ x. Ok (number_of x.0, x.1)) (λ x. refl) (split_at k b) (split_at k (b ++ s))
    (split_stays k b s)
stays (ignored k) h b s =
    then_stays s (λ x. Ok (tt, x.1)) (λ x. refl) (split_at k b) (split_at k (b ++ s))
    (split_stays k b s)
stays (block n) h b s = split_stays n b s
stays left h b s = absurd h
stays (tag t) h b s = tag_stays t b s
stays (window n l) h b s =
    then_stays s (λ w. reading l w.0 and_then λ x. Ok (x.0, w.1))
    (λ w. window_stays w.1 s (reading l w.0))
    (split_at n b) (split_at n (b ++ s)) (split_stays n b s)
stays (list l) h b s = absurd h
stays (maybe l) h b s = absurd h
stays (either l m) h b s = absurd h
stays (complete l) h b s = absurd h
stays (look l) h b s = absurd h
stays (chain l f) h b s =
    then_stays s (λ x. reading (f x.0) x.1) (λ x. stays (f x.0) (h.1 x.0) x.1 s) (reading l b)
    (reading l (b ++ s))
    (stays l h.0 b s)

-- a value stays, and the rest grows
pub read_stays : {A : Type 0} (l : Layout A) → IsStable l → (b s : Bytes) (v : A) (r : Bytes)
    → reading l b ≡ Ok (v, r)
    → reading l (b ++ s) ≡ Ok (v, r ++ s)
read_stays l h b s v r e = subst (λ a. Stays s a (reading l (b ++ s))) e (stays l h b s)

-- a broken rule stays
pub broken_stays : {A : Type 0} (l : Layout A) → IsStable l → (b s : Bytes) (k : ErrorKind)
    → reading l b ≡ Err (Broken k) → reading l (b ++ s) ≡ Err (Broken k)
broken_stays l h b s k e = subst (λ a. Stays s a (reading l (b ++ s))) e (stays l h b s)

-- If bytes are missing, further bytes leave the others missing.

-- a layout that never lacks bytes isn't refused for missing ones
none_lacks : {A : Type 0} (l : Layout A) → NeverLacks l → (b : Bytes) → AreBytes b → (n : ℕ)
    → reading l b ≡ Err (Lacks n) → ⊥
unfolding Allows
none_lacks l never b are n e = never b n (read_allowed l b (Err (Lacks n)) are e)

split_counts : (k : ℕ) (b s : Bytes) (n : ℕ) → split_at k b ≡ Err (Lacks n) → length s < n
    → split_at k (b ++ s) ≡ Err (Lacks (n - length s))
unfolding split_at
split_counts k b s n e short = go (ltb (length b) k) refl e
  where
    go : (t : Bool) → ltb (length b) k ≡ t
        → cond {A = Answer Bytes} t (Err (Lacks (k - length b))) (Ok (take k b, drop k b))
        ≡ Err (Lacks n)
        → split_at k (b ++ s) ≡ Err (Lacks (n - length s))
    go true f g =
        let is : k - length b ≡ n = cc in
        ap (λ t. cond t (Err (Lacks (k - length (b ++ s)))) (Ok (take k (b ++ s), drop k (b ++ s))))
        (ltb_yes (length (b ++ s)) k (omega (arith, length-append b s)))
        ∙ ap (λ m. Err (Lacks m)) (omega (arith, length-append b s))
    go false f g = absurd cc

-- a refusal comes from the first part, unless the second gave it
refused_front : {X Y : Type 0} (a : Answer X) (f : X × Bytes → Answer Y) (e : Refusal)
    → a and_then f ≡ Err e
    → ((x : X × Bytes) → a ≡ Ok x → f x ≡ Err e → ⊥) → a ≡ Err e
refused_front (Ok x) f e h none = absurd (none x refl h)
refused_front (Err g) f e h none = let is : g ≡ e = cc in ap Err is

-- a chain: its first part, and what is read after it
chain_counts : {A B : Type 0} (s : Bytes) (f : A → Layout B) (n : ℕ) (a a' : Answer A)
    → Stays s a a'
    → (a ≡ Err (Lacks n) → a' ≡ Err (Lacks (n - length s)))
    →
    ((x : A × Bytes) → a ≡ Ok x → reading (f x.0) x.1 ≡ Err (Lacks n)
    → reading (f x.0) (x.1 ++ s) ≡ Err
    (Lacks (n - length s)))
    → (a and_then λ x. reading (f x.0) x.1) ≡ Err (Lacks n)
    → (a' and_then λ x. reading (f x.0) x.1) ≡ Err
    (Lacks (n - length s))
chain_counts s f n (Ok x) a' stay first then e = ap (λ a. a and_then λ x. reading (f x.0) x.1) stay
    ∙ then x refl e
chain_counts s f n (Err g) a' stay first then e =
    let is : g ≡ Lacks n = cc in ap (λ a. a and_then λ x. reading (f x.0) x.1) (first (ap Err is))

pub counting_is_stable : {A : Type 0} (l : Layout A) → CountsMissing l → IsStable l
counting_is_stable (done a) h = tt
counting_is_stable (refuse k) h = tt
counting_is_stable (number k) h = tt
counting_is_stable (ignored k) h = tt
counting_is_stable (block n) h = tt
counting_is_stable left h = absurd h
counting_is_stable (tag t) h = absurd h
counting_is_stable (window n l) h = tt
counting_is_stable (list l) h = absurd h
counting_is_stable (maybe l) h = absurd h
counting_is_stable (either l m) h = absurd h
counting_is_stable (complete l) h = absurd h
counting_is_stable (look l) h = absurd h
counting_is_stable (chain l f) h = (counting_is_stable l h.0, λ a. counting_is_stable (f a) (h.1 a))

counts : {A : Type 0} (l : Layout A) → CountsMissing l → (b s : Bytes) → AreBytes b → (n : ℕ)
    → reading l b ≡ Err (Lacks n) → length s < n → reading l (b ++ s) ≡ Err (Lacks (n - length s))
unfolding split_at number_at ignored_at
counts (done a) h b s are n e short = absurd cc
counts (refuse k) h b s are n e short = absurd cc
counts (number k) h b s are n e short =
    ap (λ a. a and_then λ x. Ok (number_of x.0, x.1))
    (split_counts k b s n
    (refused_front (split_at k b) (λ x. Ok (number_of x.0, x.1)) (Lacks n) e (λ x f g. absurd cc))
    short)
counts (ignored k) h b s are n e short =
    ap (λ a. a and_then λ x. Ok (tt, x.1))
    (split_counts k b s n
    (refused_front (split_at k b) (λ x. Ok (tt, x.1)) (Lacks n) e (λ x f g. absurd cc)) short)
counts (block k) h b s are n e short = split_counts k b s n e short
counts left h b s are n e short = absurd h
counts (tag t) h b s are n e short = absurd h
counts (window k l) h b s are n e short =
    ap (λ a. a and_then λ w. reading l w.0 and_then λ x. Ok (x.0, w.1))
    (split_counts k b s n
    (refused_front (split_at k b) (λ w. reading l w.0 and_then λ x. Ok (x.0, w.1)) (Lacks n) e
    (λ w f g.
    none_lacks l h w.0 (AreBytes-window k b w are f) n
    (refused_front (reading l w.0) (λ x. Ok (x.0, w.1)) (Lacks n) g (λ x i j. absurd cc))))
    short)
counts (list l) h b s are n e short = absurd h
counts (maybe l) h b s are n e short = absurd h
counts (either l m) h b s are n e short = absurd h
counts (complete l) h b s are n e short = absurd h
counts (look l) h b s are n e short = absurd h
counts (chain l f) h b s are n e short =
    chain_counts s f n (reading l b) (reading l (b ++ s)) (stays l (counting_is_stable l h.0) b s)
    (λ g. counts l h.0 b s are n g short)
    (λ x g i. counts (f x.0) (h.1 x.0) x.1 s (AreBytes-read l b x.0 x.1 are g) n i short)
    e

-- The laws, for allowed answers.
pub decides : {A : Type 0} (l : Layout A) → IsStable l → (b s : Bytes) → AreBytes b → AreBytes s
    → Decides l b s
decides l h b s are more = record {
  value =
      λ v r a.
      read_allowed l (b ++ s) (Ok (v, r ++ s)) (AreBytes-append b s are more)
      (read_stays l h b s v r (sym (only_reading l b are (Ok (v, r)) a)));
  broken =
      λ k a.
      read_allowed l (b ++ s) (Err (Broken k)) (AreBytes-append b s are more)
      (broken_stays l h b s k (sym (only_reading l b are (Err (Broken k)) a)));
}

pub counts_down : {A : Type 0} (l : Layout A) → CountsMissing l → (b s : Bytes) → AreBytes b
    → AreBytes s
    → CountsDown l b s
counts_down l h b s are more n a short =
    read_allowed l (b ++ s) (Err (Lacks (n - length s))) (AreBytes-append b s are more)
    (counts l h b s are n (sym (only_reading l b are (Err (Lacks n)) a)) short)
