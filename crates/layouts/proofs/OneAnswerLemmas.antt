-- Each layout allows exactly one answer on given bytes, and reading gives it.
use Rattle.std.proofs.Common.{
  ◌≡◌,
  ◌≢◌,
  ◌↔◌,
  ℕ,
  zero,
  suc,
  ◌-◌,
  ◌^◌,
  ◌<◌,
  ◌≤◌,
  List,
  [],
  ◌∷◌,
  ◌++◌,
  length,
  take,
  drop,
  Option,
  Some,
  None,
  Ok,
  Err,
  Bool,
  true,
  false,
  cond,
  eqb,
  ltb,
  refl,
  sym,
  ◌∙◌,
  ap,
  subst,
  arith,
  inl,
  inr,
  append-nil,
}
use Rattle.std.proofs.lemmas.List.{length-append, take-append-drop, length-take-le}
use Rattle.std.proofs.lemmas.Bool.{ltb-true, ltb-false, eqb-true, eqb-false}
use Rattle.std.proofs.lemmas.Bool.Decides.{nat_tests}
use Rattle.std.proofs.Math.Seq.{take-append_seam, drop-append_seam}
use Rattle.layouts.specs.Bytes.{Bytes, AreBytes, bytes_of, number_of}
use Rattle.layouts.specs.Layout.{
  Layout,
  done,
  refuse,
  number,
  ignored,
  block,
  left,
  tag,
  window,
  list,
  maybe,
  either,
  complete,
  look,
  chain,
}
use Rattle.layouts.specs.Meaning.{
  Refusal,
  Broken,
  Lacks,
  SpellsNothing,
  SpellsItem,
  SpellsItems,
  Spells,
  Refuses,
  Answer,
  Allows,
  AllowsOne,
}
use Rattle.layouts.specs.Reading.{
  split_at,
  number_at,
  ignored_at,
  tag_at,
  with_items,
  items_at,
  optional_at,
  completed,
  or_else,
  reading,
  ◌and_then◌,
}
use Rattle.layouts.specs.declared.result.ErrorKind.{ErrorKind}
use Rattle.layouts.specs.declared.result.ErrorKind.TheVariants.{Tag}
use Rattle.layouts.proofs.NumberLemmas.{
  AreBytes-front,
  length-bytes_of,
  number_of-bytes_of,
  bytes_of-number_of,
  number_of-below,
}
use Rattle.layouts.proofs.EndLemmas.{AreBytes-rest}

-- what is proved of a layout on some bytes
pub record Meets {A : Type 0} (l : Layout A) (b : Bytes) : Type 0 where
  pub allowed : Allows l b (reading l b)
  pub spelled : (v : A) (r d : Bytes) → Spells l b v r d → reading l b ≡ Ok (v, r)
  pub refused : (e : Refusal) → Refuses l b e → reading l b ≡ Err e

-- what is proved of a layout on any bytes
abbrev pub MeetsAll : {A : Type 0} → Layout A → Type 0
MeetsAll l = (b : Bytes) → AreBytes b → Meets l b

-- bytes that are refused encode nothing, and bytes that encode nothing are refused
nothing : {A : Type 0} (l : Layout A) (b : Bytes) (e : Refusal) → Meets l b → Refuses l b e
    → SpellsNothing (Spells l) b
nothing l b e m h =
    λ v r d s.
    let yes : reading l b ≡ Ok (v, r) = m.spelled v r d s in let no : reading l b ≡ Err e =
    m.refused e h in cc

some_refusal : {A : Type 0} (l : Layout A) (b : Bytes) → Meets l b → SpellsNothing (Spells l) b
    → (e : Refusal) × Refuses l b e × (reading l b ≡ Err e)
unfolding Allows split_at number_at ignored_at tag_at items_at
some_refusal {A} l b m none = go (reading l b) m.allowed
  where
    go : (a : Answer A) → Allows l b a → (e : Refusal) × Refuses l b e × (reading l b ≡ Err e)
    go (Ok x) (d, s) = absurd (none x.0 x.1 d s)
    go (Err e) h = (e, h, m.refused e h)

meets_done : {A : Type 0} (a : A) (b : Bytes) → Meets (done a) b
unfolding Allows split_at number_at ignored_at tag_at items_at
meets_done a b = record {
  allowed = ([], (refl, refl, refl));
  spelled = λ v r d s. let e : v ≡ a = s.0 in let f : b ≡ r = s.1 in cc;
  refused = λ e h. absurd h;
}

meets_refuse : {A : Type 0} (k : ErrorKind) (b : Bytes) → Meets (refuse {A = A} k) b
unfolding Allows split_at number_at ignored_at tag_at items_at
meets_refuse k b = record {
  allowed = refl;
  spelled = λ v r d s. absurd s;
  refused = λ e h. ap Err (sym h);
}

meets_left : (b : Bytes) → Meets left b
unfolding Allows split_at number_at ignored_at tag_at items_at
meets_left b = record {
  allowed = ([], (refl, refl, refl));
  spelled = λ v r d s. let e : v ≡ length b = s.0 in let f : b ≡ r = s.1 in cc;
  refused = λ e h. absurd h;
}

-- results of tests
pub ltb_yes : (m n : ℕ) → m < n → ltb m n ≡ true
ltb_yes m n h = grind (arith, nat_tests)

pub ltb_no : (m n : ℕ) → n ≤ m → ltb m n ≡ false
ltb_no m n h = grind (arith, nat_tests)

not_below : (m n : ℕ) → (m < n → ⊥) → n ≤ m
not_below m n h = grind arith

pub eqb_same : (n : ℕ) → eqb n n ≡ true
eqb_same n = grind (arith, nat_tests)

pub eqb_other : (m n : ℕ) → m ≢ n → eqb m n ≡ false
eqb_other m n h = grind (arith, nat_tests)

-- blocks, numbers and gaps
split_tests : (n : ℕ) (b : Bytes) (t : Bool) → ltb (length b) n ≡ t
    → Allows (block n) b (cond t (Err (Lacks (n - length b))) (Ok (take n b, drop n b)))
unfolding Allows split_at number_at ignored_at tag_at items_at
split_tests n b true e = (ltb-true (length b) n e, refl)
split_tests n b false e =
    ([], (length-take-le n b (ltb-false (length b) n e), sym (take-append-drop n b), refl))

split_exact : (v r : Bytes) → split_at (length v) (v ++ r) ≡ Ok (v, r)
unfolding Allows split_at number_at ignored_at tag_at items_at
split_exact v r =
    let test : ltb (length (v ++ r)) (length v) ≡ false =
    ltb_no (length (v ++ r)) (length v) (omega (arith, length-append v r)) in
    ap
    (λ t.
    cond t (Err (Lacks (length v - length (v ++ r))))
    (Ok (take (length v) (v ++ r), drop (length v) (v ++ r))))
    test
    ∙ rw (take-append_seam, drop-append_seam)

split_spelled : (n : ℕ) (b v r : Bytes) → length v ≡ n → b ≡ v ++ r → split_at n b ≡ Ok (v, r)
split_spelled n b v r e h =
    subst (λ k. split_at k b ≡ Ok (v, r)) e
    (subst (λ c. split_at (length v) c ≡ Ok (v, r)) (sym h) (split_exact v r))

split_short : (n : ℕ) (b : Bytes) → length b < n → split_at n b ≡ Err (Lacks (n - length b))
unfolding Allows split_at number_at ignored_at tag_at items_at
split_short n b h = ap (λ t. cond t (Err (Lacks (n - length b))) (Ok (take n b, drop n b)))
    (ltb_yes (length b) n h)

split_refused : (n : ℕ) (b : Bytes) (e : Refusal) → Refuses (block n) b e → split_at n b ≡ Err e
split_refused n b e h = split_short n b h.0 ∙ ap Err (sym h.1)

split_allowed : (n : ℕ) (b : Bytes) → Allows (block n) b (split_at n b)
unfolding Allows split_at number_at ignored_at tag_at items_at
split_allowed n b = split_tests n b (ltb (length b) n) refl

meets_block : (n : ℕ) (b : Bytes) → Meets (block n) b
unfolding Allows split_at number_at ignored_at tag_at items_at
meets_block n b = record {
  allowed = split_allowed n b;
  spelled = λ v r d s. split_spelled n b v r s.0 s.1;
  refused = λ e h. split_refused n b e h;
}

number_allowed : (k : ℕ) (b : Bytes) → AreBytes b → (a : Answer Bytes) → Allows (block k) b a
    → Allows (number k) b (a and_then λ x. Ok (number_of x.0, x.1))
unfolding Allows split_at number_at ignored_at tag_at items_at
number_allowed k b h (Ok x) (d, s) =
    let are : AreBytes x.0 = AreBytes-front x.0 x.1 (subst AreBytes s.1 h) in
    let back : bytes_of k (number_of x.0) ≡ x.0 =
    subst (λ n. bytes_of n (number_of x.0) ≡ x.0) s.0 (bytes_of-number_of x.0 are) in (
      [],
      (
        subst (λ n. number_of x.0 < 256 ^ n) s.0 (number_of-below x.0 are),
        s.1
            ∙ ap (λ f. f ++ x.1) (sym back),
        refl,
      ),
    )
number_allowed k b h (Err e) s = s

meets_number : (k : ℕ) (b : Bytes) → AreBytes b → Meets (number k) b
unfolding Allows split_at number_at ignored_at tag_at items_at
meets_number k b are = record {
  allowed = number_allowed k b are (split_at k b) (split_allowed k b);
  spelled =
      λ v r d s.
      ap (λ a. a and_then λ x. Ok (number_of x.0, x.1))
      (split_spelled k b (bytes_of k v) r (length-bytes_of k v) s.1)
      ∙ ap (λ n. Ok (n, r)) (number_of-bytes_of k v s.0);
  refused = λ e h. ap (λ a. a and_then λ x. Ok (number_of x.0, x.1)) (split_refused k b e h);
}

-- a read from the prefix and the rest
split_parts : (k : ℕ) (b front r : Bytes) → k ≤ length b → front ≡ take k b → r ≡ drop k b
    → split_at k b ≡ Ok (front, r)
unfolding Allows split_at number_at ignored_at tag_at items_at
split_parts k b front r long is behind =
    ap (λ t. cond t (Err (Lacks (k - length b))) (Ok (take k b, drop k b)))
    (ltb_no (length b) k long)
    ∙ rw (is, behind) refl

pub number_read : (k : ℕ) (b front r : Bytes) (n : ℕ) → k ≤ length b → front ≡ take k b
    → r ≡ drop k b
    → number_of front ≡ n → reading (number k) b ≡ Ok (n, r)
unfolding Allows split_at number_at ignored_at tag_at items_at
number_read k b front r n long is behind value =
    ap (λ a. a and_then λ x. Ok (number_of x.0, x.1)) (split_parts k b front r long is behind)
    ∙ ap (λ x. Ok (x, r)) value

ignored_allowed : (k : ℕ) (b : Bytes) (a : Answer Bytes) → Allows (block k) b a
    → Allows (ignored k) b (a and_then λ x. Ok (tt, x.1))
unfolding Allows split_at number_at ignored_at tag_at items_at
ignored_allowed k b (Ok x) (d, s) = (x.0, (s.0, s.1))
ignored_allowed k b (Err e) s = s

meets_ignored : (k : ℕ) (b : Bytes) → Meets (ignored k) b
unfolding Allows split_at number_at ignored_at tag_at items_at
meets_ignored k b = record {
  allowed = ignored_allowed k b (split_at k b) (split_allowed k b);
  spelled = λ v r d s. ap (λ a. a and_then λ x. Ok (tt, x.1)) (split_spelled k b d r s.0 s.1);
  refused = λ e h. ap (λ a. a and_then λ x. Ok (tt, x.1)) (split_refused k b e h);
}

-- tags
tag_more : (x : ℕ) (t : Bytes) (y : ℕ) (b : Bytes) → x ≡ y → (a : Answer Unit) → Allows (tag t) b a
    → Allows (tag (x ∷ t)) (y ∷ b) a
unfolding Allows split_at number_at ignored_at tag_at items_at
tag_more x t y b e (Ok z) (d, (f, g)) = (d, (cc, g))
tag_more x t y b e (Err g) (inl (same, t', b', x', y', f, h, differ, is)) =
    inl (x ∷ same, t', b', x', y', cc, cc, differ, is)
tag_more x t y b e (Err g) (inr (missing, some, f, is)) = inr (missing, some, cc, is)

tag_tests : (x : ℕ) (t : Bytes) (y : ℕ) (b : Bytes) (s : Bool) → eqb x y ≡ s
    → Allows (tag t) b (tag_at t b)
    → Allows (tag (x ∷ t)) (y ∷ b) (cond s (tag_at t b) (Err (Broken Tag)))
unfolding Allows split_at number_at ignored_at tag_at items_at
tag_tests x t y b true e h = tag_more x t y b (eqb-true x y e) (tag_at t b) h
tag_tests x t y b false e h = inl ([], t, b, x, y, refl, refl, eqb-false x y e, refl)

tag_allowed : (t b : Bytes) → Allows (tag t) b (tag_at t b)
unfolding Allows split_at number_at ignored_at tag_at items_at
tag_allowed [] b = ([], (refl, refl))
tag_allowed (x ∷ t) [] = inr (x ∷ t, λ e. cc, refl, refl)
tag_allowed (x ∷ t) (y ∷ b) = tag_tests x t y b (eqb x y) refl (tag_allowed t b)

tag_same : (same t b : Bytes) → tag_at (same ++ t) (same ++ b) ≡ tag_at t b
unfolding Allows split_at number_at ignored_at tag_at items_at
tag_same [] t b = refl
tag_same (x ∷ same) t b =
    ap (λ s. cond s (tag_at (same ++ t) (same ++ b)) (Err (Broken Tag))) (eqb_same x)
    ∙ tag_same same t b

pub tag_differs : (x y : ℕ) (t b : Bytes) → x ≢ y → tag_at (x ∷ t) (y ∷ b) ≡ Err (Broken Tag)
unfolding Allows split_at number_at ignored_at tag_at items_at
tag_differs x y t b h = ap (λ s. cond s (tag_at t b) (Err (Broken Tag))) (eqb_other x y h)

pub tag_missing : (missing : Bytes) → missing ≢ []
    → tag_at missing [] ≡ Err (Lacks (length missing))
unfolding Allows split_at number_at ignored_at tag_at items_at
tag_missing [] h = absurd (h refl)
tag_missing (x ∷ missing) h = refl

tag_refused : (t b : Bytes) (e : Refusal) → Refuses (tag t) b e → tag_at t b ≡ Err e
tag_refused t b e (inl (same, t', b', x, y, f, g, differ, is)) =
    ap (λ z. tag_at z b) f ∙ ap (λ z. tag_at (same ++ x ∷ t') z) g
    ∙ tag_same same (x ∷ t') (y ∷ b') ∙ tag_differs x y t' b' differ ∙ ap Err (sym is)
tag_refused t b e (inr (missing, some, f, is)) =
    ap (λ z. tag_at z b) f ∙ ap (λ z. tag_at (b ++ missing) z) (sym (append-nil b))
    ∙ tag_same b missing [] ∙ tag_missing missing some ∙ ap Err (sym is)

meets_tag : (t b : Bytes) → Meets (tag t) b
unfolding Allows split_at number_at ignored_at tag_at items_at
meets_tag t b = record {
  allowed = tag_allowed t b;
  spelled = λ v r d s. ap (λ z. tag_at t z) s.0 ∙ ap (λ z. tag_at z (t ++ r)) (sym (append-nil t))
      ∙ tag_same t [] r;
  refused = λ e h. tag_refused t b e h;
}

-- windows
window_allowed : {A : Type 0} (n : ℕ) (l : Layout A) (b : Bytes) → AreBytes b → MeetsAll l
    → (a : Answer Bytes)
    → Allows (block n) b a
    → Allows (window n l) b (a and_then λ w. reading l w.0 and_then λ x. Ok (x.0, w.1))
unfolding Allows split_at number_at ignored_at tag_at items_at
window_allowed {A} n l b are inner (Ok w) (d, s) =
    go (reading l w.0) (inner w.0 (AreBytes-front w.0 w.1 (subst AreBytes s.1 are))).allowed
  where
    go : (a : Answer A) → Allows l w.0 a → Allows (window n l) b (a and_then λ x. Ok (x.0, w.1))
    go (Ok x) (f, t) = (f ++ x.1, (w.0, x.1, f, s.0, s.1, t, refl))
    go (Err e) h = inr (w.0, w.1, s.0, s.1, h)
window_allowed n l b are inner (Err e) h = inl h

window_refused : {A : Type 0} (n : ℕ) (l : Layout A) (b : Bytes) → AreBytes b → MeetsAll l
    → (e : Refusal)
    → Refuses (window n l) b e → reading (window n l) b ≡ Err e
window_refused n l b are inner e (inl h) =
    ap (λ a. a and_then λ w. reading l w.0 and_then λ x. Ok (x.0, w.1)) (split_refused n b e h)
window_refused n l b are inner e (inr (w, r, f, g, h)) =
    ap (λ a. a and_then λ w. reading l w.0 and_then λ x. Ok (x.0, w.1)) (split_spelled n b w r f g)
    ∙ ap (λ a. a and_then λ x. Ok (x.0, r))
    ((inner w (AreBytes-front w r (subst AreBytes g are))).refused e h)

meets_window : {A : Type 0} (n : ℕ) (l : Layout A) (b : Bytes) → AreBytes b → MeetsAll l
    → Meets (window n l) b
unfolding Allows split_at number_at ignored_at tag_at items_at
meets_window n l b are inner = record {
  allowed = window_allowed n l b are inner (split_at n b) (split_allowed n b);
  spelled = λ v r d s.
      ap (λ a. a and_then λ w. reading l w.0 and_then λ x. Ok (x.0, w.1))
      (split_spelled n b s.0 r s.3 s.4)
      ∙ ap (λ a. a and_then λ x. Ok (x.0, r))
      ((inner s.0 (AreBytes-front s.0 r (subst AreBytes s.4 are))).spelled v s.1 s.2 s.5);
  refused = λ e h. window_refused n l b are inner e h;
}

-- lists
still : {A : Type 0} (l : Layout A) (b : Bytes) (v : A) (m d : Bytes) → Meets l b → Spells l b v m d
    → length b ≤ length m → SpellsNothing (SpellsItem (Spells l)) b
still {A} l b v m d known s long = λ w r d2 t.
    let one : reading l b ≡ Ok (v, m) = known.spelled v m d s in
    let two : reading l b ≡ Ok (w, r) = known.spelled w r d2 t.0 in
    let pair : ◌≡◌ {A = A × Bytes} (v, m) (w, r) = cc in
    let same : length m ≡ length r = ap (λ x. length x.1) pair in
    absurd (omega (arith, t.1))

abbrev SpellsMore : {A : Type 0} → Layout A → (Bytes → List A × Bytes) → Bytes → Type 0
SpellsMore l more b = (d : Bytes) × SpellsItems (Spells l) b (more b).0 (more b).1 d

items_test : {A : Type 0} (l : Layout A) (b : Bytes) (more : Bytes → List A × Bytes) (v : A)
    (m d : Bytes) → Meets l b
    → Spells l b v m d → (length m < length b → SpellsMore l more m) → (t : Bool)
    → ltb (length m) (length b) ≡ t
    → SpellsMore l (λ b. cond t (v ∷ (more m).0, (more m).1) ([], b)) b
items_test l b more v m d known s then true e =
    let short : length m < length b = ltb-true (length m) (length b) e in
    let rest : SpellsMore l more m = then short in
    (d ++ rest.0, (m, d, rest.0, (s, short), rest.1, refl))
items_test l b more v m d known s then false e =
    ([], (refl, refl, still l b v m d known s (ltb-false (length m) (length b) e)))

items_answer : {A : Type 0} (l : Layout A) (b : Bytes) (more : Bytes → List A × Bytes) → AreBytes b
    → Meets l b
    → ((m : Bytes) → AreBytes m → length m < length b → SpellsMore l more m) → (a : Answer A)
    → Allows l b a
    → SpellsMore l (with_items a more) b
unfolding Allows split_at number_at ignored_at tag_at items_at
items_answer l b more are known then (Ok x) (d, s) =
    items_test l b more x.0 x.1 d known s (then x.1 (AreBytes-rest l b x.0 x.1 d s are))
    (ltb (length x.1) (length b))
    refl
items_answer l b more are known then (Err e) h =
    ([], (refl, refl, λ v r d s. nothing l b e known h v r d s.0))

none_in_none : {A : Type 0} (l : Layout A) (b : Bytes) → length b ≤ 0
    → SpellsNothing (SpellsItem (Spells l)) b
none_in_none l b h = λ v r d s. absurd (omega (arith, s.1))

items_allowed : {A : Type 0} (l : Layout A) → MeetsAll l → (n : ℕ) (b : Bytes) → AreBytes b
    → length b ≤ n
    → SpellsMore l (items_at (reading l) n) b
unfolding Allows split_at number_at ignored_at tag_at items_at
items_allowed l known zero b are h = ([], (refl, refl, none_in_none l b h))
items_allowed l known (suc n) b are h =
    items_answer l b (items_at (reading l) n) are (known b are)
    (λ m are2 short. items_allowed l known n m are2 (omega arith)) (reading l b)
    (known b are).allowed

items_end : {A : Type 0} (l : Layout A) (b : Bytes) (more : Bytes → List A × Bytes)
    → SpellsNothing (SpellsItem (Spells l)) b → (a : Answer A) → Allows l b a
    → with_items a more b ≡ ([], b)
unfolding Allows split_at number_at ignored_at tag_at items_at
items_end l b more none (Ok x) (d, s) =
    ap (λ t. cond t (x.0 ∷ (more x.1).0, (more x.1).1) ([], b))
    (ltb_no (length x.1) (length b) (not_below _ _ (λ short. none x.0 x.1 d (s, short))))
items_end l b more none (Err e) h = refl

items_spelled : {A : Type 0} (l : Layout A) → MeetsAll l → (n : ℕ) (b : Bytes) → AreBytes b
    → length b ≤ n
    → (vs : List A) (r d : Bytes) → SpellsItems (Spells l) b vs r d
    → items_at (reading l) n b ≡ (vs, r)
unfolding Allows split_at number_at ignored_at tag_at items_at
items_spelled l known zero b are h [] r d s = ap (λ x. ([], x)) s.0
items_spelled l known zero b are h (v ∷ vs) r d (m, d1, d2, first, rest, e) =
    absurd (omega (arith, first.1))
items_spelled l known (suc n) b are h [] r d s =
    items_end l b (items_at (reading l) n) s.2 (reading l b) (known b are).allowed
    ∙ ap (λ x. ([], x)) s.0
items_spelled l known (suc n) b are h (v ∷ vs) r d (m, d1, d2, first, rest, e) =
    let are2 : AreBytes m = AreBytes-rest l b v m d1 first.0 are in
    let then : items_at (reading l) n m ≡ (vs, r) =
    items_spelled l known n m are2 (omega (arith, first.1)) vs r d2 rest in
    ap (λ a. with_items a (items_at (reading l) n) b) ((known b are).spelled v m d1 first.0)
    ∙ ap (λ t. cond t (v ∷ (items_at (reading l) n m).0, (items_at (reading l) n m).1) ([], b))
    (ltb_yes (length m) (length b) first.1)
    ∙ ap (λ x. (v ∷ x.0, x.1)) then

meets_list : {A : Type 0} (l : Layout A) (b : Bytes) → AreBytes b → MeetsAll l → Meets (list l) b
unfolding Allows split_at number_at ignored_at tag_at items_at
meets_list l b are known = record {
  allowed = items_allowed l known (length b) b are (omega arith);
  spelled = λ v r d s. ap Ok (items_spelled l known (length b) b are (omega arith) v r d s);
  refused = λ e h. absurd h;
}

-- optional parts
option_allowed : {A : Type 0} (l : Layout A) (b : Bytes) → Meets l b → (a : Answer A) → Allows l b a
    → Allows (maybe l) b (optional_at a b)
unfolding Allows split_at number_at ignored_at tag_at items_at
option_allowed l b known (Ok x) (d, s) = (d, s)
option_allowed l b known (Err e) h = ([], (refl, refl, nothing l b e known h))

option_spelled : {A : Type 0} (l : Layout A) (b : Bytes) → Meets l b → (v : Option A) (r d : Bytes)
    → Spells (maybe l) b v r d → reading (maybe l) b ≡ Ok (v, r)
option_spelled l b known None r d s =
    ap (λ a. optional_at a b) (some_refusal l b known s.2).2 ∙ ap (λ x. Ok (None, x)) s.0
option_spelled l b known (Some v) r d s = ap (λ a. optional_at a b) (known.spelled v r d s)

meets_maybe : {A : Type 0} (l : Layout A) (b : Bytes) → Meets l b → Meets (maybe l) b
unfolding Allows split_at number_at ignored_at tag_at items_at
meets_maybe l b known = record {
  allowed = option_allowed l b known (reading l b) known.allowed;
  spelled = option_spelled l b known;
  refused = λ e h. absurd h;
}

-- one of two layouts
either_allowed : {A : Type 0} (l m : Layout A) (b : Bytes) → Meets l b → Meets m b
    → (x y : Answer A) → Allows l b x
    → Allows m b y → Allows (either l m) b (or_else x y)
unfolding Allows split_at number_at ignored_at tag_at items_at
either_allowed l m b k1 k2 (Ok x) y (d, s) h = (d, inl s)
either_allowed l m b k1 k2 (Err e) (Ok y) g (d, s) = (d, inr (nothing l b e k1 g, s))
either_allowed l m b k1 k2 (Err e) (Err f) g h = (nothing l b e k1 g, nothing m b f k2 h, refl)

either_spelled : {A : Type 0} (l m : Layout A) (b : Bytes) → Meets l b → Meets m b
    → (v : A) (r d : Bytes)
    → Spells (either l m) b v r d → reading (either l m) b ≡ Ok (v, r)
either_spelled l m b k1 k2 v r d (inl s) = ap (λ a. or_else a (reading m b)) (k1.spelled v r d s)
either_spelled l m b k1 k2 v r d (inr (none, s)) =
    ap (λ a. or_else a (reading m b)) (some_refusal l b k1 none).2
    ∙ ap (λ a. or_else (Err (some_refusal l b k1 none).0) a) (k2.spelled v r d s)

meets_either : {A : Type 0} (l m : Layout A) (b : Bytes) → Meets l b → Meets m b
    → Meets (either l m) b
unfolding Allows split_at number_at ignored_at tag_at items_at
meets_either l m b k1 k2 = record {
  allowed = either_allowed l m b k1 k2 (reading l b) (reading m b) k1.allowed k2.allowed;
  spelled = either_spelled l m b k1 k2;
  refused = λ e h.
      ap (λ a. or_else a (reading m b)) (some_refusal l b k1 h.0).2
      ∙ ap (λ a. or_else (Err (some_refusal l b k1 h.0).0) a) (some_refusal m b k2 h.1).2
      ∙ ap Err (sym h.2);
}

-- `complete`
complete_allowed : {A : Type 0} (l : Layout A) (b : Bytes) (a : Answer A) → Allows l b a
    → Allows (complete l) b (completed a)
unfolding Allows split_at number_at ignored_at tag_at items_at
complete_allowed l b (Ok x) h = h
complete_allowed l b (Err (Broken k)) h = inl (k, h, refl)
complete_allowed l b (Err (Lacks n)) h = inr (n, h, refl)

complete_refused : {A : Type 0} (l : Layout A) (b : Bytes) → Meets l b → (e : Refusal)
    → Refuses (complete l) b e
    → reading (complete l) b ≡ Err e
complete_refused l b known e (inl (k, h, is)) = ap completed (known.refused (Broken k) h)
    ∙ ap Err (sym is)
complete_refused l b known e (inr (n, h, is)) = ap completed (known.refused (Lacks n) h)
    ∙ ap Err (sym is)

meets_complete : {A : Type 0} (l : Layout A) (b : Bytes) → Meets l b → Meets (complete l) b
unfolding Allows split_at number_at ignored_at tag_at items_at
meets_complete l b known = record {
  allowed = complete_allowed l b (reading l b) known.allowed;
  spelled = λ v r d s. ap completed (known.spelled v r d s);
  refused = complete_refused l b known;
}

-- `look`
look_allowed : {A : Type 0} (l : Layout A) (b : Bytes) (a : Answer A) → Allows l b a
    → Allows (look l) b (a and_then λ x. Ok (x.0, b))
unfolding Allows split_at number_at ignored_at tag_at items_at
look_allowed l b (Ok x) (d, s) = ([], (refl, refl, (x.1, d, s)))
look_allowed l b (Err e) h = h

meets_look : {A : Type 0} (l : Layout A) (b : Bytes) → Meets l b → Meets (look l) b
unfolding Allows split_at number_at ignored_at tag_at items_at
meets_look l b known = record {
  allowed = look_allowed l b (reading l b) known.allowed;
  spelled =
      λ v r d s. ap (λ a. a and_then λ x. Ok (x.0, b)) (known.spelled v s.2.0 s.2.1 s.2.2)
      ∙ ap (λ x. Ok (v, x)) s.0;
  refused = λ e h. ap (λ a. a and_then λ x. Ok (x.0, b)) (known.refused e h);
}

-- chains
chain_allowed : {A B : Type 0} (l : Layout A) (f : A → Layout B) (b : Bytes) → AreBytes b
    → ((a : A) → MeetsAll (f a))
    → (a : Answer A) → Allows l b a → Allows (chain l f) b (a and_then λ x. reading (f x.0) x.1)
unfolding Allows split_at number_at ignored_at tag_at items_at
chain_allowed {A} {B} l f b are then (Ok x) (d, s) =
    go (reading (f x.0) x.1) (then x.0 x.1 (AreBytes-rest l b x.0 x.1 d s are)).allowed
  where
    go : (a : Answer B) → Allows (f x.0) x.1 a → Allows (chain l f) b a
    go (Ok y) (d2, s2) = (d ++ d2, (x.0, x.1, d, d2, s, s2, refl))
    go (Err e) h = inr (x.0, x.1, d, s, h)
chain_allowed l f b are then (Err e) h = inl h

chain_refused : {A B : Type 0} (l : Layout A) (f : A → Layout B) (b : Bytes) → AreBytes b
    → Meets l b
    → ((a : A) → MeetsAll (f a)) → (e : Refusal) → Refuses (chain l f) b e
    → reading (chain l f) b ≡ Err e
chain_refused l f b are first then e (inl h) =
    ap (λ a. a and_then λ x. reading (f x.0) x.1) (first.refused e h)
chain_refused l f b are first then e (inr (a, m, d, s, h)) =
    ap (λ a. a and_then λ x. reading (f x.0) x.1) (first.spelled a m d s)
    ∙ (then a m (AreBytes-rest l b a m d s are)).refused e h

meets_chain : {A B : Type 0} (l : Layout A) (f : A → Layout B) (b : Bytes) → AreBytes b → Meets l b
    → ((a : A) → MeetsAll (f a)) → Meets (chain l f) b
unfolding Allows split_at number_at ignored_at tag_at items_at
meets_chain l f b are first then = record {
  allowed = chain_allowed l f b are then (reading l b) first.allowed;
  spelled = λ v r d s.
      ap (λ a. a and_then λ x. reading (f x.0) x.1) (first.spelled s.0 s.1 s.2 s.4)
      ∙ (then s.0 s.1 (AreBytes-rest l b s.0 s.1 s.2 s.4 are)).spelled v r s.3 s.5;
  refused = λ e h. chain_refused l f b are first then e h;
}

-- every layout, on any bytes
pub meets : {A : Type 0} (l : Layout A) → MeetsAll l
meets (done a) b are = meets_done a b
meets (refuse k) b are = meets_refuse k b
meets (number k) b are = meets_number k b are
meets (ignored k) b are = meets_ignored k b
meets (block n) b are = meets_block n b
meets left b are = meets_left b
meets (tag t) b are = meets_tag t b
meets (window n l) b are = meets_window n l b are (meets l)
meets (list l) b are = meets_list l b are (meets l)
meets (maybe l) b are = meets_maybe l b (meets l b are)
meets (either l m) b are = meets_either l m b (meets l b are) (meets m b are)
meets (complete l) b are = meets_complete l b (meets l b are)
meets (look l) b are = meets_look l b (meets l b are)
meets (chain l f) b are = meets_chain l f b are (meets l b are) (λ a. meets (f a))

-- the answer of reading is allowed
pub reading_allowed : {A : Type 0} (l : Layout A) (b : Bytes) → AreBytes b
    → Allows l b (reading l b)
unfolding Allows split_at number_at ignored_at tag_at items_at
reading_allowed l b are = (meets l b are).allowed

pub read_allowed : {A : Type 0} (l : Layout A) (b : Bytes) (a : Answer A) → AreBytes b
    → reading l b ≡ a → Allows l b a
read_allowed l b a are e = subst (Allows l b) e (reading_allowed l b are)

-- no other answer is allowed
pub only_reading : {A : Type 0} (l : Layout A) (b : Bytes) → AreBytes b → (x : Answer A)
    → Allows l b x
    → x ≡ reading l b
unfolding Allows split_at number_at ignored_at tag_at items_at
only_reading l b are (Ok x) (d, s) = sym ((meets l b are).spelled x.0 x.1 d s)
only_reading l b are (Err e) h = sym ((meets l b are).refused e h)

pub allowed_is_reading : {A : Type 0} (l : Layout A) (b : Bytes) → AreBytes b → (x : Answer A)
    → Allows l b x ↔ (x ≡ reading l b)
allowed_is_reading l b are x = (only_reading l b are x, λ e. read_allowed l b x are (sym e))

pub one_answer : {A : Type 0} (l : Layout A) (b : Bytes) → AreBytes b → AllowsOne l b
unfolding Allows split_at number_at ignored_at tag_at items_at
one_answer l b are = (reading l b, reading_allowed l b are, only_reading l b are)

-- the rest of a read has only bytes, and so has a block
pub AreBytes-read : {A : Type 0} (l : Layout A) (b : Bytes) (v : A) (r : Bytes) → AreBytes b
    → reading l b ≡ Ok (v, r)
    → AreBytes r
unfolding Allows
AreBytes-read l b v r are e =
    let allowed : Allows l b (Ok (v, r)) = read_allowed l b (Ok (v, r)) are e in
    AreBytes-rest l b v r allowed.0 allowed.1 are

pub AreBytes-window : (n : ℕ) (b : Bytes) (w : Bytes × Bytes) → AreBytes b → split_at n b ≡ Ok w
    → AreBytes w.0
unfolding Allows
AreBytes-window n b w are e =
    let allowed : Allows (block n) b (Ok w) = subst (Allows (block n) b) e (split_allowed n b) in
    AreBytes-front w.0 w.1 (subst AreBytes allowed.1.1 are)
