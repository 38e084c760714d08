-- What writers share: encodings of items one after another, the first item that is refused, and
-- what a `Write` has taken.
use Rattle.std.proofs.Common.{
  ◌≡◌,
  ℕ,
  suc,
  ◌+◌,
  ◌-◌,
  ◌<◌,
  ◌≤◌,
  inl,
  inr,
  List,
  [],
  ◌∷◌,
  ◌++◌,
  length,
  map,
  take,
  drop,
  get_or,
  Option,
  refl,
  sym,
  ◌∙◌,
  ap,
  subst,
  arith,
  append-nil,
  drop-cons,
}
use Rattle.std.specs.List.{All, flat_map}
use Rattle.std.specs.Io.KnownBytes.{Appends}
use Rattle.std.proofs.KnownBytes.{Appends-trans}
use Rattle.std.proofs.Math.Seq.{take-add}
use Rattle.std.proofs.lemmas.List.{
  length-append,
  map-append,
  take_more,
  take-append-drop,
  take_rest,
  length-map,
  get_or-map,
}
use Rattle.std.proofs.lemmas.Grind.{flat_map-append}
use Rattle.std.proofs.lemmas.List.Elements.{All-head, All-tail, All-get_or}
use Rattle.layouts.specs.Bytes.{Bytes}
use Rattle.layouts.specs.Writer.{RefusesFirst}
use Rattle.layouts.proofs.TextLemmas.{all_behind}
use Rattle.layouts.specs.declared.writer.GenError.{GenError}
use Rattle.layouts.specs.declared.writer.GenError.TheVariants.{BadLength}

-- one more encoding
pub texts_more : {X A : Type 0} (text : A → Bytes) (f : X → A) (xs : List X) (i : ℕ) (d : X)
    → i < length xs
    → flat_map text (map f (take (i + 1) xs)) ≡ flat_map text (map f (take i xs)) ++ text
    (f (get_or xs i d))
texts_more text f xs i d h =
    ap (λ ys. flat_map text (map f ys)) (take_more xs i d h)
    ∙ ap (λ ys. flat_map text ys) (map-append f (take i xs) (get_or xs i d ∷ []))
    ∙ flat_map-append text (map f (take i xs)) (f (get_or xs i d) ∷ [])
    ∙ ap (λ ys. flat_map text (map f (take i xs)) ++ ys) (append-nil (text (f (get_or xs i d))))

-- the item of a list at a position
item_at : {X : Type 0} (xs : List X) (i : ℕ) (x : X) → i < length xs → x ≡ get_or xs i x
    → xs ≡ take i xs ++ x ∷ drop (suc i) xs
item_at xs i x h is =
    sym (take-append-drop i xs)
    ∙ ap (λ ys. take i xs ++ ys) (drop-cons xs i x h ∙ ap (λ y. y ∷ drop (suc i) xs) (sym is))

-- the first item that is refused, after others that fit
module _ {A : Type 0} (Fits : A → Type 0) (Refused : A → GenError → Type 0) where
  first_refused : (xs ys : List A) (v : A) (e : GenError) → All Fits xs → Refused v e
      → RefusesFirst Fits Refused (xs ++ v ∷ ys) e
  first_refused [] ys v e fits r = inl r
  first_refused (x ∷ xs) ys v e fits r =
      inr (All-head Fits x xs fits, first_refused xs ys v e (All-tail Fits x xs fits) r)

  pub none_refused : (xs : List A) → All Fits xs → RefusesFirst Fits Refused xs BadLength
  none_refused [] fits = refl
  none_refused (x ∷ xs) fits =
      inr (All-head Fits x xs fits, none_refused xs (All-tail Fits x xs fits))

  pub refused_at : {X : Type 0} (f : X → A) (xs : List X) (i : ℕ) (x : X) (e : GenError)
      → i < length xs
      → x ≡ get_or xs i x → All Fits (map f (take i xs)) → Refused (f x) e
      → RefusesFirst Fits Refused (map f xs) e
  refused_at f xs i x e h is fits r =
      subst (λ ys. RefusesFirst Fits Refused ys e)
      (sym (ap (λ ys. map f ys) (item_at xs i x h is)
      ∙ map-append f (take i xs) (x ∷ drop (suc i) xs)))
      (first_refused (map f (take i xs)) (map f (drop (suc i) xs)) (f x) e fits r)

-- each item of a list in which all fit
pub fits_at : {X A : Type 0} (Fits : A → Type 0) (f : X → A) (xs : List X) (i : ℕ) (x : X)
    → i < length xs
    → x ≡ get_or xs i x → All Fits (map f xs) → Fits (f x)
fits_at Fits f xs i x h is fits =
    let same : get_or (map f xs) i (f x) ≡ f x = get_or-map f xs i x (f x) h ∙ ap f (sym is) in
    subst Fits same
    (All-get_or Fits (map f xs) i (f x) (subst (λ n. i < n) (sym (length-map xs f)) h) fits)

pub fits_behind : {X A : Type 0} (Fits : A → Type 0) (f : X → A) (xs : List X) (i : ℕ) (x : X)
    → i < length xs
    → x ≡ get_or xs i x → All Fits (map f (take i xs)) → Fits (f x)
    → All Fits (map f (take (i + 1) xs))
fits_behind Fits f xs i x h is fits here =
    all_behind Fits f xs i x h fits (subst (λ y. Fits (f y)) is here)

-- the encodings of some items are no longer than those of all
texts_within : {X A : Type 0} (text : A → Bytes) (f : X → A) (xs : List X) (i : ℕ)
    → length (flat_map text (map f (take i xs))) ≤ length (flat_map text (map f xs))
texts_within text f xs i =
    let all : flat_map text (map f xs) ≡ flat_map text (map f (take i xs)) ++ flat_map text
    (map f (drop i xs)) =
    ap (λ ys. flat_map text (map f ys)) (sym (take-append-drop i xs))
    ∙ ap (λ ys. flat_map text ys) (map-append f (take i xs) (drop i xs))
    ∙ flat_map-append text (map f (take i xs)) (map f (drop i xs)) in
    omega (
      arith,
      ap length all,
      length-append (flat_map text (map f (take i xs))) (flat_map text (map f (drop i xs))),
    )

-- the length of one more encoding
pub texts_at : {X A : Type 0} (text : A → Bytes) (f : X → A) (xs : List X) (i : ℕ) (d : X)
    → i < length xs
    → length (flat_map text (map f (take (i + 1) xs)))
    ≡ length (flat_map text (map f (take i xs))) + length (text (f (get_or xs i d)))
texts_at text f xs i d h =
    ap length (texts_more text f xs i d h)
    ∙ length-append (flat_map text (map f (take i xs))) (text (f (get_or xs i d)))

pub room_at : {X A : Type 0} (text : A → Bytes) (f : X → A) (xs : List X) (i : ℕ) (d : X)
    → i < length xs
    → length (flat_map text (map f (take i xs))) + length (text (f (get_or xs i d))) ≤ length
    (flat_map text (map f xs))
room_at text f xs i d h = omega (arith, texts_at text f xs i d h, texts_within text f xs (i + 1))

pub texts_taken : {X A : Type 0} (text : A → Bytes) (f : X → A) (xs : List X) (i : ℕ) (x : X)
    → i < length xs
    → x ≡ get_or xs i x
    → flat_map text (map f (take (i + 1) xs)) ≡ flat_map text (map f (take i xs)) ++ text (f x)
texts_taken text f xs i x h is =
    texts_more text f xs i x h ∙ ap (λ y. flat_map text (map f (take i xs)) ++ text (f y)) (sym is)

pub room_for : {X A : Type 0} (text : A → Bytes) (f : X → A) (xs : List X) (i : ℕ) (x : X)
    → i < length xs
    → x ≡ get_or xs i x
    → length (flat_map text (map f (take i xs))) + length (text (f x)) ≤ length
    (flat_map text (map f xs))
room_for text f xs i x h is =
    omega (arith, room_at text f xs i x h, ap (λ y. length (text (f y))) is)

-- a prefix, and then n of the other bytes, is a longer prefix
pub longer_front : (a b c : Option (List ℕ)) (xs : List ℕ) (i n : ℕ) → Appends a b (take i xs)
    → Appends b c (take n (take (length xs - i) (drop i xs))) → Appends a c (take (i + n) xs)
longer_front a b c xs i n front more =
    rw (take-add i n xs, ← take_rest xs i) (Appends-trans a b c _ _ front more)
