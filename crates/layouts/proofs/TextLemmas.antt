-- Encodings with nothing dropped, part by part, and the bytes that encode a value.
use Rattle.std.proofs.Common.{
  ◌≡◌,
  ℕ,
  zero,
  suc,
  ◌+◌,
  ◌*◌,
  ◌/◌,
  ◌%◌,
  ◌^◌,
  ◌<◌,
  List,
  [],
  ◌∷◌,
  ◌++◌,
  length,
  map,
  take,
  get_or,
  Ok,
  Bool,
  true,
  false,
  refl,
  sym,
  ◌∙◌,
  ap,
  subst,
  arith,
  append_assoc,
  append-nil,
}
use Rattle.std.proofs.lemmas.List.{length-append, map-append, take_more}
use Rattle.std.proofs.lemmas.Grind.{flat_map-append}
use Rattle.std.specs.List.{All, flat_map}
use Rattle.std.proofs.lemmas.List.Elements.{All-nil, All-cons, All-head, All-push, All-tail}
use Rattle.layouts.specs.Bytes.{Bytes, AreBytes, bytes_of}
use Rattle.layouts.specs.Layout.{Layout, done, number, block, window, list, chain, test, choose, counted, times}
use Rattle.layouts.specs.Meaning.{Spells, SpellsItems, Allows}
use Rattle.layouts.specs.Reading.{reading}
use Rattle.layouts.specs.declared.result.ErrorKind.{ErrorKind}
use Rattle.layouts.proofs.NumberLemmas.{length-bytes_of, AreBytes-append}
use Rattle.layouts.proofs.OneAnswerLemmas.{meets}
use Rattle.layouts.specs.Text.{counted_text, numbers_text}

-- an encoded value is read, and allowed
pub spelled_read : {A : Type 0} (l : Layout A) (b : Bytes) (v : A) (r d : Bytes) → AreBytes b
    → Spells l b v r d
    → reading l b ≡ Ok (v, r)
spelled_read l b v r d are s = (meets l b are).spelled v r d s

pub spelled_allowed : {A : Type 0} (l : Layout A) (b : Bytes) (v : A) (r d : Bytes)
    → Spells l b v r d
    → Allows l b (Ok (v, r))
unfolding Allows
spelled_allowed l b v r d s = (d, s)

pub both_empty : (xs ys : Bytes) → [] ≡ xs ++ ys → (xs ≡ []) × (ys ≡ [])
both_empty [] ys e = (refl, sym e)
both_empty (x ∷ xs) ys e = absurd cc

-- The parts of a chain with nothing dropped.
pub record Parts {A B : Type 0} (l : Layout A) (f : A → Layout B) (b : Bytes) (v : B)
    (r : Bytes) : Type 0 where
  pub value : A
  pub middle : Bytes
  pub first : Spells l b value middle []
  pub then : Spells (f value) middle v r []

pub parts : {A B : Type 0} (l : Layout A) (f : A → Layout B) (b : Bytes) (v : B) (r : Bytes)
    → Spells (chain l f) b v r [] → Parts l f b v r
parts l f b v r (a, m, d1, d2, s, t, e) =
    let none = both_empty d1 d2 e in
    record {
      value = a;
      middle = m;
      first = subst (λ d. Spells l b a m d) none.0 s;
      then = subst (λ d. Spells (f a) m v r d) none.1 t;
    }

-- two parts with nothing dropped are a chain with nothing dropped
pub joined : {A B : Type 0} (l : Layout A) (f : A → Layout B) (b : Bytes) (v : B) (r : Bytes)
    (a : A) (m : Bytes)
    → Spells l b a m [] → Spells (f a) m v r [] → Spells (chain l f) b v r []
joined l f b v r a m s t = (a, m, [], [], s, t, refl)

-- a passed test consumes nothing
pub test_spelled : (t : Bool) (k : ErrorKind) (b : Bytes) → t ≡ true → Spells (test t k) b tt b []
test_spelled true k b e = (refl, refl, refl)
test_spelled false k b e = absurd cc

pub test_whole : (t : Bool) (k : ErrorKind) (b : Bytes) (v : Unit) (r d : Bytes)
    → Spells (test t k) b v r d
    → (t ≡ true) × (b ≡ r)
test_whole true k b v r d s = (refl, s.1)
test_whole false k b v r d s = absurd s

-- which of two layouts is chosen
pub data Picked {A : Type 0} (t : Bool) (l m : Layout A) (b : Bytes) (v : A)
    (r d : Bytes) : Type 0 where
  First : t ≡ true → Spells l b v r d → Picked t l m b v r d
  Second : t ≡ false → Spells m b v r d → Picked t l m b v r d

pub picked : {A : Type 0} (t : Bool) (l m : Layout A) (b : Bytes) (v : A) (r d : Bytes)
    → Spells (choose t l m) b v r d
    → Picked t l m b v r d
picked true l m b v r d s = First refl s
picked false l m b v r d s = Second refl s

-- a window that its content fills
pub record Filled {A : Type 0} (n : ℕ) (l : Layout A) (b : Bytes) (v : A) (r : Bytes) : Type 0 where
  pub content : Bytes
  pub size : length content ≡ n
  pub is : b ≡ content ++ r
  pub inner : Spells l content v [] []

pub filled : {A : Type 0} (n : ℕ) (l : Layout A) (b : Bytes) (v : A) (r : Bytes)
    → Spells (window n l) b v r []
    → Filled n l b v r
filled n l b v r (w, e, f, size, is, s, d) =
    let none = both_empty f e d in
    record {
      content = w;
      size = size;
      is = is;
      inner = subst (λ x. Spells l w v x []) none.1 (subst (λ x. Spells l w v e x) none.0 s);
    }

pub window_spelled : {A : Type 0} (l : Layout A) (w : Bytes) (v : A) (r : Bytes)
    → Spells l w v [] []
    → Spells (window (length w) l) (w ++ r) v r []
window_spelled l w v r s = (w, [], [], refl, refl, s, refl)

-- a counted block
pub counted_spelled : (k : ℕ) (v r : Bytes) → length v < 256 ^ k
    → Spells (counted k) (counted_text k v ++ r) v r []
counted_spelled k v r h = (
  length v,
  v ++ r,
  [],
  [],
  (h, append_assoc (bytes_of k (length v)) v r, refl),
  (refl, refl, refl),
  refl,
)

pub counted_whole : (k : ℕ) (b v r : Bytes) → Spells (counted k) b v r []
    → (length v < 256 ^ k) × (b ≡ counted_text k v ++ r)
counted_whole k b v r s =
    let p = parts (number k) block b v r s in
    let n = p.first in
    let c = p.then in (
      subst (λ x. x < 256 ^ k) (sym c.0) n.0,
      n.1
          ∙ ap (λ x. bytes_of k x ++ p.middle) (sym c.0)
          ∙ ap (λ x. bytes_of k (length v) ++ x) c.1
          ∙ sym (append_assoc (bytes_of k (length v)) v r),
    )

-- two encodings, one after the other
pub chain_spelled : {A B : Type 0} (l : Layout A) (f : A → Layout B) (t u r : Bytes) (a : A) (v : B)
    → Spells l (t ++ (u ++ r)) a (u ++ r) [] → Spells (f a) (u ++ r) v r []
    → Spells (chain l f) ((t ++ u) ++ r) v r []
chain_spelled l f t u r a v s h =
    subst (λ b. Spells (chain l f) b v r []) (sym (append_assoc t u r))
    (joined l f (t ++ (u ++ r)) v r a (u ++ r) s h)

pub then_text : (b t m u r : Bytes) → b ≡ t ++ m → m ≡ u ++ r → b ≡ (t ++ u) ++ r
then_text b t m u r e f = e ∙ ap (λ x. t ++ x) f ∙ sym (append_assoc t u r)

-- the parts of joined items
pub record Joined {A : Type 0} (text : A → Bytes) (Fits : A → Type 0) (b : Bytes) (vs : List A)
    (r : Bytes) : Type 0
  where
    pub fits : All Fits vs
    pub is : b ≡ flat_map text vs ++ r

none_joined : {A : Type 0} (text : A → Bytes) (Fits : A → Type 0) (b : Bytes) (vs : List A)
    (r : Bytes) → vs ≡ []
    → b ≡ r → Joined text Fits b vs r
none_joined text Fits b vs r e f =
    subst (λ vs. Joined text Fits b vs r) (sym e) (record { fits = All-nil Fits; is = f })

pub more_joined : {A : Type 0} (text : A → Bytes) (Fits : A → Type 0) (b : Bytes) (v : A)
    (m : Bytes) (vs : List A)
    (r : Bytes)
    → Fits v → b ≡ text v ++ m → Joined text Fits m vs r → Joined text Fits b (v ∷ vs) r
more_joined text Fits b v m vs r h e j =
    record {
      fits = All-cons Fits v vs h j.fits;
      is =
          then_text b (text v) m (flat_map text vs) r e j.is;
    }

-- items, each encoded by its own text
module _ {A : Type 0} (l : Layout A) (text : A → Bytes) (Fits : A → Type 0) where
  pub times_spelled : ((v : A) (r : Bytes) → Fits v → Spells l (text v ++ r) v r [])
      → (vs : List A) (r : Bytes)
      → All Fits vs → Spells (times (length vs) l) (flat_map text vs ++ r) vs r []
  times_spelled one [] r h = (refl, refl, refl)
  times_spelled one (v ∷ vs) r h =
      chain_spelled l (λ x. chain (times (length vs) l) (λ xs. done (x ∷ xs))) (text v)
      (flat_map text vs) r v (v ∷ vs)
      (one v (flat_map text vs ++ r) (All-head Fits v vs h))
      (joined (times (length vs) l) (λ xs. done (v ∷ xs)) (flat_map text vs ++ r) (v ∷ vs) r vs r
      (times_spelled one vs r (All-tail Fits v vs h)) (refl, refl, refl))

  pub times_whole : ((b : Bytes) (v : A) (r : Bytes) → Spells l b v r []
      → Fits v × (b ≡ text v ++ r))
      → (n : ℕ) (b : Bytes) (vs : List A) (r : Bytes) → Spells (times n l) b vs r []
      → (length vs ≡ n) × Joined text Fits b vs r
  times_whole one zero b vs r s = (ap length s.0, none_joined text Fits b vs r s.0 s.1)
  times_whole one (suc n) b vs r s =
      let p = parts l (λ x. chain (times n l) (λ xs. done (x ∷ xs))) b vs r s in
      let q = parts (times n l) (λ xs. done (p.value ∷ xs)) p.middle vs r p.then in
      let here = one b p.value p.middle p.first in
      let more =
      times_whole one n p.middle q.value r
      (subst (λ m. Spells (times n l) p.middle q.value m []) q.then.1 q.first)
      in
      let is : vs ≡ p.value ∷ q.value = q.then.0 in (
        ap length is ∙ ap suc more.0,
        subst (λ vs. Joined text Fits b vs r) (sym is)
            (more_joined text Fits b p.value p.middle q.value r here.0 here.1 more.1),
      )

  -- a list of items of some kind, to the end
  pub list_whole : (Kind : A → Type 0)
      → ((b : Bytes) (v : A) (r : Bytes) → Kind v → Spells l b v r [] → Fits v × (b ≡ text v ++ r))
      → (b : Bytes) (vs : List A) (r : Bytes) → All Kind vs → Spells (list l) b vs r []
      → Joined text Fits b vs r
  list_whole Kind one b [] r kinds s = none_joined text Fits b [] r refl s.0
  list_whole Kind one b (v ∷ vs) r kinds (m, d1, d2, item, more, e) =
      let none = both_empty d1 d2 e in
      let here = one b v m (All-head Kind v vs kinds)
      (subst (λ d. Spells l b v m d) none.0 item.0) in
      more_joined text Fits b v m vs r here.0 here.1
      (list_whole Kind one m vs r (All-tail Kind v vs kinds)
      (subst (λ d. SpellsItems (Spells l) m vs r d) none.1 more))

-- a value that is read, whatever is dropped
abbrev pub Reads : {A : Type 0} → Layout A → Bytes → A → Bytes → Type 0
Reads l b v r = (d : Bytes) × Spells l b v r d

pub reads_chain : {A B : Type 0} (l : Layout A) (f : A → Layout B) (b : Bytes) (v : B) (r : Bytes)
    (a : A) (m : Bytes)
    → Reads l b a m → Reads (f a) m v r → Reads (chain l f) b v r
reads_chain l f b v r a m (d1, s) (d2, t) = (d1 ++ d2, (a, m, d1, d2, s, t, refl))

pub reads_window : {A : Type 0} (l : Layout A) (w : Bytes) (v : A) (e r : Bytes) → Reads l w v e
    → Reads (window (length w) l) (w ++ r) v r
reads_window l w v e r (f, s) = (f ++ e, (w, e, f, refl, refl, s, refl))

pub reads_allowed : {A : Type 0} (l : Layout A) (b : Bytes) (v : A) (r : Bytes) → Reads l b v r
    → Allows l b (Ok (v, r))
unfolding Allows
reads_allowed l b v r h = h

-- a list whose items read back as other values, to the end
pub list_reads : {V A : Type 0} (l : Layout A) (text : V → Bytes) (value : V → A)
    (Fits : V → Type 0)
    → ((v : V) (r : Bytes) → Fits v → Reads l (text v ++ r) (value v) r)
    → ((v : V) → Fits v → 0 < length (text v))
    → (vs : List V) → All Fits vs → Reads (list l) (flat_map text vs) (map value vs) []
list_reads l text value Fits one some [] h =
    ([], (refl, refl, λ v r d s. absurd (omega (arith, s.1))))
list_reads l text value Fits one some (v ∷ vs) h =
    let here = one v (flat_map text vs) (All-head Fits v vs h) in
    let more = list_reads l text value Fits one some vs (All-tail Fits v vs h) in (
      here.0 ++ more.0,
      (
        flat_map text vs,
        here.0,
        more.0,
        (
          here.1,
          omega
              (arith, some v (All-head Fits v vs h), length-append (text v) (flat_map text vs)),
        ),
        more.1,
        refl,
      ),
    )

-- a choice whose test is known
pub picks_first : {A : Type 0} (t : Bool) (l m : Layout A) (b : Bytes) (v : A) (r d : Bytes)
    → t ≡ true
    → Spells l b v r d → Spells (choose t l m) b v r d
picks_first true l m b v r d e s = s
picks_first false l m b v r d e s = absurd cc

pub picks_second : {A : Type 0} (t : Bool) (l m : Layout A) (b : Bytes) (v : A) (r d : Bytes)
    → t ≡ false
    → Spells m b v r d → Spells (choose t l m) b v r d
picks_second true l m b v r d e s = absurd cc
picks_second false l m b v r d e s = s

-- numbers
pub number_spelled : (k x : ℕ) (r : Bytes) → x < 256 ^ k
    → Spells (number k) (bytes_of k x ++ r) x r []
number_spelled k x r h = (h, refl, refl)

pub number_whole : (k : ℕ) (b : Bytes) (x : ℕ) (r : Bytes) → Spells (number k) b x r []
    → (x < 256 ^ k) × (b ≡ bytes_of k x ++ r)
number_whole k b x r s = (s.0, s.1)

pub length-numbers : (k : ℕ) (xs : List ℕ) → length (numbers_text k xs) ≡ length xs * k
length-numbers k [] = omega arith
length-numbers k (x ∷ xs) =
    length-append (bytes_of k x) (numbers_text k xs)
    ∙ omega (arith, length-bytes_of k x, length-numbers k xs)

-- one more number
pub numbers_more : {X : Type 0} (k : ℕ) (f : X → ℕ) (xs : List X) (i : ℕ) (d : X) → i < length xs
    → numbers_text k (map f (take (i + 1) xs)) ≡ numbers_text k (map f (take i xs)) ++ bytes_of k
    (f (get_or xs i d))
numbers_more k f xs i d h =
    ap (λ ys. numbers_text k (map f ys)) (take_more xs i d h)
    ∙ ap (λ ys. numbers_text k ys) (map-append f (take i xs) (get_or xs i d ∷ []))
    ∙ flat_map-append (bytes_of k) (map f (take i xs)) (f (get_or xs i d) ∷ [])
    ∙ ap (λ ys. numbers_text k (map f (take i xs)) ++ ys)
    (append-nil (bytes_of k (f (get_or xs i d))))

pub numbers_behind : {X : Type 0} (k : ℕ) (f : X → ℕ) (xs : List X) (i : ℕ) (d : X) (a b c : Bytes)
    → i < length xs
    → b ≡ a ++ numbers_text k (map f (take i xs)) → c ≡ b ++ bytes_of k (f (get_or xs i d))
    → c ≡ a ++ numbers_text k (map f (take (i + 1) xs))
numbers_behind k f xs i d a b c h e g =
    g
    ∙ ap (λ x. x ++ bytes_of k (f (get_or xs i d))) e
    ∙ append_assoc a (numbers_text k (map f (take i xs))) (bytes_of k (f (get_or xs i d)))
    ∙ ap (λ x. a ++ x) (sym (numbers_more k f xs i d h))

-- the encoding of a number has only bytes, so it is read back
one_byte : (x : ℕ) → AreBytes (x % 256 ∷ [])
one_byte x zero = omega arith
one_byte x (suc i) = omega arith

pub AreBytes-bytes_of : (k x : ℕ) → AreBytes (bytes_of k x)
AreBytes-bytes_of zero x = λ i. omega arith
AreBytes-bytes_of (suc k) x =
    AreBytes-append (bytes_of k (x / 256)) (x % 256 ∷ []) (AreBytes-bytes_of k (x / 256))
    (one_byte x)

pub number_back : (k x : ℕ) (r : Bytes) → AreBytes r → x < 256 ^ k
    → reading (number k) (bytes_of k x ++ r) ≡ Ok (x, r)
number_back k x r are h =
    spelled_read (number k) (bytes_of k x ++ r) x r []
    (AreBytes-append (bytes_of k x) r (AreBytes-bytes_of k x) are)
    (number_spelled k x r h)

pub all_behind : {X Y : Type 0} (P : Y → Type 0) (f : X → Y) (xs : List X) (i : ℕ) (d : X)
    → i < length xs
    → All P (map f (take i xs)) → P (f (get_or xs i d)) → All P (map f (take (i + 1) xs))
all_behind P f xs i d h all here =
    subst (All P)
    (sym (ap (λ ys. map f ys) (take_more xs i d h)
    ∙ map-append f (take i xs) (get_or xs i d ∷ [])))
    (All-push P (map f (take i xs)) (f (get_or xs i d)) all here)
