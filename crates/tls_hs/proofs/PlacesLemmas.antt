-- Positions of the parts of a ClientHello.
use Rattle.std.proofs.Common.{
  ◌≡◌,
  ℕ,
  ◌+◌,
  ◌≤◌,
  List,
  [],
  ◌∷◌,
  ◌++◌,
  length,
  take,
  drop,
  Option,
  Some,
  None,
  Ok,
  Bool,
  true,
  false,
  ◌==◌,
  if◌then◌else◌,
  refl,
  sym,
  subst,
  ◌∙◌,
  ap,
  ap₂,
  arith,
}
use Rattle.std.proofs.lemmas.List.{append_assoc, drop_at, length-append, take-append-drop, take_at}
use Rattle.std.specs.Borrow.{Bor}
use Rattle.std.specs.Option.{option_map}
use Rattle.std.specs.Prelude.{unwrap_or}
use Rattle.layouts.specs.Bytes.{Bytes, bytes_of}
use Rattle.layouts.specs.Layout.{block, choose, counted, done, mapped, maybe, number, test}
use Rattle.layouts.specs.Meaning.{Spells, Allows}
use Rattle.layouts.specs.Text.{held}
use Rattle.layouts.specs.declared.places.Place.{Place}
use Rattle.layouts.specs.declared.result.ErrorKind.{ErrorKind}
use Rattle.layouts.proofs.NumberLemmas.{length-bytes_of}
use Rattle.layouts.proofs.OneAnswerLemmas.{eqb_other}
use Rattle.tls_hs.specs.Hello.{session_id}
use Rattle.tls_hs.specs.Places.{
  Stands,
  StandsAt,
  MayStand,
  BeginsAt,
  MayBeginAt,
  Leads,
  place_from,
  LiesAsClientHello,
  id_of,
  behind_cookie,
  in_front_of_suites,
}
use Rattle.tls_hs.specs.declared.client_hello_view.ClientHelloView.{ClientHelloView}

-- a part that begins after o bytes
pub stands_behind : (o : ℕ) (b f x r : Bytes) → b ≡ f ++ (x ++ r) → length f ≡ o → BeginsAt b o x
stands_behind o b f x r e size =
    let all : length b ≡ length f + (length x + length r) =
    ap length e ∙ length-append f (x ++ r) ∙ ap (λ n. length f + n) (length-append x r) in
    let dropped : drop o b ≡ x ++ r = ap (drop o) e ∙ drop_at f (x ++ r) o size in
    record {
      is = ap (take (length x)) dropped ∙ take_at x r (length x) refl;
      within =
          omega (arith, all, size);
    }

-- an optional part leads b, or b is the rest
abbrev pub MayLead : ℕ → Bytes → Option Bytes → Bytes → Type 0
MayLead k b (Some x) r = Leads k b x r
MayLead k b None r = b ≡ r

-- m is what is left of b after its first o bytes
pub record Left (b : Bytes) (o : ℕ) (m : Bytes) : Type 0 where
  pub front : Bytes
  pub whole : b ≡ front ++ m
  pub size : length front ≡ o

pub all_left : (b : Bytes) → Left b 0 b
all_left b = record { front = []; whole = refl; size = refl }

pub leads_at : (o k : ℕ) (b m x r : Bytes) → Left b o m → Leads k m x r → BeginsAt b (o + k) x
leads_at o k b m x r left (f, e, size) =
    stands_behind (o + k) b (left.front ++ f) x r
    (left.whole ∙ ap (λ y. left.front ++ y) e ∙ sym (append_assoc left.front f (x ++ r)))
    (length-append left.front f ∙ ap₂ (λ i j. i + j) left.size size)

pub leads_left : (o k : ℕ) (b m x r : Bytes) → Left b o m → Leads k m x r
    → Left b (o + k + length x) r
leads_left o k b m x r left (f, e, size) = record {
  front = left.front ++ f ++ x;
  whole = left.whole ∙ ap (λ y. left.front ++ y) e ∙ sym (append_assoc left.front f (x ++ r))
      ∙ sym (append_assoc (left.front ++ f) x r);
  size = length-append (left.front ++ f) x
      ∙ ap (λ n. n + length x) (length-append left.front f ∙ ap₂ (λ i j. i + j) left.size size);
}

-- what each part leads
test_holds : (c : Bool) (k : ErrorKind) (b : Bytes) (u : Unit {0}) (r d : Bytes)
    → Spells (test c k) b u r d → b ≡ r
test_holds true k b u r d s = s.1
test_holds false k b u r d s = absurd s

pub number_leads : (k : ℕ) (b : Bytes) (v : ℕ) (r : Bytes) → Allows (number k) b (Ok (v, r))
    → Leads k b [] r
unfolding Allows
number_leads k b v r (d, s) = (bytes_of k v, s.1, length-bytes_of k v)

pub block_leads : (n : ℕ) (b x r : Bytes) → Allows (block n) b (Ok (x, r))
    → Leads 0 b x r × (length x ≡ n)
unfolding Allows
block_leads n b x r (d, s) = (([], s.1, refl), s.0)

pub counted_leads : (k : ℕ) (b x r : Bytes) → Allows (counted k) b (Ok (x, r)) → Leads k b x r
unfolding Allows
counted_leads k b x r (d, (n, m, d1, d2, (small, first, e1), (size, cut, e3), e2)) =
    (bytes_of k n, first ∙ ap (λ z. bytes_of k n ++ z) cut, length-bytes_of k n)

id_held : (n : ℕ) (x : Bytes) → length x ≡ n → held (if n == 0 then None else Some x) ≡ x
id_held n x size = subst (λ k. held (if k == 0 then None else Some x) ≡ x) size (of_itself x)
  where
    of_itself : (x : Bytes) → held (if length x == 0 then None else Some x) ≡ x
    of_itself [] = refl
    of_itself (y ∷ x) = ap (λ t. held (if t then None else Some (y ∷ x)))
        (eqb_other (length (y ∷ x)) 0 (λ e. absurd (omega arith)))

pub session_id_leads : (b : Bytes) (v : Option Bytes) (r : Bytes) → Allows session_id b (Ok (v, r))
    → Leads 1 b (held v) r
unfolding Allows session_id
session_id_leads b v r (
  d,
  (
    n,
    k1,
    d1,
    d2,
    (small, first, e1),
    (u, k2, d3, d4, t, (x, k3, d5, d6, (size, cut, e5), (is, last, e6), e4), e3),
    e2,
  ),
) =
    let whole : b ≡ bytes_of 1 n ++ (x ++ r) =
    first ∙ ap (λ y. bytes_of 1 n ++ y)
    (test_holds _ _ k1 u k2 d3 t ∙ cut ∙ ap (λ y. x ++ y) last) in
    let same : held v ≡ x = ap held is ∙ id_held n x size in
    (bytes_of 1 n, whole ∙ ap (λ y. bytes_of 1 n ++ (y ++ r)) (sym same), length-bytes_of 1 n)

cookie_there : (b : Bytes) (v : Option Bytes) (r : Bytes)
    → Allows (mapped Some (counted 1)) b (Ok (v, r))
    → MayLead 1 b v r
unfolding Allows
cookie_there b v r (d, (x, m, d1, d2, s, (is, last, e2), e)) =
    let leads : Leads 1 b x r =
    counted_leads 1 b x r (d1, subst (λ y. Spells (counted 1) b x y d1) last s) in
    subst (λ y. MayLead 1 b y r) (sym is) leads

none_there : (b : Bytes) (v : Option Bytes) (r : Bytes) → Allows (done None) b (Ok (v, r))
    → MayLead 1 b v r
unfolding Allows
none_there b v r (d, (is, same, e)) = subst (λ y. MayLead 1 b y r) (sym is) same

pub cookie_leads : (c : Bool) (b : Bytes) (v : Option Bytes) (r : Bytes)
    → Allows (choose c (mapped Some (counted 1)) (done None)) b (Ok (v, r)) → MayLead 1 b v r
cookie_leads true b v r s = cookie_there b v r s
cookie_leads false b v r s = none_there b v r s

pub extensions_lead : (b : Bytes) (v : Option Bytes) (r : Bytes)
    → Allows (maybe (counted 2)) b (Ok (v, r))
    → MayLead 2 b v r
unfolding Allows
extensions_lead b None r (d, s) = s.0
extensions_lead b (Some x) r (d, s) = counted_leads 2 b x r (d, s)

-- a list that is cut off after its length
pub cut_leads : (k n : ℕ) (b m x r : Bytes) (v : ℕ) → Allows (number k) b (Ok (v, m)) → x ≡ take n m
    → r ≡ drop n m
    → Leads k b x r
cut_leads k n b m x r v read is behind =
    let (f, e, size) = number_leads k b v m read in
    (f, e ∙ ap (λ y. f ++ y) (sym (take-append-drop n m) ∙ ap₂ ◌++◌ (sym is) (sym behind)), size)

-- all parts, one after another
may_be_left : (o : ℕ) (b m : Bytes) (c : Option Bytes) (r : Bytes) → Left b o m → MayLead 1 m c r
    → Left b (behind_cookie o c) r
may_be_left o b m None r left same = subst (λ y. Left b o y) same left
may_be_left o b m (Some c) r left leads = leads_left o 1 b m c r left leads

may_begin : (o k : ℕ) (b m : Bytes) (v : Option Bytes) (r : Bytes) → Left b o m → MayLead k m v r
    → MayBeginAt b (o + k) v
may_begin o k b m None r left leads x e = absurd cc
may_begin o k b m (Some y) r left leads x e =
    let is : y ≡ x = cc in subst (λ z. BeginsAt b (o + k) z) is (leads_at o k b m y r left leads)

pub record Chain (b : Bytes) (h : ClientHelloView) (c : Option Bytes) (r : Bytes) : Type 0 where
  pub after_version : Bytes
  pub after_random : Bytes
  pub after_id : Bytes
  pub after_cookie : Bytes
  pub after_suites : Bytes
  pub after_methods : Bytes
  pub version : Leads 2 b [] after_version
  pub random : Leads 0 after_version h.random.now after_random
  pub size : length h.random.now ≡ 32
  pub session_id : Leads 1 after_random (id_of h) after_id
  pub cookie : MayLead 1 after_id c after_cookie
  pub cipher_suites : Leads 2 after_cookie h.ciphers.bytes.now after_suites
  pub compression_methods : Leads 1 after_suites h.comp.bytes.now after_methods
  pub extensions : MayLead 2 after_methods (option_map (λ x. x.now) h.ext) r

pub lies : (b : Bytes) (h : ClientHelloView) (c : Option Bytes) (r : Bytes) → Chain b h c r
    → LiesAsClientHello b h c
lies b h c r s =
    let id : Bytes = id_of h in
    let suites : Bytes = h.ciphers.bytes.now in
    let methods : Bytes = h.comp.bytes.now in
    let n : ℕ = in_front_of_suites h c in
    let random_left : Left b 2 s.after_version =
    leads_left 0 2 b b [] s.after_version (all_left b) s.version in
    let random_at : BeginsAt b 2 h.random.now =
    leads_at 2 0 b s.after_version h.random.now s.after_random random_left s.random in
    let at_id : Left b (2 + length h.random.now) s.after_random =
    leads_left 2 0 b s.after_version h.random.now s.after_random random_left s.random in
    let id_left : Left b 34 s.after_random =
    subst (λ k. Left b (2 + k) s.after_random) s.size at_id in
    let cookie_left : Left b (35 + length id) s.after_id =
    leads_left 34 1 b s.after_random id s.after_id id_left s.session_id in
    let suites_left : Left b n s.after_cookie =
    may_be_left (35 + length id) b s.after_id c s.after_cookie cookie_left s.cookie in
    let methods_left : Left b (n + 2 + length suites) s.after_suites =
    leads_left n 2 b s.after_cookie suites s.after_suites suites_left s.cipher_suites in
    let extensions_left : Left b (n + 2 + length suites + 1 + length methods) s.after_methods =
    leads_left (n + 2 + length suites) 1 b s.after_suites methods s.after_methods methods_left
    s.compression_methods in
    record {
      random = subst (λ k. Stands b (record { offset = 2; length = k }) h.random.now)
          s.size random_at;
      session_id = leads_at 34 1 b s.after_random id s.after_id id_left s.session_id;
      cookie = may_begin (35 + length id) 1 b s.after_id c s.after_cookie cookie_left s.cookie;
      cipher_suites =
          leads_at n 2 b s.after_cookie suites s.after_suites suites_left s.cipher_suites;
      compression_methods =
          leads_at (n + 2 + length suites) 1 b s.after_suites methods s.after_methods methods_left
          s.compression_methods;
      extensions =
          may_begin (n + 2 + length suites + 1 + length methods) 2 b s.after_methods
          (option_map (λ x. x.now) h.ext) r extensions_left s.extensions;
    }

-- the places that the code computes
pub held_begins : (b : Bytes) (o : ℕ) (v : Option Bytes) → BeginsAt b o (held v) → MayBeginAt b o v
held_begins b o v at x e = subst (λ y. BeginsAt b o y) (ap held e) at

pub held_stands : (b : Bytes) (o : ℕ) (v : Option (Bor (List ℕ))) (p : Option Place)
    → p ≡ option_map (λ x. place_from o x.now) v → MayBeginAt b o (option_map (λ x. x.now) v)
    → MayStand b p (option_map (λ x. x.now) v)
held_stands b o v p e at =
    subst (λ q. MayStand b q (option_map (λ x. x.now) v)) (sym e) (there v at)
  where
    there : (v : Option (Bor (List ℕ))) → MayBeginAt b o (option_map (λ x. x.now) v)
        → MayStand b (option_map (λ x. place_from o x.now) v) (option_map (λ x. x.now) v)
    there None at = tt
    there (Some x) at = at x.now refl

-- what follows the cookie begins after its place, or after that of the session id
pub last_ends : (o : ℕ) (x : Bytes) (v : Option (Bor (List ℕ)))
    → (unwrap_or (option_map (λ y. place_from (o + length x + 1) y.now) v) (place_from o x)).offset
    + (unwrap_or (option_map (λ y. place_from (o + length x + 1) y.now) v) (place_from o x)).length
    ≡ behind_cookie (o + length x) (option_map (λ y. y.now) v)
last_ends o x None = refl
last_ends o x (Some y) = refl

-- a part at a place within b is at that place
pub stands_there : (b : Bytes) (p : Option Place) (v : Option (Bor (List ℕ)))
    → MayStand b p (option_map (λ x. x.now) v) → StandsAt b p v
stands_there b (Some p) (Some x) s = s.is
stands_there b None None s = tt
stands_there b (Some p) None s = absurd s
stands_there b None (Some x) s = absurd s
