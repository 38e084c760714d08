-- No hello has more suites or extensions than JA4 accepts.
use Rattle.std.proofs.Common.{◌≡◌, ℕ, zero, suc, ◌+◌, ◌*◌, ◌/◌, ◌^◌, ◌<◌, ◌≤◌, inl, inr, List, [], ◌∷◌, length, Option, Some, None, Ok, Err, Bool, true, false, not, cond, ltb, le_refl, take, drop, ◌-◌, refl, sym, ◌∙◌, ap, subst, arith}
use Rattle.std.specs.Bool.{⊤}
use Rattle.std.proofs.lemmas.Bool.{ltb-false}
use Rattle.std.proofs.lemmas.List.{length-drop}
use Rattle.tls_ext.specs.InPlace.{extension_type}
use Rattle.layouts.specs.Bytes.{Bytes, number_of}
use Rattle.layouts.specs.Framed.{framed}
use Rattle.layouts.specs.Layout.{Layout, done, number, chain, counted, mapped, maybe, times}
use Rattle.layouts.specs.Meaning.{Allows, Answer, Lacks, Spells}
use Rattle.layouts.specs.Reading.{reading, items_at, number_at, split_at, with_items, ◌and_then◌}
use Rattle.layouts.specs.Text.{held}
use Rattle.layouts.proofs.LeavesLemmas.{Leaves, leaves}
use Rattle.tls_fingerprints.specs.Hellos.{types_in}
use Rattle.tls_fingerprints.specs.Ja4.{IsTooLong}
use Rattle.tls_fingerprints.specs.Numbers.{is_grease, without_grease}
use Rattle.tls_hs.specs.Hello.{ClientHello, cipher_suites, client_hello, client_hello_with}
use Rattle.tls_records.specs.DtlsHello as dtls
use Rattle.wispuddera_c.specs.Fingerprint.{client_of}

times_count : {A : Type 0} (n : ℕ) (l : Layout A) (b : Bytes) (xs : List A) (r d : Bytes)
    → Spells (times n l) b xs r d
    → length xs ≡ n
times_count zero l b xs r d s = ap length s.0
times_count (suc n) l b xs r d s =
    let t = s.5 in
    let all : xs ≡ s.0 ∷ t.0 = t.5.0 in
    ap length all ∙ ap suc (times_count n l s.1 t.0 t.1 t.2 t.4)

suites_bound : (b : Bytes) (xs : List ℕ) (r d : Bytes) → Spells cipher_suites b xs r d
    → length xs ≤ 32767
unfolding cipher_suites
suites_bound b xs r d s =
    let k = s.0 in
    let small : k < 256 ^ 2 = s.4.0 in
    let t = s.5 in
    let u = t.5 in
    let count : length xs ≡ k / 2 = times_count (k / 2) (number 2) u.1 xs r u.3 u.5 in
    omega (arith, small, count)

block_bound : (b e r d : Bytes) → Spells (counted 2) b e r d → length e ≤ 65535
block_bound b e r d s =
    let small : s.0 < 256 ^ 2 = s.4.0 in
    let size : length e ≡ s.0 = s.5.0 in
    omega (arith, small, size)

maybe_bound : (b : Bytes) (e : Option Bytes) (r d : Bytes) → Spells (maybe (counted 2)) b e r d
    → length (held e) ≤ 65535
maybe_bound b None r d s = omega arith
maybe_bound b (Some e) r d s = block_bound b e r d s

-- how many suites a hello has, and how many bytes of extensions
record Bounds (h : ClientHello) : Type 0 where
  suites : length h.cipher_suites ≤ 32767
  extensions : length (held h.extensions) ≤ 65535

fields_bounds : (l : Layout (Option Bytes)) (b : Bytes) (x : ClientHello × Option Bytes)
    (r d : Bytes)
    → Spells (client_hello_with l) b x r d → Bounds x.0
unfolding client_hello_with
fields_bounds l b x r d s =
    let s1 = s.5 in
    let s2 = s1.5 in
    let s3 = s2.5 in
    let s4 = s3.5 in
    let s5 = s4.5 in
    let s6 = s5.5 in
    let is = s6.5.0 in
    subst (λ (y : ClientHello × Option Bytes). Bounds y.0) (sym is) (record {
      suites = suites_bound s3.1 s4.0 s4.1 s4.2 s4.4;
      extensions = maybe_bound s5.1 s6.0 s6.1 s6.2 s6.4;
    })

hello_bounds : (b : Bytes) (h : ClientHello) (r d : Bytes) → Spells client_hello b h r d → Bounds h
unfolding client_hello
hello_bounds b h r d s = subst Bounds (sym s.5.0) (fields_bounds (done None) b s.0 s.1 s.2 s.4)

dtls_hello_bounds : (b : Bytes) (h : dtls.ClientHello) (r d : Bytes)
    → Spells dtls.client_hello b h r d → Bounds h.hello
unfolding dtls.client_hello
dtls_hello_bounds b h r d s = subst (λ (x : dtls.ClientHello). Bounds x.hello) (sym s.5.0)
    (fields_bounds (mapped Some (counted 1)) b s.0 s.1 s.2 s.4)

-- a parsed item takes at least two bytes
abbrev TakesTwo : {A : Type 0} → ℕ → Answer A → Type 0
TakesTwo n (Ok x) = length x.1 + 2 ≤ n
TakesTwo n (Err e) = ⊤

split_takes : (b : Bytes) → TakesTwo (length b) (split_at 2 b)
unfolding split_at
split_takes b = go (ltb (length b) 2) refl
  where
    go : (t : Bool) → ltb (length b) 2 ≡ t
        → TakesTwo (length b) (cond t (Err (Lacks (2 - length b))) (Ok (take 2 b, drop 2 b)))
    go true e = tt
    go false e = omega (arith, length-drop 2 b, ltb-false (length b) 2 e)

takes_then : {A B : Type 0} (n : ℕ) (a : Answer A) (f : A × Bytes → Answer B) → TakesTwo n a
    → ((x : A × Bytes) → Leaves (length x.1) (f x)) → TakesTwo n (a and_then f)
takes_then {A} {B} n (Ok x) f h more = go (f x) (more x)
  where
    go : (c : Answer B) → Leaves (length x.1) c → TakesTwo n c
    go (Ok y) l = omega (arith, h, l)
    go (Err e) l = tt
takes_then n (Err e) f h more = tt

number_takes : (b : Bytes) → TakesTwo (length b) (reading (number 2) b)
unfolding number_at
number_takes b =
    takes_then _ (split_at 2 b) (λ x. Ok (number_of x.0, x.1)) (split_takes b) (λ x. le_refl _)

framed_takes : (b : Bytes) → TakesTwo (length b) (reading (framed 2 2) b)
unfolding framed
framed_takes b =
    takes_then _ (reading (number 2) b)
    (λ x. reading (chain (counted 2) (λ c. done (record { kind = x.0; content = c }))) x.1)
    (number_takes b)
    (λ x. leaves (chain (counted 2) (λ c. done (record { kind = x.0; content = c }))) x.1)

type_takes : (b : Bytes) → TakesTwo (length b) (reading extension_type b)
type_takes b = takes_then _ (reading (framed 2 2) b) (λ x. reading (done x.0.kind) x.1)
    (framed_takes b) (λ x. le_refl _)

-- so there are at most half as many items as bytes
with_bound : {A : Type 0} (a : Answer A) (more : Bytes → List A × Bytes) (b : Bytes)
    → TakesTwo (length b) a
    → ((c : Bytes) → 2 * length (more c).0 ≤ length c)
    → 2 * length (with_items a more b).0 ≤ length b
with_bound (Err e) more b h k = omega arith
with_bound {A} (Ok x) more b h k = test (ltb (length x.1) (length b))
  where
    test : (t : Bool)
        → 2 * length
        (cond {A = List A × Bytes} t (x.0 ∷ (more x.1).0, (more x.1).1) ([], b)).0 ≤ length b
    test true = omega (arith, h, k x.1)
    test false = omega arith

items_bound : {A : Type 0} (f : Bytes → Answer A) (n : ℕ) (b : Bytes)
    → ((c : Bytes) → TakesTwo (length c) (f c))
    → 2 * length (items_at f n b).0 ≤ length b
unfolding items_at
items_bound f zero b h = omega arith
items_bound f (suc n) b h = with_bound (f b) (items_at f n) b (h b) (λ c. items_bound f n c h)

types_bound : (b : Bytes) → 2 * length (types_in b) ≤ length b
types_bound b = items_bound (reading extension_type) (length b) b type_takes

kept_bound : (ns : List ℕ) → length (without_grease ns) ≤ length ns
kept_bound [] = le_refl _
kept_bound (n ∷ ns) = go (is_grease n) (kept_bound ns)
  where
    go : (t : Bool) → length (without_grease ns) ≤ length ns
        → length (cond (not t) (n ∷ without_grease ns) (without_grease ns)) ≤ suc (length ns)
    go true h = omega (arith, h)
    go false h = omega (arith, h)

bounded : (h : ClientHello) → Bounds h → IsTooLong 32767 (client_of h) → ⊥
bounded h bounds (inl many) = omega (arith, many, bounds.suites, kept_bound h.cipher_suites)
bounded h bounds (inr many) =
    omega (
      arith,
      many,
      bounds.extensions,
      kept_bound (types_in (held h.extensions)),
      types_bound (held h.extensions),
    )

pub never_too_long : (b : Bytes) (h : ClientHello) (r : Bytes) → Allows client_hello b (Ok (h, r))
    → IsTooLong 32767 (client_of h) → ⊥
unfolding Allows
never_too_long b h r (d, s) = bounded h (hello_bounds b h r d s)

pub dtls_never_too_long : (b : Bytes) (h : dtls.ClientHello) (r : Bytes)
    → Allows dtls.client_hello b (Ok (h, r))
    → IsTooLong 32767 (client_of h.hello) → ⊥
unfolding Allows
dtls_never_too_long b h r (d, s) = bounded h.hello (dtls_hello_bounds b h r d s)
