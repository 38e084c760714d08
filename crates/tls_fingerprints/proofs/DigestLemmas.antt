-- Texts built piece by piece, and their digests.
use Rattle.std.proofs.Common.{◌≡◌, ℕ, ◌/◌, ◌%◌, ◌≤◌, List, [], ◌∷◌, ◌++◌, Bool, true, false, not, cond, leb, ◌&&◌, ◌==◌, Result, Ok, Err, length, take, refl, sym, ◌∙◌, ap, arith}
use Rattle.std.proofs.Common.{append_assoc}
use Rattle.std.specs.List.{join_with_byte}
use Rattle.std.specs.Result.{IsOk, OnOk}
use Rattle.std.proofs.lemmas.Bool.{ne_eqb}
use Rattle.std.proofs.lemmas.List.{length-take-le, take_all}
use Rattle.tls_fingerprints.specs.Numbers.{IsFilled, has_any, hex_digit, hex_list, placed, rising}
use Rattle.tls_fingerprints.specs.Ja4.{IsPart, short_digest, with_algorithms}

-- what holds at an Ok, at one
pub on_ok : {A E P : Type 0} (r : Result A E) → IsOk r → OnOk r P → P
on_ok (Ok x) ok held = held
on_ok (Err e) ok held = absurd cc

-- five fields, hashed in order with `,` between them
pub five_fed : (a b c d e b2 c2 d2 e2 : List ℕ) → b ≡ b2 → c ≡ c2 → d ≡ d2 → e ≡ e2
    → (((((((([] ++ a) ++ 44 ∷ []) ++ b) ++ 44 ∷ []) ++ c) ++ 44 ∷ []) ++ d) ++ 44 ∷ []) ++ e
    ≡ join_with_byte 44 (a ∷ b2 ∷ c2 ∷ d2 ∷ e2 ∷ [])
five_fed a b c d e b2 c2 d2 e2 eb ec ed ee =
    nested a b c d e
    ∙ ap (λ x. a ++ 44 ∷ (x ++ 44 ∷ (c ++ 44 ∷ (d ++ 44 ∷ e)))) eb
    ∙ ap (λ x. a ++ 44 ∷ (b2 ++ 44 ∷ (x ++ 44 ∷ (d ++ 44 ∷ e)))) ec
    ∙ ap (λ x. a ++ 44 ∷ (b2 ++ 44 ∷ (c2 ++ 44 ∷ (x ++ 44 ∷ e)))) ed
    ∙ ap (λ x. a ++ 44 ∷ (b2 ++ 44 ∷ (c2 ++ 44 ∷ (d2 ++ 44 ∷ x)))) ee
  where
    nested : (a b c d e : List ℕ)
        → (((((((([] ++ a) ++ 44 ∷ []) ++ b) ++ 44 ∷ []) ++ c) ++ 44 ∷ []) ++ d) ++ 44 ∷ []) ++ e
        ≡ a ++ 44 ∷ (b ++ 44 ∷ (c ++ 44 ∷ (d ++ 44 ∷ e)))
    nested a b c d e = simp append_assoc refl

pub three_fed : (a b c c2 : List ℕ) → c ≡ c2
    → (((([] ++ a) ++ 44 ∷ []) ++ b) ++ 44 ∷ []) ++ c ≡ join_with_byte 44 (a ∷ b ∷ c2 ∷ [])
three_fed a b c c2 ec = nested a b c ∙ ap (λ x. a ++ 44 ∷ (b ++ 44 ∷ x)) ec
  where
    nested : (a b c : List ℕ)
        → (((([] ++ a) ++ 44 ∷ []) ++ b) ++ 44 ∷ []) ++ c ≡ a ++ 44 ∷ (b ++ 44 ∷ c)
    nested a b c = simp append_assoc refl

-- pieces written one after the other
pub five_put : (t1 t2 t3 t4 t5 a b c d e : List ℕ) (n1 n2 n3 n4 n5 : ℕ)
    → take n1 t1 ≡ a → take n2 t2 ≡ take n1 t1 ++ b → take n3 t3 ≡ take n2 t2 ++ c
    → take n4 t4 ≡ take n3 t3 ++ d → take n5 t5 ≡ take n4 t4 ++ e → length t5 ≤ n5
    → t5 ≡ a ++ (b ++ (c ++ (d ++ e)))
five_put t1 t2 t3 t4 t5 a b c d e n1 n2 n3 n4 n5 s1 s2 s3 s4 s5 all =
    sym (take_all n5 t5 all) ∙ s5
    ∙ ap (λ x. x ++ e) (s4 ∙ ap (λ x. x ++ d) (s3 ∙ ap (λ x. x ++ c) (s2 ∙ ap (λ x. x ++ b) s1)))
    ∙ nested a b c d e
  where
    nested : (a b c d e : List ℕ) → ((((a ++ b) ++ c) ++ d) ++ e) ≡ a ++ (b ++ (c ++ (d ++ e)))
    nested a b c d e = simp append_assoc refl

pub six_put : (t1 t2 t3 t4 t5 t6 a b c d e f a2 b2 c2 d2 e2 f2 : List ℕ) (n1 n2 n3 n4 n5 n6 : ℕ)
    → take n1 t1 ≡ a → take n2 t2 ≡ take n1 t1 ++ b → take n3 t3 ≡ take n2 t2 ++ c
    → take n4 t4 ≡ take n3 t3 ++ d → take n5 t5 ≡ take n4 t4 ++ e → take n6 t6 ≡ take n5 t5 ++ f
    → length t6 ≤ n6
    → a ≡ a2 → b ≡ b2 → c ≡ c2 → d ≡ d2 → e ≡ e2 → f ≡ f2
    → t6 ≡ a2 ++ b2 ++ c2 ++ d2 ++ e2 ++ f2
six_put t1 t2 t3 t4 t5 t6 a b c d e f a2 b2 c2 d2 e2 f2 n1 n2 n3 n4 n5 n6 s1 s2 s3 s4 s5 s6 all ea
    eb ec ed ee ef =
    sym (take_all n6 t6 all)
    ∙ behind s6 (behind s5 (behind s4 (behind s3 (behind s2 (s1 ∙ ea) eb) ec) ed) ee) ef
  where
    behind : {x y z front back : List ℕ} → x ≡ y ++ z → y ≡ front → z ≡ back → x ≡ front ++ back
    behind {x} {y} {z} {front} {back} e ey ez = e ∙ ap (λ t. t ++ z) ey ∙ ap (λ t. front ++ t) ez

-- whether a text is empty
some_byte : (x : ℕ) (xs : List ℕ) → (length (x ∷ xs) == 0) ≡ false
some_byte x xs = ne_eqb (length (x ∷ xs)) 0 (λ e. absurd (omega (arith, e)))

hex_some : (n : ℕ) (ns : List ℕ) → (length (hex_list (n ∷ ns)) == 0) ≡ false
hex_some n [] =
    some_byte (hex_digit (n / 4096))
    (hex_digit (n / 256 % 16) ∷ hex_digit (n / 16 % 16) ∷ hex_digit (n % 16) ∷ [])
hex_some n (m ∷ ms) = some_byte (hex_digit (n / 4096))
    (hex_digit (n / 256 % 16) ∷ hex_digit (n / 16 % 16) ∷ hex_digit
    (n % 16) ∷ 44 ∷ hex_list (m ∷ ms))

placed_some : (n : ℕ) (ms : List ℕ) → (length (hex_list (placed n ms)) == 0) ≡ false
unfolding placed
placed_some n [] = hex_some n []
placed_some n (m ∷ ms) = go (leb n m)
  where
    go : (t : Bool) → (length (hex_list (cond t (n ∷ m ∷ ms) (m ∷ placed n ms))) == 0) ≡ false
    go true = hex_some n (m ∷ ms)
    go false = hex_some m (placed n ms)

hex_rising : (ns : List ℕ) → (length ns == 0) ≡ (length (hex_list (rising ns)) == 0)
unfolding rising
hex_rising [] = refl
hex_rising (n ∷ ns) = some_byte n ns ∙ sym (placed_some n (rising ns))

behind_some : (t : List ℕ) (x : ℕ) (xs : List ℕ) → (length (t ++ x ∷ xs) == 0) ≡ false
behind_some [] x xs = some_byte x xs
behind_some (y ∷ t) x xs = some_byte y (t ++ x ∷ xs)

and_true : (b : Bool) → (b && true) ≡ b
and_true true = refl
and_true false = refl

and_false : (b : Bool) → (b && false) ≡ false
and_false true = refl
and_false false = refl

types_empty : (ns algorithms : List ℕ) → ((length ns == 0) && not (has_any algorithms))
    ≡ (length (with_algorithms (hex_list (rising ns)) algorithms) == 0)
types_empty ns [] = and_true (length ns == 0) ∙ hex_rising ns
types_empty ns (a ∷ more) = and_false (length ns == 0)
    ∙ sym (behind_some (hex_list (rising ns)) 95 (hex_list (a ∷ more)))

filled_count : (room ns : List ℕ) (n : ℕ) → IsFilled room n ns → n ≡ length ns
filled_count room ns n filled = sym (length-take-le n room filled.within) ∙ ap length filled.are

pub suites_are : (n : ℕ) (room ns front part : List ℕ) → IsFilled room n ns → front ≡ take n room
    → ((n == 0) ≡ (length (hex_list (rising front)) == 0)
    → part ≡ short_digest (hex_list (rising front)))
    → IsPart n part ns (hex_list (rising ns))
suites_are n room ns front part filled is is_front =
    let all : front ≡ ns = is ∙ filled.are in
    let count : n ≡ length ns = filled_count room ns n filled in
    record {
      count = count;
      digits = is_front (ap (λ k. k == 0) (count ∙ ap length (sym all)) ∙ hex_rising front)
          ∙ ap (λ xs. short_digest (hex_list (rising xs))) all;
    }

pub types_are : (n others : ℕ) (any : Bool) (room ns types algorithms listed front part : List ℕ)
    → n ≡ length ns
    → IsFilled room others types → front ≡ take others room → listed ≡ algorithms → any ≡ has_any listed
    → (((others == 0) && not any) ≡ (length (with_algorithms (hex_list (rising front)) listed) == 0)
    → part ≡ short_digest (with_algorithms (hex_list (rising front)) listed))
    → IsPart n part ns (with_algorithms (hex_list (rising types)) algorithms)
types_are n others any room ns types algorithms listed front part count filled is same anys is_front =
    let all : front ≡ types = is ∙ filled.are in
    let size : others ≡ length types = filled_count room types others filled in
    record {
      count = count;
      digits = is_front (ap (λ k. (k == 0) && not any) (size ∙ ap length (sym all))
          ∙ ap (λ t. (length front == 0) && not t) anys ∙ types_empty front listed)
          ∙ ap (λ xs. short_digest (with_algorithms (hex_list (rising xs)) listed)) all
          ∙ ap (λ xs. short_digest (with_algorithms (hex_list (rising types)) xs)) same;
    }
