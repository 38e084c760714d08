-- A length has one encoding, and so has an element.
use Rattle.std.proofs.Common.{◌≡◌, ℕ, ◌^◌, ◌<◌, ◌≤◌, [], ◌∷◌, ◌++◌, length, Ok, eqb, leb, ltb, refl, sym, ◌∙◌, ap, arith, append_assoc}
use Rattle.std.proofs.lemmas.Bool.{ltb-true, leb-true, eqb-true}
use Rattle.std.proofs.lemmas.Bool.Decides.{nat_tests}
use Rattle.layouts.specs.Bytes.{Bytes, AreBytes, bytes_of}
use Rattle.layouts.specs.Layout.{Layout, done, refuse, choose}
use Rattle.layouts.specs.Meaning.{Allows, Spells}
use Rattle.layouts.specs.Reading.{reading}
use Rattle.layouts.specs.declared.result.ErrorKind.TheVariants.{Switch, TooLarge}
use Rattle.layouts.proofs.OneAnswerLemmas.{read_allowed}
use Rattle.layouts.proofs.TextLemmas.{Picked, First, Second, picked, test_whole}
use Rattle.der.specs.Element.{Element, long_length, length_by, der_length, element}
use Rattle.der.specs.Text.{length_text, element_text}

-- A length in k bytes.
record Long (k from : ℕ) (b : Bytes) (n : ℕ) (r : Bytes) : Type 0 where
  is : b ≡ bytes_of k n ++ r
  least : from ≤ n
  below : n < 256 ^ k

long : (k from : ℕ) (b : Bytes) (n : ℕ) (r d : Bytes) → Spells (long_length k from) b n r d
    → Long k from b n r
unfolding long_length
long k from b n r d
    (a, m, d1, d2, (small, is, none), (t, m2, d3, d4, tested, (same, here, none2), e), f) =
    let passed = test_whole (leb from a) _ m t m2 d3 tested in
    let value : n ≡ a = same in
    let end : m ≡ r = passed.1 ∙ here in
    record {
      is = rw (value, ← end) is;
      least = rw value (leb-true from a passed.0);
      below = rw value small;
    }

text_1 : (n : ℕ) → n < 0x80 → length_text n ≡ n ∷ []
text_1 n h = grind (arith, nat_tests)

text_2 : (n : ℕ) → 0x80 ≤ n → n < 0x100 → length_text n ≡ 0x81 ∷ bytes_of 1 n
text_2 n h k = grind (arith, nat_tests)

text_3 : (n : ℕ) → 0x100 ≤ n → n < 0x10000 → length_text n ≡ 0x82 ∷ bytes_of 2 n
text_3 n h k = grind (arith, nat_tests)

text_4 : (n : ℕ) → 0x10000 ≤ n → length_text n ≡ 0x83 ∷ bytes_of 3 n
text_4 n h = grind (arith, nat_tests)

-- the bytes of a length, given the first
abbrev IsText : ℕ → Bytes → ℕ → Bytes → Type 0
IsText first b n r = first ∷ b ≡ length_text n ++ r

by_83 : (first : ℕ) (b : Bytes) (n : ℕ) (r d : Bytes)
    → Picked (eqb first 0x83) (long_length 3 0x10000) (refuse TooLarge) b n r d → IsText first b n r
by_83 first b n r d (First e s) =
    let h = long 3 0x10000 b n r d s in
    rw (eqb-true first 0x83 e, h.is, text_4 n h.least) refl
by_83 first b n r d (Second e s) = absurd s

by_82 : (first : ℕ) (b : Bytes) (n : ℕ) (r d : Bytes)
    → Picked (eqb first 0x82) (long_length 2 0x100)
    (choose (eqb first 0x83) (long_length 3 0x10000) (refuse TooLarge)) b n r d
    → IsText first b n r
by_82 first b n r d (First e s) =
    let h = long 2 0x100 b n r d s in
    rw (eqb-true first 0x82 e, h.is, text_3 n h.least (omega (arith, h.below))) refl
by_82 first b n r d (Second e s) = by_83 first b n r d (picked (eqb first 0x83) _ _ b n r d s)

by_81 : (first : ℕ) (b : Bytes) (n : ℕ) (r d : Bytes)
    → Picked (eqb first 0x81) (long_length 1 0x80)
    (choose (eqb first 0x82) (long_length 2 0x100)
    (choose (eqb first 0x83) (long_length 3 0x10000) (refuse TooLarge))) b n r d
    → IsText first b n r
by_81 first b n r d (First e s) =
    let h = long 1 0x80 b n r d s in
    rw (eqb-true first 0x81 e, h.is, text_2 n h.least (omega (arith, h.below))) refl
by_81 first b n r d (Second e s) = by_82 first b n r d (picked (eqb first 0x82) _ _ b n r d s)

abbrev longer : ℕ → Layout ℕ
longer first =
    choose (eqb first 0x81) (long_length 1 0x80) (
    choose (eqb first 0x82) (long_length 2 0x100) (
    choose (eqb first 0x83) (long_length 3 0x10000) (
    refuse TooLarge)))

by_80 : (first : ℕ) (b : Bytes) (n : ℕ) (r d : Bytes)
    → Picked (eqb first 0x80) (refuse Switch) (longer first) b n r d → IsText first b n r
by_80 first b n r d (First e s) = absurd s
by_80 first b n r d (Second e s) = by_81 first b n r d (picked (eqb first 0x81) _ _ b n r d s)

by_first : (first : ℕ) (b : Bytes) (n : ℕ) (r d : Bytes)
    → Picked (ltb first 0x80) (done first)
    (choose (eqb first 0x80) (refuse Switch) (longer first)) b n r d
    → IsText first b n r
by_first first b n r d (First e s) =
    let is : n ≡ first = s.0 in
    rw (← is, s.1, text_1 n (rw is (ltb-true first 0x80 e))) refl
by_first first b n r d (Second e s) = by_80 first b n r d (picked (eqb first 0x80) _ _ b n r d s)

-- a first byte
first_byte : (b : Bytes) (x : ℕ) (m : Bytes) → x < 256 ^ 1 → b ≡ bytes_of 1 x ++ m → b ≡ x ∷ m
first_byte b x m h e = e ∙ ap (λ y. y ∷ m) (omega arith)

length_spelled : (b : Bytes) (n : ℕ) (r d : Bytes) → Spells der_length b n r d
    → b ≡ length_text n ++ r
unfolding der_length length_by
length_spelled b n r d (first, m, d1, d2, (small, is, none), s, e) =
    first_byte b first m small is ∙ by_first first m n r d2 (picked (ltb first 0x80) _ _ m n r d2 s)

pub length_is_its_text : (b r : Bytes) (n : ℕ) → AreBytes b → reading der_length b ≡ Ok (n, r)
    → b ≡ length_text n ++ r
unfolding Allows
length_is_its_text b r n are e =
    let allowed : Allows der_length b (Ok (n, r)) = read_allowed der_length b (Ok (n, r)) are e in
    length_spelled b n r allowed.0 allowed.1

element_spelled : (b : Bytes) (e : Element) (r d : Bytes) → Spells element b e r d
    → b ≡ element_text e ++ r
unfolding element
element_spelled b e r d (
  t,
  m,
  d1,
  d2,
  (small, is, none),
  (
    u,
    m2,
    d3,
    d4,
    tested,
    (
      n,
      m3,
      d5,
      d6,
      counted,
      (content, m4, d7, d8, (size, held, none2), (value, end, none3), e4),
      e3,
    ),
    e2,
  ),
  e1,
) =
    let passed = test_whole _ Switch m u m2 d3 tested in
    let text : m2 ≡ length_text n ++ m3 = length_spelled m2 n m3 d5 counted in
    let behind : m3 ≡ content ++ r = held ∙ ap (λ c. content ++ c) end in
    let whole : m ≡ length_text n ++ (content ++ r) =
    passed.1 ∙ text ∙ ap (λ c. length_text n ++ c) behind in
    let front : m ≡ (length_text n ++ content) ++ r =
    whole ∙ sym (append_assoc (length_text n) content r) in
    let exact : m ≡ (length_text (length content) ++ content) ++ r =
    front ∙ ap (λ k. (length_text k ++ content) ++ r) (sym size) in
    first_byte b t m small is ∙ ap (λ c. t ∷ c) exact ∙ ap (λ x. element_text x ++ r) (sym value)

pub element_is_its_text : (b r : Bytes) (e : Element) → AreBytes b → reading element b ≡ Ok (e, r)
    → b ≡ element_text e ++ r
unfolding Allows
element_is_its_text b r e are h =
    let allowed : Allows element b (Ok (e, r)) = read_allowed element b (Ok (e, r)) are h in
    element_spelled b e r allowed.0 allowed.1

pub element_has_one_text : (b c r : Bytes) (e : Element) → AreBytes b → AreBytes c
    → reading element b ≡ Ok (e, r)
    → reading element c ≡ Ok (e, r) → b ≡ c
element_has_one_text b c r e are are2 h k = element_is_its_text b r e are h
    ∙ sym (element_is_its_text c r e are2 k)
