-- The body of a ClientHello is encoded by its text, and by no other bytes.
use Rattle.std.proofs.Common.{◌≡◌, ℕ, ◌+◌, ◌*◌, ◌/◌, ◌%◌, ◌^◌, ◌<◌, ◌≤◌, List, [], ◌∷◌, ◌++◌, length, Option, Some}
use Rattle.std.proofs.Common.{None, Bool, true, false, eqb, nat_le, refl, sym, ◌∙◌, ap, subst, arith, append_assoc}
use Rattle.std.proofs.Common.{◌==◌, ◌&&◌, if◌then◌else◌}
use Rattle.std.proofs.lemmas.List.{length-append}
use Rattle.std.proofs.lemmas.Bool.{leb-true, le-leb, eqb-true}
use Rattle.std.specs.Option.{IsSome}
use Rattle.std.specs.List.{All}
use Rattle.layouts.specs.Bytes.{Bytes, bytes_of}
use Rattle.layouts.specs.Layout.{Layout, done, number, block, left, maybe, chain, test, counted, times}
use Rattle.layouts.specs.Meaning.{Spells}
use Rattle.layouts.specs.declared.result.ErrorKind.TheVariants.{LengthValue, Verify}
use Rattle.layouts.proofs.OneAnswerLemmas.{eqb_other}
use Rattle.tls_hs.specs.Hello.{ClientHello, session_id, cipher_suites, compression_methods}
use Rattle.tls_hs.specs.Hello.{client_hello, client_hello_with}
use Rattle.layouts.specs.Text.{counted_text, numbers_text, held}
use Rattle.tls_hs.specs.HandshakeText.{client_hello_text, FitsClientHello, InRangeClientHello, normal_id}
use Rattle.tls_hs.specs.HandshakeText.{normal_client_hello}
use Rattle.layouts.proofs.TextLemmas.{parts, joined, test_spelled, test_whole, counted_spelled, counted_whole}
use Rattle.layouts.proofs.TextLemmas.{chain_spelled, then_text, times_spelled, times_whole, number_spelled}
use Rattle.layouts.proofs.TextLemmas.{number_whole, length-numbers}

-- a session id
abbrev id_of : Bytes → Option Bytes
id_of b = if length b == 0 then None else Some b

some_id : (x : ℕ) (b : Bytes) → id_of (x ∷ b) ≡ Some (x ∷ b)
some_id x b = ap (λ t. if t then None else Some (x ∷ b))
    (eqb_other (length (x ∷ b)) 0 (λ e. absurd (omega arith)))

id_normal : (id : Option Bytes) → normal_id id ≡ id_of (held id)
id_normal None = refl
id_normal (Some []) = refl
id_normal (Some (x ∷ b)) = sym (some_id x b)

held_id : (b : Bytes) → held (id_of b) ≡ b
held_id [] = refl
held_id (x ∷ b) = ap held (some_id x b)

pub session_id_spelled : (id : Option Bytes) (r : Bytes) → length (held id) ≤ 32
    → Spells session_id (counted_text 1 (held id) ++ r) (normal_id id) r []
unfolding session_id
session_id_spelled id r h =
    let w = held id in
    chain_spelled (number 1) (λ n. chain (test (nat_le n 32) Verify)
    (λ _. chain (block n) (λ i. done (if n == 0 then None else Some i)))) (bytes_of 1
    (length w)) w r (length w)
    (normal_id id)
    (number_spelled 1 (length w) (w ++ r) (omega arith))
    (joined (test (nat_le (length w) 32) Verify) (λ _. chain (block (length w))
    (λ i. done (if length w == 0 then None else Some i))) (w ++ r) (normal_id id) r tt (w ++ r)
    (test_spelled (nat_le (length w) 32) Verify (w ++ r) (le-leb (length w) 32 h))
    (joined (block (length w)) (λ i. done (if length w == 0 then None else Some i)) (w ++ r)
    (normal_id id) r w r
    (refl, refl, refl) (id_normal id, refl, refl)))

pub session_id_whole : (b : Bytes) (id : Option Bytes) (r : Bytes) → Spells session_id b id r []
    → (length (held id) ≤ 32) × (b ≡ counted_text 1 (held id) ++ r)
unfolding session_id
session_id_whole b id r s =
    let p = parts (number 1) (λ n. chain (test (nat_le n 32) Verify)
    (λ _. chain (block n) (λ i. done (if n == 0 then None else Some i)))) b id r s in
    let q = parts (test (nat_le p.value 32) Verify)
    (λ _. chain (block p.value) (λ i. done (if p.value == 0 then None else Some i))) p.middle id
    r p.then in
    let t = test_whole (nat_le p.value 32) Verify p.middle q.value q.middle [] q.first in
    let z = parts (block p.value) (λ i. done (if p.value == 0 then None else Some i)) q.middle id
    r q.then in
    let w = z.value in
    let size : length w ≡ p.value = z.first.0 in
    let is : id ≡ id_of w = z.then.0 ∙ ap (λ n. if n == 0 then None else Some w) (sym size) in
    let what : held id ≡ w = ap held is ∙ held_id w in
    let small : p.value ≤ 32 = leb-true p.value 32 t.0 in
    let body : p.middle ≡ w ++ r = t.1 ∙ z.first.1 ∙ ap (λ x. w ++ x) z.then.1 in
    let all : b ≡ counted_text 1 w ++ r = then_text b (bytes_of 1 (length w)) p.middle w r
    (p.first.1 ∙ ap (λ n. bytes_of 1 n ++ p.middle) (sym size)) body in
    subst (λ x. (length x ≤ 32) × (b ≡ counted_text 1 x ++ r)) (sym what) (omega arith, all)

-- numbers after a length in bytes, which is checked
both_true : (a b : Bool) → (a && b) ≡ true → (a ≡ true) × (b ≡ true)
both_true true b e = (refl, e)
both_true false b e = absurd cc

pub and_true : (a b : Bool) → a ≡ true → b ≡ true → (a && b) ≡ true
and_true true b e f = f
and_true false b e f = absurd cc

pub suites_spelled : (xs : List ℕ) (r : Bytes) → All (λ x. x < 256 ^ 2) xs → length xs ≤ 32767
    → Spells cipher_suites (counted_text 2 (numbers_text 2 xs) ++ r) xs r []
unfolding cipher_suites
suites_spelled xs r all h =
    let w = numbers_text 2 xs in
    let k = length w in
    let size : length w ≡ length xs * 2 = length-numbers 2 xs in
    let n = length (w ++ r) in
    let long : length (w ++ r) ≡ length w + length r = length-append w r in
    let even : length w % 2 ≡ 0 = omega (arith, size) in
    let half : length w / 2 ≡ length xs = omega (arith, size) in
    let passed : (length w % 2 == 0 && nat_le (length w) (length (w ++ r))) ≡ true =
    and_true (length w % 2 == 0) (nat_le (length w) (length (w ++ r))) (ap (λ x. eqb x 0) even)
    (le-leb (length w) (length (w ++ r)) (omega (arith, long))) in
    chain_spelled (number 2)
    (λ k. chain left (λ n. chain (test (k % 2 == 0 && nat_le k n) LengthValue)
    (λ _. times (k / 2) (number 2)))) (bytes_of 2 (length w)) w r (length w) xs
    (number_spelled 2 (length w) (w ++ r) (omega (arith, size)))
    (joined left (λ n. chain (test (length w % 2 == 0 && nat_le (length w) n) LengthValue)
    (λ _. times (length w / 2) (number 2))) (w ++ r) xs r (length (w ++ r)) (w ++ r) (
      refl,
      refl,
      refl,
    )
    (joined (test (length w % 2 == 0 && nat_le (length w) (length (w ++ r))) LengthValue)
    (λ _. times (length w / 2) (number 2)) (w ++ r) xs r tt (w ++ r)
    (test_spelled (length w % 2 == 0 && nat_le (length w) (length (w ++ r))) LengthValue
    (w ++ r) passed)
    (subst (λ j. Spells (times j (number 2)) (w ++ r) xs r []) (sym half)
    (times_spelled (number 2) (bytes_of 2) (λ x. x < 256 ^ 2) (number_spelled 2) xs r all))))

pub suites_whole : (b : Bytes) (xs : List ℕ) (r : Bytes) → Spells cipher_suites b xs r []
    → All (λ x. x < 256 ^ 2) xs × (length xs ≤ 32767)
    × (b ≡ counted_text 2 (numbers_text 2 xs) ++ r)
unfolding cipher_suites
suites_whole b xs r s =
    let p = parts (number 2)
    (λ k. chain left (λ n. chain (test (k % 2 == 0 && nat_le k n) LengthValue)
    (λ _. times (k / 2) (number 2)))) b xs r s in
    let k = p.value in
    let q = parts left
    (λ n. chain (test (k % 2 == 0 && nat_le k n) LengthValue) (λ _. times (k / 2) (number 2)))
    p.middle xs r p.then in
    let z = parts (test (k % 2 == 0 && nat_le k q.value) LengthValue)
    (λ _. times (k / 2) (number 2)) q.middle xs r
    q.then in
    let t = test_whole (k % 2 == 0 && nat_le k q.value) LengthValue q.middle z.value z.middle
    [] z.first in
    let even : k % 2 ≡ 0 = eqb-true (k % 2) 0 (both_true (k % 2 == 0) (nat_le k q.value) t.0).0 in
    let items = times_whole (number 2) (bytes_of 2) (λ x. x < 256 ^ 2) (number_whole 2) (k / 2)
    z.middle xs r z.then in
    let size : length (numbers_text 2 xs) ≡ length xs * 2 = length-numbers 2 xs in
    let count : length xs ≡ k / 2 = items.0 in
    let small : k < 256 ^ 2 = p.first.0 in
    let is : length (numbers_text 2 xs) ≡ k = omega (arith, size, count, even) in (
      items.1.fits,
      omega (arith, count, small),
      then_text b (bytes_of 2 (length (numbers_text 2 xs))) p.middle (numbers_text 2 xs) r
          (p.first.1 ∙ ap (λ n. bytes_of 2 n ++ p.middle) (sym is)) (q.first.1 ∙ t.1 ∙ items.1.is),
    )

pub methods_spelled : (xs : List ℕ) (r : Bytes) → All (λ x. x < 256 ^ 1) xs → length xs ≤ 255
    → Spells compression_methods (counted_text 1 (numbers_text 1 xs) ++ r) xs r []
unfolding compression_methods
methods_spelled xs r all h =
    let w = numbers_text 1 xs in
    let size : length w ≡ length xs = length-numbers 1 xs ∙ omega arith in
    let long : length (w ++ r) ≡ length w + length r = length-append w r in
    chain_spelled (number 1)
    (λ k. chain left (λ n. chain (test (nat_le k n) LengthValue) (λ _. times k (number 1))))
    (bytes_of 1 (length w)) w r (length w) xs
    (number_spelled 1 (length w) (w ++ r) (omega (arith, size)))
    (joined left
    (λ n. chain (test (nat_le (length w) n) LengthValue) (λ _. times (length w) (number 1)))
    (w ++ r) xs
    r (length (w ++ r)) (w ++ r) (refl, refl, refl)
    (joined (test (nat_le (length w) (length (w ++ r))) LengthValue)
    (λ _. times (length w) (number 1)) (w ++ r) xs r
    tt (w ++ r)
    (test_spelled (nat_le (length w) (length (w ++ r))) LengthValue (w ++ r)
    (le-leb (length w) (length (w ++ r)) (omega (arith, long))))
    (subst (λ j. Spells (times j (number 1)) (w ++ r) xs r []) (sym size)
    (times_spelled (number 1) (bytes_of 1) (λ x. x < 256 ^ 1) (number_spelled 1) xs r all))))

pub methods_whole : (b : Bytes) (xs : List ℕ) (r : Bytes) → Spells compression_methods b xs r []
    → All (λ x. x < 256 ^ 1) xs × (length xs ≤ 255) × (b ≡ counted_text 1 (numbers_text 1 xs) ++ r)
unfolding compression_methods
methods_whole b xs r s =
    let p = parts (number 1)
    (λ k. chain left (λ n. chain (test (nat_le k n) LengthValue) (λ _. times k (number 1))))
    b xs r s in
    let k = p.value in
    let q = parts left (λ n. chain (test (nat_le k n) LengthValue) (λ _. times k (number 1)))
    p.middle xs r p.then in
    let z = parts (test (nat_le k q.value) LengthValue) (λ _. times k (number 1)) q.middle xs
    r q.then in
    let t = test_whole (nat_le k q.value) LengthValue q.middle z.value z.middle [] z.first in
    let items = times_whole (number 1) (bytes_of 1) (λ x. x < 256 ^ 1) (number_whole 1) k z.middle
    xs r z.then in
    let size : length (numbers_text 1 xs) ≡ length xs = length-numbers 1 xs ∙ omega arith in
    let count : length xs ≡ k = items.0 in
    let small : k < 256 ^ 1 = p.first.0 in
    let is : length (numbers_text 1 xs) ≡ k = size ∙ count in (
      items.1.fits,
      omega (arith, count, small),
      then_text b (bytes_of 1 (length (numbers_text 1 xs))) p.middle (numbers_text 1 xs) r
          (p.first.1 ∙ ap (λ n. bytes_of 1 n ++ p.middle) (sym is)) (q.first.1 ∙ t.1 ∙ items.1.is),
    )

-- extensions that are present, with any bytes after them
extensions_spelled : (e : Bytes) (r : Bytes) → length e < 256 ^ 2
    → Spells (maybe (counted 2)) (counted_text 2 e ++ r) (Some e) r []
extensions_spelled e r h = counted_spelled 2 e r h

abbrev hello_of : ℕ → Bytes → Option Bytes → List ℕ → List ℕ → Option Bytes → ClientHello
hello_of version random id suites methods extensions = record {
  client_version = version;
  random = random;
  session_id = id;
  cipher_suites = suites;
  compression_methods = methods;
  extensions = extensions;
}

-- a ClientHello of TLS has no cookie
abbrev no_cookie : Layout (Option Bytes)
no_cookie = done None

-- the layouts after each field
abbrev behind_methods : ℕ → Bytes → Option Bytes → Option Bytes → List ℕ → List ℕ
    → Layout (ClientHello × Option Bytes)
behind_methods version random id cookie suites methods =
    chain (maybe (counted 2)) (λ e. done (hello_of version random id suites methods e, cookie))

abbrev behind_suites : ℕ → Bytes → Option Bytes → Option Bytes → List ℕ
    → Layout (ClientHello × Option Bytes)
behind_suites version random id cookie suites =
    chain compression_methods (behind_methods version random id cookie suites)

abbrev behind_cookie : ℕ → Bytes → Option Bytes → Option Bytes → Layout (ClientHello × Option Bytes)
behind_cookie version random id cookie =
    chain cipher_suites (behind_suites version random id cookie)

abbrev behind_id : ℕ → Bytes → Option Bytes → Layout (ClientHello × Option Bytes)
behind_id version random id = chain no_cookie (behind_cookie version random id)

abbrev behind_random : ℕ → Bytes → Layout (ClientHello × Option Bytes)
behind_random version random = chain session_id (behind_id version random)

abbrev behind_version : ℕ → Layout (ClientHello × Option Bytes)
behind_version version = chain (block 32) (behind_random version)

nested : (a b c d e f : Bytes) → a ++ b ++ c ++ d ++ e ++ f ≡ a ++ (b ++ (c ++ (d ++ (e ++ f))))
nested a b c d e f = simp append_assoc

abbrev nested_text : ClientHello → Bytes
nested_text h =
    bytes_of 2 h.client_version ++ (h.random ++ (counted_text 1 (held h.session_id)
    ++ (counted_text 2 (numbers_text 2 h.cipher_suites)
    ++ (counted_text 1 (numbers_text 1 h.compression_methods) ++ counted_text 2
    (held h.extensions)))))

text_nested : (h : ClientHello) → client_hello_text h ≡ nested_text h
unfolding client_hello_text
text_nested h =
    nested (bytes_of 2 h.client_version) h.random (counted_text 1 (held h.session_id))
    (counted_text 2 (numbers_text 2 h.cipher_suites))
    (counted_text 1 (numbers_text 1 h.compression_methods))
    (counted_text 2 (held h.extensions))

nested_spelled : (h : ClientHello) (r : Bytes) → FitsClientHello h → InRangeClientHello h
    → Spells (client_hello_with no_cookie) (nested_text h ++ r) (normal_client_hello h, None) r []
unfolding client_hello_with
nested_spelled h r fits range =
    let v : ClientHello × Option Bytes = (normal_client_hello h, None) in
    let id = normal_id h.session_id in
    let e = counted_text 2 (held h.extensions) in
    let c = counted_text 1 (numbers_text 1 h.compression_methods) in
    let s = counted_text 2 (numbers_text 2 h.cipher_suites) in
    let i = counted_text 1 (held h.session_id) in
    chain_spelled (number 2) behind_version (bytes_of 2 h.client_version)
    (h.random ++ (i ++ (s ++ (c ++ e)))) r
    h.client_version v
    (number_spelled 2 h.client_version _ range.version)
    (chain_spelled (block 32) (behind_random h.client_version) h.random (i ++ (s ++ (c ++ e)))
    r h.random v
    (fits.random, refl, refl)
    (chain_spelled session_id (behind_id h.client_version h.random) i (s ++ (c ++ e)) r id v
    (session_id_spelled h.session_id _ fits.session_id)
    (joined no_cookie (behind_cookie h.client_version h.random id) ((s ++ (c ++ e)) ++ r) v r None
    ((s ++ (c ++ e)) ++ r)
    (refl, refl, refl)
    (chain_spelled cipher_suites (behind_suites h.client_version h.random id None) s (c ++ e) r
    h.cipher_suites v
    (suites_spelled h.cipher_suites _ range.suites fits.suites)
    (chain_spelled compression_methods
    (behind_methods h.client_version h.random id None h.cipher_suites) c e r
    h.compression_methods v
    (methods_spelled h.compression_methods _ range.methods fits.methods)
    (joined (maybe (counted 2)) (λ x. done (
      hello_of h.client_version h.random id h.cipher_suites
          h.compression_methods x,
      None,
    )) (e ++ r) v r (Some (held h.extensions)) r
    (extensions_spelled (held h.extensions) r (omega (arith, fits.extensions)))
    (refl, refl, refl)))))))

pub client_hello_spelled : (h : ClientHello) (r : Bytes) → FitsClientHello h → InRangeClientHello h
    → Spells client_hello (client_hello_text h ++ r) (normal_client_hello h) r []
unfolding client_hello
client_hello_spelled h r fits range =
    let v : ClientHello × Option Bytes = (normal_client_hello h, None) in
    joined (client_hello_with no_cookie) (λ x. done x.0) (client_hello_text h ++ r)
    (normal_client_hello h) r v r
    (subst (λ t. Spells (client_hello_with no_cookie) (t ++ r) v r []) (sym (text_nested h))
    (nested_spelled h r fits range)) (refl, refl, refl)

pub extensions_whole : (b : Bytes) (e : Option Bytes) (r : Bytes) → IsSome e
    → Spells (maybe (counted 2)) b e r []
    → (length (held e) < 256 ^ 2) × (b ≡ counted_text 2 (held e) ++ r)
extensions_whole b None r h s = absurd cc
extensions_whole b (Some e) r h s = counted_whole 2 b e r s

-- a hello that was read from b can be written, and b is its encoding
pub record Written (h : ClientHello) (b r : Bytes) : Type 0 where
  pub fits : FitsClientHello h
  pub range : InRangeClientHello h
  pub is : b ≡ client_hello_text h ++ r

fields_whole : (b : Bytes) (v : ClientHello × Option Bytes) (r : Bytes) → IsSome v.0.extensions
    → Spells (client_hello_with no_cookie) b v r [] → Written v.0 b r
unfolding client_hello_with
fields_whole b v r some spelled =
    let p1 = parts (number 2) behind_version b v r spelled in
    let p2 = parts (block 32) (behind_random p1.value) p1.middle v r p1.then in
    let p3 = parts session_id (behind_id p1.value p2.value) p2.middle v r p2.then in
    let p0 = parts no_cookie (behind_cookie p1.value p2.value p3.value) p3.middle v r p3.then in
    let p4 = parts cipher_suites (behind_suites p1.value p2.value p3.value p0.value) p0.middle v
    r p0.then in
    let p5 = parts compression_methods (behind_methods p1.value p2.value p3.value p0.value p4.value)
    p4.middle v r
    p4.then in
    let p6 = parts (maybe (counted 2))
    (λ x. done (hello_of p1.value p2.value p3.value p4.value p5.value x, p0.value))
    p5.middle v r p5.then in
    let is : v.0 ≡ hello_of p1.value p2.value p3.value p4.value p5.value p6.value =
    ap (λ x. x.0) p6.then.0 in
    let i = session_id_whole p2.middle p3.value p3.middle p3.first in
    let s = suites_whole p0.middle p4.value p4.middle p4.first in
    let c = methods_whole p4.middle p5.value p5.middle p5.first in
    let e = extensions_whole p5.middle p6.value p6.middle (subst (λ h. IsSome h.extensions) is some)
    p6.first in
    let e_text = counted_text 2 (held p6.value) in
    let c_text = counted_text 1 (numbers_text 1 p5.value) in
    let s_text = counted_text 2 (numbers_text 2 p4.value) in
    let i_text = counted_text 1 (held p3.value) in
    let text5 : p4.middle ≡ (c_text ++ e_text) ++ r =
    then_text p4.middle c_text p5.middle e_text r c.2
    (e.1 ∙ ap (λ x. e_text ++ x) p6.then.1) in
    let text4 : p3.middle ≡ (s_text ++ (c_text ++ e_text)) ++ r =
    then_text p3.middle s_text p4.middle (c_text ++ e_text) r (p0.first.1 ∙ s.2) text5 in
    let text3 : p2.middle ≡ (i_text ++ (s_text ++ (c_text ++ e_text))) ++ r =
    then_text p2.middle i_text p3.middle (s_text ++ (c_text ++ e_text)) r i.1 text4 in
    let text2 : p1.middle ≡ (p2.value ++ (i_text ++ (s_text ++ (c_text ++ e_text)))) ++ r =
    then_text p1.middle p2.value p2.middle (i_text ++ (s_text ++ (c_text ++ e_text))) r
    p2.first.1 text3 in
    let text1 : b
    ≡ (bytes_of 2 p1.value ++ (p2.value ++ (i_text ++ (s_text ++ (c_text ++ e_text))))) ++ r =
    then_text b (bytes_of 2 p1.value) p1.middle
    (p2.value ++ (i_text ++ (s_text ++ (c_text ++ e_text)))) r
    p1.first.1 text2 in
    subst (λ h. Written h b r) (sym is) (record {
      fits = record {
        random = p2.first.0;
        session_id = i.0;
        suites = s.1;
        methods = c.1;
        extensions = omega
            (arith, e.0);
      };
      range = record { version = p1.first.0; suites = s.0; methods = c.0 };
      is = text1 ∙ ap (λ t. t ++ r) (sym (text_nested
          (hello_of p1.value p2.value p3.value p4.value p5.value p6.value)));
    })

pub client_hello_whole : (b : Bytes) (h : ClientHello) (r : Bytes) → IsSome h.extensions
    → Spells client_hello b h r [] → Written h b r
unfolding client_hello
client_hello_whole b h r some spelled =
    let p = parts (client_hello_with no_cookie) (λ x. done x.0) b h r spelled in
    subst (λ x. Written x b r) (sym p.then.0) (subst (λ m. Written p.value.0 b m) p.then.1
    (fields_whole b p.value p.middle (subst (λ x. IsSome x.extensions) p.then.0 some) p.first))

pub client_hello_back : (b r : Bytes) (h : ClientHello) → IsSome h.extensions
    → Spells client_hello b h r []
    → FitsClientHello h × InRangeClientHello h × (b ≡ client_hello_text h ++ r)
client_hello_back b r h some s = let w = client_hello_whole b h r some s in (w.fits, w.range, w.is)
