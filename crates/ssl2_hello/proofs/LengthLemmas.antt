-- A hello has the bytes of its record, and no others.
use Rattle.std.proofs.Common.{◌≡◌, ℕ, ◌+◌, ◌-◌, ◌*◌, ◌/◌, length, take, drop, Ok, Err, Bool, true, false}
use Rattle.std.proofs.Common.{cond, ltb, refl, ap, subst, arith}
use Rattle.std.proofs.lemmas.Bool.{ltb-false}
use Rattle.std.proofs.lemmas.List.{length-drop}
use Rattle.layouts.specs.Bytes.{Bytes}
use Rattle.layouts.specs.Layout.{number, block, window, list}
use Rattle.layouts.specs.Meaning.{Answer, Broken, Lacks}
use Rattle.layouts.specs.Reading.{reading, split_at, completed, ◌and_then◌}
use Rattle.ssl2_hello.specs.Front.{FixedFields, record_length, fixed_fields}
use Rattle.ssl2_hello.specs.ClientHello.{ClientHello, message, client_hello, hello_length, HasAllowedLengths}
use Rattle.ssl2_hello.proofs.TakenLemmas.{Took}
use Rattle.ssl2_hello.proofs.KnownLemmas.{Holds, ReadsOnly, reads_behind, reads_block, reads_numbers, reads_done, first_value}
use Rattle.ssl2_hello.proofs.FrontLemmas.{takes_record_length, Fills, fields_filling}
use Rattle.ssl2_hello.proofs.HelloLemmas.{behind_fields, behind_specs, behind_id, behind_challenge, in_record}

-- It is the message of a record of n bytes.
pub record HasLength (n : ℕ) (h : ClientHello) : Type 0 where
  pub all : hello_length h ≡ 2 + n
  pub allowed : HasAllowedLengths h

has_length : (n c s l : ℕ) (f : FixedFields) (h : ClientHello) → Fills n f
    → c ≡ f.cipher_spec_length / 3
    → s ≡ f.session_id_length → l ≡ f.challenge_length → c ≡ length h.cipher_specs
    → s ≡ length h.session_id
    → l ≡ length h.challenge → HasLength n h
has_length n c s l f h fills isc iss isl ofc ofs ofl =
    let all = fills.all in
    let whole = fills.allowed.whole in
    let some = fills.allowed.some in
    let id = fills.allowed.session_id in
    let least = fills.allowed.challenge_least in
    let most = fills.allowed.challenge_most in
    let thirds : 3 * c ≡ f.cipher_spec_length = omega (arith, isc, whole) in
    record {
      all = omega (arith, all, thirds, iss, isl, ofc, ofs, ofl);
      allowed = record {
        cipher_specs = omega (arith, thirds, some, ofc);
        session_id = omega (arith, iss, ofs, id);
        challenge_least = omega (arith, isl, ofl, least);
        challenge_most = omega (arith, isl, ofl, most);
      };
    }

message_length : (n : ℕ) → ReadsOnly (HasLength n) (message n)
unfolding message
message_length n =
    reads_behind (Fills n) (HasLength n) (fixed_fields n) behind_fields (fields_filling n)
    (λ f fills.
    reads_behind (λ specs. length specs ≡ f.cipher_spec_length / 3) (HasLength n)
    (window f.cipher_spec_length (list (number 3))) (behind_specs f)
    (reads_numbers 3 f.cipher_spec_length (omega arith)) (λ specs c.
    reads_behind (λ id. length id ≡ f.session_id_length) (HasLength n) (block f.session_id_length)
    (behind_id f specs)
    (reads_block f.session_id_length) (λ id s.
    reads_behind (λ challenge. length challenge ≡ f.challenge_length) (HasLength n)
    (block f.challenge_length)
    (behind_challenge f specs id) (reads_block f.challenge_length) (λ challenge l.
    reads_done (HasLength n) _
    (has_length n (length specs) (length id) (length challenge) f (record {
      version = f.version;
      cipher_specs = specs;
      session_id = id;
      challenge = challenge;
    }) fills c s l refl refl refl)))))

completed_holds : {A : Type 0} (P : A → Type 0) (a : Answer A) → Holds P a → Holds P (completed a)
completed_holds P (Ok x) h = h
completed_holds P (Err (Broken k)) h = tt
completed_holds P (Err (Lacks n)) h = tt

behind_record : (n : ℕ) (a : Answer ClientHello) (s : Bytes) (h : ClientHello) (r : Bytes)
    → Holds (HasLength n) a
    → ◌and_then◌ {Y = ClientHello × Bytes} a (λ x. Ok (x.0, s)) ≡ Ok (h, r)
    → HasLength n h × (s ≡ r)
behind_record n (Ok x) s h r k e =
    let same : ◌≡◌ {A = ClientHello × Bytes} (x.0, s) (h, r) = cc in
    (subst (HasLength n) (ap (λ y. y.0) same) k, ap (λ y. y.1) same)
behind_record n (Err f) s h r k e = absurd cc

of_record : (n : ℕ) (b : Bytes) (h : ClientHello) (r : Bytes) → reading (in_record n) b ≡ Ok (h, r)
    → HasLength n h × (length b ≡ n + length r)
unfolding split_at
of_record n b h r e = go (ltb (length b) n) refl e
  where
    go : (t : Bool) → ltb (length b) n ≡ t
        → ◌and_then◌ {X = Bytes × Bytes} {Y = ClientHello × Bytes}
        (cond {A = Answer Bytes} t (Err (Lacks (n - length b))) (Ok (take n b, drop n b)))
        (λ w. completed (reading (message n) w.0) and_then λ x. Ok (x.0, w.1)) ≡ Ok (h, r)
        → HasLength n h × (length b ≡ n + length r)
    go true f e = absurd cc
    go false f e =
        let (has, is) = behind_record n (completed (reading (message n) (take n b))) (drop n b) h r
        (completed_holds (HasLength n) (reading (message n) (take n b))
        ((message_length n).holds (take n b))) e in
        (has, omega (arith, length-drop n b, ltb-false (length b) n f, ap length is))

hello_has : (b : Bytes) (h : ClientHello) (r : Bytes) → reading client_hello b ≡ Ok (h, r)
    → (length b ≡ hello_length h + length r) × HasAllowedLengths h
unfolding client_hello
hello_has b h r e =
    let (n, m, first, then) = first_value record_length in_record b h r e in
    let (has, behind) = of_record n m h r then in
    let taken : length b ≡ 2 + length m =
    subst (Took 2 (length b)) first (takes_record_length.took b) in
    let all = has.all in
    (omega (arith, taken, behind, all), has.allowed)

pub hello_fills : (b : Bytes) (h : ClientHello) (r : Bytes) → reading client_hello b ≡ Ok (h, r)
    → length b ≡ hello_length h + length r
hello_fills b h r e = (hello_has b h r e).0

pub hello_allowed : (b : Bytes) (h : ClientHello) (r : Bytes) → reading client_hello b ≡ Ok (h, r)
    → HasAllowedLengths h
hello_allowed b h r e = (hello_has b h r e).1
