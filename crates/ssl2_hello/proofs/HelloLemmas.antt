-- When a hello parses, and what its first bytes decide.
use Rattle.std.proofs.Common.{◌≡◌, ◌↔◌, ℕ, ◌+◌, ◌-◌, ◌<◌, ◌≤◌, ◌++◌, List, length, take, drop, Ok, Err, Bool, true, false}
use Rattle.std.proofs.Common.{cond, ltb, refl, sym, ◌∙◌, ap, subst, arith}
use Rattle.std.specs.Prelude.{IsTrue, IsOk, IsOkAnd, is_ok}
use Rattle.std.proofs.lemmas.Bool.{ltb-true, ltb-false, true≢false}
use Rattle.std.proofs.lemmas.List.{length-drop, length-take-le, take-append-drop}
use Rattle.layouts.specs.Bytes.{Bytes, AreBytes}
use Rattle.layouts.specs.Layout.{Layout, number, block, window, list, complete, chain, done}
use Rattle.layouts.specs.Items.{items_in}
use Rattle.layouts.specs.Meaning.{Answer, Broken, Lacks}
use Rattle.layouts.specs.Reading.{reading, split_at, completed, ◌and_then◌}
use Rattle.layouts.specs.Stable.{CountsMissing, Decides, CountsDown}
use Rattle.layouts.specs.declared.result.ErrorKind.{ErrorKind}
use Rattle.layouts.proofs.LackingLemmas.{never-complete}
use Rattle.layouts.proofs.OneAnswerLemmas.{ltb_no, ltb_yes}
use Rattle.layouts.proofs.StableLemmas.{decides, counts_down, counting_is_stable, read_stays, stays, Stays}
use Rattle.ssl2_hello.specs.Front.{FixedFields, record_length, fixed_fields, beginning, begins_ssl2_hello_in}
use Rattle.ssl2_hello.specs.Front.{HasWholeRecord}
use Rattle.ssl2_hello.specs.ClientHello.{ClientHello, message, client_hello}
use Rattle.ssl2_hello.proofs.TakenLemmas.{Took}
use Rattle.ssl2_hello.proofs.KnownLemmas.{Holds, chain_reads, first_read}
use Rattle.ssl2_hello.proofs.FrontLemmas.{takes_fields, takes_beginning, record_length_counts, fields_stable}
use Rattle.ssl2_hello.proofs.FrontLemmas.{beginning_stable, Fills, fields_fill}

-- n bytes are there, and others after them.
split_read : (n : ℕ) (b : Bytes) → n ≤ length b → split_at n b ≡ Ok (take n b, drop n b)
unfolding split_at
split_read n b enough = ap (λ t. cond t (Err (Lacks (n - length b))) (Ok (take n b, drop n b)))
    (ltb_no (length b) n enough)

split_lacks : (n : ℕ) (b : Bytes) → length b < n → split_at n b ≡ Err (Lacks (n - length b))
unfolding split_at
split_lacks n b few = ap (λ t. cond t (Err (Lacks (n - length b))) (Ok (take n b, drop n b)))
    (ltb_yes (length b) n few)

window_read : {A : Type 0} (n : ℕ) (l : Layout A) (b : Bytes) → n ≤ length b
    → reading (window n (list l)) b ≡ Ok (items_in l (take n b), drop n b)
window_read {A} n l b enough =
    ap (λ a. ◌and_then◌ {X = Bytes × Bytes} {Y = List A × Bytes} a
    (λ w. reading (list l) w.0 and_then λ x. Ok (x.0, w.1)))
    (split_read n b enough)

read_pair : {A : Type 0} (a : Answer A) → IsOk a → (v : A) × (r : Bytes) × (a ≡ Ok (v, r))
read_pair (Ok x) h = (x.0, x.1, refl)
read_pair (Err e) h = absurd cc

-- The parts after the fields parse if they are there.
abbrev pub behind_challenge : FixedFields → List ℕ → Bytes → Bytes → Layout ClientHello
behind_challenge f specs id challenge =
    done (record {
      version = f.version;
      cipher_specs = specs;
      session_id = id;
      challenge =
          challenge;
    })

abbrev pub behind_id : FixedFields → List ℕ → Bytes → Layout ClientHello
behind_id f specs id = chain (block f.challenge_length) (behind_challenge f specs id)

abbrev pub behind_specs : FixedFields → List ℕ → Layout ClientHello
behind_specs f specs = chain (block f.session_id_length) (behind_id f specs)

abbrev pub behind_fields : FixedFields → Layout ClientHello
behind_fields f = chain (window f.cipher_spec_length (list (number 3))) (behind_specs f)

parts_read : (f : FixedFields) (r : Bytes)
    → f.cipher_spec_length + f.session_id_length + f.challenge_length ≤ length r
    → IsOk (reading (behind_fields f) r)
parts_read f r enough =
    let c = f.cipher_spec_length in
    let s = f.session_id_length in
    let h = f.challenge_length in
    let specs = items_in (number 3) (take c r) in
    let after_specs : Bytes = drop c r in
    let id : Bytes = take s after_specs in
    let after_id : Bytes = drop s after_specs in
    chain_reads (window c (list (number 3))) (behind_specs f) r specs after_specs
    (window_read c (number 3) r (omega (arith, enough)))
    (chain_reads (block s) (behind_id f specs) after_specs id after_id
    (split_read s after_specs (omega (arith, enough, length-drop c r)))
    (chain_reads (block h) (behind_challenge f specs id) after_id (take h after_id)
    (drop h after_id)
    (split_read h after_id (omega (arith, enough, length-drop c r, length-drop s after_specs)))
    refl))

-- A message parses if its record's fields do.
message_read : (n : ℕ) (w : Bytes) (f : FixedFields) (r : Bytes) → length w ≡ n
    → reading (fixed_fields n) w ≡ Ok (f, r) → IsOk (reading (message n) w)
unfolding message
message_read n w f r size e =
    let taken : length w ≡ 9 + length r = subst (Took 9 (length w)) e ((takes_fields n).took w) in
    let fills : Fills n f = subst (Holds (Fills n)) e (fields_fill n w) in
    chain_reads (fixed_fields n) behind_fields w f r e
    (parts_read f r (omega (arith, taken, fills.all, size)))

-- Its fields parse if it does.
message_fields : (n : ℕ) (w : Bytes) → IsOk (reading (message n) w)
    → (f : FixedFields) × (r : Bytes) × (reading (fixed_fields n) w ≡ Ok (f, r))
unfolding message
message_fields n w h = let x = first_read (fixed_fields n) behind_fields w h in (x.0, x.1, x.2)

-- The fields of a whole record are the same in the record alone and in all bytes.
fields_of_record : (n : ℕ) (b : Bytes) (f : FixedFields) (r : Bytes) → n ≤ length b
    → reading (fixed_fields n) b ≡ Ok (f, r) → (g : FixedFields) × (m : Bytes)
    × (reading (fixed_fields n) (take n b) ≡ Ok (g, m))
fields_of_record n b f r enough e =
    go (reading (fixed_fields n) (take n b)) refl
    (subst (λ c. Stays (drop n b) (reading (fixed_fields n) (take n b))
    (reading (fixed_fields n) c)) (take-append-drop n b)
    (stays (fixed_fields n) (fields_stable n) (take n b) (drop n b))) ((takes_fields n).took
    (take n b))
  where
    go : (a : Answer FixedFields) → reading (fixed_fields n) (take n b) ≡ a
        → Stays (drop n b) a (reading (fixed_fields n) b)
        → Took 9 (length (take n b)) a → (g : FixedFields) × (m : Bytes)
        × (reading (fixed_fields n) (take n b) ≡ Ok (g, m))
    go (Ok x) is s t = (x.0, x.1, is)
    go (Err (Broken k)) is s t =
        absurd (let both : ◌≡◌ {A = Answer FixedFields} (Ok (f, r)) (Err (Broken k)) =
        sym e ∙ s in cc)
    go (Err (Lacks k)) is s t =
        let fills : Fills n f = subst (Holds (Fills n)) e (fields_fill n b) in
        absurd (omega (arith, t, fills.all, length-take-le n b enough))

-- A record with a hello.
abbrev pub in_record : ℕ → Layout ClientHello
in_record n = window n (complete (message n))

completed_ok : {A : Type 0} (a : Answer A) → IsOk (completed a) ↔ IsOk a
completed_ok (Ok x) = (λ h. h, λ h. h)
completed_ok (Err (Broken k)) = (λ h. h, λ h. h)
completed_ok (Err (Lacks n)) = (λ h. absurd cc, λ h. absurd cc)

rest_ok : {A : Type 0} (a : Answer A) (r : Bytes)
    → IsOk (◌and_then◌ {Y = A × Bytes} a (λ x. Ok (x.0, r))) ↔ IsOk a
rest_ok (Ok x) r = (λ h. refl, λ h. refl)
rest_ok (Err e) r = (λ h. absurd cc, λ h. absurd cc)

record_whole : (n : ℕ) (b : Bytes) → IsOk (reading (in_record n) b)
    → (n ≤ length b) × IsOk (reading (message n) (take n b))
unfolding split_at
record_whole n b h = go (ltb (length b) n) refl h
  where
    go : (t : Bool) → ltb (length b) n ≡ t
        → IsOk (◌and_then◌ {X = Bytes × Bytes} {Y = ClientHello × Bytes}
        (cond {A = Answer Bytes} t (Err (Lacks (n - length b))) (Ok (take n b, drop n b)))
        (λ w. completed (reading (message n) w.0) and_then λ x. Ok (x.0, w.1)))
        → (n ≤ length b) × IsOk (reading (message n) (take n b))
    go true e h = absurd cc
    go false e h = (
      ltb-false (length b) n e,
      (completed_ok _).0 ((rest_ok (completed (reading (message n) (take n b))) (drop n b)).0 h),
    )

record_read : (n : ℕ) (b : Bytes) → n ≤ length b → IsOk (reading (message n) (take n b))
    → IsOk (reading (in_record n) b)
record_read n b enough h =
    subst (λ a. IsOk (◌and_then◌ {X = Bytes × Bytes} {Y = ClientHello × Bytes} a
    (λ w. completed (reading (message n) w.0) and_then λ x. Ok (x.0, w.1)))) (sym (split_read
    n b enough))
    ((rest_ok (completed (reading (message n) (take n b))) (drop n b)).1
    ((completed_ok (reading (message n) (take n b))).1 h))

record_lacks : (n : ℕ) (b : Bytes) → length b < n
    → reading (in_record n) b ≡ Err (Lacks (n - length b))
record_lacks n b few =
    ap (λ a. ◌and_then◌ {X = Bytes × Bytes} {Y = ClientHello × Bytes} a
    (λ w. completed (reading (message n) w.0) and_then λ x. Ok (x.0, w.1))) (split_lacks n b few)

-- If a hello parses, its beginning parses and its record is whole.
read_begins : (b : Bytes) → IsOk (reading client_hello b) → IsTrue (begins_ssl2_hello_in b)
    × HasWholeRecord b
unfolding client_hello beginning
read_begins b h =
    let (n, m, e, in_it) = first_read record_length in_record b h in
    let (enough, whole) = record_whole n m in_it in
    let (f, r, fields) = message_fields n (take n m) whole in
    let of_all : reading (fixed_fields n) m ≡ Ok (f, r ++ drop n m) =
    subst (λ c. reading (fixed_fields n) c ≡ Ok (f, r ++ drop n m)) (take-append-drop n m)
    (read_stays (fixed_fields n) (fields_stable n) (take n m) (drop n m) f r fields) in (
      chain_reads record_length fixed_fields b n m e (ap is_ok of_all),
      subst (λ a. IsOkAnd a (λ x. x.0 ≤ length x.1)) (sym e) enough,
    )

-- If its beginning parses and its record is whole, the hello parses.
begun_read : (b : Bytes) → IsTrue (begins_ssl2_hello_in b) → HasWholeRecord b
    → IsOk (reading client_hello b)
unfolding client_hello beginning
begun_read b begins whole =
    let (n, m, e, in_it) = first_read record_length fixed_fields b begins in
    let enough : n ≤ length m = subst (λ a. IsOkAnd a (λ x. x.0 ≤ length x.1)) e whole in
    let (f, r, fields) = read_pair (reading (fixed_fields n) m) in_it in
    let (g, s, alone) = fields_of_record n m f r enough fields in
    chain_reads record_length in_record b n m e
    (record_read n m enough (message_read n (take n m) g s (length-take-le n m enough) alone))

pub hello_read : (b : Bytes) → IsOk (reading client_hello b)
    ↔ (IsTrue (begins_ssl2_hello_in b) × HasWholeRecord b)
hello_read b = (read_begins b, λ h. begun_read b h.0 h.1)

-- A stream that begins with a hello is never refused.
pub begun_not_refused : (b : Bytes) (k : ErrorKind) → IsTrue (begins_ssl2_hello_in b)
    → reading client_hello b ≡ Err (Broken k) → ⊥
unfolding client_hello beginning
begun_not_refused b k begins refused =
    let (n, m, e, in_it) = first_read record_length fixed_fields b begins in
    go n m e (ltb (length m) n) refl
  where
    go : (n : ℕ) (m : Bytes) → reading record_length b ≡ Ok (n, m) → (t : Bool)
        → ltb (length m) n ≡ t → ⊥
    go n m e true few =
        let lacks : reading client_hello b ≡ Err (Lacks (n - length m)) =
        ap (λ a. a and_then λ x. reading (in_record x.0) x.1) e
        ∙ record_lacks n m (ltb-true (length m) n few) in
        let both : ◌≡◌ {A = Answer ClientHello} (Err (Lacks (n - length m))) (Err (Broken k)) =
        sym lacks ∙ refused in cc
    go n m e false enough =
        let whole : HasWholeRecord b =
        subst (λ a. IsOkAnd a (λ x. x.0 ≤ length x.1)) (sym e) (ltb-false (length m) n enough) in
        let read : IsOk (reading client_hello b) = begun_read b begins whole in
        let none : is_ok (reading client_hello b) ≡ false = ap is_ok refused in
        absurd (true≢false (sym read ∙ none))

-- More bytes.
hello_counts : CountsMissing client_hello
unfolding client_hello
hello_counts = (record_length_counts, λ n. never-complete (message n))

pub hello_decides : (b s : Bytes) → AreBytes b → AreBytes s → Decides client_hello b s
hello_decides b s are more =
    decides client_hello (counting_is_stable client_hello hello_counts) b s are more

pub hello_counts_down : (b s : Bytes) → AreBytes b → AreBytes s → CountsDown client_hello b s
hello_counts_down b s are more = counts_down client_hello hello_counts b s are more

-- The first 11 bytes decide.
pub begins_long : (b : Bytes) → IsTrue (begins_ssl2_hello_in b) → 11 ≤ length b
begins_long b h = go (reading beginning b) h (takes_beginning.took b)
  where
    go : (a : Answer FixedFields) → IsOk a → Took 11 (length b) a → 11 ≤ length b
    go (Ok x) h t = omega (arith, t)
    go (Err e) h t = absurd cc

pub begins_still : (b s : Bytes) → 11 ≤ length b
    → begins_ssl2_hello_in (b ++ s) ≡ begins_ssl2_hello_in b
begins_still b s long =
    go (reading beginning b) refl (stays beginning beginning_stable b s) (takes_beginning.took b)
  where
    go : (a : Answer FixedFields) → reading beginning b ≡ a → Stays s a (reading beginning (b ++ s))
        → Took 11 (length b) a → is_ok (reading beginning (b ++ s)) ≡ is_ok (reading beginning b)
    go (Ok x) is e t = ap is_ok e ∙ sym (ap is_ok is)
    go (Err (Broken k)) is e t = ap is_ok e ∙ sym (ap is_ok is)
    go (Err (Lacks n)) is e t = absurd (omega (arith, t, long))
