-- The fixed-size fields: how many bytes they have, and that their lengths fill the record.
use Rattle.std.proofs.Common.{◌≡◌, ℕ, ◌+◌, ◌%◌, ◌<◌, ◌≤◌, true}
use Rattle.std.specs.Prelude.{◌==◌, ◌&&◌, nat_le, nat_lt}
use Rattle.std.proofs.lemmas.Bool.{eqb-true, ltb-true, leb-true, and_parts}
use Rattle.layouts.specs.Bytes.{Bytes}
use Rattle.layouts.specs.Reading.{reading}
use Rattle.layouts.specs.Stable.{IsStable, CountsMissing}
use Rattle.ssl2_hello.specs.Front.{FixedFields, record_length, lengths, fixed_fields, beginning}
use Rattle.ssl2_hello.proofs.TakenLemmas.{Takes, takes_number, takes_test, takes_done, takes_chain, stable_test, counts_test}
use Rattle.ssl2_hello.proofs.KnownLemmas.{Holds, ReadsOnly, reads_behind, reads_number, reads_tested, reads_done}

pub takes_record_length : Takes 2 record_length
unfolding record_length
takes_record_length =
    takes_chain 2 0 _ _ (takes_number 2)
    (λ n. takes_chain 0 0 _ _ (takes_test _ _) (λ u. takes_done _))

takes_lengths : (version : ℕ) → Takes 6 (lengths version)
unfolding lengths
takes_lengths version =
    takes_chain 2 4 _ _ (takes_number 2) (λ specs.
    takes_chain 0 4 _ _ (takes_test _ _) (λ u.
    takes_chain 2 2 _ _ (takes_number 2) (λ id.
    takes_chain 0 2 _ _ (takes_test _ _) (λ v.
    takes_chain 2 0 _ _ (takes_number 2) (λ challenge.
    takes_chain 0 0 _ _ (takes_test _ _) (λ w. takes_done _))))))

pub takes_fields : (n : ℕ) → Takes 9 (fixed_fields n)
unfolding fixed_fields
takes_fields n =
    takes_chain 1 8 _ _ (takes_number 1) (λ msg_type.
    takes_chain 0 8 _ _ (takes_test _ _) (λ u.
    takes_chain 2 6 _ _ (takes_number 2) (λ version.
    takes_chain 0 6 _ _ (takes_test _ _) (λ v.
    takes_chain 6 0 _ _ (takes_lengths version) (λ f.
    takes_chain 0 0 _ _ (takes_test _ _) (λ w. takes_done _))))))

pub takes_beginning : Takes 11 beginning
unfolding beginning
takes_beginning = takes_chain 2 9 _ _ takes_record_length takes_fields

pub record_length_counts : CountsMissing record_length
unfolding record_length
record_length_counts = (tt, λ n. (counts_test _ _, λ u. tt))

pub record_length_stable : IsStable record_length
unfolding record_length
record_length_stable = (tt, λ n. (stable_test _ _, λ u. tt))

lengths_stable : (version : ℕ) → IsStable (lengths version)
unfolding lengths
lengths_stable version = (
  tt,
  λ specs. (
    stable_test _ _,
    λ u. (tt, λ id. (stable_test _ _, λ v. (tt, λ challenge. (stable_test _ _, λ w. tt)))),
  ),
)

pub fields_stable : (n : ℕ) → IsStable (fixed_fields n)
unfolding fixed_fields
fields_stable n = (
  tt,
  λ msg_type. (
    stable_test _ _,
    λ u. (
      tt,
      λ version. (
        stable_test _ _,
        λ v. (
          lengths_stable version,
          λ f.
              (stable_test _ _, λ w. tt),
        ),
      ),
    ),
  ),
)

pub beginning_stable : IsStable beginning
unfolding beginning
beginning_stable = (record_length_stable, fields_stable)

-- The lengths that are accepted.
pub record AreAllowed (f : FixedFields) : Type 0 where
  pub whole : f.cipher_spec_length % 3 ≡ 0
  pub some : 0 < f.cipher_spec_length
  pub session_id : f.session_id_length ≤ 32
  pub challenge_least : 16 ≤ f.challenge_length
  pub challenge_most : f.challenge_length ≤ 32

allowed_by : (version specs id challenge : ℕ) → (specs % 3 == 0 && nat_lt 0 specs) ≡ true
    → nat_le id 32 ≡ true
    → (nat_le 16 challenge && nat_le challenge 32) ≡ true → AreAllowed (record {
      version = version;
      cipher_spec_length = specs;
      session_id_length = id;
      challenge_length = challenge;
    })
allowed_by version specs id challenge e f g =
    let (whole, some) = and_parts _ _ e in
    let (least, most) = and_parts _ _ g in
    record {
      whole = eqb-true _ _ whole;
      some = ltb-true _ _ some;
      session_id = leb-true _ _ f;
      challenge_least = leb-true _ _ least;
      challenge_most = leb-true _ _ most;
    }

lengths_allowed : (version : ℕ) → ReadsOnly AreAllowed (lengths version)
unfolding lengths
lengths_allowed version =
    reads_number AreAllowed 2 _ (λ specs.
    reads_tested AreAllowed _ _ _ (λ e.
    reads_number AreAllowed 2 _ (λ id.
    reads_tested AreAllowed _ _ _ (λ f.
    reads_number AreAllowed 2 _ (λ challenge.
    reads_tested AreAllowed _ _ _
    (λ g. reads_done AreAllowed _ (allowed_by version specs id challenge e f g)))))))

-- The lengths fill a record of n bytes.
pub record Fills (n : ℕ) (f : FixedFields) : Type 0 where
  pub all : 9 + f.cipher_spec_length + f.session_id_length + f.challenge_length ≡ n
  pub allowed : AreAllowed f

pub fields_filling : (n : ℕ) → ReadsOnly (Fills n) (fixed_fields n)
unfolding fixed_fields
fields_filling n =
    reads_number (Fills n) 1 _ (λ msg_type.
    reads_tested (Fills n) _ _ _ (λ u.
    reads_number (Fills n) 2 _ (λ version.
    reads_tested (Fills n) _ _ _ (λ v.
    reads_behind AreAllowed (Fills n) (lengths version) _ (lengths_allowed version) (λ f allowed.
    reads_tested (Fills n) _ _ _ (λ e.
    reads_done (Fills n) f (record { all = eqb-true _ _ e; allowed = allowed })))))))

pub fields_fill : (n : ℕ) (b : Bytes) → Holds (Fills n) (reading (fixed_fields n) b)
fields_fill n b = (fields_filling n).holds b
