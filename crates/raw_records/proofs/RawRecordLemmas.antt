-- Raw records: what they consume, when bytes of them are missing, and when their length is too
-- large.
use Rattle.std.proofs.Common.{◌≡◌, ◌↔◌, ℕ, ◌+◌, ◌-◌, ◌<◌, ◌≤◌, [], ◌++◌, length, take, drop, Ok, Err, Bool, true, false}
use Rattle.std.proofs.Common.{cond, ltb, nat_le, refl, sym, ◌∙◌, ap, subst, arith}
use Rattle.std.proofs.Math.Seq.{take-add, take-length, drop-length}
use Rattle.std.proofs.lemmas.Bool.{ltb-true, ltb-false, leb-true, leb-false}
use Rattle.std.proofs.lemmas.List.{length-drop, drop-drop, take-append-drop}
use Rattle.layouts.specs.Bytes.{Bytes, AreBytes}
use Rattle.layouts.specs.Layout.{Layout, done, block, window, rest, chain, test}
use Rattle.layouts.specs.Meaning.{Answer, Broken, Lacks, Allows}
use Rattle.layouts.specs.Reading.{reading, split_at, ◌and_then◌}
use Rattle.layouts.specs.declared.result.ErrorKind.TheVariants.{TooLarge}
use Rattle.layouts.proofs.LackingLemmas.{never-rest}
use Rattle.layouts.proofs.OneAnswerLemmas.{read_allowed, only_reading}
use Rattle.raw_records.specs.Framing.{max_fragment_length, framed_raw_record, framed_record, fragment_length, IsTooLarge}
use Rattle.raw_records.specs.Framing.{NeedsMore}
use Rattle.raw_records.specs.RawRecord.{RecordHeader, RawRecord, IsInFront, record_header, raw_record}
use Rattle.raw_records.proofs.FramedLemmas.{after_raw_header}
use Rattle.raw_records.proofs.FurtherLemmas.{raw_of}
use Rattle.raw_records.proofs.HeaderLemmas.{short_header, long_header}
use Rattle.raw_records.proofs.WholeLemmas.{record_reading_lacks}

-- All bytes, with no rest.
rest_read : (w : Bytes) → reading rest w ≡ Ok (w, [])
unfolding split_at
rest_read w = go (ltb (length w) (length w)) refl
  where
    go : (t : Bool) → ltb (length w) (length w) ≡ t
        → cond {A = Answer Bytes} t (Err (Lacks (length w - length w)))
        (Ok (take (length w) w, drop (length w) w))
        ≡ Ok (w, [])
    go true e = let less : length w < length w = ltb-true (length w) (length w) e in
        absurd (omega (arith, less))
    go false e = ap (λ x. Ok (x, drop (length w) w)) (take-length w)
        ∙ ap (λ x. Ok (w, x)) (drop-length w)

module _ {H F : Type 0} (header : Layout H) (len : H → ℕ) (raw : H → Bytes → F) where
  abbrev with_fragment : H → Bytes × Bytes → Answer F
  with_fragment h f = Ok (raw h f.0, f.1)

  abbrev in_rest : Bytes → Bytes × Bytes → Answer Bytes
  in_rest r m = Ok (m.0, r)

  -- A raw record is a record whose content is the whole fragment.
  same_fragment : (h : H) (a : Answer Bytes)
      → (a and_then with_fragment h) ≡ (a and_then λ w. reading rest w.0
      and_then in_rest w.1) and_then with_fragment h
  same_fragment h (Ok w) =
      sym (ap (λ a. (a and_then in_rest w.1) and_then with_fragment h) (rest_read w.0))
  same_fragment h (Err e) = refl

  same_after_test : (h : H) (fits : Bool) (b : Bytes) →
      reading (chain (test fits TooLarge) (λ _. chain (block (len h)) (λ f. done (raw h f)))) b
      ≡ reading (chain (test fits TooLarge)
      (λ _. chain (window (len h) rest) (λ f. done (raw h f)))) b
  same_after_test h true b = same_fragment h (split_at (len h) b)
  same_after_test h false b = refl

  same_after_header : (a : Answer H) →
      (a and_then λ x. reading (after_raw_header header len (λ _. rest) raw raw x.0) x.1)
      ≡ (a and_then λ x. reading (chain (test (nat_le (len x.0) max_fragment_length) TooLarge)
      (λ _. chain (window (len x.0) rest) (λ f. done (raw x.0 f)))) x.1)
  same_after_header (Ok x) = same_after_test x.0 (nat_le (len x.0) max_fragment_length) x.1
  same_after_header (Err e) = refl

  pub raw_is_framed : (b : Bytes)
      → reading (framed_raw_record header len raw) b ≡ reading (framed_record header len
      (λ _. rest) raw) b
  raw_is_framed b = same_after_header (reading header b)

  module _ (n : ℕ)
      (short : (b : Bytes) → length b < n → (k : ℕ) × (reading header b ≡ Err (Lacks k)))
      (long : (b : Bytes) → n ≤ length b → (h : H) × (reading header b ≡ Ok (h, drop n b))
      × (len h ≡ fragment_length
      n b)) where
    abbrev raw_record_of : Layout F
    raw_record_of = framed_raw_record header len raw

    -- Bytes of a raw record are missing exactly if it needs more.
    pub raw_lacks : (b : Bytes) → AreBytes b → ((k : ℕ) × Allows raw_record_of b (Err (Lacks k)))
        ↔ NeedsMore n b
    raw_lacks b are =
        let same = raw_is_framed b in
        let lacks = record_reading_lacks header len (λ _. rest) raw raw n (λ _. never-rest) short
        long b are in (
          λ h. lacks.0
              (h.0, sym same ∙ sym (only_reading raw_record_of b are (Err (Lacks h.0)) h.1)),
          λ h. let k = lacks.1 h in
              (k.0, read_allowed raw_record_of b (Err (Lacks k.0)) are (same ∙ k.1)),
        )

    after_long : (b : Bytes) (h : H) → reading header b ≡ Ok (h, drop n b)
        → reading raw_record_of b ≡ reading
        (after_raw_header header len (λ _. rest) raw raw h) (drop n b)
    after_long b h e =
        ap
        (λ a. a and_then λ x. reading (after_raw_header header len (λ _. rest) raw raw x.0) x.1) e

    -- A raw record is refused as too large exactly if its length is.
    never_broken : (h : H) (r : Bytes)
        → (split_at (len h) r and_then with_fragment h) ≡ Err (Broken TooLarge) → ⊥
    unfolding split_at
    never_broken h r = go (ltb (length r) (len h))
      where
        go : (t : Bool) → (cond {A = Answer Bytes} t (Err (Lacks (len h - length r)))
            (Ok (take (len h) r, drop (len h) r)) and_then with_fragment h) ≡ Err (Broken
            TooLarge) → ⊥
        go true e = absurd cc
        go false e = absurd cc

    large_after : (h : H) (r : Bytes)
        → (reading (after_raw_header header len (λ _. rest) raw raw h) r ≡ Err
        (Broken TooLarge)) ↔ (max_fragment_length < len h)
    large_after h r = go (nat_le (len h) max_fragment_length) refl
      where
        go : (t : Bool) → nat_le (len h) max_fragment_length ≡ t
            → (reading (chain (test t TooLarge) (λ _. chain (block (len h)) (λ f. done (raw h f))))
            r ≡ Err
            (Broken TooLarge)) ↔ (max_fragment_length < len h)
        go true e = let small : len h ≤ max_fragment_length = leb-true (len h) max_fragment_length
            e in (λ s. absurd (never_broken h r s), λ g. absurd (omega (arith, g, small)))
        go false e = (λ s. omega (arith, leb-false (len h) max_fragment_length e), λ g. refl)

    pub raw_too_large : (b : Bytes) → (reading raw_record_of b ≡ Err (Broken TooLarge))
        ↔ IsTooLarge n b
    raw_too_large b = go (ltb (length b) n) refl
      where
        go : (t : Bool) → ltb (length b) n ≡ t → (reading raw_record_of b ≡ Err (Broken TooLarge))
            ↔ IsTooLarge n b
        go true e =
            let few : length b < n = ltb-true (length b) n e in
            let h = short b few in
            let lacks : reading raw_record_of b ≡ Err (Lacks h.0) = ap
            (λ a. a and_then λ x. reading (after_raw_header header len (λ _. rest) raw raw x.0) x.1)
            h.1 in
            (λ s. absurd cc, λ w. absurd (omega (arith, few, w.has_header)))
        go false e =
            let enough : n ≤ length b = ltb-false (length b) n e in
            let h = long b enough in
            let then = after_long b h.0 h.1 in
            let large = large_after h.0 (drop n b) in (
              λ s. record {
                has_header = enough;
                above = subst (λ k. max_fragment_length < k) h.2
                    (large.0 (sym then ∙ s));
              },
              λ w. then ∙ large.1 (subst (λ k. max_fragment_length < k) (sym h.2) w.above),
            )

    -- What a raw record consumes: n bytes, and as many as its header states.
    pub record Taken (v : F) (b r : Bytes) : Type 0 where
      pub head : H
      pub is : v ≡ raw head (take (len head) (drop n b))
      pub enough : n + len head ≤ length b
      pub rest : r ≡ drop (n + len head) b

    after_takes : (h : H) (b : Bytes) (v : F) (r : Bytes) → n ≤ length b
        → (split_at (len h) (drop n b) and_then with_fragment h) ≡ Ok (v, r) → Taken v b r
    unfolding split_at
    after_takes h b v r some = go (ltb (length (drop n b)) (len h)) refl
      where
        go : (t : Bool) → ltb (length (drop n b)) (len h) ≡ t
            → (cond {A = Answer Bytes} t (Err (Lacks (len h - length (drop n b))))
            (Ok (take (len h) (drop n b), drop (len h) (drop n b))) and_then with_fragment
            h) ≡ Ok (v, r) → Taken v b r
        go true e f = absurd cc
        go false e f =
            let enough : len h ≤ length (drop n b) = ltb-false (length (drop n b)) (len h) e in
            let same : ◌≡◌ {A = F × Bytes} (v, r)
            (raw h (take (len h) (drop n b)), drop (len h) (drop n b)) = cc in
            record {
              head = h;
              is = ap (λ x. x.0) same;
              enough = omega (arith, enough, some, length-drop n b);
              rest = ap (λ x. x.1) same ∙ drop-drop (len h) n b ∙ ap (λ k. drop k b) (omega arith);
            }

    pub raw_takes : (b r : Bytes) (v : F) → reading raw_record_of b ≡ Ok (v, r) → Taken v b r
    raw_takes b r v e = go (ltb (length b) n) refl
      where
        test_passed : (h : H) (fits : Bool) → n ≤ length b
            → reading (chain (test fits TooLarge)
            (λ _. chain (block (len h)) (λ f. done (raw h f)))) (drop n b) ≡ Ok
            (v, r) → Taken v b r
        test_passed h true some f = after_takes h b v r some f
        test_passed h false some f = absurd cc

        go : (t : Bool) → ltb (length b) n ≡ t → Taken v b r
        go true f =
            let h = short b (ltb-true (length b) n f) in
            let lacks : reading raw_record_of b ≡ Err (Lacks h.0) = ap
            (λ a. a and_then λ x. reading (after_raw_header header len (λ _. rest) raw raw x.0) x.1)
            h.1 in
            absurd cc
        go false f =
            let some : n ≤ length b = ltb-false (length b) n f in
            let h = long b some in
            test_passed h.0 (nat_le (len h.0) max_fragment_length) some
            (sym (after_long b h.0 h.1) ∙ e)

    pub read_takes : (b m r f : Bytes) (h : H) → reading header b ≡ Ok (h, m)
        → split_at (len h) m ≡ Ok (f, r)
        → Taken (raw h f) b r
    read_takes b m r f h head fragment = go (ltb (length b) n) refl
      where
        go : (t : Bool) → ltb (length b) n ≡ t → Taken (raw h f) b r
        go true e =
            let s = short b (ltb-true (length b) n e) in
            absurd cc
        go false e =
            let some : n ≤ length b = ltb-false (length b) n e in
            let l = long b some in
            let same : ◌≡◌ {A = H × Bytes} (h, m) (l.0, drop n b) = cc in
            let after : m ≡ drop n b = ap (λ x. x.1) same in
            after_takes h b (raw h f) r some
            (ap (λ m. split_at (len h) m and_then with_fragment h) (sym after) ∙ ap
            (λ a. a and_then with_fragment h) fragment)

-- Raw records of TLS.
pub raw_record_lacks : (b : Bytes) → AreBytes b → ((n : ℕ) × Allows raw_record b (Err (Lacks n)))
    ↔ NeedsMore 5 b
unfolding raw_record
raw_record_lacks b are =
    raw_lacks record_header (λ h. h.length) raw_of 5 short_header long_header b are

pub raw_record_too_large : (b : Bytes) → (reading raw_record b ≡ Err (Broken TooLarge))
    ↔ IsTooLarge 5 b
unfolding raw_record
raw_record_too_large b =
    raw_too_large record_header (λ h. h.length) raw_of 5 short_header long_header b

-- The input begins with what was consumed.
taken_in_front : (b r : Bytes) (v : RawRecord)
    → Taken record_header (λ h. h.length) raw_of 5 short_header long_header v b r → IsInFront v b r
taken_in_front b r v t =
    let k = 5 + t.head.length in
    subst (λ v. IsInFront v b r) (sym t.is) (record {
      is_whole = t.enough;
      has_fragment = take-add 5 t.head.length b;
      then_rest = sym (ap (λ x. take k b ++ x) t.rest ∙ take-append-drop k b);
    })

pub record_in_front : (b r : Bytes) (v : RawRecord) → reading raw_record b ≡ Ok (v, r)
    → IsInFront v b r
unfolding raw_record
record_in_front b r v e =
    taken_in_front b r v
    (raw_takes record_header (λ h. h.length) raw_of 5 short_header long_header b r v e)

-- The input begins with a header and a fragment that are read one after the other.
pub read_in_front : (b m r f : Bytes) (h : RecordHeader) → reading record_header b ≡ Ok (h, m)
    → reading (block h.length) m ≡ Ok (f, r) → IsInFront (raw_of h f) b r
read_in_front b m r f h head fragment =
    taken_in_front b r (raw_of h f)
    (read_takes record_header (λ h. h.length) raw_of 5 short_header long_header b m r
    f h head fragment)
