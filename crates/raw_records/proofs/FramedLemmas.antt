-- A header, a check of its length, and that many bytes, for any header.
use Rattle.std.proofs.Common.{◌≡◌, ℕ, ◌-◌, ◌<◌, ◌≤◌, length, take, drop, Bool, true, false, cond, ltb, nat_le, Ok, Err}
use Rattle.std.proofs.Common.{refl, ap, sym, ◌∙◌}
use Rattle.std.proofs.lemmas.Bool.{ltb-true, leb-true, le-leb}
use Rattle.layouts.specs.Bytes.{Bytes, AreBytes}
use Rattle.layouts.specs.Layout.{Layout, test, done, window, block, chain}
use Rattle.layouts.specs.Meaning.{Answer, Lacks, Allows}
use Rattle.layouts.specs.Reading.{reading, ◌and_then◌, split_at}
use Rattle.layouts.specs.Stable.{NeverLacks, CountsMissing}
use Rattle.layouts.specs.declared.result.ErrorKind.{ErrorKind}
use Rattle.layouts.specs.declared.result.ErrorKind.TheVariants.{TooLarge}
use Rattle.raw_records.specs.Framing.{max_fragment_length, framed_raw_record, framed_record}
use Rattle.layouts.proofs.OneAnswerLemmas.{ltb_yes, read_allowed, AreBytes-window}

counts_test : (t : Bool) (k : ErrorKind) → CountsMissing (test t k)
counts_test true k = tt
counts_test false k = tt

-- a layout that never lacks bytes isn't refused for missing ones
not_lacking : {A : Type 0} (l : Layout A) → NeverLacks l → (b : Bytes) → AreBytes b → (n : ℕ)
    → reading l b ≡ Err (Lacks n) → ⊥
unfolding Allows
not_lacking l never b are n e = never b n (read_allowed l b (Err (Lacks n)) are e)

module _ {H M R F : Type 0} (header : Layout H) (len : H → ℕ) (content : H → Layout M)
    (whole : H → M → R)
    (raw : H → Bytes → F) where
  -- what follows the header of a record, and of a raw record
  abbrev pub after_header : H → Layout R
  after_header h =
      chain (test (nat_le (len h) max_fragment_length) TooLarge)
      (λ _. chain (window (len h) (content h)) (λ m. done (whole h m)))

  abbrev pub after_raw_header : H → Layout F
  after_raw_header h =
      chain (test (nat_le (len h) max_fragment_length) TooLarge)
      (λ _. chain (block (len h)) (λ f. done (raw h f)))

  abbrev in_rest : Bytes → M × Bytes → Answer M
  in_rest r m = Ok (m.0, r)

  abbrev with_messages : H → M × Bytes → Answer R
  with_messages h m = Ok (whole h m.0, m.1)

  abbrev with_fragment : H → Bytes × Bytes → Answer F
  with_fragment h f = Ok (raw h f.0, f.1)

  -- A record is a raw record, then its fragment.
  module _ (read_content : F × Bytes → Answer R)
      (reads_content : (h : H) (f r : Bytes)
      → read_content (raw h f, r) ≡ reading (content h) f and_then λ m. Ok
      (whole h m.0, r)) where
    messages_read : (h : H) (r : Bytes) (a : Answer M)
        → (a and_then in_rest r) and_then with_messages h ≡ a and_then λ m. Ok (whole h m.0, r)
    messages_read h r (Ok m) = refl
    messages_read h r (Err e) = refl

    fragment_read : (h : H) (a : Answer Bytes) →
        (a and_then λ w. reading (content h) w.0 and_then in_rest w.1) and_then with_messages h
        ≡ (a and_then with_fragment h) and_then read_content
    fragment_read h (Ok w) = messages_read h w.1 (reading (content h) w.0)
        ∙ sym (reads_content h w.0 w.1)
    fragment_read h (Err e) = refl

    header_read : (h : H) (fits : Bool) (b : Bytes) →
        (reading (test fits TooLarge) b and_then λ x. reading
        (chain (window (len h) (content h)) (λ m. done (whole h m))) x.1)
        ≡ (reading (test fits TooLarge) b and_then λ x. reading
        (chain (block (len h)) (λ f. done (raw h f))) x.1)
        and_then read_content
    header_read h true b = fragment_read h (split_at (len h) b)
    header_read h false b = refl

    record_read : (a : Answer H) →
        (a and_then λ x. reading (after_header x.0) x.1)
        ≡ (a and_then λ x. reading (after_raw_header x.0) x.1)
        and_then read_content
    record_read (Ok x) = header_read x.0 (nat_le (len x.0) max_fragment_length) x.1
    record_read (Err e) = refl

    pub framed_is_raw_then_content : (b : Bytes)
        → reading (framed_record header len content whole) b ≡ reading
        (framed_raw_record header len raw) b and_then read_content
    framed_is_raw_then_content b = record_read (reading header b)

  -- A raw record counts its missing bytes.
  pub raw_counts : CountsMissing header → CountsMissing (framed_raw_record header len raw)
  raw_counts first =
      (first, λ h. (counts_test (nat_le (len h) max_fragment_length) TooLarge, λ _. (tt, λ f. tt)))

  module _ (never : (h : H) → NeverLacks (content h)) where
    -- So does a record, if its fragment never lacks bytes.
    pub framed_counts : CountsMissing header
        → CountsMissing (framed_record header len content whole)
    framed_counts first = (
      first,
      λ h.
          (counts_test (nat_le (len h) max_fragment_length) TooLarge, λ _. (never h, λ m. tt)),
    )

    -- Then bytes are missing exactly if those of the header are, or those of a fragment that isn't
    -- too large.
    pub header_lacks : (b : Bytes) (n : ℕ) → reading header b ≡ Err (Lacks n)
        → reading (framed_record header len content whole) b ≡ Err (Lacks n)
    header_lacks b n e = ap (λ a. a and_then λ x. reading (after_header x.0) x.1) e

    lacks_messages : (h : H) (r : Bytes) (a : Answer M)
        → ((n : ℕ) → a ≡ Err (Lacks n) → ⊥) → (n : ℕ)
        → (a and_then in_rest r) and_then with_messages h ≡ Err (Lacks n) → ⊥
    lacks_messages h r (Ok m) none n e = cc
    lacks_messages h r (Err g) none n e = none n (let is : g ≡ Lacks n = cc in ap Err is)

    lacks_fragment : (h : H) (r : Bytes) → AreBytes r → (n : ℕ)
        → reading (chain (window (len h) (content h)) (λ m. done (whole h m))) r ≡ Err (Lacks n)
        → length r < len h
    unfolding split_at
    lacks_fragment h r are n e = go (ltb (length r) (len h)) refl e
      where
        go : (t : Bool) → ltb (length r) (len h) ≡ t
            → ((cond {A = Answer Bytes} t (Err (Lacks (len h - length r)))
            (Ok (take (len h) r, drop (len h) r)))
            and_then λ w. reading (content h) w.0 and_then in_rest
            w.1) and_then with_messages h ≡ Err (Lacks n)
            → length r < len h
        go true f g = ltb-true (length r) (len h) f
        go false f g =
            let split : split_at (len h) r ≡ Ok (take (len h) r, drop (len h) r) = ap
            (λ t. cond {A = Answer Bytes} t (Err (Lacks (len h - length r)))
            (Ok (take (len h) r, drop (len h) r))) f in
            absurd (lacks_messages h (drop (len h) r) (reading (content h) (take (len h) r))
            (λ k. not_lacking (content h) (never h) (take (len h) r)
            (AreBytes-window (len h) r (take (len h) r, drop (len h) r) are split) k) n g)

    pub after_header_lacks : (h : H) (r : Bytes) → AreBytes r → (n : ℕ)
        → reading (after_header h) r ≡ Err (Lacks n)
        → (len h ≤ max_fragment_length) × (length r < len h)
    after_header_lacks h r are n e = go (nat_le (len h) max_fragment_length) refl e
      where
        go : (t : Bool) → nat_le (len h) max_fragment_length ≡ t
            → reading (chain (test t TooLarge)
            (λ _. chain (window (len h) (content h)) (λ m. done (whole h m)))) r
            ≡ Err (Lacks n) → (len h ≤ max_fragment_length) × (length r < len h)
        go true f g = (leb-true (len h) max_fragment_length f, lacks_fragment h r are n g)
        go false f g = absurd cc

    pub short_lacks : (h : H) (r : Bytes) → len h ≤ max_fragment_length → length r < len h
        → reading (after_header h) r ≡ Err (Lacks (len h - length r))
    unfolding split_at
    short_lacks h r small short =
        ap (λ t. reading
        (chain (test t TooLarge)
        (λ _. chain (window (len h) (content h)) (λ m. done (whole h m))))
        r) (le-leb (len h) max_fragment_length small)
        ∙ ap (λ t. ((cond {A = Answer Bytes} t (Err (Lacks (len h - length r)))
        (Ok (take (len h) r, drop (len h) r)))
        and_then λ w. reading (content h) w.0 and_then in_rest w.1) and_then with_messages h)
        (ltb_yes (length r) (len h) short)
