-- Incomplete records, for any header: n bytes, of which the last 2 are the fragment's length.
use Rattle.std.proofs.Common.{◌≡◌, ℕ, ◌+◌, ◌-◌, ◌<◌, ◌≤◌, ◌↔◌, inl, inr, length, take, drop, Bool, true, false, cond}
use Rattle.std.proofs.Common.{ltb, nat_le, Ok, Err, refl, ap, sym, subst, ◌∙◌, arith}
use Rattle.std.proofs.lemmas.Bool.{ltb-true, ltb-false, leb-true}
use Rattle.std.proofs.lemmas.List.{length-drop}
use Rattle.std.specs.Result.{IsErr}
use Rattle.layouts.specs.Bytes.{Bytes, AreBytes}
use Rattle.layouts.specs.Layout.{Layout, test, done, block, chain}
use Rattle.layouts.specs.Meaning.{Answer, Lacks, Broken, Allows}
use Rattle.layouts.specs.Reading.{reading, ◌and_then◌, split_at}
use Rattle.layouts.specs.Stable.{NeverLacks}
use Rattle.layouts.specs.Answers.{Returned, GivesOrMemory, MemorySufficed}
use Rattle.layouts.specs.declared.result.ErrorKind.TheVariants.{TooLarge}
use Rattle.layouts.specs.declared.result.Err.TheVariants as err
use Rattle.layouts.specs.declared.result.Needed.TheVariants as needed
use Rattle.layouts.proofs.OneAnswerLemmas.{read_allowed, only_reading, AreBytes-read, ltb_yes}
use Rattle.raw_records.specs.Framing.{max_fragment_length, framed_raw_record, framed_record, fragment_length}
use Rattle.raw_records.specs.Framing.{HasNoRecord, NeedsMore, IsIncomplete}
use Rattle.raw_records.proofs.FramedLemmas.{after_header, after_raw_header, header_lacks, after_header_lacks}
use Rattle.raw_records.proofs.FramedLemmas.{short_lacks}

not_below : (m n : ℕ) → (m < n → ⊥) → n ≤ m
not_below m n h = grind arith

below : (m n : ℕ) → (m ≤ n → ⊥) → n < m
below m n h = grind arith

module _ {H M R F : Type 0} (header : Layout H) (len : H → ℕ) (content : H → Layout M)
    (whole : H → M → R)
    (raw : H → Bytes → F) (n : ℕ)
    (never : (h : H) → NeverLacks (content h))
    (short : (b : Bytes) → length b < n → (k : ℕ) × (reading header b ≡ Err (Lacks k)))
    (long : (b : Bytes) → n ≤ length b → (h : H) × (reading header b ≡ Ok (h, drop n b))
    × (len h ≡ fragment_length n
    b)) where
  abbrev record_of : Layout R
  record_of = framed_record header len content whole

  abbrev raw_record_of : Layout F
  raw_record_of = framed_raw_record header len raw

  after_long : (b : Bytes) (h : H) → reading header b ≡ Ok (h, drop n b)
      → reading record_of b ≡ reading (after_header header len content whole raw h) (drop n b)
  after_long b h e =
      ap (λ a. a and_then λ x. reading (after_header header len content whole raw x.0) x.1) e

  raw_after_long : (b : Bytes) (h : H) → reading header b ≡ Ok (h, drop n b)
      → reading raw_record_of b ≡ reading
      (after_raw_header header len content whole raw h) (drop n b)
  raw_after_long b h e =
      ap (λ a. a and_then λ x. reading (after_raw_header header len content whole raw x.0) x.1) e

  not_whole : (b : Bytes) → AreBytes b → (k : ℕ) → reading record_of b ≡ Err (Lacks k)
      → NeedsMore n b
  not_whole b are k e = go (ltb (length b) n) refl
    where
      go : (t : Bool) → ltb (length b) n ≡ t → NeedsMore n b
      go true f = let less : length b < n = ltb-true (length b) n
          f in (λ w. omega (arith, w.has_header), λ w. omega (arith, w.has_header))
      go false f =
          let got = long b (ltb-false (length b) n f) in
          let lacks = after_header_lacks header len content whole raw never got.0 (drop n b)
          (AreBytes-read header b got.0 (drop n b) are got.1) k
          (sym (after_long b got.0 got.1) ∙ e) in (
            λ w. omega (arith, got.2, lacks.1, w.has_fragment, length-drop n b),
            λ w. omega
                (arith, got.2, lacks.0, w.above),
          )

  missing : (b : Bytes) → NeedsMore n b → (k : ℕ) × (reading record_of b ≡ Err (Lacks k))
  missing b needs = go (ltb (length b) n) refl
    where
      go : (t : Bool) → ltb (length b) n ≡ t → (k : ℕ) × (reading record_of b ≡ Err (Lacks k))
      go true f =
          let got = short b (ltb-true (length b) n f) in
          (got.0, header_lacks header len content whole raw never b got.0 got.1)
      go false f =
          let enough : n ≤ length b = ltb-false (length b) n f in
          let got = long b enough in
          let small : fragment_length n b ≤ max_fragment_length =
          not_below max_fragment_length (fragment_length n b)
          (λ a. needs.1 (record { has_header = enough; above = a })) in
          let less : length b < n + fragment_length n b = below (n + fragment_length n b) (length b)
          (λ a. needs.0 (record { has_header = enough; has_fragment = a })) in (
            len got.0 - length (drop n b),
            after_long b got.0 got.1
                ∙ short_lacks header len content whole raw never got.0 (drop n b)
                (omega (arith, small, got.2))
                (omega (arith, less, got.2, length-drop n b)),
          )

  -- Bytes of a record are missing exactly if it needs more.
  pub record_reading_lacks : (b : Bytes) → AreBytes b
      → ((k : ℕ) × (reading record_of b ≡ Err (Lacks k))) ↔ NeedsMore n b
  record_reading_lacks b are = (λ h. not_whole b are h.0 h.1, λ h. missing b h)

  pub record_lacks : (b : Bytes) → AreBytes b → ((k : ℕ) × Allows record_of b (Err (Lacks k)))
      ↔ NeedsMore n b
  record_lacks b are = (
    λ h. not_whole b are h.0 (sym (only_reading record_of b are (Err (Lacks h.0)) h.1)),
    λ h. let got = missing b h in (got.0, read_allowed record_of b (Err (Lacks got.0)) are got.1),
  )

  -- A raw record is refused if there is none whose fragment could be parsed.
  large_refused : (h : H) (r : Bytes) → max_fragment_length < len h
      → reading (after_raw_header header len content whole raw h) r ≡ Err (Broken TooLarge)
  large_refused h r large = go (nat_le (len h) max_fragment_length) refl
    where
      go : (t : Bool) → nat_le (len h) max_fragment_length ≡ t
          → reading (chain (test t TooLarge) (λ _. chain (block (len h)) (λ f. done (raw h f))))
          r ≡ Err
          (Broken TooLarge)
      go true e = let small : len h ≤ max_fragment_length = leb-true (len h) max_fragment_length
          e in absurd (omega arith)
      go false e = refl

  abbrev with_raw : H → Answer Bytes → Answer F
  with_raw h a = a and_then λ f. Ok (raw h f.0, f.1)

  short_refused : (h : H) (r : Bytes) → length r < len h
      → IsErr (reading (after_raw_header header len content whole raw h) r)
  unfolding split_at
  short_refused h r less = go (nat_le (len h) max_fragment_length)
    where
      go : (t : Bool)
          → IsErr (reading
          (chain (test t TooLarge) (λ _. chain (block (len h)) (λ f. done (raw h f)))) r)
      go true =
          let lacks : with_raw h (split_at (len h) r) ≡ Err (Lacks (len h - length r)) = ap
          (λ t. with_raw h (cond {A = Answer Bytes} t (Err (Lacks (len h - length r)))
          (Ok (take (len h) r, drop (len h) r)))) (ltb_yes (length r) (len h) less) in
          subst IsErr (sym lacks) refl
      go false = refl

  pub no_record_refused : (b : Bytes) → HasNoRecord n b → IsErr (reading raw_record_of b)
  no_record_refused b un = go (ltb (length b) n) refl un
    where
      go : (t : Bool) → ltb (length b) n ≡ t → HasNoRecord n b → IsErr (reading raw_record_of b)
      go true f u = let got = short b (ltb-true (length b) n f) in subst
          (λ (a : Answer H). IsErr
          (a and_then λ x. reading (after_raw_header header len content whole raw x.0) x.1))
          (sym got.1) refl
      go false f (inr large) = let got = long b large.has_header in subst IsErr
          (sym (raw_after_long b got.0 got.1
          ∙ large_refused got.0 (drop n b) (omega (arith, large.above, got.2)))) refl
      go false f (inl part) =
          let enough : n ≤ length b = ltb-false (length b) n f in
          let got = long b enough in
          let less : length b < n + fragment_length n b = below (n + fragment_length n b) (length b)
          (λ a. part (record { has_header = enough; has_fragment = a })) in
          subst IsErr (sym (raw_after_long b got.0 got.1))
          (short_refused got.0 (drop n b) (omega (arith, less, got.2, length-drop n b)))

-- The result of a call is incomplete exactly if its layout lacks bytes, unless it ran out of
-- memory.
pub incomplete_returned : {X Y : Type 0} (view : X → Y) (l : Layout Y) (b : Bytes) (N : Type 0)
    (r : Returned X)
    → AreBytes b → ((k : ℕ) × Allows l b (Err (Lacks k))) ↔ N → GivesOrMemory view l b r
    → (N → MemorySufficed r)
    → IsIncomplete r ↔ N
incomplete_returned view l b N (Ok x) are lacks g memory = (
  λ h. absurd h,
  λ h. let k = lacks.1 h in let e = only_reading l b are (Err (Lacks k.0)) k.1
      ∙ g.read tt in absurd cc,
)
incomplete_returned view l b N (Err (err.Incomplete needed.Unknown)) are lacks g memory =
    absurd (g.answers tt)
incomplete_returned view l b N (Err (err.Incomplete (needed.Size n))) are lacks g memory =
    (λ h. lacks.0 (n, g.allowed tt), λ h. tt)
incomplete_returned view l b N (Err (err.Error x)) are lacks g memory = (
  λ h. absurd h,
  λ h. let k = lacks.1 h in let e = only_reading l b are (Err (Lacks k.0)) k.1
      ∙ g.read tt in absurd cc,
)
incomplete_returned view l b N (Err (err.Failure x)) are lacks g memory = absurd (g.answers tt)
incomplete_returned view l b N (Err err.OutOfMemory) are lacks g memory =
    (λ h. absurd h, λ h. absurd (memory h))
