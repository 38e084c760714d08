-- The next record is the next frame.
use Rattle.std.proofs.Common.{
  ◌≡◌,
  ◌↔◌,
  ℕ,
  ◌+◌,
  ◌-◌,
  ◌<◌,
  ◌≤◌,
  ◌∷◌,
  ◌++◌,
  length,
  take,
  drop,
  Some,
  Ok,
  Err,
  Bool,
  true,
  false,
  cond,
  ltb,
  nat_le,
  refl,
  sym,
  ◌∙◌,
  ap,
  subst,
  arith,
  lit<,
}
use Rattle.std.specs.Prelude.{IsOk}
use Rattle.std.proofs.lemmas.Bool.{ltb-true, ltb-false, leb-true, leb-false}
use Rattle.std.proofs.lemmas.List.{length-drop}
use Rattle.layouts.specs.Bytes.{Bytes}
use Rattle.layouts.specs.Layout.{Layout, done, block, chain, test}
use Rattle.layouts.specs.Meaning.{Answer, Broken, Lacks}
use Rattle.layouts.specs.Reading.{reading, split_at, ◌and_then◌}
use Rattle.layouts.specs.Answers.{Returned, Gives}
use Rattle.layouts.specs.declared.result.ErrorKind.TheVariants.{TooLarge}
use Rattle.layouts.specs.declared.result.Err.TheVariants as failed
use Rattle.layouts.specs.declared.result.Needed.TheVariants as needed
use Rattle.raw_records.specs.RawRecord.{RecordHeader, RawRecord, raw_record}
use Rattle.raw_records.specs.Framing.{max_fragment_length, fragment_length, IsTooLarge, IsWhole, NeedsMore, IsIncomplete}
use Rattle.raw_records.proofs.FurtherLemmas.{raw_of}
use Rattle.raw_records.proofs.HeaderLemmas.{short_header, long_header}
use Rattle.tls_stream.specs.Records.{IsRefusedAsTooLarge, front_of, record_frame}
use Rattle.tls_stream.specs.Frames as frames
use Rattle.tls_stream.specs.Frames.{front, size, body_length}
use Rattle.tls_stream.proofs.FrontLemmas.{front_fewer, large_longer, whole_front, none_large, none_part}
use Rattle.raw_records.specs.RawRecord.{IsInFront, record_bytes}
use Rattle.raw_records.proofs.RawRecordLemmas.{record_in_front}
use Rattle.std.proofs.Math.Seq.{drop-append_seam}
use Rattle.std.proofs.lemmas.List.{length-take-le}

abbrev behind : RecordHeader → Layout RawRecord
behind h = chain (test (nat_le h.length max_fragment_length) TooLarge)
    (λ _. chain (block h.length) (λ f. done (raw_of h f)))

abbrev with_raw : RecordHeader → Answer Bytes → Answer RawRecord
with_raw h a = a and_then λ f. Ok (raw_of h f.0, f.1)

-- The cases after a header, by its length.
data Behind (h : RecordHeader) (r : Bytes) : Type 0 where
  Above : max_fragment_length < h.length → reading (behind h) r ≡ Err (Broken TooLarge) → Behind h r
  Short : h.length ≤ max_fragment_length → length r < h.length → (n : ℕ)
      → reading (behind h) r ≡ Err (Lacks n)
      → Behind h r
  Whole : h.length ≤ max_fragment_length → h.length ≤ length r → (x : RawRecord × Bytes)
      → x.0.header.length ≡ h.length
      → reading (behind h) r ≡ Ok x → Behind h r

small_behind : (h : RecordHeader) (r : Bytes) → h.length ≤ max_fragment_length
    → reading (behind h) r ≡ with_raw h (split_at h.length r) → Behind h r
unfolding split_at
small_behind h r small e = go (ltb (length r) h.length) refl e
  where
    go : (t : Bool) → ltb (length r) h.length ≡ t
        → reading (behind h) r ≡ with_raw h (cond t (Err (Lacks (h.length - length r)))
        (Ok (take h.length r, drop h.length r)))
        → Behind h r
    go true f g = Short small (ltb-true (length r) h.length f) (h.length - length r) g
    go false f g =
        Whole small (ltb-false (length r) h.length f)
        (raw_of h (take h.length r), drop h.length r) refl g

behind_header : (h : RecordHeader) (r : Bytes) → Behind h r
behind_header h r = go (nat_le h.length max_fragment_length) refl refl
  where
    go : (t : Bool) → nat_le h.length max_fragment_length ≡ t
        → reading (behind h) r ≡ reading (chain (test t TooLarge)
        (λ _. chain (block h.length) (λ f. done (raw_of h f)))) r
        → Behind h r
    go true f g = small_behind h r (leb-true h.length max_fragment_length f) g
    go false f g = Above (leb-false h.length max_fragment_length f) g

-- The cases of some bytes' first record.
data Stands (b : Bytes) : Type 0 where
  Large : IsTooLarge 5 b → reading raw_record b ≡ Err (Broken TooLarge) → Stands b
  Part : NeedsMore 5 b → (n : ℕ) → reading raw_record b ≡ Err (Lacks n) → Stands b
  One : IsWhole 5 b → (IsTooLarge 5 b → ⊥) → (x : RawRecord × Bytes)
      → x.0.header.length ≡ fragment_length 5 b
      → reading raw_record b ≡ Ok x → Stands b

stands_behind : (b : Bytes) (h : RecordHeader) → 5 ≤ length b
    → reading raw_record b ≡ reading (behind h) (drop 5 b)
    → h.length ≡ fragment_length 5 b → Behind h (drop 5 b) → Stands b
stands_behind b h enough then n (Above above e) =
    Large (record { has_header = enough; above = subst (λ k. max_fragment_length < k) n above })
    (then ∙ e)
stands_behind b h enough then n (Short small short k e) =
    Part (
      λ w. omega (arith, w.has_fragment, n, short, length-drop 5 b),
      λ w. omega (arith, w.above, n, small),
    ) k
    (then ∙ e)
stands_behind b h enough then n (Whole small long x len e) =
    One (record { has_header = enough; has_fragment = omega (arith, n, long, length-drop 5 b) })
    (λ w. omega (arith, w.above, n, small)) x (len ∙ n) (then ∙ e)

stands : (b : Bytes) → Stands b
unfolding raw_record
stands b = go (ltb (length b) 5) refl
  where
    go : (t : Bool) → ltb (length b) 5 ≡ t → Stands b
    go true e =
        let few : length b < 5 = ltb-true (length b) 5 e in
        let h = short_header b few in
        Part (λ w. omega (arith, few, w.has_header), λ w. omega (arith, few, w.has_header)) h.0
        (ap (λ a. a and_then λ x. reading (behind x.0) x.1) h.1)
    go false e =
        let enough : 5 ≤ length b = ltb-false (length b) 5 e in
        let h = long_header b enough in
        stands_behind b h.0 enough (ap (λ a. a and_then λ x. reading (behind x.0) x.1) h.1) h.2
        (behind_header h.0 (drop 5 b))

pub read_too_large : (b : Bytes) → (reading raw_record b ≡ Err (Broken TooLarge)) ↔ IsTooLarge 5 b
read_too_large b = go (stands b)
  where
    go : Stands b → (reading raw_record b ≡ Err (Broken TooLarge)) ↔ IsTooLarge 5 b
    go (Large w e) = (λ f. w, λ w. e)
    go (Part w n e) = (λ f. let g = sym e ∙ f in absurd cc, λ v. absurd (w.1 v))
    go (One w not x len e) = (λ f. let g = sym e ∙ f in absurd cc, λ v. absurd (not v))

pub read_incomplete : (b : Bytes) → ((n : ℕ) × (reading raw_record b ≡ Err (Lacks n)))
    ↔ NeedsMore 5 b
read_incomplete b = go (stands b)
  where
    go : Stands b → ((n : ℕ) × (reading raw_record b ≡ Err (Lacks n))) ↔ NeedsMore 5 b
    go (Large w e) = (λ f. let g = sym e ∙ f.1 in absurd cc, λ v. absurd (v.1 w))
    go (Part w n e) = (λ f. w, λ v. (n, e))
    go (One w not x len e) = (λ f. let g = sym e ∙ f.1 in absurd cc, λ v. absurd (v.0 w))

pub read_whole : (b : Bytes) → IsOk (reading raw_record b) ↔ (IsWhole 5 b × (IsTooLarge 5 b → ⊥))
read_whole b = go (stands b)
  where
    go : Stands b → IsOk (reading raw_record b) ↔ (IsWhole 5 b × (IsTooLarge 5 b → ⊥))
    go (Large w e) = (λ f. let g = subst IsOk e f in absurd cc, λ v. absurd (v.1 w))
    go (Part w n e) = (λ f. let g = subst IsOk e f in absurd cc, λ v. absurd (w.0 v.0))
    go (One w not x len e) = (λ f. (w, not), λ v. subst IsOk (sym e) refl)

-- The next frame.
length_is : (b : Bytes) → 5 ≤ length b → body_length record_frame b ≡ fragment_length 5 b
length_is (a ∷ b ∷ c ∷ d ∷ e ∷ r) h = omega arith
length_is b h = absurd (omega (arith, h))

pub whole_is : (b : Bytes) → frames.IsWhole record_frame b ↔ IsWhole 5 b
whole_is b = (
  λ w. let enough : 5 ≤ length b = omega (arith, w) in record {
    has_header = enough;
    has_fragment =
        omega (arith, w, length_is b enough);
  },
  λ w. omega (arith, w.has_fragment, length_is b w.has_header),
)

pub large_is : (b : Bytes) → frames.IsTooLarge record_frame b ↔ IsTooLarge 5 b
large_is b = (
  λ l. record {
    has_header = l.has_header;
    above =
        omega (arith, l.above, length_is b l.has_header);
  },
  λ l. record {
    has_header = l.has_header;
    above =
        omega (arith, l.above, length_is b l.has_header);
  },
)

one_front : (b : Bytes) (x : RawRecord × Bytes) → IsWhole 5 b → (IsTooLarge 5 b → ⊥)
    → x.0.header.length ≡ fragment_length 5 b → IsInFront x.0 b x.1
    → front record_frame b ≡ Some (record_bytes x.0 b, x.1)
one_front b x w not len i =
    let same : size record_frame b ≡ 5 + x.0.header.length =
    omega (arith, length_is b w.has_header, len) in
    let small : body_length record_frame b ≤ 16640 = not_above b w not in
    let f = record_bytes x.0 b in
    let rest : drop (5 + x.0.header.length) b ≡ x.1 =
    ap (λ k. drop k b) (sym (length-take-le (5 + x.0.header.length) b i.is_whole))
    ∙ ap (λ y. drop (length f) y) i.then_rest ∙ drop-append_seam f x.1 in
    whole_front record_frame b ((whole_is b).1 w) small
    ∙ ap (λ k. Some (take k b, drop k b)) same
    ∙ ap (λ r. Some (f, r)) rest
  where
    not_above : (b : Bytes) → IsWhole 5 b → (IsTooLarge 5 b → ⊥)
        → body_length record_frame b ≤ 16640
    not_above b w not = go (nat_le (fragment_length 5 b) 16640) refl
      where
        go : (t : Bool) → nat_le (fragment_length 5 b) 16640 ≡ t
            → body_length record_frame b ≤ 16640
        go true e = omega (arith, length_is b w.has_header, leb-true (fragment_length 5 b) 16640 e)
        go false e = absurd (not (record {
          has_header = w.has_header;
          above =
              leb-false (fragment_length 5 b) 16640 e;
        }))

pub front_is_read : (b : Bytes) → front record_frame b ≡ front_of (reading raw_record b) b
front_is_read b = go (stands b)
  where
    go : Stands b → front record_frame b ≡ front_of (reading raw_record b) b
    go (Large l e) = none_large record_frame b ((large_is b).1 l) ∙ sym (ap (λ a. front_of a b) e)
    go (Part n k e) = none_part record_frame b (λ w. n.0 ((whole_is b).0 w))
        ∙ sym (ap (λ a. front_of a b) e)
    go (One w not x len e) = one_front b x w not len (record_in_front b x.1 x.0 e)
        ∙ sym (ap (λ a. front_of a b) e)

-- A length that is too large stays so.
pub large_stays : (b s : Bytes) → frames.IsTooLarge record_frame b
    → reading raw_record (b ++ s) ≡ Err (Broken TooLarge)
large_stays b s large =
    (read_too_large (b ++ s)).1 ((large_is (b ++ s)).0 (large_longer record_frame b s large))

-- A parsed record takes at least one byte.
pub record_takes : (b r : Bytes) (v : RawRecord) → reading raw_record b ≡ Ok (v, r)
    → length r < length b
record_takes b r v e = front_fewer record_frame b (record_bytes v b, r) (lit< tt)
    (front_is_read b ∙ ap (λ a. front_of a b) e)

-- Whether a call returned that a length is too large.
pub front_too_large : {X : Type 0} (view : X → RawRecord) (b : Bytes) (r : Returned X)
    → Gives view raw_record b r
    → IsRefusedAsTooLarge r ↔ IsTooLarge 5 b
front_too_large view b (Ok x) g =
    (λ h. absurd h, λ h. let e = sym ((read_too_large b).1 h) ∙ g.read in absurd cc)
front_too_large view b (Err (failed.Incomplete needed.Unknown)) g = absurd g.answers
front_too_large view b (Err (failed.Incomplete (needed.Size n))) g =
    (λ h. absurd h, λ h. let e = sym ((read_too_large b).1 h) ∙ g.read in absurd cc)
front_too_large view b (Err (failed.Error x)) g = (
  λ h. (read_too_large b).0 (g.read ∙ ap (λ k. Err (Broken k)) h),
  λ h. let e =
      sym ((read_too_large b).1 h) ∙ g.read in cc,
)
front_too_large view b (Err (failed.Failure x)) g = absurd g.answers
front_too_large view b (Err failed.OutOfMemory) g = absurd g.answers

pub front_incomplete : {X : Type 0} (view : X → RawRecord) (b : Bytes) (r : Returned X)
    → Gives view raw_record b r
    → IsIncomplete r ↔ NeedsMore 5 b
front_incomplete view b (Ok x) g = (
  λ h. absurd h,
  λ h. let k = (read_incomplete b).1 h in let e =
      sym k.1 ∙ g.read in absurd cc,
)
front_incomplete view b (Err (failed.Incomplete needed.Unknown)) g = absurd g.answers
front_incomplete view b (Err (failed.Incomplete (needed.Size n))) g =
    (λ h. (read_incomplete b).0 (n, g.read), λ h. tt)
front_incomplete view b (Err (failed.Error x)) g =
    (λ h. absurd h, λ h. let k = (read_incomplete b).1 h in let e = sym k.1 ∙ g.read in absurd cc)
front_incomplete view b (Err (failed.Failure x)) g = absurd g.answers
front_incomplete view b (Err failed.OutOfMemory) g = absurd g.answers

pub front_whole : {X : Type 0} (view : X → RawRecord) (b : Bytes) (r : Returned X)
    → Gives view raw_record b r
    → IsOk r ↔ (IsWhole 5 b × (IsTooLarge 5 b → ⊥))
front_whole view b (Ok x) g = (λ h. (read_whole b).0 (subst IsOk (sym g.read) refl), λ h. refl)
front_whole view b (Err (failed.Incomplete needed.Unknown)) g = absurd g.answers
front_whole view b (Err (failed.Incomplete (needed.Size n))) g =
    (λ h. absurd cc, λ h. let e = subst IsOk g.read ((read_whole b).1 h) in absurd cc)
front_whole view b (Err (failed.Error x)) g =
    (λ h. absurd cc, λ h. let e = subst IsOk g.read ((read_whole b).1 h) in absurd cc)
front_whole view b (Err (failed.Failure x)) g = absurd g.answers
front_whole view b (Err failed.OutOfMemory) g = absurd g.answers

pub ruleset front_rules = (front_too_large, front_incomplete, front_whole)
