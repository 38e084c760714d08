-- The content of the unread records.
use Rattle.std.proofs.Common.{
  ◌≡◌,
  ℕ,
  ◌+◌,
  ◌-◌,
  ◌<◌,
  ◌≤◌,
  ◌==◌,
  ◌⊎◌,
  inl,
  inr,
  List,
  [],
  ◌∷◌,
  ◌++◌,
  length,
  take,
  drop,
  Bool,
  true,
  false,
  cond,
  Option,
  Some,
  None,
  refl,
  sym,
  ◌∙◌,
  ap,
  subst,
  arith,
  lit<,
}
use Rattle.std.specs.Prelude.{◌||◌, nat_le, slice_index}
use Rattle.std.proofs.lemmas.Bool.{le-leb, lt-leb}
use Rattle.std.proofs.Math.Bool.{or-false}
use Rattle.std.proofs.lemmas.List.{drop-take, drop-drop, length-append, length-drop, length-take-le}
use Rattle.layouts.specs.Bytes.{Bytes}
use Rattle.layouts.specs.declared.result.ErrorKind.{ErrorKind}
use Rattle.layouts.specs.declared.result.ErrorKind.TheVariants.{Verify}
use Rattle.tls_stream.specs.Frames.{Shape, IsWhole, body_length, front, frames, left, size}
use Rattle.tls_stream.proofs.FrontLemmas.{first_in, front_joins, front_stays, same_body}
use Rattle.tls_stream.proofs.FrameLemmas.{first_frame, no_frame}
use Rattle.tls_stream.specs.Item.{
  Item,
  ChangeCipherSpec,
  ApplicationData,
  Heartbeat,
  Fragment,
  Alone,
  Broken,
  Standing,
  after,
  broken_front,
  broken_in,
  change_in,
  content_type,
  fragment,
  is_change,
  is_encrypted,
  is_sealed,
  item_of,
  items,
  or_broken,
  plain_item,
  read_item,
  refusal,
  refused,
  wide_record,
}
use Rattle.tls_stream.specs.Stream.{unread_items}

takes : 0 < wide_record.header
takes = lit< tt

-- A frame contains its header.
pub has_header : (f : Shape) (b : Bytes) (x : Bytes × Bytes) → front f b ≡ Some x
    → f.header ≤ length x.0
has_header f b x e =
    let i = first_in f b x e in
    let whole : size f b ≤ length b = i.is_whole in
    omega (arith, whole, ap length i.frame_is, length-take-le (size f b) b whole)

records_are : (s : Standing) (b : Bytes) (x : Bytes × Bytes) → front wide_record b ≡ Some x
    → unread_items s b ≡ item_of s x.0 ∷ unread_items (after s x.0) x.1
records_are s b x e =
    let one = first_frame wide_record takes b x.0 x.1 e in
    ap (λ rs. items s rs (left wide_record b)) one.0
    ∙ ap (λ l. item_of s x.0 ∷ items (after s x.0) (frames wide_record x.1) l) one.1

pub record_first : (s : Standing) (u t : Bytes) (x : Bytes × Bytes) → front wide_record u ≡ Some x
    → unread_items s (u ++ t) ≡ item_of s x.0 ∷ unread_items (after s x.0) (x.1 ++ t)
record_first s u t x e = records_are s (u ++ t) (x.0, x.1 ++ t) (front_stays wide_record u t x e)

no_records : (s : Standing) (b : Bytes) → front wide_record b ≡ None
    → unread_items s b ≡ broken_front s b
no_records s b e =
    let no = no_frame wide_record takes b e in
    ap (λ rs. items s rs (left wide_record b)) no.0 ∙ ap (broken_front s) no.1

-- A header has the same type whatever follows.
same_type : (b y : Bytes) → 5 ≤ length b → content_type (b ++ y) ≡ content_type b
same_type [] y h = absurd (omega (arith, h))
same_type (c ∷ b) y h = refl

same_refused : (s : Standing) (b y : Bytes) → 5 ≤ length b → refused s (b ++ y) ≡ refused s b
same_refused s b y h =
    ap (λ t. refusal (is_encrypted s t) t (body_length wide_record (b ++ y))) (same_type b y h)
    ∙ ap (λ n. refusal (is_encrypted s (content_type b)) (content_type b) n)
    (same_body wide_record b y h)

front_refused : (s : Standing) (b : Bytes) (x : Bytes × Bytes) → front wide_record b ≡ Some x
    → refused s x.0 ≡ refused s b
front_refused s b x e = sym (same_refused s x.0 x.1 (has_header wide_record b x e))
    ∙ ap (refused s) (front_joins wide_record b x e)

broken_item : (s : Standing) (r : Bytes) (k : ErrorKind) → refused s r ≡ Some k
    → item_of s r ≡ Broken k
broken_item s r k e = ap (λ o. or_broken o (read_item (is_sealed s r) r)) e

-- A record refused by its header is refused whatever follows.
pub refused_first : (s : Standing) (u t : Bytes) (k : ErrorKind) → 5 ≤ length u
    → refused s u ≡ Some k
    → (is : List Item) × (unread_items s (u ++ t) ≡ Broken k ∷ is)
refused_first s u t k enough e = go (front wide_record (u ++ t)) refl
  where
    longer : 5 ≤ length (u ++ t)
    longer = omega (arith, enough, length-append u t)

    still : refused s (u ++ t) ≡ Some k
    still = same_refused s u t enough ∙ e

    go : (a : Option (Bytes × Bytes)) → front wide_record (u ++ t) ≡ a
        → (is : List Item) × (unread_items s (u ++ t) ≡ Broken k ∷ is)
    go (Some x) g =
        let others = unread_items (after s x.0) x.1 in (
          others,
          records_are s (u ++ t) x g ∙ ap (λ i. i ∷ others)
              (broken_item s x.0 k (front_refused s (u ++ t) x g ∙ still)),
        )
    go None g = (
      [],
      no_records s (u ++ t) g
          ∙ ap (λ c. cond c (broken_in (refused s (u ++ t))) []) (le-leb 5 (length (u ++ t)) longer)
          ∙ ap broken_in still,
    )

-- No record is whole, and none is refused by its header.
pub none_short : (s : Standing) (u : Bytes) → front wide_record u ≡ None → length u < 5
    → unread_items s u ≡ []
none_short s u e short = no_records s u e
    ∙ ap (λ c. cond c (broken_in (refused s u)) []) (lt-leb 5 (length u) short)

pub none_refused : (s : Standing) (u : Bytes) → front wide_record u ≡ None → 5 ≤ length u
    → refused s u ≡ None
    → unread_items s u ≡ []
none_refused s u e enough r = no_records s u e
    ∙ ap (λ c. cond c (broken_in (refused s u)) []) (le-leb 5 (length u) enough) ∙ ap broken_in r

-- A fragment of messages: its bytes, and that it doesn't change what is known.
pub record IsFragment (s : Standing) (r : Bytes) (k : ℕ) (f : Bytes) : Type 0 where
  pub bytes_are : f ≡ fragment r
  pub keeps : after s r ≡ s

pub fragment_is : (s : Standing) (r : Bytes) (k : ℕ) (f : Bytes) → item_of s r ≡ Fragment k f
    → IsFragment s r k f
fragment_is s r k f e = by_refusal (refused s r) e
  where
    changed : (t : Bool) → cond t (Alone ChangeCipherSpec) (Broken Verify) ≡ Fragment k f
        → IsFragment s r k f
    changed true g = absurd cc
    changed false g = absurd cc

    others : (t v : Bool) → content_type r == 20 ≡ false
        → cond t (Alone (ApplicationData (fragment r)))
        (cond v (Alone (Heartbeat (fragment r))) (Fragment (content_type r) (fragment r)))
        ≡ Fragment k f
        → IsFragment s r k f
    others true v at g = absurd cc
    others false true at g = absurd cc
    others false false at g = record {
      bytes_are = cc;
      keeps = ap (λ t. record { is_tls13 = s.is_tls13; has_changed = s.has_changed || t }) at
          ∙ ap (λ c. record { is_tls13 = s.is_tls13; has_changed = c }) (or-false s.has_changed);
    }

    by_type : (t : Bool) → content_type r == 20 ≡ t
        → cond t (change_in (fragment r))
        (cond (content_type r == 23) (Alone (ApplicationData (fragment r)))
        (cond (content_type r == 24) (Alone (Heartbeat (fragment r)))
        (Fragment (content_type r) (fragment r))))
        ≡ Fragment k f
        → IsFragment s r k f
    by_type true at g = changed (is_change (fragment r)) g
    by_type false at g = others (content_type r == 23) (content_type r == 24) at g

    by_cipher : (t : Bool) → read_item t r ≡ Fragment k f → IsFragment s r k f
    by_cipher true g = absurd cc
    by_cipher false g = by_type (content_type r == 20) refl g

    by_refusal : (o : Option ErrorKind) → or_broken o (read_item (is_sealed s r) r) ≡ Fragment k f
        → IsFragment s r k f
    by_refusal (Some b) g = absurd cc
    by_refusal None g = by_cipher (is_sealed s r) g

-- Where a fragment lies in the unread stream.
pub record IsThere (u : Bytes) (x : Bytes × Bytes) (f : Bytes) : Type 0 where
  pub enough : 5 + length f ≤ length u
  pub bytes_are : take (length f) (drop 5 u) ≡ f
  pub rest_is : drop (5 + length f) u ≡ x.1

pub fragment_there : (u : Bytes) (x : Bytes × Bytes) (f : Bytes) → front wide_record u ≡ Some x
    → f ≡ fragment x.0
    → IsThere u x f
fragment_there u x f e is =
    let i = first_in wide_record u x e in
    let n = body_length wide_record u in
    let whole : 5 + n ≤ length u = i.is_whole in
    let same : f ≡ take n (drop 5 u) = is ∙ ap (drop 5) i.frame_is ∙ drop-take 5 n u in
    let count : length f ≡ n =
    ap length same ∙ length-take-le n (drop 5 u) (omega (arith, whole, length-drop 5 u)) in
    record {
      enough = omega (arith, count, whole);
      bytes_are = ap (λ m. take m (drop 5 u)) count ∙ sym same;
      rest_is = ap (λ m. drop (5 + m) u) count ∙ sym i.rest_is;
    }
