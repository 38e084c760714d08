-- The first frame of some bytes.
use Rattle.std.proofs.Common.{
  ◌≡◌,
  ◌↔◌,
  ◌+◌,
  ◌-◌,
  ◌<◌,
  ◌≤◌,
  ◌++◌,
  length,
  take,
  drop,
  Option,
  Some,
  None,
  Bool,
  true,
  false,
  cond,
  nat_le,
  refl,
  sym,
  ◌∙◌,
  ap,
  subst,
  arith,
}
use Rattle.std.specs.Prelude.{IsSome}
use Rattle.std.proofs.lemmas.Bool.{leb-true, leb-false}
use Rattle.std.proofs.lemmas.List.{length-append, length-drop, take-append-drop, take-append-le, drop-append-le}
use Rattle.std.proofs.Math.Seq.{drop-append_seam}
use Rattle.layouts.specs.Bytes.{Bytes}
use Rattle.tls_stream.specs.Frames.{
  Shape,
  IsTooLarge,
  IsWhole,
  NeedsMore,
  body_length,
  frame_of,
  front,
  size,
  FrontTaken,
}

abbrev pub in_two : Shape → Bytes → Bytes × Bytes
in_two f b = (take (size f b) b, drop (size f b) b)

-- The cases of some bytes' first frame.
pub data Stands (f : Shape) (b : Bytes) : Type 0 where
  Large : IsTooLarge f b → front f b ≡ None → Stands f b
  Part : NeedsMore f b → front f b ≡ None → Stands f b
  One : IsWhole f b → body_length f b ≤ f.limit → front f b ≡ Some (in_two f b) → Stands f b

front_is : (f : Shape) (b : Bytes) (t s : Bool) → nat_le (size f b) (length b) ≡ t
    → nat_le (body_length f b) f.limit ≡ s
    → front f b ≡ cond t (cond s (Some (in_two f b)) None) None
unfolding front
front_is f b t s e g =
    ap (λ t. cond t (cond (nat_le (body_length f b) f.limit) (Some (in_two f b)) None) None) e
    ∙ ap (λ s. cond t (cond s (Some (in_two f b)) None) None) g

not_whole : (f : Shape) (b : Bytes) (t : Bool) → length b < size f b
    → cond t (Some (in_two f b)) None ≡ None → Unit {0}
not_whole f b t h e = tt

pub stands : (f : Shape) (b : Bytes) → Stands f b
stands f b = go (nat_le (size f b) (length b)) (nat_le (body_length f b) f.limit)
    (nat_le f.header (length b)) refl refl refl
  where
    go : (t s h : Bool) → nat_le (size f b) (length b) ≡ t → nat_le (body_length f b) f.limit ≡ s
        → nat_le f.header (length b) ≡ h → Stands f b
    go true true h e g k = One (leb-true _ _ e) (leb-true _ _ g) (front_is f b true true e g)
    go true false h e g k =
        let enough : size f b ≤ length b = leb-true _ _ e in
        Large (record { has_header = omega (arith, enough); above = leb-false _ _ g })
        (front_is f b true false e g)
    go false true h e g k =
        let small : body_length f b ≤ f.limit = leb-true _ _ g in
        let short : length b < size f b = leb-false _ _ e in
        Part (λ w. omega (arith, w, short), λ w. omega (arith, w.above, small))
        (front_is f b false true e g)
    go false false true e g k =
        Large (record { has_header = leb-true _ _ k; above = leb-false _ _ g })
        (front_is f b false false e g)
    go false false false e g k =
        let short : length b < f.header = leb-false _ _ k in
        Part (λ w. omega (arith, w, short), λ w. omega (arith, w.has_header, short))
        (front_is f b false false e g)

-- What is known of a first frame.
pub record IsFirst (f : Shape) (b x r : Bytes) : Type 0 where
  pub is_whole : size f b ≤ length b
  pub is_small : body_length f b ≤ f.limit
  pub frame_is : x ≡ take (size f b) b
  pub rest_is : r ≡ drop (size f b) b

pub first_in : (f : Shape) (b : Bytes) (x : Bytes × Bytes) → front f b ≡ Some x
    → IsFirst f b x.0 x.1
first_in f b x e = go (stands f b)
  where
    go : Stands f b → IsFirst f b x.0 x.1
    go (Large w g) = let h = sym g ∙ e in absurd cc
    go (Part w g) = let h = sym g ∙ e in absurd cc
    go (One w s g) =
        let same : ◌≡◌ {A = Bytes × Bytes} x (in_two f b) = let h = sym e ∙ g in cc in
        record {
          is_whole = w;
          is_small = s;
          frame_is = ap (λ x. x.0) same;
          rest_is =
              ap (λ x. x.1) same;
        }

pub whole_front : (f : Shape) (b : Bytes) → IsWhole f b → body_length f b ≤ f.limit
    → front f b ≡ Some (in_two f b)
whole_front f b w s = go (stands f b)
  where
    go : Stands f b → front f b ≡ Some (in_two f b)
    go (Large l g) = absurd (omega (arith, l.above, s))
    go (Part n g) = absurd (n.0 w)
    go (One w s g) = g

pub none_large : (f : Shape) (b : Bytes) → IsTooLarge f b → front f b ≡ None
none_large f b l = go (stands f b)
  where
    go : Stands f b → front f b ≡ None
    go (Large l g) = g
    go (Part n g) = g
    go (One w s g) = absurd (omega (arith, l.above, s))

pub none_part : (f : Shape) (b : Bytes) → (IsWhole f b → ⊥) → front f b ≡ None
none_part f b n = go (stands f b)
  where
    go : Stands f b → front f b ≡ None
    go (Large l g) = g
    go (Part n g) = g
    go (One w s g) = absurd (n w)

-- The frame followed by the rest is the bytes.
pub front_joins : (f : Shape) (b : Bytes) (x : Bytes × Bytes) → front f b ≡ Some x → x.0 ++ x.1 ≡ b
front_joins f b x e =
    let i = first_in f b x e in
    ap (λ y. y ++ x.1) i.frame_is ∙ ap (λ r. take (size f b) b ++ r) i.rest_is
    ∙ take-append-drop (size f b) b

pub front_fewer : (f : Shape) (b : Bytes) (x : Bytes × Bytes) → 0 < f.header → front f b ≡ Some x
    → length x.1 < length b
front_fewer f b x takes e =
    let i = first_in f b x e in
    omega (arith, takes, i.is_whole, ap length i.rest_is, length-drop (size f b) b)

-- More bytes don't change a whole header.
pub same_body : (f : Shape) (b s : Bytes) → f.header ≤ length b
    → body_length f (b ++ s) ≡ body_length f b
same_body f b s h = ap f.body_in (take-append-le f.header b s h)

pub large_longer : (f : Shape) (b s : Bytes) → IsTooLarge f b → IsTooLarge f (b ++ s)
large_longer f b s l = record {
  has_header = omega (arith, l.has_header, length-append b s);
  above = subst (λ n. f.limit < n) (sym (same_body f b s l.has_header)) l.above;
}

pub front_stays : (f : Shape) (b s : Bytes) (x : Bytes × Bytes) → front f b ≡ Some x
    → front f (b ++ s) ≡ Some (x.0, x.1 ++ s)
front_stays f b s x e =
    let i = first_in f b x e in
    let n = size f b in
    let enough : n ≤ length b = i.is_whole in
    let body : body_length f (b ++ s) ≡ body_length f b = same_body f b s (omega (arith, enough)) in
    let same : size f (b ++ s) ≡ n = ap (λ k. f.header + k) body in
    let whole : IsWhole f (b ++ s) = omega (arith, enough, same, length-append b s) in
    let small : body_length f (b ++ s) ≤ f.limit = omega (arith, body, i.is_small) in
    whole_front f (b ++ s) whole small
    ∙ ap (λ k. Some (take k (b ++ s), drop k (b ++ s))) same
    ∙ ap (λ y. Some (y, drop n (b ++ s))) (take-append-le n b s enough ∙ sym i.frame_is)
    ∙ ap (λ r. Some (x.0, r)) (drop-append-le n b s enough ∙ ap (λ r. r ++ s) (sym i.rest_is))

-- What the calls on the first frame answer.
pub what_is_too_large : (f : Shape) (b : Bytes) → f.header ≤ length b → (f.limit < body_length f b)
    ↔ IsTooLarge f b
what_is_too_large f b h = (λ a. record { has_header = h; above = a }, λ l. l.above)

pub not_large : (f : Shape) (b : Bytes) → length b < f.header → IsTooLarge f b → ⊥
not_large f b h l = omega (arith, h, l.has_header)

pub bytes_whole : (f : Shape) (b : Bytes) → f.header ≤ length b → body_length f b ≤ f.limit
    → body_length f b ≤ length b - f.header → frame_of (front f b) ≡ Some (take (size f b) b)
bytes_whole f b h s w = ap frame_of (whole_front f b (omega (arith, h, w)) s)

pub bytes_short : (f : Shape) (b : Bytes) → length b < f.header → frame_of (front f b) ≡ None
bytes_short f b h = ap frame_of (none_part f b (λ w. omega (arith, w, h)))

pub bytes_large : (f : Shape) (b : Bytes) → f.header ≤ length b → f.limit < body_length f b
    → frame_of (front f b) ≡ None
bytes_large f b h l = ap frame_of (none_large f b (record { has_header = h; above = l }))

pub bytes_part : (f : Shape) (b : Bytes) → f.header ≤ length b
    → length b - f.header < body_length f b
    → frame_of (front f b) ≡ None
bytes_part f b h l = ap frame_of (none_part f b (λ w. omega (arith, w, h, l)))

pub ruleset front_rules = (bytes_whole, bytes_short, bytes_large, bytes_part)

-- Taking it off.
pub taken_off : (f : Shape) (b y : Bytes) → Some y ≡ frame_of (front f b)
    → FrontTaken (front f b) b true (drop (length y) b)
taken_off f b y is = go (front f b) refl is
  where
    go : (a : Option (Bytes × Bytes)) → front f b ≡ a → Some y ≡ frame_of a
        → FrontTaken a b true (drop (length y) b)
    go None e s = absurd cc
    go (Some x) e s =
        let same : y ≡ x.0 = cc in
        let all = front_joins f b x e in
        let rest : drop (length y) b ≡ x.1 = ap (λ y. drop (length y) b) same
        ∙ ap (λ b. drop (length x.0) b) (sym all)
        ∙ drop-append_seam x.0 x.1 in
        (refl, rest, sym all ∙ ap (λ r. x.0 ++ r) (sym rest))

pub shorter_frame : (f : Shape) (b y : Bytes) → Some y ≡ frame_of (front f b) → length y ≤ length b
shorter_frame f b y is = go (front f b) refl is
  where
    go : (a : Option (Bytes × Bytes)) → front f b ≡ a → Some y ≡ frame_of a → length y ≤ length b
    go None e s = absurd cc
    go (Some x) e s =
        let same : y ≡ x.0 = cc in
        omega (arith, ap length same, ap length (front_joins f b x e), length-append x.0 x.1)

pub none_off : (f : Shape) (b : Bytes) → None ≡ frame_of (front f b)
    → FrontTaken (front f b) b false b
none_off f b is = go (front f b) is
  where
    go : (a : Option (Bytes × Bytes)) → None ≡ frame_of a → FrontTaken a b false b
    go None s = (refl, refl)
    go (Some x) s = absurd cc

-- When there is a first frame.
pub some_front : (f : Shape) (b : Bytes) → IsSome (front f b) ↔ (IsWhole f b × (IsTooLarge f b → ⊥))
some_front f b = go (stands f b)
  where
    go : Stands f b → IsSome (front f b) ↔ (IsWhole f b × (IsTooLarge f b → ⊥))
    go (Large l g) = (λ s. let h = subst IsSome g s in absurd cc, λ w. absurd (w.1 l))
    go (Part n g) = (λ s. let h = subst IsSome g s in absurd cc, λ w. absurd (n.0 w.0))
    go (One w s g) = (λ h. (w, λ l. omega (arith, l.above, s)), λ h. subst IsSome (sym g) refl)
