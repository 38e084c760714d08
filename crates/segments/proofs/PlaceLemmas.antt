-- Positions, stored one by one.
use Rattle.std.proofs.Common.{◌≡◌, ℕ, zero, suc, ◌+◌, ◌-◌, ◌<◌, ◌≤◌, [], ◌∷◌, ◌++◌, length, take, drop, get_or}
use Rattle.std.proofs.Common.{Option, Some, None, refl, sym, ◌∙◌, ap, arith, append_assoc, append-nil, ◌⊎◌, inl, inr}
use Rattle.std.proofs.Common.{Bool, true, false, ltb, min}
use Rattle.std.proofs.Common.{map, if◌then◌else◌}
use Rattle.std.specs.Option.{unwrap_or}
use Rattle.std.proofs.lemmas.Bool.{ltb-true, ltb-false}
use Rattle.std.proofs.lemmas.List.{drop_all, drop_more, drop_min, length-take-le, take_rest, take-append-drop}
use Rattle.segments.specs.Cells.{Bytes, Cells, cell, differing, differs, fill, run}
use Rattle.segments.proofs.CellLemmas.{cell_none}
use Rattle.segments.specs.Places.{over, standing}

-- A loop that appends: what is done and what remains.
pub record IsAppending (out out0 left all : Bytes) : Type 0 where
  pub is : out ++ left ≡ out0 ++ all
  pub more : (s : Bytes) × (out ≡ out0 ++ s)

pub over_end : (cs : Cells) (ys : Bytes) (i : ℕ) → (length cs ≤ i) ⊎ (length ys ≤ i)
    → over (drop i cs) (drop i ys) ≡ drop i ys
over_end cs ys i (inl h) = ap (λ c. over c (drop i ys)) (drop_all i cs h)
over_end cs ys i (inr h) = ap (over (drop i cs)) (drop_all i ys h) ∙ nothing (drop i cs)
    ∙ sym (drop_all i ys h)
  where
    nothing : (cs : Cells) → over cs [] ≡ []
    nothing [] = refl
    nothing (c ∷ cs) = refl

pub over_common : (c : ℕ) (cs : Cells) (ys : Bytes) → c ≡ min (length ys) (length cs)
    → over cs (take c ys) ++ take (length ys - c) (drop c ys) ≡ over cs ys
over_common c cs ys e = ap (λ r. over cs (take c ys) ++ r) (take_rest ys c) ∙ go c cs ys e
  where
    go : (c : ℕ) (cs : Cells) (ys : Bytes) → c ≡ min (length ys) (length cs)
        → over cs (take c ys) ++ drop c ys ≡ over cs ys
    go zero [] ys e = refl
    go zero (x ∷ cs) [] e = refl
    go zero (x ∷ cs) (y ∷ ys) e = absurd (omega (arith, e))
    go (suc c) [] ys e = absurd (omega (arith, e))
    go (suc c) (x ∷ cs) [] e = absurd (omega (arith, e))
    go (suc c) (x ∷ cs) (y ∷ ys) e = ap (λ r. standing x y ∷ r) (go c cs ys (omega (arith, e)))

pub over_run : (cs : Cells) (ys : Bytes)
    → run (fill cs ys) ≡ over cs ys ++ run (drop (length ys) cs)
over_run [] [] = refl
over_run [] (y ∷ ys) =
    ap (λ r. y ∷ r) (over_run [] ys ∙ ap (λ c. ys ++ run c) (nothing (length ys)))
  where
    nothing : (n : ℕ) → drop {A = Option ℕ} n [] ≡ []
    nothing zero = refl
    nothing (suc n) = refl
over_run (c ∷ cs) [] = refl
over_run (None ∷ cs) (y ∷ ys) = ap (λ r. y ∷ r) (over_run cs ys)
over_run (Some x ∷ cs) (y ∷ ys) = ap (λ r. x ∷ r) (over_run cs ys)

pub joined_is : (out out1 out2 : Bytes) (cs : Cells) (ys : Bytes) (m : ℕ) → out1 ≡ out ++ over cs ys
    → m ≡ min (length ys) (length cs) →
    out2 ≡ out1 ++ run (drop m cs) → out2 ≡ out ++ run (fill cs ys)
joined_is out out1 out2 cs ys m first m_is second =
    second
    ∙ ap (λ r. out1 ++ run r) (ap (λ k. drop k cs) m_is ∙ drop_min (length ys) cs)
    ∙ ap (λ o. o ++ run (drop (length ys) cs)) first
    ∙ append_assoc out (over cs ys) (run (drop (length ys) cs))
    ∙ ap (λ r. out ++ r) (sym (over_run cs ys))

-- One more byte.
pub over_next : (cs : Cells) (ys : Bytes) (i : ℕ) (d : ℕ) → i < length cs → i < length ys
    → over (drop i cs) (drop i ys) ≡ standing (cell cs i) (get_or ys i d) ∷ over (drop (i + 1) cs)
    (drop (i + 1) ys)
over_next cs ys i d h g = let n : suc i ≡ i + 1 = omega arith in
    go cs ys i h g ∙ ap (λ k. standing (cell cs i) (get_or ys i d) ∷ over (drop k cs) (drop k ys)) n
  where
    go : (cs : Cells) (ys : Bytes) (i : ℕ) → i < length cs → i < length ys
        → over (drop i cs) (drop i ys) ≡ standing (cell cs i) (get_or ys i d) ∷ over
        (drop (suc i) cs) (drop (suc i) ys)
    go [] ys i h g = absurd (omega (arith, h))
    go (c ∷ cs) [] i h g = absurd (omega (arith, g))
    go (c ∷ cs) (y ∷ ys) zero h g = refl
    go (c ∷ cs) (y ∷ ys) (suc i) h g = go cs ys i (omega (arith, h)) (omega (arith, g))

pub appended_one : (out out' out0 all left left' : Bytes) (b : ℕ) → IsAppending out out0 left all
    → left ≡ b ∷ left'
    → out' ≡ out ++ b ∷ [] → IsAppending out' out0 left' all
appended_one out out' out0 all left left' b a is put = record {
  is = ap (λ o. o ++ left') put ∙ append_assoc out (b ∷ []) left'
      ∙ ap (λ l. out ++ l) (sym is) ∙ a.is;
  more = (
    a.more.0 ++ b ∷ [],
    put ∙ ap (λ o. o ++ b ∷ []) a.more.1
        ∙ append_assoc out0 a.more.0 (b ∷ []),
  );
}

pub appended_all : (out out0 all left : Bytes) → IsAppending out out0 left all → left ≡ []
    → out ≡ out0 ++ all
appended_all out out0 all left a none = sym (append-nil out) ∙ ap (λ l. out ++ l) (sym none) ∙ a.is

pub nothing_appended : (out all : Bytes) → IsAppending out out all all
nothing_appended out all = record { is = refl; more = ([], sym (append-nil out)) }

pub standing_is : (o : Option ℕ) (y : ℕ) → unwrap_or o y ≡ standing o y
standing_is None y = refl
standing_is (Some x) y = refl

-- Positions at which bytes differ.
pub differing_end : (cs : Cells) (ys : Bytes) (k : ℕ) → length cs ≤ k → differing k ys cs ≡ 0
differing_end cs [] k h = refl
differing_end cs (y ∷ ys) k h =
    let none : ◌≡◌ {A = ℕ} (if differs (cell cs k) y then 1 else 0) 0 =
    ap (λ o. if differs o y then 1 else 0) (cell_none cs k h) in
    let rest = differing_end cs ys (suc k) (omega (arith, h)) in
    omega (arith, none, rest)

pub differing_one : (cs : Cells) (ys : Bytes) (k i : ℕ) → i < length ys
    → differing (k + i) (drop i ys) cs
    ≡ (if differs (cell cs (k + i)) (get_or ys i 0) then 1 else 0) + differing (k + (i + 1))
    (drop (i + 1) ys) cs
differing_one cs ys k i h =
    let next : suc (k + i) ≡ k + (i + 1) = omega arith in
    ap (λ l. differing (k + i) l cs) (drop_more ys i 0 h)
    ∙ ap (λ n. (if differs (cell cs (k + i)) (get_or ys i 0) then 1 else 0) + differing n
    (drop (i + 1) ys) cs) next

pub differing_rest : (cs : Cells) (ys : Bytes) (k i : ℕ) → min (length ys) (length cs - k) ≤ i
    → differing (k + i) (drop i ys) cs ≡ 0
differing_rest cs ys k i h = go (ltb i (length ys)) refl
  where
    go : (t : Bool) → ltb i (length ys) ≡ t → differing (k + i) (drop i ys) cs ≡ 0
    go true e = let more = ltb-true i (length ys) e in
        differing_end cs (drop i ys) (k + i) (omega (arith, h, more))
    go false e = ap (λ l. differing (k + i) l cs) (drop_all i ys (ltb-false i (length ys) e))

cell_behind : (F : Bytes) (cs : Cells) (k : ℕ) → cell (map Some F ++ cs) (length F + k) ≡ cell cs k
cell_behind [] cs k = let e : 0 + k ≡ k = omega arith in ap (cell cs) e
cell_behind (x ∷ F) cs k =
    let e : suc (length F) + k ≡ suc (length F + k) = omega arith in
    ap (cell (Some x ∷ map Some F ++ cs)) e ∙ cell_behind F cs k

pub differing_behind : (F : Bytes) (cs : Cells) (k : ℕ) (ys : Bytes)
    → differing (length F + k) ys (map Some F ++ cs) ≡ differing k ys cs
differing_behind F cs k [] = refl
differing_behind F cs k (y ∷ ys) =
    let next : suc (length F + k) ≡ length F + suc k = omega arith in
    ap (λ o. (if differs o y then 1 else 0) + differing (suc (length F + k)) ys (map Some F ++ cs))
    (cell_behind F cs k)
    ∙ ap (λ n. (if differs (cell cs k) y then 1 else 0) + differing n ys (map Some F ++ cs)) next
    ∙ ap (λ n. (if differs (cell cs k) y then 1 else 0) + n) (differing_behind F cs (suc k) ys)

pub differing_split : (k : ℕ) (x y : Bytes) (cs : Cells)
    → differing k (x ++ y) cs ≡ differing k x cs + differing (k + length x) y cs
differing_split k [] y cs =
    let e : k ≡ k + 0 = omega arith in
    let f : differing (k + 0) y cs ≡ 0 + differing (k + 0) y cs = omega arith in
    ap (λ i. differing i y cs) e ∙ f
differing_split k (c ∷ x) y cs =
    let r = differing_split (suc k) x y cs in
    let e : suc k + length x ≡ k + suc (length x) = omega arith in
    let f = ap (λ i. differing i y cs) e in
    omega (arith, r, f)

pub differing_common : (cs : Cells) (ys : Bytes) (k c : ℕ) → c ≡ min (length ys) (length cs - k)
    → differing k (take c ys) cs ≡ differing k ys cs
differing_common cs ys k c e =
    let split = ap (λ l. differing k l cs) (sym (take-append-drop c ys))
    ∙ differing_split k (take c ys) (drop c ys) cs in
    let long = length-take-le c ys (omega (arith, e)) in
    let rest = ap (λ n. differing (k + n) (drop c ys) cs) long
    ∙ differing_rest cs ys k c (omega (arith, e)) in
    omega (arith, split, rest)
