-- Loops over positions, page by page.
use Rattle.std.proofs.Common.{◌≡◌, ℕ, zero, suc, ◌+◌, ◌-◌, ◌<◌, ◌≤◌, [], ◌∷◌, ◌++◌, length, take, drop, Some, None}
use Rattle.std.proofs.Common.{if◌then◌else◌, refl, sym, ◌∙◌, ap, arith, append_assoc}
use Rattle.std.proofs.Math.Seq.{take-add}
use Rattle.std.proofs.lemmas.List.{drop-drop, length-drop, length-take-le, take-append-drop}
use Rattle.segments.specs.Cells.{Bytes, Cells, cell, differing, differs, run}
use Rattle.segments.specs.Pages.{Pages, place, places}
use Rattle.segments.specs.Places.{over, standing}
use Rattle.segments.proofs.PageLemmas.{cell_within, places_length, places_split}
use Rattle.segments.proofs.PlaceLemmas.{IsAppending, differing_split}

-- Several more bytes.
pub appended_more : (out out' out0 all left left' s : Bytes) → IsAppending out out0 left all
    → left ≡ s ++ left'
    → out' ≡ out ++ s → IsAppending out' out0 left' all
appended_more out out' out0 all left left' s a is put = record {
  is = ap (λ o. o ++ left') put ∙ append_assoc out s left' ∙ ap (λ l. out ++ l) (sym is) ∙ a.is;
  more = (a.more.0 ++ s, put ∙ ap (λ o. o ++ s) a.more.1 ∙ append_assoc out0 a.more.0 s);
}

pub appended_some : (out out' out0 left all : Bytes) → IsAppending out out0 left all
    → (s : Bytes) × (out' ≡ out ++ s)
    → (s : Bytes) × (out' ≡ out0 ++ s)
appended_some out out' out0 left all a more = (
  a.more.0 ++ more.0,
  more.1 ∙ ap (λ o. o ++ more.0) a.more.1
      ∙ append_assoc out0 a.more.0 more.0,
)

-- Cells after cells.
run_on : (a b : Cells) → length a ≤ length (run a) → run (a ++ b) ≡ run a ++ run b
run_on [] b h = refl
run_on (None ∷ a) b h = absurd (omega (arith, h))
run_on (Some x ∷ a) b h = ap (λ r. x ∷ r) (run_on a b (omega (arith, h)))

run_off : (a b : Cells) → length (run a) < length a → run (a ++ b) ≡ run a
run_off [] b h = absurd (omega (arith, h))
run_off (None ∷ a) b h = refl
run_off (Some x ∷ a) b h = ap (λ r. x ∷ r) (run_off a b (omega (arith, h)))

over_on : (a b : Cells) (x y : Bytes) → length x ≡ length a
    → over (a ++ b) (x ++ y) ≡ over a x ++ over b y
over_on [] b [] y e = refl
over_on [] b (c ∷ x) y e = absurd (omega (arith, e))
over_on (c ∷ a) b [] y e = absurd (omega (arith, e))
over_on (c ∷ a) b (d ∷ x) y e = ap (λ r. standing c d ∷ r) (over_on a b x y (omega (arith, e)))

pub differing_same : (k k' : ℕ) (ys : Bytes) (cs ds : Cells)
    → ((i : ℕ) → i < length ys → cell cs (k + i) ≡ cell ds (k' + i))
    → differing k ys cs ≡ differing k' ys ds
differing_same k k' [] cs ds same = refl
differing_same k k' (y ∷ ys) cs ds same =
    let e : k ≡ k + 0 = omega arith in
    let f : k' + 0 ≡ k' = omega arith in
    let first : ◌≡◌ {A = ℕ} (if differs (cell cs k) y then 1 else 0)
    (if differs (cell ds k') y then 1 else 0) =
    ap (λ o. if differs o y then 1 else 0)
    (ap (cell cs) e ∙ same 0 (omega arith) ∙ ap (cell ds) f) in
    let rest = differing_same (suc k) (suc k') ys cs ds
    (λ i h. let a : suc k + i ≡ k + suc i = omega arith in
    let b : k' + suc i ≡ suc k' + i = omega arith in
    ap (cell cs) a ∙ same (suc i) (omega (arith, h)) ∙ ap (cell ds) b) in
    omega (arith, first, rest)

cell_front : (a b : Cells) (i : ℕ) → i < length a → cell (a ++ b) i ≡ cell a i
cell_front [] b i h = absurd (omega (arith, h))
cell_front (c ∷ a) b zero h = refl
cell_front (c ∷ a) b (suc i) h = cell_front a b i (omega (arith, h))

cell_back : (a b : Cells) (i : ℕ) → cell (a ++ b) (length a + i) ≡ cell b i
cell_back [] b i = let e : 0 + i ≡ i = omega arith in ap (cell b) e
cell_back (c ∷ a) b i =
    let e : suc (length a) + i ≡ suc (length a + i) = omega arith in ap (cell (c ∷ (a ++ b))) e
    ∙ cell_back a b i

differing_on : (a b : Cells) (x y : Bytes) → length x ≡ length a
    → differing 0 (x ++ y) (a ++ b) ≡ differing 0 x a + differing 0 y b
differing_on a b x y e =
    let s = differing_split 0 x y (a ++ b) in
    let front = differing_same 0 0 x (a ++ b) a
    (λ i h. let z : 0 + i < length a = omega (arith, h, e) in cell_front a b (0 + i) z) in
    let back = differing_same (0 + length x) 0 y (a ++ b) b
    (λ i h. let z : (0 + length x) + i ≡ length a + i = omega (arith, e) in
    let o : i ≡ 0 + i = omega arith in
    ap (cell (a ++ b)) z ∙ cell_back a b i ∙ ap (cell b) o) in
    omega (arith, s, front, back)

-- The next part of some bytes.
pub part_long : (ys : Bytes) (done most k : ℕ) → k ≡ most → done + most ≤ length ys
    → length (take k (drop done ys)) ≡ most
part_long ys done most k e h =
    length-take-le k (drop done ys) (let d = length-drop done ys in omega (arith, d, e, h)) ∙ e

-- Differing bytes, counted so far.
pub unlike_more : (ys : Bytes) (first done most k count more : ℕ) (m : Pages) → k ≡ most
    → done + most ≤ length ys
    → count ≡ differing 0 (take done ys) (places done first m)
    → more ≡ differing 0 (take k (drop done ys))
    (places (length (take k (drop done ys))) (first + done) m)
    → count + more ≡ differing 0 (take (done + most) ys) (places (done + most) first m)
unlike_more ys first done most k count more m e h so next =
    let long = part_long ys done most k e h in
    let here = next ∙ ap (λ n. differing 0 (take k (drop done ys)) (places n (first + done) m)) long
    ∙ ap (λ j. differing 0 (take j (drop done ys)) (places most (first + done) m)) e in
    let both = differing_on (places done first m) (places most (first + done) m) (take done ys)
    (take most (drop done ys))
    (length-take-le done ys (omega (arith, h)) ∙ sym (places_length done first m)) in
    let all = ap (λ c. differing 0 (take (done + most) ys) c) (places_split done most first m)
    ∙ ap (λ b. differing 0 b (places done first m ++ places most (first + done) m))
    (take-add done most ys) in
    omega (arith, so, here, both, all)

-- Bytes appended so far.
split_left : (n first done most : ℕ) (m : Pages) → done + most ≤ n
    → places (n - done) (first + done) m
    ≡ places most (first + done) m ++ places (n - (done + most)) (first + (done + most)) m
split_left n first done most m h =
    let e : n - done ≡ most + (n - (done + most)) = omega (arith, h) in
    let f : (first + done) + most ≡ first + (done + most) = omega arith in
    ap (λ x. places x (first + done) m) e ∙ places_split most (n - (done + most)) (first + done) m
    ∙ ap (λ x. places most (first + done) m ++ places (n - (done + most)) x m) f

pub front_on : (out out' out0 s all : Bytes) (n first done most : ℕ) (m : Pages) → done + most ≤ n
    → IsAppending out out0 (run (places (n - done) (first + done) m)) all
    → s ≡ run (places most (first + done) m)
    → most ≤ length s → out' ≡ out ++ s
    → IsAppending out' out0 (run (places (n - (done + most)) (first + (done + most)) m)) all
front_on out out' out0 s all n first done most m h a is long put =
    appended_more out out' out0 all (run (places (n - done) (first + done) m))
    (run (places (n - (done + most)) (first + (done + most)) m)) s a
    (ap run (split_left n first done most m h)
    ∙ run_on (places most (first + done) m) (places (n - (done + most)) (first + (done + most)) m)
    (let l = places_length most (first + done) m in let k = ap length is in
    omega (arith, l, k, long))
    ∙ ap (λ r. r ++ run (places (n - (done + most)) (first + (done + most)) m)) (sym is))
    put

pub front_off : (out out' out0 s all : Bytes) (n first done most : ℕ) (m : Pages) → done + most ≤ n
    → IsAppending out out0 (run (places (n - done) (first + done) m)) all
    → s ≡ run (places most (first + done) m)
    → length s < most → out' ≡ out ++ s → out' ≡ out0 ++ all
front_off out out' out0 s all n first done most m h a is short put =
    put ∙ ap (λ r. out ++ r)
    (is
    ∙ sym (ap run (split_left n first done most m h)
    ∙ run_off (places most (first + done) m) (places (n - (done + most)) (first + (done + most)) m)
    (let l = places_length most (first + done) m in let k = ap length is in
    omega (arith, l, k, short))))
    ∙ a.is

pub over_more : (out out' out0 all ys : Bytes) (first done most k : ℕ) (m : Pages) → k ≡ most
    → done + most ≤ length ys
    → IsAppending out out0 (over (places (length ys - done) (first + done) m) (drop done ys)) all
    → out' ≡ out ++ over (places (length (take k (drop done ys))) (first + done) m)
    (take k (drop done ys))
    → IsAppending out' out0
    (over (places (length ys - (done + most)) (first + (done + most)) m) (drop (done + most) ys))
    all
over_more out out' out0 all ys first done most k m e h a put =
    appended_more out out' out0 all
    (over (places (length ys - done) (first + done) m) (drop done ys))
    (over (places (length ys - (done + most)) (first + (done + most)) m) (drop (done + most) ys))
    (over (places most (first + done) m) (take most (drop done ys))) a
    (ap (λ c. over c (drop done ys)) (split_left (length ys) first done most m h)
    ∙ ap (over (places most (first + done) m ++ places (length ys - (done + most))
    (first + (done + most)) m))
    (sym (take-append-drop most (drop done ys))
    ∙ ap (λ r. take most (drop done ys) ++ r) (drop-drop most done ys))
    ∙ over_on (places most (first + done) m)
    (places (length ys - (done + most)) (first + (done + most)) m)
    (take most (drop done ys)) (drop (done + most) ys)
    (part_long ys done most most refl h ∙ sym (places_length most (first + done) m)))
    (put
    ∙ ap (λ n. out ++ over (places n (first + done) m) (take k (drop done ys)))
    (part_long ys done most k e h)
    ∙ ap (λ j. out ++ over (places most (first + done) m) (take j (drop done ys))) e)

-- Fewer bytes than positions.
pub differing_within : (len begin : ℕ) (m : Pages) (at : ℕ) (ys : Bytes) → at + length ys ≤ len
    → differing 0 ys (places (length ys) (begin + at) m) ≡ differing at ys (places len begin m)
differing_within len begin m at ys h =
    differing_same 0 at ys (places (length ys) (begin + at) m) (places len begin m)
    (λ i low. let e : (begin + at) + (0 + i) ≡ begin + (at + i) = omega arith in
    cell_within (length ys) (begin + at) m (0 + i) (omega (arith, low)) ∙ ap (place m) e
    ∙ sym (cell_within len begin m (at + i) (omega (arith, h, low))))

over_fewer : (a b : Cells) (ys : Bytes) → length ys ≡ length a → over (a ++ b) ys ≡ over a ys
over_fewer [] [] [] e = refl
over_fewer [] (c ∷ b) [] e = refl
over_fewer [] b (y ∷ ys) e = absurd (omega (arith, e))
over_fewer (c ∷ a) b [] e = absurd (omega (arith, e))
over_fewer (c ∷ a) b (y ∷ ys) e = ap (λ r. standing c y ∷ r) (over_fewer a b ys (omega (arith, e)))

pub over_within : (len begin : ℕ) (m : Pages) (ys : Bytes) → length ys ≤ len
    → over (places (length ys) begin m) ys ≡ over (places len begin m) ys
over_within len begin m ys h =
    let e : len ≡ length ys + (len - length ys) = omega (arith, h) in
    sym (ap (λ n. over (places n begin m) ys) e
    ∙ ap (λ c. over c ys) (places_split (length ys) (len - length ys) begin m)
    ∙ over_fewer (places (length ys) begin m) (places (len - length ys) (begin + length ys) m) ys
    (sym (places_length (length ys) begin m)))
