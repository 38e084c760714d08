-- What is buffered after bytes are added.
use Rattle.std.proofs.Common.{◌≡◌, ℕ, zero, suc, ◌+◌, ◌-◌, ◌^◌, ◌<◌, ◌≤◌, [], ◌∷◌, ◌++◌, length, drop, map, Some}
use Rattle.std.proofs.Common.{Bool, true, false, cond, ltb, refl, sym, ◌∙◌, ap, subst, arith, append_assoc}
use Rattle.std.proofs.Common.{append-nil, min}
use Rattle.std.proofs.lemmas.Bool.{ltb-true, ltb-false}
use Rattle.std.proofs.lemmas.List.{length-append, length-drop, length-map, map-append, drop-drop, drop-append-le}
use Rattle.std.proofs.lemmas.List.{drop_min, drop_all}
use Rattle.segments.specs.Cells.{Bytes, Cells, fill, fill_at, put, run, wanted, with_located, without_front, known}
use Rattle.segments.specs.Cells.{known_behind, gap}
use Rattle.segments.specs.Places.{IsSound, held_cells, held_of}
use Rattle.segments.proofs.CellLemmas.{put_at, put_now, put_behind, run_some, run_split, run_drop, run_low}
use Rattle.segments.proofs.CellLemmas.{run_fill_long, drop_fill, fill_low, fill_at_low, fill_at_run, behind_some}
use Rattle.segments.proofs.CellLemmas.{behind_all}

pub run_held : (start taken limit : ℕ) (front : Bytes) (window : Cells)
    → IsSound start taken limit front window
    → run (held_cells start front window) ≡ drop start front
run_held start taken limit front window s =
    run_some (drop start front) window ∙ ap (λ r. drop start front ++ r) s.first_empty
    ∙ append-nil (drop start front)

pub wanted_is : (f l start taken : ℕ) (front : Bytes) (window : Cells)
    → IsSound start taken l front window →
    (wanted (held_of f l start taken front window) ≡ taken + (length front - start))
    × (taken + (length front - start) ≤ 2 ^ 62)
wanted_is f l start taken front window s = (
  ap (λ r. taken + length r) (run_held start taken l front window s)
      ∙ ap (λ n. taken + n) (length-drop start front),
  (let h = s.small in omega (arith, h)),
)

put_held : (F : Bytes) (C : Cells) (d : ℕ) (ys : Bytes) → run (map Some F ++ C) ≡ F
    → put (length (run (map Some F ++ C)) + d) ys (map Some F ++ C) ≡ map Some F ++ put d ys C
put_held F C d ys is =
    let n : length (run (map Some F ++ C)) + d ≡ length (map Some F) + d = ap (λ r. length r + d) is
    ∙ ap (λ n. n + d) (sym (length-map F Some)) in
    ap (λ n. put n ys (map Some F ++ C)) n ∙ put_behind (map Some F) C d ys

run_few : (cs : Cells) (ys : Bytes) → length cs < length (run (fill cs ys))
    → length (run (fill cs ys)) ≤ length ys
run_few cs ys more = go (ltb (length ys) (length cs)) refl
  where
    go : (t : Bool) → ltb (length ys) (length cs) ≡ t → length (run (fill cs ys)) ≤ length ys
    go true e =
        let short = ltb-true (length ys) (length cs) e in
        let low = fill_low cs ys (length cs) (omega arith) (omega (arith, short)) in
        let r = run_low (fill cs ys) in
        absurd (omega (arith, low, r, more))
    go false e =
        let short = ltb-false (length ys) (length cs) e in
        let low = fill_low cs ys (length ys) short (omega arith) in
        let r = run_low (fill cs ys) in
        omega (arith, low, r)

pub record IsHeldMore (f l start taken : ℕ) (front front' : Bytes) (window window' : Cells) (d : ℕ)
    (ys : Bytes) : Type
    0 where
  pub sound : IsSound start taken l front' window'
  pub held : held_of f l start taken front' window' ≡ with_located (d, ys)
      (held_of f l start taken front window)

-- at the next expected position
pub appended : (f l start taken : ℕ) (front front' : Bytes) (window window' : Cells)
    (ys : Bytes) (n : ℕ)
    → IsSound start taken l front window →
    taken + (length front - start) + length ys ≤ 2 ^ 62 → front' ≡ front ++ run (fill window ys)
    → n ≡ length front' - length front → window' ≡ drop (min n (length window)) window →
    IsHeldMore f l start taken front front' window window' 0 ys
appended f l start taken front front' window window' ys n s small front_is n_is window_is =
    let F = drop start front in
    let X = fill window ys in
    let R = run X in
    let i = s.start_in in
    let long = ap length front_is ∙ length-append front R in
    let count : n ≡ length R = omega (arith, n_is, long) in
    let rest : window' ≡ drop (length R) X =
    window_is ∙ drop_min n window ∙ ap (λ n. drop n window) count
    ∙ sym (drop_fill (length R) window ys (run_fill_long window ys)) in
    let front_now : drop start front' ≡ F ++ R = ap (drop start) front_is
    ∙ drop-append-le start front R i in
    let left : length window' ≡ length window - length R = ap length (window_is ∙ drop_min n window)
    ∙ length-drop n window ∙ ap (λ n. length window - n) count in
    record {
      sound = record {
        start_in = omega (arith, long, i);
        first_empty = ap run rest ∙ run_drop X;
        within = (let w = s.within in omega (arith, left, w));
        small = (let h = s.small in total (ltb (length window) (length R)) refl long left h);
      };
      held = ap (λ cs. record { first = f; limit = l; taken = taken; cells = cs })
          (ap (λ c. map Some (drop start front') ++ c) rest
          ∙ ap (λ b. map Some b ++ drop (length R) X) front_now
          ∙ ap (λ c. c ++ drop (length R) X) (map-append Some F R)
          ∙ append_assoc (map Some F) (map Some R) (drop (length R) X)
          ∙ ap (λ c. map Some F ++ c) (sym (run_split X))
          ∙ ap (λ c. map Some F ++ c) (sym (put_now ys window))
          ∙ sym (put_held F window 0 ys (run_held start taken l front window s)));
    }
  where
    total : (t : Bool) → ltb (length window) (length (run (fill window ys))) ≡ t
        → length front' ≡ length front + length (run (fill window ys)) →
        length window' ≡ length window - length (run (fill window ys))
        → taken + (length front - start) + length window ≤ 2 ^ 62 →
        taken + (length front' - start) + length window' ≤ 2 ^ 62
    total true e long left h =
        let more = ltb-true (length window) (length (run (fill window ys))) e in
        let few = run_few window ys more in
        let i = s.start_in in
        omega (arith, more, few, long, left, small, i)
    total false e long left h =
        let more = ltb-false (length window) (length (run (fill window ys))) e in
        let i = s.start_in in
        omega (arith, more, long, left, h, i)

-- after it
pub held_more : (f l start taken : ℕ) (front : Bytes) (window window' : Cells) (d : ℕ) (ys : Bytes)
    → IsSound start taken l front window →
    0 < d → 0 < length ys → d + length ys ≤ l
    → taken + (length front - start) + d + length ys ≤ 2 ^ 62
    → window' ≡ fill_at d window ys →
    IsHeldMore f l start taken front front window window' d ys
held_more f l start taken front window window' d ys s ahead some within small window_is =
    let F = drop start front in
    let w = s.within in
    let h = s.small in
    let i = s.start_in in
    let low = fill_at_low d window ys l w within in
    let low' = fill_at_low d window ys (2 ^ 62 - (taken + (length front - start)))
    (omega (arith, h))
    (omega (arith, small)) in
    let len = ap length window_is in
    record {
      sound = record {
        start_in = i;
        first_empty = ap run window_is ∙ fill_at_run d window ys ahead s.first_empty;
        within = omega (arith, len, low);
        small = omega (arith, len, low', small);
      };
      held = ap (λ cs. record { first = f; limit = l; taken = taken; cells = cs })
          (ap (λ c. map Some F ++ c) (window_is ∙ sym (put_at d ys window some))
          ∙ sym (put_held F window d ys (run_held start taken l front window s)));
    }

-- In-order bytes are delivered.
pub taken_front : (f l start taken n : ℕ) (front : Bytes) (window : Cells)
    → IsSound start taken l front window
    → n ≤ length (drop start front) →
    IsSound (start + n) (taken + n) l front window
    × (held_of f l (start + n) (taken + n) front window ≡ without_front n
    (held_of f l start taken front window))
taken_front f l start taken n front window s few =
    let len = length-drop start front in
    let i = s.start_in in
    let h = s.small in
    let F = drop start front in
    let few' : n ≤ length (map Some F) = subst (λ k. n ≤ k) (sym (length-map F Some)) few in (
      record {
        start_in = omega (arith, few, len, i);
        first_empty = s.first_empty;
        within = s.within;
        small = omega (arith, few, len, i, h);
      },
      ap (λ cs. record { first = f; limit = l; taken = taken + n; cells = cs })
          (ap (λ b. map Some b ++ window) (sym (drop-drop n start front))
          ∙ ap (λ c. c ++ window) (sym (drop-map n F))
          ∙ sym (drop-append-le n (map Some F) window few')),
    )
  where
    drop-map : (n : ℕ) (xs : Bytes) → drop n (map Some xs) ≡ map Some (drop n xs)
    drop-map zero xs = refl
    drop-map (suc n) [] = refl
    drop-map (suc n) (x ∷ xs) = drop-map n xs

-- If nothing is available, no in-order bytes are left.
pub none_front : (start taken l : ℕ) (front : Bytes) (window : Cells)
    → IsSound start taken l front window
    → run (held_cells start front window) ≡ [] → length front ≤ start
none_front start taken l front window s none =
    let e = ap length (sym (run_held start taken l front window s) ∙ none) in
    let d = length-drop start front in
    omega (arith, e, d)

pub all_window : (start : ℕ) (front : Bytes) (window : Cells) → length front ≤ start
    → held_cells start front window ≡ window
all_window start front window none = ap (λ e. map Some e ++ window) (drop_all start front none)

pub pass_room : (n : ℕ) (front front' : Bytes) (window : Cells) → n ≤ length window
    → front' ≡ front ++ run (drop n window) → n + (length front' - length front) ≤ length window
pass_room n front front' window few is =
    let long = ap length is ∙ length-append front (run (drop n window)) in
    let low = run_low (drop n window) in
    let short = length-drop n window in
    omega (arith, long, low, short, few)

-- The missing bytes are skipped.
pub record IsSkipped (f l start taken n : ℕ) (front front' : Bytes)
    (window window' : Cells) : Type 0 where
  pub sound : IsSound start (taken + n) l front' window'
  pub held : held_of f l start (taken + n) front' window' ≡ without_front n
      (held_of f l start taken front window)

pub skipped : (f l start taken n m : ℕ) (front front' : Bytes) (window window' : Cells)
    → IsSound start taken l front window → length front ≤ start →
    n ≤ length window → front' ≡ front ++ run (drop n window)
    → m ≡ n + (length front' - length front)
    → window' ≡ drop m window →
    IsSkipped f l start taken n front front' window window'
skipped f l start taken n m front front' window window' s none few front_is m_is window_is =
    let X = drop n window in
    let R = run X in
    let i = s.start_in in
    let h = s.small in
    let w = s.within in
    let long = ap length front_is ∙ length-append front R in
    let low = run_low X in
    let short = length-drop n window in
    let count : m ≡ length R + n = omega (arith, m_is, long) in
    let rest : window' ≡ drop (length R) X = window_is
    ∙ ap (λ k. drop k window) (count ∙ (let e : length R + n ≡ n + length R = omega arith in e))
    ∙ sym (drop-drop (length R) n window) in
    let left = ap length rest ∙ length-drop (length R) X in
    let empty : drop start front ≡ [] = drop_all start front none in
    let front_now : drop start front' ≡ R = ap (drop start) front_is
    ∙ drop-append-le start front R i
    ∙ ap (λ e. e ++ R) empty in
    record {
      sound = record {
        start_in = omega (arith, long, i);
        first_empty = ap run rest ∙ run_drop X;
        within = omega (arith, left, short, w);
        small = omega (arith, left, short, low, long, few, i, none, h);
      };
      held = ap (λ cs. record { first = f; limit = l; taken = taken + n; cells = cs })
          (ap (λ b. map Some b ++ window') front_now
          ∙ ap (λ c. map Some R ++ c) rest
          ∙ sym (run_split X)
          ∙ ap (λ e. drop n (map Some e ++ window)) (sym empty));
    }

same_cond : (t : Bool) → ◌≡◌ {A = ℕ} (cond t 0 0) 0
same_cond true = refl
same_cond false = refl

pub gap_front : (start : ℕ) (front : Bytes) (window : Cells) → start < length front
    → gap (held_cells start front window) ≡ 0
gap_front start front window some =
    go (drop start front) (let l = length-drop start front in omega (arith, l, some))
  where
    go : (F : Bytes) → 0 < length F → gap (map Some F ++ window) ≡ 0
    go [] h = absurd (omega (arith, h))
    go (x ∷ F) h = same_cond (ltb 0 (known (map Some (x ∷ F) ++ window)))

pub behind_is : (start taken l : ℕ) (front : Bytes) (window : Cells)
    → IsSound start taken l front window
    → known_behind (held_cells start front window) ≡ known window
behind_is start taken l front window s = behind_some (drop start front) window
    ∙ behind_all window s.first_empty
