-- A framed part: its content is read from the frame's bytes alone.
use Rattle.std.proofs.Common.{
  ◌≡◌,
  ℕ,
  ◌-◌,
  List,
  [],
  ◌∷◌,
  ◌++◌,
  length,
  take,
  drop,
  Result,
  Ok,
  Err,
  Bool,
  true,
  false,
  cond,
  ltb,
  refl,
  sym,
  subst,
  ◌∙◌,
  ap,
}
use Rattle.std.proofs.lemmas.List.{length-take-le}
use Rattle.std.proofs.lemmas.Bool.{ltb-false}
use Rattle.layouts.specs.Bytes.{Bytes}
use Rattle.layouts.specs.Layout.{Layout, done, number, window, list1, counted_window, ◌>>=◌}
use Rattle.layouts.specs.Meaning.{Refusal, Broken, Lacks, Answer}
use Rattle.layouts.specs.Reading.{reading, split_at, completed, ◌and_then◌}
use Rattle.layouts.proofs.LeavesLemmas.{LeavesFewer}
use Rattle.layouts.specs.Items.{items_in, left_in, value_of, list_read, decode_while, ReadsThenDecodes}
use Rattle.layouts.specs.Framed.{Framed, framed}
use Rattle.layouts.proofs.ItemsLemmas.{items_first, items_none, items_decoded}

-- the first part of a split has n bytes
split_size : (n : ℕ) (b : Bytes) (x : Bytes × Bytes) → split_at n b ≡ Ok x → length x.0 ≡ n
unfolding split_at
split_size n b x e = go (ltb (length b) n) refl e
  where
    go : (t : Bool) → ltb (length b) n ≡ t
        → cond t (Err (Lacks (n - length b))) (Ok (take n b, drop n b)) ≡ Ok x
        → length x.0 ≡ n
    go true h f = absurd cc
    go false h f = let pair : ◌≡◌ {A = Bytes × Bytes} (take n b, drop n b) x =
        cc in ap (λ y. length y.0) (sym pair) ∙ length-take-le n b (ltb-false (length b) n h)

-- a part whose window is read by `content`, and its value mapped by f
module _ {A B : Type 0} (f : A → B) (content : ℕ → ℕ → Layout A) where
  -- the value of a frame's content
  abbrev pub content_of : Framed → Result B Refusal
  content_of x =
      value_of (reading (content x.kind (length x.content)) x.content and_then λ y. Ok (f y.0, y.1))

  -- the steps of both readings
  abbrev finished : A × Bytes → Answer B
  finished x = Ok (f x.0, x.1)

  abbrev in_window : ℕ → ℕ → Bytes × Bytes → Answer A
  in_window kind n s = reading (content kind n) s.0 and_then λ x. Ok (x.0, s.1)

  abbrev as_frame : ℕ → Bytes × Bytes → Answer Framed
  as_frame kind s = Ok (record { kind = kind; content = s.0 }, s.1)

  abbrev decoded_then : Framed × Bytes → Answer B
  decoded_then x = content_of x.0 and_then λ y. Ok (y, x.1)

  by_value : (r : Bytes) (a : Answer A) → ((a and_then λ x. Ok (x.0, r)) and_then finished)
      ≡ (value_of (a and_then finished) and_then λ y. Ok (y, r))
  by_value r (Ok x) = refl
  by_value r (Err k) = refl

  by_window : (kind n : ℕ) (s : Bytes × Bytes) → length s.0 ≡ n
      → (in_window kind n s and_then finished) ≡ decoded_then
      (record { kind = kind; content = s.0 }, s.1)
  by_window kind n s size = subst (λ m. (in_window kind m s and_then finished)
      ≡ decoded_then (record { kind = kind; content = s.0 }, s.1)) size
      (by_value s.1 (reading (content kind (length s.0)) s.0))

  by_content : (kind n : ℕ) (m : Bytes) (a : Answer Bytes) → split_at n m ≡ a
      → ((a and_then in_window kind n) and_then finished)
      ≡ ((a and_then as_frame kind) and_then decoded_then)
  by_content kind n m (Ok s) e = by_window kind n s (split_size n m s e)
  by_content kind n m (Err e) h = refl

  abbrev counted_window_then : ℕ → ℕ × Bytes → Answer B
  counted_window_then kind y = (split_at y.0 y.1 and_then in_window kind y.0) and_then finished

  abbrev cut : ℕ × Bytes → Answer Bytes
  cut y = split_at y.0 y.1

  by_count : (kind : ℕ) (a : Answer ℕ) → (a and_then counted_window_then kind)
      ≡ (((a and_then cut) and_then as_frame kind) and_then decoded_then)
  by_count kind (Ok y) = by_content kind y.0 y.1 (split_at y.0 y.1) refl
  by_count kind (Err e) = refl

  abbrev framed_as : ℕ → ℕ → Layout B
  framed_as w k = do
    kind ← number w
    n ← number k
    x ← window n (content kind n)
    done (f x)

  abbrev behind_kind : ℕ → ℕ × Bytes → Answer B
  behind_kind k x = reading (number k) x.1 and_then counted_window_then x.0

  abbrev frame_behind : ℕ → ℕ × Bytes → Answer Framed
  frame_behind k x = (reading (number k) x.1 and_then cut) and_then as_frame x.0

  by_kind : (k : ℕ) (a : Answer ℕ)
      → (a and_then behind_kind k) ≡ ((a and_then frame_behind k) and_then decoded_then)
  by_kind k (Ok x) = by_count x.0 (reading (number k) x.1)
  by_kind k (Err e) = refl

  pub framed_decodes : (w k : ℕ) → ReadsThenDecodes (framed_as w k) (framed w k) content_of
  unfolding framed
  framed_decodes w k b = by_kind k (reading (number w) b)

-- `list1` of a layout whose first item isn't empty reads the items of the walk; none if the first
-- is refused
pub list1_walked : {A : Type 0} (l : Layout A) (b : Bytes) → LeavesFewer (length b) (reading l b)
    → list_read (reading (list1 l) b) ≡ items_in l b
list1_walked {A} l b fewer = go (reading l b) refl fewer
  where
    go : (a : Answer A) → reading l b ≡ a → LeavesFewer (length b) a
        → list_read (◌and_then◌ {Y = List A × Bytes} (completed a)
        (λ x. Ok ((x.0 ∷ []) ++ items_in l x.1, left_in l x.1))) ≡ items_in l b
    go (Ok x) e short = sym (items_first l b x.0 x.1 e short)
    go (Err (Broken k)) e short = sym (items_none l b (Broken k) e)
    go (Err (Lacks n)) e short = sym (items_none l b (Lacks n) e)

-- the frame as the layout's last part, with its value the value of the layout
same_value : {A : Type 0} (a : Answer A) → a ≡ (a and_then λ x. Ok (x.0, x.1))
same_value (Ok x) = refl
same_value (Err e) = refl

module _ {A : Type 0} (content : ℕ → Layout A) (k : ℕ) where
  abbrev at_count : ℕ → ℕ × Bytes → Answer A
  at_count kind y = reading (window y.0 (content kind)) y.1

  abbrev at_count_then : ℕ → ℕ × Bytes → Answer A
  at_count_then kind y = reading (window y.0 (content kind)) y.1 and_then λ x. Ok (x.0, x.1)

  last_count : (kind : ℕ) (a : Answer ℕ)
      → (a and_then at_count kind) ≡ (a and_then at_count_then kind)
  last_count kind (Ok y) = same_value (reading (window y.0 (content kind)) y.1)
  last_count kind (Err e) = refl

  abbrev at_kind : ℕ × Bytes → Answer A
  at_kind x = reading (number k) x.1 and_then at_count x.0

  abbrev at_kind_then : ℕ × Bytes → Answer A
  at_kind_then x = reading (number k) x.1 and_then at_count_then x.0

  last_kind : (a : Answer ℕ) → (a and_then at_kind) ≡ (a and_then at_kind_then)
  last_kind (Ok x) = last_count x.0 (reading (number k) x.1)
  last_kind (Err e) = refl

  plain : (a : Answer A) → value_of (a and_then λ y. Ok (y.0, y.1)) ≡ value_of a
  plain (Ok x) = refl
  plain (Err e) = refl

  abbrev window_of : ℕ → Layout A
  window_of w = do
    kind ← number w
    counted_window k (content kind)

  -- the value of a frame's content
  abbrev value_in : Framed → Result A Refusal
  value_in x = value_of (reading (content x.kind) x.content)

  abbrev decodes_as : Framed × Bytes → Answer A
  decodes_as x = content_of (λ y. y) (λ kind n. content kind) x.0 and_then λ y. Ok (y, x.1)

  abbrev decodes_to : Framed × Bytes → Answer A
  decodes_to x = value_in x.0 and_then λ y. Ok (y, x.1)

  by_frame : (a : Answer Framed) → (a and_then decodes_as) ≡ (a and_then decodes_to)
  by_frame (Ok x) = ap (λ d. ◌and_then◌ {Y = A × Bytes} d (λ y. Ok (y, x.1)))
      (plain (reading (content x.0.kind) x.0.content))
  by_frame (Err e) = refl

  pub window_decodes : (w : ℕ) → ReadsThenDecodes (window_of w) (framed w k) value_in
  unfolding framed
  window_decodes w b = last_kind (reading (number w) b)
      ∙ framed_decodes (λ x. x) (λ kind n. content kind) w k b
      ∙ by_frame (reading (framed w k) b)

pub items_of_windows : {A : Type 0} (content : ℕ → Layout A) (w k : ℕ) (b : Bytes)
    → items_in (window_of content k w) b ≡ decode_while (value_in content k)
    (items_in (framed w k) b)
items_of_windows content w k b =
    items_decoded (window_of content k w) (framed w k) (value_in content k)
    (window_decodes content k w) b
