-- Frames are taken off the front of a stream, whatever follows them.
use Rattle.std.proofs.Common.{
  ◌≡◌,
  ℕ,
  zero,
  suc,
  ◌<◌,
  ◌≤◌,
  List,
  [],
  ◌∷◌,
  ◌++◌,
  length,
  Option,
  Some,
  None,
  Bool,
  refl,
  sym,
  ◌∙◌,
  ap,
  arith,
  le_refl,
  append_assoc,
}
use Rattle.std.specs.List.{concat}
use Rattle.layouts.specs.Bytes.{Bytes}
use Rattle.tls_stream.specs.Frames.{Shape, IsTooLarge, FrontTaken, cut, frame_of, frames, front, left, with_frame}
use Rattle.tls_stream.proofs.FrontLemmas.{front_fewer, front_joins, front_stays, large_longer, none_large}

-- what is taken leaves fewer bytes
abbrev pub LeavesFewer : ℕ → Option (Bytes × Bytes) → Type 0
LeavesFewer n (Some x) = length x.1 < n
LeavesFewer n None = Unit {0}

abbrev then_cut : Bytes → List Bytes × Bytes → List Bytes × Bytes
then_cut y c = (y ∷ c.0, c.1)

-- Induction on the length of bytes.
by_length : (P : Bytes → Type 0) → ((b : Bytes) → ((c : Bytes) → length c < length b → P c) → P b)
    → (n : ℕ) (b : Bytes)
    → length b ≤ n → P b
by_length P step zero b h = step b (λ c l. absurd (omega (arith, l, h)))
by_length P step (suc n) b h = step b (λ c l. by_length P step n c (omega (arith, l, h)))

none_cut : (a : Option (Bytes × Bytes)) (more : Bytes → List Bytes × Bytes) (b : Bytes)
    → length b ≤ 0
    → LeavesFewer (length b) a → with_frame a more b ≡ ([], b)
none_cut (Some x) more b h t = absurd (omega (arith, h, t))
none_cut None more b h t = refl

module _ (f : Shape) (takes : 0 < f.header) where
  fewer : (b : Bytes) → LeavesFewer (length b) (front f b)
  fewer b = go (front f b) refl
    where
      go : (a : Option (Bytes × Bytes)) → front f b ≡ a → LeavesFewer (length b) a
      go (Some x) e = front_fewer f b x takes e
      go None e = tt

  -- Any count of at least the length gives the same cut.
  same_cut : (n m : ℕ) (b : Bytes) → length b ≤ n → length b ≤ m → cut f n b ≡ cut f m b
  unfolding cut
  same_cut zero zero b h g = refl
  same_cut zero (suc m) b h g = sym (none_cut (front f b) (cut f m) b h (fewer b))
  same_cut (suc n) zero b h g = none_cut (front f b) (cut f n) b g (fewer b)
  same_cut (suc n) (suc m) b h g = both (front f b) (fewer b) (same_cut n m)
    where
      both : (a : Option (Bytes × Bytes)) → LeavesFewer (length b) a
          → ((c : Bytes) → length c ≤ n → length c ≤ m → cut f n c ≡ cut f m c)
          → with_frame a (cut f n) b ≡ with_frame a (cut f m) b
      both (Some x) t same =
          ap (then_cut x.0) (same x.1 (omega (arith, t, h)) (omega (arith, t, g)))
      both None t same = refl

  -- all frames, and what is left
  abbrev whole : Bytes → List Bytes × Bytes
  whole b = cut f (length b) b

  whole_is : (b : Bytes) → whole b ≡ with_frame (front f b) whole b
  unfolding cut
  whole_is b = same_cut (length b) (suc (length b)) b (le_refl _) (omega arith)
      ∙ each (front f b) (fewer b)
    where
      each : (a : Option (Bytes × Bytes)) → LeavesFewer (length b) a
          → with_frame a (cut f (length b)) b ≡ with_frame a whole b
      each (Some x) t =
          ap (then_cut x.0) (same_cut (length b) (length x.1) x.1 (omega (arith, t)) (le_refl _))
      each None t = refl

  whole_then : (b : Bytes) (a : Option (Bytes × Bytes)) → front f b ≡ a
      → whole b ≡ with_frame a whole b
  whole_then b a e = whole_is b ∙ ap (λ a. with_frame a whole b) e

  pub first_frame : (b y r : Bytes) → front f b ≡ Some (y, r) → (frames f b ≡ y ∷ frames f r)
      × (left f b ≡ left f r)
  unfolding frames left
  first_frame b y r e = let w = whole_then b (Some (y, r)) e in (ap (λ c. c.0) w, ap (λ c. c.1) w)

  pub no_frame : (b : Bytes) → front f b ≡ None → (frames f b ≡ []) × (left f b ≡ b)
  unfolding frames left
  no_frame b e = let w = whole_then b None e in (ap (λ c. c.0) w, ap (λ c. c.1) w)

  -- What is left starts with no frame.
  abbrev LeavesNone : Bytes → Type 0
  LeavesNone b = front f (whole b).1 ≡ None

  none_left : (b : Bytes) → ((c : Bytes) → length c < length b → LeavesNone c) → LeavesNone b
  none_left b again = go (front f b) refl
    where
      go : (a : Option (Bytes × Bytes)) → front f b ≡ a → LeavesNone b
      go None e = ap (λ c. front f c.1) (whole_then b None e) ∙ e
      go (Some x) e = ap (λ c. front f c.1) (whole_then b (Some x) e)
          ∙ again x.1 (front_fewer f b x takes e)

  pub left_has_none : (b : Bytes) → front f (left f b) ≡ None
  unfolding left
  left_has_none b = by_length LeavesNone none_left (length b) b (le_refl _)

  -- The frames, joined, followed by what is left, are the bytes.
  abbrev IsJoined : Bytes → Type 0
  IsJoined b = concat (whole b).0 ++ (whole b).1 ≡ b

  join_whole : (b : Bytes) → ((c : Bytes) → length c < length b → IsJoined c) → IsJoined b
  join_whole b again = go (front f b) refl
    where
      go : (a : Option (Bytes × Bytes)) → front f b ≡ a → IsJoined b
      go None e = ap (λ c. concat c.0 ++ c.1) (whole_then b None e)
      go (Some x) e =
          ap (λ c. concat c.0 ++ c.1) (whole_then b (Some x) e)
          ∙ append_assoc x.0 (concat (whole x.1).0) (whole x.1).1
          ∙ ap (λ r. x.0 ++ r) (again x.1 (front_fewer f b x takes e))
          ∙ front_joins f b x e

  pub frames_joined : (b : Bytes) → concat (frames f b) ++ left f b ≡ b
  unfolding frames left
  frames_joined b = by_length IsJoined join_whole (length b) b (le_refl _)

  -- what is cut, and then more bytes after what is left
  abbrev and_more : List Bytes × Bytes → Bytes → List Bytes × Bytes
  and_more c s = (c.0 ++ (whole (c.1 ++ s)).0, (whole (c.1 ++ s)).1)

  abbrev TakesMore : Bytes → Bytes → Type 0
  TakesMore s b = whole (b ++ s) ≡ and_more (whole b) s

  more_whole : (s b : Bytes) → ((c : Bytes) → length c < length b → TakesMore s c) → TakesMore s b
  more_whole s b again = go (front f b) refl
    where
      go : (a : Option (Bytes × Bytes)) → front f b ≡ a → TakesMore s b
      go None e = sym (ap (λ c. and_more c s) (whole_then b None e))
      go (Some x) e =
          whole_then (b ++ s) (Some (x.0, x.1 ++ s)) (front_stays f b s x e)
          ∙ ap (then_cut x.0) (again x.1 (front_fewer f b x takes e))
          ∙ sym (ap (λ c. and_more c s) (whole_then b (Some x) e))

  pub more_frames : (b s : Bytes) → frames f (b ++ s) ≡ frames f b ++ frames f (left f b ++ s)
  unfolding frames left
  more_frames b s = ap (λ c. c.0) (by_length (TakesMore s) (more_whole s) (length b) b (le_refl _))

  pub more_fed : (b s new : Bytes) → new ≡ b ++ s
      → frames f new ≡ frames f b ++ frames f (left f b ++ s)
  more_fed b s new is = ap (frames f) is ∙ more_frames b s

  pub more_left : (b s : Bytes) → left f (b ++ s) ≡ left f (left f b ++ s)
  unfolding left
  more_left b s = ap (λ c. c.1) (by_length (TakesMore s) (more_whole s) (length b) b (le_refl _))

  -- After a length that is too large no bytes make a frame.
  pub none_behind_large : (b s : Bytes) → IsTooLarge f b
      → (frames f (b ++ s) ≡ []) × (left f (b ++ s) ≡ b ++ s)
  none_behind_large b s large = no_frame (b ++ s) (none_large f (b ++ s) (large_longer f b s large))

  -- Taking one frame.
  pub record FirstTaken (b y new : Bytes) : Type 0 where
    pub frames_are : frames f b ≡ y ∷ frames f new
    pub left_is : left f b ≡ left f new
    pub fewer : length new < length b

  pub first_taken : (b y new : Bytes) (t : Bool) → Some y ≡ frame_of (front f b)
      → FrontTaken (front f b) b t new
      → FirstTaken b y new
  first_taken b y new t is takes_it = go (front f b) refl is takes_it
    where
      go : (a : Option (Bytes × Bytes)) → front f b ≡ a → Some y ≡ frame_of a → FrontTaken a b t new
          → FirstTaken b y new
      go None read s h = absurd cc
      go (Some x) read s h =
          let same : y ≡ x.0 = cc in
          let one = first_frame b x.0 x.1 read in
          let rest : new ≡ x.1 = h.1 in
          record {
            frames_are = one.0 ∙ ap (λ r. x.0 ∷ frames f r) (sym rest)
                ∙ ap (λ g. g ∷ frames f new) (sym same);
            left_is = one.1 ∙ ap (left f) (sym rest);
            fewer = omega (arith, front_fewer f b x takes read, ap length rest);
          }

  pub none_taken : (b : Bytes) → None ≡ frame_of (front f b) → (frames f b ≡ []) × (left f b ≡ b)
  none_taken b is = no_frame b (go (front f b) is)
    where
      go : (a : Option (Bytes × Bytes)) → None ≡ frame_of a → a ≡ None
      go (Some x) s = absurd cc
      go None s = refl
