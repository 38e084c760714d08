-- Frames are taken off a stream while it is fed.
use Rattle.std.proofs.Common.{
  ◌≡◌,
  ℕ,
  suc,
  ◌+◌,
  ◌<◌,
  List,
  [],
  ◌∷◌,
  ◌++◌,
  length,
  take,
  drop,
  get_or,
  Some,
  Bool,
  refl,
  sym,
  ◌∙◌,
  ap,
  subst,
  ◌⊎◌,
  inl,
  inr,
  arith,
  append_assoc,
  append-nil,
}
use Rattle.std.specs.Borrow.{Bor}
use Rattle.std.specs.Global.{Vec}
use Rattle.std.proofs.lemmas.List.{map-append, take-append-drop}
use Rattle.std.proofs.lemmas.Grind.{flat_map-append}
use Rattle.std.proofs.Math.Seq.{take-suc}
use Rattle.layouts.specs.Bytes.{Bytes}
use Rattle.tls_stream.specs.Frames.{
  Shape,
  IsTooLarge,
  FrontTaken,
  IsSplit,
  cut,
  elements,
  frame_of,
  frames,
  front,
  joined,
  left,
}
use Rattle.tls_stream.proofs.FrontLemmas.{large_longer}
use Rattle.tls_stream.proofs.FrameLemmas.{first_taken, more_frames, more_left, none_behind_large}

-- one more piece
pub joined_next : (pieces : List (Bor (List ℕ))) (i : ℕ) (d : Bor (List ℕ)) → i < length pieces
    → joined (take (i + 1) pieces) ≡ joined (take i pieces) ++ (get_or pieces i d).now
joined_next pieces i d h =
    let one : i + 1 ≡ suc i = omega arith in
    ap (λ k. joined (take k pieces)) one
    ∙ ap joined (take-suc pieces i d h)
    ∙ flat_map-append (λ p. p.now) (take i pieces) (get_or pieces i d ∷ [])
    ∙ ap (λ q. joined (take i pieces) ++ q) (append-nil (get_or pieces i d).now)

-- the end of the stream
pub taken_all : (f : Shape) (vs : List Bytes) (b : Bytes) (all : List Bytes) (end : Bytes)
    → (frames f b ≡ []) × (left f b ≡ b) → (vs ++ frames f b ≡ all) × (left f b ≡ end)
    → (vs ≡ all) × (b ≡ end)
taken_all f vs b all end none was =
    (sym (append-nil vs) ∙ ap (λ r. vs ++ r) (sym none.0) ∙ was.0, sym none.1 ∙ was.1)

-- The frames taken and the bytes held after x was fed.
abbrev pub IsCut : Shape → Bytes → List Bytes → Bytes → Type 0
IsCut f x taken held = (taken ≡ frames f x) × (held ≡ left f x)

-- no piece
pub cut_none : (f : Shape) → IsCut f [] [] []
unfolding frames left cut
cut_none f = (refl, refl)

module _ (f : Shape) (takes : 0 < f.header) where
  -- a frame moves from the front of the stream to the end of the list
  pub taken_more : (vs : List (Vec ℕ)) (v : Vec ℕ) (now : List (Vec ℕ)) (b y new : Bytes) (t : Bool)
      (all : List Bytes) →
      now ≡ vs ++ v ∷ [] → v.items ≡ y → Some y ≡ frame_of (front f b)
      → FrontTaken (front f b) b t new →
      elements vs ++ frames f b ≡ all → elements now ++ frames f new ≡ all
  taken_more vs v now b y new t all pushed same stood off was =
      let one = first_taken f takes b y new t stood off in
      ap (λ n. elements n ++ frames f new) pushed
      ∙ ap (λ e. e ++ frames f new) (map-append (λ v. v.items) vs (v ∷ []))
      ∙ append_assoc (elements vs) (v.items ∷ []) (frames f new)
      ∙ ap (λ g. elements vs ++ (g ∷ frames f new)) same
      ∙ ap (λ r. elements vs ++ r) (sym one.frames_are)
      ∙ was

  pub cut_more : (x p : Bytes) (taken taken' : List Bytes) (held fed held' : Bytes)
      → IsCut f x taken held
      → fed ≡ held ++ p → (taken' ≡ taken ++ frames f fed) × (held' ≡ left f fed)
      → IsCut f (x ++ p) taken' held'
  cut_more x p taken taken' held fed held' is feeds off =
      let same : fed ≡ left f x ++ p = feeds ∙ ap (λ h. h ++ p) is.1 in (
        off.0 ∙ ap (λ t. t ++ frames f fed) is.0 ∙ ap (λ r. frames f x ++ frames f r) same
            ∙ sym (more_frames f takes x p),
        off.1 ∙ ap (left f) same ∙ sym (more_left f takes x p),
      )

  pub cut_next : (pieces : List (Bor (List ℕ))) (i : ℕ) (d : Bor (List ℕ))
      (taken taken' : List Bytes)
      (held fed held' : Bytes) → i < length pieces →
      IsCut f (joined (take i pieces)) taken held → fed ≡ held ++ (get_or pieces i d).now
      → (taken' ≡ taken ++ frames f fed) × (held' ≡ left f fed)
      → IsCut f (joined (take (i + 1) pieces)) taken' held'
  cut_next pieces i d taken taken' held fed held' h is feeds off =
      subst (λ x. IsCut f x taken' held') (sym (joined_next pieces i d h))
      (cut_more (joined (take i pieces)) (get_or pieces i d).now taken taken' held fed held'
      is feeds off)

  -- after a length that is too large no frame can follow
  pub cut_large : (pieces : List (Bor (List ℕ))) (i : ℕ) (taken : List Bytes) (held : Bytes)
      → IsTooLarge f held
      → IsCut f (joined (take i pieces)) taken held → IsSplit f (joined pieces) taken held
  cut_large pieces i taken held large is =
      let x = joined (take i pieces) in
      let y = joined (drop i pieces) in
      let both : joined pieces ≡ x ++ y = ap joined (sym (take-append-drop i pieces))
      ∙ flat_map-append (λ p. p.now) (take i pieces) (drop i pieces) in
      let at_left : IsTooLarge f (left f x) = subst (IsTooLarge f) is.1 large in
      let no_more = none_behind_large f takes (left f x) y at_left in
      record {
        taken_are = is.0 ∙ sym (append-nil (frames f x)) ∙ ap (λ r. frames f x ++ r) (sym no_more.0)
            ∙ sym (more_frames f takes x y) ∙ ap (frames f) (sym both);
        held_is = inr (
          large,
          (
            y,
            ap (left f) both ∙ more_left f takes x y ∙ no_more.1
                ∙ ap (λ h. h ++ y) (sym is.1),
          ),
        );
      }

-- Two ways to cut the same bytes.
pub same_taken : (f : Shape) (x y : Bytes) (taken taken' : List Bytes) (held held' : Bytes) → x ≡ y
    → IsSplit f x taken held → IsSplit f y taken' held' → taken ≡ taken'
same_taken f x y taken taken' held held' same a b = a.taken_are ∙ ap (frames f) same
    ∙ sym b.taken_are

pub same_held : (f : Shape) (x y : Bytes) (taken taken' : List Bytes) (held held' : Bytes) → x ≡ y
    → IsSplit f x taken held → IsSplit f y taken' held' → (IsTooLarge f held → ⊥) → held ≡ held'
same_held f x y taken taken' held held' same a b small = go a.held_is b.held_is
  where
    go : (held ≡ left f x) ⊎ (IsTooLarge f held × ((s : Bytes) × (left f x ≡ held ++ s)))
        → (held' ≡ left f y) ⊎ (IsTooLarge f held' × ((s : Bytes) × (left f y ≡ held' ++ s)))
        → held ≡ held'
    go (inr large) other = absurd (small large.0)
    go (inl all) (inl all') = all ∙ ap (left f) same ∙ sym all'
    go (inl all) (inr part) =
        let is : held ≡ held' ++ part.1.0 = all ∙ ap (left f) same ∙ part.1.1 in
        absurd (small (subst (IsTooLarge f) (sym is) (large_longer f held' part.1.0 part.0)))
