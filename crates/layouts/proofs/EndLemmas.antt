-- The rest that a layout leaves is a suffix of the bytes.
use Rattle.std.proofs.Common.{[], ◌∷◌, ◌++◌, Some, None, sym, ◌∙◌, ap, subst, inl, inr, append_assoc}
use Rattle.layouts.specs.Bytes.{Bytes, AreBytes, bytes_of}
use Rattle.layouts.specs.Layout.{
  Layout,
  done,
  refuse,
  number,
  ignored,
  block,
  left,
  tag,
  window,
  list,
  maybe,
  either,
  complete,
  look,
  chain,
}
use Rattle.layouts.specs.Meaning.{Spelling, SpellsItems, SpellsOption, Spells, EndsWith}
use Rattle.layouts.proofs.NumberLemmas.{AreBytes-back}

pub ends_after : (b m r : Bytes) → EndsWith b m → EndsWith m r → EndsWith b r
ends_after b m r (f, e) (g, h) = (f ++ g, e ∙ ap (λ x. f ++ x) h ∙ sym (append_assoc f g r))

-- every rest that S allows is a suffix of the bytes
abbrev LeavesEnds : {A : Type 0} → Spelling A → Type 0
LeavesEnds {A} S = (b : Bytes) (v : A) (r d : Bytes) → S b v r d → EndsWith b r

ends_items : {A : Type 0} (S : Spelling A) → LeavesEnds S → LeavesEnds (SpellsItems S)
ends_items S item b [] r d s = ([], s.0)
ends_items S item b (v ∷ vs) r d (m, d1, d2, first, more, e) =
    ends_after b m r (item b v m d1 first.0) (ends_items S item m vs r d2 more)

ends_option : {A : Type 0} (S : Spelling A) → LeavesEnds S → LeavesEnds (SpellsOption S)
ends_option S item b None r d s = ([], s.0)
ends_option S item b (Some v) r d s = item b v r d s

pub ends : {A : Type 0} (l : Layout A) → LeavesEnds (Spells l)
ends (done a) b v r d s = ([], s.1)
ends (refuse e) b v r d s = absurd s
ends (number k) b v r d s = (bytes_of k v, s.1)
ends (ignored k) b v r d s = (d, s.1)
ends (block n) b v r d s = (v, s.1)
ends left b v r d s = ([], s.1)
ends (tag t) b v r d s = (t, s.0)
ends (window n l) b v r d (w, e, f, h, g, i, j) = (w, g)
ends (list l) b v r d s = ends_items (Spells l) (ends l) b v r d s
ends (maybe l) b v r d s = ends_option (Spells l) (ends l) b v r d s
ends (either l m) b v r d (inl s) = ends l b v r d s
ends (either l m) b v r d (inr s) = ends m b v r d s.1
ends (complete l) b v r d s = ends l b v r d s
ends (look l) b v r d s = ([], s.0)
ends (chain l f) b v r d (a, m, d1, d2, s, t, e) =
    ends_after b m r (ends l b a m d1 s) (ends (f a) m v r d2 t)

pub AreBytes-rest : {A : Type 0} (l : Layout A) (b : Bytes) (v : A) (r d : Bytes) → Spells l b v r d
    → AreBytes b
    → AreBytes r
AreBytes-rest l b v r d s are =
    let end : EndsWith b r = ends l b v r d s in AreBytes-back end.0 r (subst AreBytes end.1 are)
