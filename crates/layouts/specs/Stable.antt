-- What further bytes can change about an answer, as when segments of a stream arrive.
use Rattle.std.specs.Prelude.{ℕ, ◌-◌, ◌<◌, ◌++◌, length, Ok, Err, ⊤}
use Rattle.layouts.specs.Bytes.{Bytes}
use Rattle.layouts.specs.Layout.{
  Layout,
  done,
  refuse,
  number,
  ignored,
  block,
  left,
  tag,
  window,
  list,
  maybe,
  either,
  complete,
  look,
  chain,
}
use Rattle.layouts.specs.Meaning.{Broken, Lacks, Refuses, Allows}
use Rattle.layouts.specs.declared.result.ErrorKind.{ErrorKind}

-- No part depends on where the bytes end, except by lacking some.
abbrev pub IsStable : {A : Type 0} → Layout A → Type 0
IsStable (done a) = ⊤
IsStable (refuse k) = ⊤
IsStable (number k) = ⊤
IsStable (ignored k) = ⊤
IsStable (block n) = ⊤
IsStable left = ⊥
IsStable (tag t) = ⊤
IsStable (window n l) = ⊤
IsStable (list l) = ⊥
IsStable (maybe l) = ⊥
IsStable (either l m) = ⊥
IsStable (complete l) = ⊥
IsStable (look l) = ⊥
IsStable (chain l f) = IsStable l × ((a : _) → IsStable (f a))

-- The layout is never refused for missing bytes.
abbrev pub NeverLacks : {A : Type 0} → Layout A → Type 0
NeverLacks l = (b : Bytes) (n : ℕ) → Refuses l b (Lacks n) → ⊥

-- The layout is stable, and only its own numbers, skipped bytes, blocks and windows can lack bytes:
-- the content of a complete window lacks none. It has no tags, since the missing bytes of a tag may
-- turn out to differ.
abbrev pub CountsMissing : {A : Type 0} → Layout A → Type 0
CountsMissing (done a) = ⊤
CountsMissing (refuse k) = ⊤
CountsMissing (number k) = ⊤
CountsMissing (ignored k) = ⊤
CountsMissing (block n) = ⊤
CountsMissing left = ⊥
CountsMissing (tag t) = ⊥
CountsMissing (window n l) = NeverLacks l
CountsMissing (list l) = ⊥
CountsMissing (maybe l) = ⊥
CountsMissing (either l m) = ⊥
CountsMissing (complete l) = ⊥
CountsMissing (look l) = ⊥
CountsMissing (chain l f) = CountsMissing l × ((a : _) → CountsMissing (f a))

-- What an answer on b decides about b followed by s.
pub record Decides {A : Type 0} (l : Layout A) (b s : Bytes) : Type 0 where
  -- a value stays, and s is appended to its rest
  pub value : (v : A) (r : Bytes) → Allows l b (Ok (v, r)) → Allows l (b ++ s) (Ok (v, r ++ s))
  -- a broken rule stays broken
  pub broken : (k : ErrorKind) → Allows l b (Err (Broken k)) → Allows l (b ++ s) (Err (Broken k))

-- If n bytes are missing on b, and s has fewer, then the others are missing on b followed by s.
abbrev pub CountsDown : {A : Type 0} → Layout A → Bytes → Bytes → Type 0
CountsDown l b s = (n : ℕ) → Allows l b (Err (Lacks n)) → length s < n
    → Allows l (b ++ s) (Err (Lacks (n - length s)))
