-- Missing bytes: if any are missing, at least one is. Which layouts never lack bytes.
use Rattle.std.proofs.Common.{◌≡◌, ◌≢◌, ℕ, ◌-◌, ◌<◌, [], ◌∷◌, ◌++◌, length, refl, ap, inl, inr, arith}
use Rattle.layouts.specs.Bytes.{Bytes}
use Rattle.layouts.specs.Layout.{
  Layout,
  done,
  refuse,
  number,
  ignored,
  block,
  left,
  tag,
  window,
  list,
  maybe,
  either,
  complete,
  look,
  chain,
  behind,
  list1,
  rest,
}
use Rattle.layouts.specs.Meaning.{Broken, Lacks, Refuses}
use Rattle.layouts.specs.Stable.{NeverLacks}
use Rattle.layouts.specs.declared.result.ErrorKind.{ErrorKind}
use Rattle.layouts.specs.declared.result.ErrorKind.TheVariants.{Complete}

block_lacks : (k n : ℕ) (b : Bytes) → Refuses (block k) b (Lacks n) → 0 < n
block_lacks k n b h = let is : n ≡ k - length b = (let e = h.1 in cc) in omega (arith, h.0)

not_broken : (n : ℕ) (k : ErrorKind) → Lacks n ≡ Broken k → 0 < n
not_broken n k e = cc

some_length : (xs : Bytes) → xs ≢ [] → 0 < length xs
some_length [] h = absurd (h refl)
some_length (x ∷ xs) h = omega arith

tag_lacks : (t b : Bytes) (n : ℕ) → Refuses (tag t) b (Lacks n) → 0 < n
tag_lacks t b n (inl h) = not_broken n _ h.8
tag_lacks t b n (inr (missing, some, e, is)) =
    let same : n ≡ length missing = cc in omega (arith, some_length missing some)

pub lacks_some : {A : Type 0} (l : Layout A) (b : Bytes) (n : ℕ) → Refuses l b (Lacks n) → 0 < n
lacks_some (done a) b n h = absurd h
lacks_some (refuse k) b n h = not_broken n k h
lacks_some (number k) b n h = block_lacks k n b h
lacks_some (ignored k) b n h = block_lacks k n b h
lacks_some (block k) b n h = block_lacks k n b h
lacks_some left b n h = absurd h
lacks_some (tag t) b n h = tag_lacks t b n h
lacks_some (window k l) b n (inl h) = block_lacks k n b h
lacks_some (window k l) b n (inr h) = lacks_some l h.0 n h.4
lacks_some (list l) b n h = absurd h
lacks_some (maybe l) b n h = absurd h
lacks_some (either l m) b n h = not_broken n _ h.2
lacks_some (complete l) b n (inl h) = not_broken n _ h.2
lacks_some (complete l) b n (inr h) = not_broken n _ h.2
lacks_some (look l) b n h = lacks_some l b n h
lacks_some (chain l f) b n (inl h) = lacks_some l b n h
lacks_some (chain l f) b n (inr h) = lacks_some (f h.0) h.1 n h.4

-- Layouts that never lack bytes.
pub never-done : {A : Type 0} (a : A) → NeverLacks (done a)
never-done a b n h = h

pub never-refuse : (A : Type 0) (k : ErrorKind) → NeverLacks (refuse {A = A} k)
never-refuse A k b n h = cc

pub never-complete : {A : Type 0} (l : Layout A) → NeverLacks (complete l)
never-complete l b n (inl h) = let e : Lacks n ≡ Broken h.0 = h.2 in cc
never-complete l b n (inr h) = let e : Lacks n ≡ Broken Complete = h.2 in cc

pub never-list : {A : Type 0} (l : Layout A) → NeverLacks (list l)
never-list l b n h = h

pub never-chain : {A B : Type 0} (l : Layout A) (f : A → Layout B) → NeverLacks l
    → ((a : A) → NeverLacks (f a))
    → NeverLacks (chain l f)
never-chain l f first then b n (inl h) = first b n h
never-chain l f first then b n (inr h) = then h.0 h.1 n h.4

pub never-rest : NeverLacks rest
never-rest b n (inl h) = h
never-rest b n (inr (a, m, d, s, h)) =
    let same : a ≡ length b = s.0 in let all : length b ≡ length m = ap length s.1 in
    omega (arith, h.0)

pub never-list1 : {A : Type 0} (l : Layout A) → NeverLacks (list1 l)
never-list1 l =
    never-chain (complete l) (λ x. behind (x ∷ []) (list l)) (never-complete l)
    (λ x. never-chain (list l) (λ ys. done ((x ∷ []) ++ ys)) (never-list l)
    (λ ys. never-done ((x ∷ []) ++ ys)))
