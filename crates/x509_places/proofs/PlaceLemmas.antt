-- The places of parts, with bytes after them.
use Rattle.std.proofs.Common.{◌≡◌, ℕ, ◌+◌, ◌-◌, ◌≤◌, [], ◌++◌, length, take, drop, Ok, sym, ◌∙◌, ap, subst, refl, arith}
use Rattle.std.proofs.lemmas.List.{append_assoc, length-append, drop_at, take_at, length-take-le, take-append-drop}
use Rattle.std.proofs.Math.Seq.{take-length}
use Rattle.layouts.specs.Bytes.{Bytes}
use Rattle.layouts.specs.Layout.{block}
use Rattle.layouts.specs.Meaning.{EndsWith, Allows}
use Rattle.layouts.proofs.EndLemmas.{ends_after}
use Rattle.x509_places.specs.Place.{IsBefore, Stands}

-- the bytes before a part, those after it, and the count of those before
record Around (b : Bytes) (k : ℕ) (x r : Bytes) : Type 0 where
  front : Bytes
  behind : Bytes
  whole : b ≡ front ++ (x ++ (r ++ behind))
  size : length front ≡ length b - k - length r - length x
  fits : length x + length r ≤ length b - k

around : (b : Bytes) (k : ℕ) (x r : Bytes) → IsBefore b k (x ++ r) → Around b k x r
around b k x r (f, e) =
    let n : ℕ = length b - k in
    let cut : length (take n b) ≡ n = length-take-le n b (omega arith) in
    let all : length (take n b) ≡ length f + (length x + length r) =
    ap length e ∙ length-append f (x ++ r) ∙ ap (λ m. length f + m) (length-append x r) in
    record {
      front = f;
      behind = drop n b;
      whole = sym (take-append-drop n b) ∙ ap (λ y. y ++ drop n b) e
          ∙ append_assoc f (x ++ r) (drop n b)
          ∙ ap (λ y. f ++ y) (append_assoc x r (drop n b));
      size = omega (arith, all, cut);
      fits = omega (arith, all, cut);
    }

stands_before : (b : Bytes) (k : ℕ) (x r : Bytes) → IsBefore b k (x ++ r)
    → Stands b (record { offset = length b - k - length r - length x; length = length x }) x
stands_before b k x r at =
    let a : Around b k x r = around b k x r at in
    let o : ℕ = length b - k - length r - length x in
    let dropped : drop o b ≡ x ++ (r ++ a.behind) = ap (drop o) a.whole
    ∙ drop_at a.front (x ++ (r ++ a.behind)) o a.size in
    record {
      is = ap (take (length x)) dropped ∙ take_at x (r ++ a.behind) (length x) refl;
      within = omega (arith, a.fits);
    }

pub stands_there : (b : Bytes) (k e a o : ℕ) (x r : Bytes) → e ≡ length b - k → a ≡ e - length r
    → o ≡ a - length x
    → IsBefore b k (x ++ r) → Stands b (record { offset = o; length = length x }) x
stands_there b k e a o x r end after is at =
    let same : length b - k - length r - length x ≡ o = omega (arith, end, after, is) in
    subst (λ n. Stands b (record { offset = n; length = length x }) x) same
    (stands_before b k x r at)

-- a part, with what followed it
before_more : (b : Bytes) (k : ℕ) (x r : Bytes) → IsBefore b k (x ++ r)
    → IsBefore b (k + length r) x
before_more b k x r at =
    let a : Around b k x r = around b k x r at in
    let n : ℕ = length b - (k + length r) in
    let size : length (a.front ++ x) ≡ n = length-append a.front x
    ∙ omega (arith, a.size, a.fits) in
    let whole : b ≡ (a.front ++ x) ++ (r ++ a.behind) =
    a.whole ∙ sym (append_assoc a.front x (r ++ a.behind)) in
    (a.front, ap (take n) whole ∙ take_at (a.front ++ x) (r ++ a.behind) n size)

pub before_part : (b : Bytes) (k e a m : ℕ) (x r : Bytes) → e ≡ length b - k → a ≡ e - length r
    → m ≡ length b - a
    → IsBefore b k (x ++ r) → IsBefore b m x
before_part b k e a m x r end after is at =
    let same : length b - (k + length r) ≡ length b - m = omega (arith, end, after, is) in
    subst (λ n. EndsWith (take n b) x) same (before_more b k x r at)

-- the front of bytes, up to an end of them
pub front_is : (i r : Bytes) → EndsWith i r → i ≡ take (length i - length r) i ++ r
front_is i r (f, e) =
    let all : length i ≡ length f + length r = ap length e ∙ length-append f r in
    let front : take (length i - length r) i ≡ f =
    ap (take (length i - length r)) e ∙ take_at f r (length i - length r) (omega (arith, all)) in
    e ∙ ap (λ y. y ++ r) (sym front)

pub taken_before : (b : Bytes) (k : ℕ) (i x r : Bytes) → x ≡ take (length i - length r) i
    → IsBefore b k i
    → EndsWith i r → IsBefore b k (x ++ r)
taken_before b k i x r is at end =
    subst (λ y. IsBefore b k y) (front_is i r end ∙ ap (λ y. y ++ r) (sym is)) at

-- a block, before what follows it
pub content_before : (n : ℕ) (w b x r : Bytes) → EndsWith w b → Allows (block n) b (Ok (x, r))
    → EndsWith w (x ++ r)
unfolding Allows
content_before n w b x r at (d, s) = ends_after w b (x ++ r) at ([], s.1)

-- nothing follows the end of the bytes
pub end_before : (b i : Bytes) → EndsWith b i → IsBefore b 0 i
end_before b i at =
    let same : length b ≡ length b - 0 = omega arith in
    subst (λ n. EndsWith (take n b) i) same (subst (λ y. EndsWith y i) (sym (take-length b)) at)

pub whole_before : (b : Bytes) → IsBefore b 0 b
whole_before b = end_before b b ([], refl)
