-- Moving bytes within one buffer.
use Rattle.std.proofs.Common.{◌≡◌, ℕ, ◌+◌, ◌-◌, ◌≤◌, List, ◌++◌, [], length, take, drop, refl, sym, ◌∙◌, ap, arith}
use Rattle.std.specs.List.{copy_within}
use Rattle.std.proofs.Math.Seq.{drop-append_seam, paste, take-add, take-length}
use Rattle.std.proofs.lemmas.List.{
  drop-take,
  drop-drop,
  drop-append-le,
  length-append,
  length-drop,
  length-take-le,
  take-append-le,
  take-take,
}
use Rattle.std.proofs.lemmas.List.Edits.{take-paste, drop-paste, length-paste}
use Rattle.layouts.specs.Bytes.{Bytes}
use Rattle.tls_stream.specs.Held.{Held}

pub both : {a b c d : Bytes} → a ≡ b → c ≡ d
    → ◌≡◌ {A = Held} (record { part = a; unread = c }) (record { part = b; unread = d })
both {b = b} {c = c} e f = ap (λ x. record { part = x; unread = c }) e
    ∙ ap (λ x. record { part = b; unread = x }) f

part_moved : (b s : Bytes) (p e n : ℕ) → p ≤ e → e ≤ length b → n ≤ length s
    → take (e + n - p) (drop p (paste b e s n)) ≡ take (e - p) (drop p b) ++ take n s
part_moved b s p e n low high few =
    let all : e + n ≡ p + (e + n - p) = omega arith in
    let first : e ≡ p + (e - p) = omega arith in
    sym (drop-take p (e + n - p) (paste b e s n))
    ∙ ap (λ k. drop p (take k (paste b e s n))) (sym all)
    ∙ ap (drop p) (take-paste b e s n high few)
    ∙ drop-append-le p (take e b) (take n s) (omega (arith, length-take-le e b high))
    ∙ ap (λ k. drop p (take k b) ++ take n s) first
    ∙ ap (λ x. x ++ take n s) (drop-take p (e - p) b)

-- The n bytes of the fragment after the header at u are moved to the end e of the part, which
-- starts at p.
pub joined_part : (b : Bytes) (p e u n : ℕ) → p ≤ e → e ≤ u → 5 + n ≤ length (drop u b)
    → take (e + n - p) (drop p (copy_within b (u + 5) (u + 5 + n) e)) ≡ take (e - p) (drop p b)
    ++ take n (drop 5 (drop u b))
joined_part b p e u n low mid within =
    let count : u + 5 + n - (u + 5) ≡ n = omega arith in
    let enough : n ≤ length (drop (u + 5) b) =
    omega (arith, within, length-drop u b, length-drop (u + 5) b) in
    let high : e ≤ length b = omega (arith, mid, within, length-drop u b) in
    ap (λ k. take (e + n - p) (drop p (paste b e (drop (u + 5) b) k))) count
    ∙ part_moved b (drop (u + 5) b) p e n low high enough
    ∙ ap (λ x. take (e - p) (drop p b) ++ take n x) (sym (drop-drop 5 u b))

pub joined_unread : (b : Bytes) (e u n : ℕ) → e ≤ u → 5 + n ≤ length (drop u b)
    → drop (u + 5 + n) (copy_within b (u + 5) (u + 5 + n) e) ≡ drop (5 + n) (drop u b)
joined_unread b e u n mid within =
    let s = drop (u + 5) b in
    let count : u + 5 + n - (u + 5) ≡ n = omega arith in
    let enough : n ≤ length s = omega (arith, within, length-drop u b, length-drop (u + 5) b) in
    let high : e ≤ length b = omega (arith, mid, within, length-drop u b) in
    let all : u + 5 + n ≡ (e + n) + (u + 5 - e) = omega arith in
    ap (λ k. drop (u + 5 + n) (paste b e s k)) count
    ∙ ap (λ k. drop k (paste b e s n)) all
    ∙ sym (drop-drop (u + 5 - e) (e + n) (paste b e s n))
    ∙ ap (drop (u + 5 - e)) (drop-paste b e s n high enough)
    ∙ drop-drop (u + 5 - e) (e + n) b
    ∙ ap (λ k. drop k b) (sym all ∙ same)
    ∙ sym (drop-drop (5 + n) u b)
  where
    same : u + 5 + n ≡ u + (5 + n)
    same = omega arith

-- The fragment isn't moved if no message is open.
pub stays_part : (b : Bytes) (p e u n : ℕ) → p ≡ e
    → take (u + 5 + n - (u + 5)) (drop (u + 5) b) ≡ take (e - p) (drop p b) ++ take n
    (drop 5 (drop u b))
stays_part b p e u n same =
    let count : u + 5 + n - (u + 5) ≡ n = omega arith in
    let none : e - p ≡ 0 = omega arith in
    ap (λ k. take k (drop (u + 5) b)) count
    ∙ ap (take n) (sym (drop-drop 5 u b))
    ∙ ap (λ k. take k (drop p b) ++ take n (drop 5 (drop u b))) (sym none)

pub stays_unread : (b : Bytes) (u n : ℕ) → drop (u + 5 + n) b ≡ drop (5 + n) (drop u b)
stays_unread b u n = let same : u + 5 + n ≡ u + (5 + n) =
    omega arith in ap (λ k. drop k b) same ∙ sym (drop-drop (5 + n) u b)

-- The buffered bytes, moved to the beginning.
moved : (b : Bytes) (p k u m : ℕ) → p + k ≤ u → u + m ≡ length b
    → take (k + m) (paste (paste b 0 (drop p b) k) k (drop u (paste b 0 (drop p b) k)) m) ≡ take
    k (drop p b)
    ++ drop u b
moved b p k u m low all =
    let s = drop p b in
    let few : k ≤ length s = omega (arith, low, all, length-drop p b) in
    let one = paste b 0 s k in
    let same : length one ≡ length b = length-paste b 0 s k (omega (arith, low, all)) few in
    let at : k ≡ 0 + k = omega arith in
    let first : take k one ≡ take k s = ap (λ i. take i one) at
    ∙ take-paste b 0 s k (omega arith) few in
    let far : u ≡ (0 + k) + (u - k) = omega (arith, low) in
    let others : drop u one ≡ drop u b =
    ap (λ i. drop i one) far ∙ sym (drop-drop (u - k) (0 + k) one)
    ∙ ap (drop (u - k)) (drop-paste b 0 s k (omega arith) few) ∙ drop-drop (u - k) (0 + k) b
    ∙ ap (λ i. drop i b) (sym far) in
    let rest : m ≡ length (drop u b) = omega (arith, all, length-drop u b) in
    take-paste one k (drop u one) m (omega (arith, same, low, all))
    (omega (arith, rest, ap length others))
    ∙ ap (λ x. x ++ take m (drop u one)) first
    ∙ ap (λ x. take k s ++ take m x) others
    ∙ ap (λ i. take k s ++ take i (drop u b)) rest
    ∙ ap (λ x. take k s ++ x) (take-length (drop u b))

pub part_taken : (b : Bytes) (p e n : ℕ) → p ≤ e → n ≤ length (take (e - p) (drop p b))
    → e ≤ length b
    → take (e - (p + n)) (drop (p + n) b) ≡ drop n (take (e - p) (drop p b))
part_taken b p e n low few high =
    let size : length (take (e - p) (drop p b)) ≡ e - p =
    length-take-le (e - p) (drop p b) (omega (arith, high, low, length-drop p b)) in
    let all : e - p ≡ n + (e - (p + n)) = omega (arith, few, size, low) in
    ap (take (e - (p + n))) (sym (drop-drop n p b))
    ∙ sym (drop-take n (e - (p + n)) (drop p b))
    ∙ ap (λ k. drop n (take k (drop p b))) (sym all)

-- After the move the bytes are the same.
pub moved_part : (b c : Bytes) (p k u : ℕ) → k ≤ length (drop p b)
    → c ≡ take k (drop p b) ++ drop u b
    → take k (drop 0 c) ≡ take k (drop p b)
moved_part b c p k u few is =
    ap (λ c. take k c) is
    ∙ take-append-le k (take k (drop p b)) (drop u b)
    (omega (arith, length-take-le k (drop p b) few))
    ∙ take-take k k (drop p b) (omega arith)

pub moved_unread : (b c : Bytes) (p k u : ℕ) → k ≤ length (drop p b)
    → c ≡ take k (drop p b) ++ drop u b
    → drop k c ≡ drop u b
moved_unread b c p k u few is =
    ap (drop k) is
    ∙ ap (λ i. drop i (take k (drop p b) ++ drop u b)) (sym (length-take-le k (drop p b) few))
    ∙ drop-append_seam (take k (drop p b)) (drop u b)

pub room : (b c1 c2 c : Bytes) (p e u n : ℕ) → p ≤ e → e ≤ u → u ≤ length b → n ≡ length b
    → c1 ≡ copy_within b p e 0 → c2 ≡ copy_within c1 u (length c1) (e - p)
    → c ≡ take (e - p + (n - u)) c2
    → c ≡ take (e - p) (drop p b) ++ drop u b
room b c1 c2 c p e u n low mid high all first second third =
    let k = e - p in
    let one = paste b 0 (drop p b) k in
    let few : k ≤ length (drop p b) = omega (arith, low, mid, high, length-drop p b) in
    let same : length c1 ≡ length b = ap length first
    ∙ length-paste b 0 (drop p b) k (omega (arith, low, mid, high)) few in
    let count : length c1 - u ≡ n - u = omega (arith, same, all) in
    third
    ∙ ap (take (k + (n - u))) (second ∙ ap (λ m. paste c1 k (drop u c1) m) count
    ∙ ap (λ x. paste x k (drop u x) (n - u)) first)
    ∙ moved b p k u (n - u) (omega (arith, low, mid)) (omega (arith, high, all))

-- The part is moved to the fragment: k bytes of s to the new start e, before n bytes of b.
pub pushed_part : (b s : Bytes) (e k n : ℕ) → e + k ≤ length b → k ≤ length s
    → take (k + n) (drop e (paste b e s k)) ≡ take k s ++ take n (drop (e + k) b)
pushed_part b s e k n high few =
    let c = drop e (paste b e s k) in
    let within : e ≤ length b = omega (arith, high) in
    let first : take k c ≡ take k s =
    sym (drop-take e k (paste b e s k))
    ∙ ap (drop e) (take-paste b e s k within few)
    ∙ ap (λ m. drop m (take e b ++ take k s)) (sym (length-take-le e b within))
    ∙ drop-append_seam (take e b) (take k s) in
    let behind : drop k c ≡ drop (e + k) b =
    drop-drop k e (paste b e s k) ∙ drop-paste b e s k within few in
    take-add k n c ∙ ap (λ x. x ++ take n (drop k c)) first ∙ ap (λ x. take k s ++ take n x) behind

module _ (b : Bytes) (p e u n : ℕ) (low : p ≤ e) (mid : e ≤ u)
    (within : 5 + n ≤ length (drop u b)) where
  abbrev open_length : ℕ
  open_length = e - p

  abbrev new_start : ℕ
  new_start = u + 5 - (e - p)

  reaches : new_start + open_length ≡ u + 5
  reaches = omega (arith, low, mid)

  fits : new_start + open_length ≤ length b
  fits = omega (arith, low, mid, within, length-drop u b)

  enough : open_length ≤ length (drop p b)
  enough = omega (arith, low, mid, within, length-drop u b, length-drop p b)

  pub pushed_joined : take (u + 5 + n - new_start) (drop new_start (copy_within b p e new_start))
      ≡ take open_length (drop p b) ++ take n (drop 5 (drop u b))
  pushed_joined =
      let count : u + 5 + n - new_start ≡ open_length + n = omega (arith, low, mid) in
      ap (λ m. take m (drop new_start (paste b new_start (drop p b) open_length))) count
      ∙ pushed_part b (drop p b) new_start open_length n fits enough
      ∙ ap (λ m. take open_length (drop p b) ++ take n (drop m b)) reaches
      ∙ ap (λ x. take open_length (drop p b) ++ take n x) (sym (drop-drop 5 u b))

  pub pushed_unread : drop (u + 5 + n) (copy_within b p e new_start) ≡ drop (5 + n) (drop u b)
  pushed_unread =
      let c = paste b new_start (drop p b) open_length in
      let same : u + 5 + n ≡ u + (5 + n) = omega arith in
      ap (λ m. drop (m + n) c) (sym reaches)
      ∙ sym (drop-drop n (new_start + open_length) c)
      ∙ ap (drop n) (drop-paste b new_start (drop p b) open_length (omega (arith, fits)) enough)
      ∙ drop-drop n (new_start + open_length) b
      ∙ ap (λ m. drop (m + n) b) reaches
      ∙ ap (λ m. drop m b) same
      ∙ sym (drop-drop (5 + n) u b)
