-- What is taken out of the room, or cut, takes no more space.
use Rattle.std.proofs.Common.{◌≡◌, ℕ, zero, suc, ◌+◌, ◌-◌, ◌≤◌, Bool, true, false, cond, ◌||◌, not, Some, List, [], ◌∷◌, length, set, slice_get, filter, remove, refl, ap, arith, length-set}
use Rattle.std.proofs.lemmas.List.{length-map}
use Rattle.tcp_acceptance.specs.Doubtful.{is_side, Doubtful}
use Rattle.tcp_acceptance.specs.Room.{bytes_in, without, IsWithin}
use Rattle.tcp_acceptance.specs.Taking.{judged_again, opened, reasons_then}
use Rattle.tcp_acceptance.specs.declared.known.Heard.{Heard}

bytes_removed : (ks : List Doubtful) (n : ℕ) → bytes_in (remove ks n) ≤ bytes_in ks
bytes_removed [] zero = omega arith
bytes_removed [] (suc n) = omega arith
bytes_removed (k ∷ ks) zero = omega arith
bytes_removed (k ∷ ks) (suc n) = let r = bytes_removed ks n in omega (arith, r)

length_removed : (ks : List Doubtful) (n : ℕ) → length (remove ks n) ≤ length ks
length_removed [] zero = omega arith
length_removed [] (suc n) = omega arith
length_removed (k ∷ ks) zero = omega arith
length_removed (k ∷ ks) (suc n) = let r = length_removed ks n in omega (arith, r)

pub within_removed : (ks : List Doubtful) (n : ℕ) → IsWithin ks → IsWithin (remove ks n)
within_removed ks n h =
    let l = length_removed ks n in let b = bytes_removed ks n in
    (omega (arith, l, h.0), omega (arith, b, h.1))

bytes_filtered : (test : Doubtful → Bool) (ks : List Doubtful)
    → bytes_in (filter test ks) ≤ bytes_in ks
bytes_filtered test [] = omega arith
bytes_filtered test (k ∷ ks) = go (test k) (bytes_filtered test ks)
  where
    go : (b : Bool) → bytes_in (filter test ks) ≤ bytes_in ks
        → bytes_in (cond b (k ∷ filter test ks) (filter test ks)) ≤ length k.bytes + bytes_in ks
    go true r = omega (arith, r)
    go false r = omega (arith, r)

length_filtered : (test : Doubtful → Bool) (ks : List Doubtful)
    → length (filter test ks) ≤ length ks
length_filtered test [] = omega arith
length_filtered test (k ∷ ks) = go (test k) (length_filtered test ks)
  where
    go : (b : Bool) → length (filter test ks) ≤ length ks
        → length (cond b (k ∷ filter test ks) (filter test ks)) ≤ suc (length ks)
    go true r = omega (arith, r)
    go false r = omega (arith, r)

pub within_without : (test : Doubtful → Bool) (ks : List Doubtful) → IsWithin ks
    → IsWithin (without test ks)
within_without test ks h =
    let l = length_filtered (λ k. not (test k)) ks in
    let b = bytes_filtered (λ k. not (test k)) ks in
    (omega (arith, l, h.0), omega (arith, b, h.1))

bytes_judged : (h : Heard) (k : Doubtful) → (judged_again h k).bytes ≡ k.bytes
bytes_judged h k = go (is_side k.sender h.receiver) (not k.reasons.opening)
  where
    go : (b c : Bool)
        → (cond (b || c) k (record k { reasons = reasons_then h k })).bytes ≡ k.bytes
    go true c = refl
    go false true = refl
    go false false = refl

bytes_opened : (h : Heard) (ks : List Doubtful) → bytes_in (opened h ks) ≡ bytes_in ks
bytes_opened h [] = refl
bytes_opened h (k ∷ ks) =
    let one = ap (λ (b : List ℕ). length b) (bytes_judged h k) in let r = bytes_opened h ks in
    omega (arith, one, r)

pub within_opened : (h : Heard) (ks : List Doubtful) → IsWithin ks → IsWithin (opened h ks)
within_opened h ks w =
    let l = length-map ks (judged_again h) in let b = bytes_opened h ks in
    (omega (arith, l, w.0), omega (arith, b, w.1))

-- One is replaced by one with no more bytes.
bytes_set : (ks : List Doubtful) (n : ℕ) (k r : Doubtful) → slice_get ks n ≡ Some k
    → length r.bytes ≤ length k.bytes
    → bytes_in (set ks n r) ≤ bytes_in ks
bytes_set [] n k r e h = omega arith
bytes_set (x ∷ xs) zero k r e h =
    let same : x ≡ k = cc in let s = ap (λ (y : Doubtful). length y.bytes) same in omega (arith, h, s)
bytes_set (x ∷ xs) (suc n) k r e h = let rest = bytes_set xs n k r e h in omega (arith, rest)

pub within_set : (ks : List Doubtful) (n : ℕ) (k r : Doubtful) → slice_get ks n ≡ Some k
    → length r.bytes ≤ length k.bytes → IsWithin ks
    → IsWithin (set ks n r)
within_set ks n k r e h w =
    let l = length-set ks n r in let b = bytes_set ks n k r e h in
    (omega (arith, l, w.0), omega (arith, b, w.1))
