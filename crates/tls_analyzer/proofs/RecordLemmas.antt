-- Counting records byte by byte.
use Rattle.std.proofs.Common.{◌≡◌, ℕ, zero, suc, ◌+◌, ◌-◌, ◌≤◌, List, [], ◌∷◌, length, drop, refl, sym}
use Rattle.std.proofs.Common.{◌∙◌, ap, arith, true, rules, nat_lt}
use Rattle.std.proofs.lemmas.List.{drop-drop, length-drop}
use Rattle.tls_analyzer.specs.Records.{with_byte, with_bytes}
use Rattle.tls_analyzer.specs.declared.records.RecordCounter.{RecordCounter}

-- The bytes of a fragment only change how many are left.
passed_front : (n : ℕ) (bs : List ℕ) (r : RecordCounter) → n ≤ r.left → n ≤ length bs
    → with_bytes bs r ≡ with_bytes (drop n bs) (record r { left = r.left - n })
passed_front zero bs r h k = ap (λ n. with_bytes bs (record r { left = n }))
    (let e : r.left ≡ r.left - 0 = omega arith in e)
passed_front (suc n) [] r h k = absurd (omega (arith, k))
passed_front (suc n) (b ∷ bs) r h k =
    let more : nat_lt 0 r.left ≡ true = search rules in
    let one : with_byte b r ≡ record r { left = r.left - 1 } = rw more refl in
    let less : (r.left - 1) - n ≡ r.left - suc n = omega arith in
    ap (with_bytes bs) one
    ∙ passed_front n bs (record r { left = r.left - 1 }) (omega (arith, h)) (omega (arith, k))
    ∙ ap (λ m. with_bytes (drop n bs) (record r { left = m })) less

-- Some of them are skipped.
pub passed : (n i : ℕ) (bs : List ℕ) (r s : RecordCounter) (all : RecordCounter) → n ≤ r.left
    → i + n ≤ length bs
    → s ≡ record r { left = r.left - n }
    → with_bytes (drop i bs) r ≡ all → with_bytes (drop (i + n) bs) s ≡ all
passed n i bs r s all h k s_is inv =
    let some = length-drop i bs in
    let both : drop n (drop i bs) ≡ drop (i + n) bs = drop-drop n i bs
    ∙ ap (λ m. drop m bs) (let e : i + n ≡ i + n = refl in e) in
    ap (with_bytes (drop (i + n) bs)) s_is
    ∙ ap (λ l. with_bytes l (record r { left = r.left - n })) (sym both)
    ∙ sym (passed_front n (drop i bs) r h (omega (arith, some, k)))
    ∙ inv
