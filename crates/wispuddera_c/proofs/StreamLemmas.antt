-- The bytes in a buffer.
use Rattle.std.proofs.Common.{◌≡◌, ◌-◌, ◌+◌, ◌≤◌, ◌++◌, ℕ, length, drop, take, subst, ◌∙◌, ap, ap₂, arith}
use Rattle.std.proofs.Math.Seq.{paste}
use Rattle.std.proofs.lemmas.List.{take_all, length-take-le, length-drop}
use Rattle.std.proofs.lemmas.List.Edits.{take-paste, length-paste}
use Rattle.layouts.specs.Bytes.{Bytes}
use Rattle.layouts.specs.Meaning.{EndsWith}
use Rattle.tls_places.specs.Place.{Stands, IsEnd}
use Rattle.tls_places.proofs.PlaceLemmas.{is_end}

-- the end of the bytes
pub rest_stands : (b r : Bytes) → EndsWith b r
    → Stands b (record { offset = length b - length r; length = length r }) r
rest_stands b r e =
    let end : IsEnd b r = is_end b r e in
    record {
      is = ap (take (length r)) end.is ∙ take_all (length r) r (omega arith);
      within = let fits : length r ≤ length b = end.fits in omega (arith, fits);
    }

-- a bytes from the offset o on are copied to the beginning, and n of the piece after them
pub fed_stands : (b moved new piece : Bytes) (o a n : ℕ) → o + a ≤ length b → n ≤ length piece
    → a + n ≤ length b
    → moved ≡ paste b 0 (drop o b) a → new ≡ paste moved a (take n piece) n
    → Stands new (record { offset = 0; length = a + n }) (take a (drop o b) ++ take n piece)
fed_stands b moved new piece o a n lies short fits em en =
    let left : length (drop o b) ≡ length b - o = length-drop o b in
    let behind : a ≤ length (drop o b) = omega (arith, lies, left) in
    let same : length moved ≡ length b =
    ap length em ∙ length-paste b 0 (drop o b) a (omega (arith, fits)) behind in
    let size : length (take n piece) ≡ n = length-take-le n piece short in
    let zero : 0 + a ≡ a = omega arith in
    let front : take a moved ≡ take a (drop o b) = ap (take a) em
    ∙ subst (λ k. take k (paste b 0 (drop o b) a) ≡ take a (drop o b)) zero
    (take-paste b 0 (drop o b) a (omega arith) behind) in
    let within : a ≤ length moved = omega (arith, same, fits) in
    let all : length new ≡ length moved =
    ap length en ∙ length-paste moved a (take n piece) n (omega (arith, same, fits))
    (omega (arith, size)) in
    record {
      is = ap (take (a + n)) en ∙ take-paste moved a (take n piece) n within (omega (arith, size))
          ∙ ap₂ ◌++◌ front (take_all n (take n piece) (omega (arith, size)));
      within = omega (arith, all, same, fits);
    }
