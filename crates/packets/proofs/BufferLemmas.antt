-- The buffer after a read.
use Rattle.std.proofs.Common.{◌≡◌, ℕ, zero, suc, ◌+◌, ◌-◌, ◌≤◌, List, [], ◌∷◌, ◌++◌, length, take, drop, refl, sym, ◌∙◌, ap}
use Rattle.std.proofs.Common.{arith}
use Rattle.std.proofs.lemmas.List.{append_assoc, drop-take, length-drop, length-take, take_all, take-append-le, drop-append-le}
use Rattle.std.proofs.Math.Seq.{take-append-add, take-append_seam}

take_within : (a b : ℕ) (l : List ℕ) → a ≤ b → take a (take b l) ≡ take a l
take_within zero b l h = refl
take_within (suc a) zero l h = absurd (omega (arith, h))
take_within (suc a) (suc b) [] h = refl
take_within (suc a) (suc b) (x ∷ l) h = ap (λ t. x ∷ t) (take_within a b l (omega (arith, h)))

-- n of the read bytes follow those that were there, and the others are cut off
front_kept : (h n : ℕ) (front buf behind : List ℕ) → length front ≡ h → n ≤ length buf
    → take (h + n) (front ++ (buf ++ behind)) ≡ front ++ take n buf
front_kept h n front buf behind e within =
    ap (λ k. take (k + n) (front ++ (buf ++ behind))) (sym e)
    ∙ take-append-add front (buf ++ behind) n
    ∙ ap (λ t. front ++ t) (take-append-le n buf behind within)

pub read_behind : (start h n len : ℕ) (front buf post x : List ℕ) → length front ≡ h
    → n ≤ length buf → h + n ≤ len
    → start ≤ h → drop start (take (h + n) (take len ((front ++ (buf ++ post)) ++ x))) ≡ drop start
    front ++ take n buf
read_behind start h n len front buf post x e within fits le =
    ap (drop start) (take_within (h + n) len ((front ++ (buf ++ post)) ++ x) fits
    ∙ ap (take (h + n))
    (append_assoc front (buf ++ post) x ∙ ap (λ t. front ++ t) (append_assoc buf post x))
    ∙ front_kept h n front buf (post ++ x) e within)
    ∙ drop-append-le start front (take n buf) (omega (arith, e, le))

-- the bytes that were there before room was made
pub room_made : (h whole : ℕ) (items more new : List ℕ) → h ≤ length items → length items ≤ whole
    → new ≡ take whole items ++ more
    → take h new ≡ take h items
room_made h whole items more new e le is =
    ap (take h) (is ∙ ap (λ t. t ++ more) (take_all whole items le)) ∙ take-append-le h items more e

-- bytes that were moved to the front
pub moved_front : (start end : ℕ) (bytes front behind : List ℕ) → start ≤ end → end ≤ length bytes
    → front ≡ take (end - start) (drop start bytes)
    → take (end - start) (front ++ behind) ≡ drop start (take end bytes)
moved_front start end bytes front behind le within is =
    let len : length front ≡ end - start =
    ap length is ∙ grind (arith, length-take, length-drop, le, within) in
    ap (λ n. take n (front ++ behind)) (sym len)
    ∙ take-append_seam front behind
    ∙ is
    ∙ sym (drop-take start (end - start) bytes)
    ∙ ap (λ n. drop start (take n bytes)) (omega (arith, le))

pub moved_over : (start end : ℕ) (bytes front rest behind : List ℕ) → start ≤ end
    → end ≤ length bytes → front ≡ take (end - start) (drop start bytes)
    → take (end - start) ((front ++ rest) ++ behind) ≡ drop start (take end bytes)
moved_over start end bytes front rest behind le within is =
    ap (take (end - start)) (append_assoc front rest behind)
    ∙ moved_front start end bytes front (rest ++ behind) le within is
