-- Places of parts.
use Rattle.std.proofs.Common.{◌≡◌, ◌+◌, ◌-◌, [], ◌++◌, length, take, drop, Ok, sym, ◌∙◌, ap, refl, arith}
use Rattle.std.proofs.lemmas.List.{append_assoc, length-append, drop_at, take_at}
use Rattle.layouts.specs.Bytes.{Bytes}
use Rattle.layouts.specs.Layout.{Layout}
use Rattle.layouts.specs.Meaning.{EndsWith, Allows}
use Rattle.layouts.proofs.EndLemmas.{ends, ends_after}

pub place_is : (b c r : Bytes) → EndsWith b (c ++ r)
    → take (length c) (drop (length b - length r - length c) b) ≡ c
place_is b c r (f, e) =
    let size : length b ≡ length f + (length c + length r) =
    ap length e ∙ length-append f (c ++ r) ∙ ap (λ n. length f + n) (length-append c r) in
    let front : length f ≡ length b - length r - length c = omega (arith, size) in
    let dropped : drop (length b - length r - length c) b ≡ c ++ r =
    ap (λ x. drop (length b - length r - length c) x) e
    ∙ drop_at f (c ++ r) (length b - length r - length c) front in
    ap (take (length c)) dropped ∙ take_at c r (length c) refl

-- bytes are a suffix of themselves
pub ends_here : (b : Bytes) → EndsWith b b
ends_here b = ([], refl)

-- if b is a suffix of w, so is the rest of a read from b
pub ends_read : {A : Type 0} (l : Layout A) (w b : Bytes) (v : A) (r : Bytes) → EndsWith w b
    → Allows l b (Ok (v, r))
    → EndsWith w r
unfolding Allows
ends_read l w b v r at (d, s) = ends_after w b r at (ends l b v r d s)

-- what follows a part at the end of w is a suffix too
pub ends_behind : (w c r : Bytes) → EndsWith w (c ++ r) → EndsWith w r
ends_behind w c r (f, e) = (f ++ c, e ∙ sym (append_assoc f c r))
