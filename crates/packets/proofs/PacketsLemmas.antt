-- The packets of a capture, step by step.
use Rattle.std.proofs.Common.{◌≡◌, ℕ, zero, suc, ◌<◌, ◌≤◌, [], ◌∷◌, ◌++◌, length, Ok, Err, refl, ◌∙◌, ap, arith}
use Rattle.std.specs.Prelude.{⊤}
use Rattle.layouts.specs.Bytes.{Bytes}
use Rattle.packets.specs.Front.{Longer, State, Unknown, Pcap, Blocks, Captured, Other, Wait, FrontResult, front}
use Rattle.packets.specs.Packets.{Packets, Refused, followed, packets_in, packets_from}
use Rattle.packets.proofs.FrontLemmas.{Takes, steps, front_longer, front_takes}

followed_same : (a : FrontResult) (b : Bytes) (n : ℕ) (f g : State → Bytes → Packets) → Takes n a
    → ((s : State) (r : Bytes) → steps s r < n → f s r ≡ g s r) → followed a b f ≡ followed a b g
followed_same (Ok (Captured p r, s)) b n f g less same = ap (λ x. (p ∷ x.0, x.1)) (same s r less)
followed_same (Ok (Other r, s)) b n f g less same = same s r less
followed_same (Ok (Wait, s)) b n f g less same = refl
followed_same (Err e) b n f g less same = refl

-- more steps than needed change nothing
enough : (n m : ℕ) (s : State) (b : Bytes) → steps s b < n → steps s b < m
    → packets_in n s b ≡ packets_in m s b
unfolding packets_in
enough zero m s b few more = absurd (omega (arith, few))
enough (suc n) zero s b few more = absurd (omega (arith, more))
enough (suc n) (suc m) s b few more =
    followed_same (front s b) b (steps s b) (packets_in n) (packets_in m) (front_takes s b)
    (λ t r less. enough n m t r (omega (arith, few, less)) (omega (arith, more, less)))

few_steps : (s : State) (b : Bytes) → steps s b ≤ suc (length b)
few_steps Unknown b = omega arith
few_steps (Pcap format link) b = omega arith
few_steps (Blocks s) b = omega arith

-- the item at the front, and then the packets of the bytes behind it
pub one_step : (s : State) (b : Bytes) → packets_from s b ≡ followed (front s b) b packets_from
unfolding packets_in packets_from
one_step s b =
    followed_same (front s b) b (steps s b) (packets_in (suc (length b))) packets_from
    (front_takes s b)
    (λ t r less. enough (suc (length b)) (suc (suc (length r))) t r
    (omega (arith, few_steps s b, less))
    (omega (arith, few_steps t r)))

-- The packets of all bytes, by the item at the front of the first of them.
abbrev pub Stands : Bytes → Packets → FrontResult → Type 0
Stands x all (Ok (Captured p r, s)) =
    all ≡ (p ∷ (packets_from s (r ++ x)).0, (packets_from s (r ++ x)).1)
Stands x all (Ok (Other r, s)) = all ≡ packets_from s (r ++ x)
Stands x all (Ok (Wait, s)) = ⊤
Stands x all (Err e) = all ≡ ([], Refused e)

stands_by : (x b : Bytes) (a y : FrontResult) → Longer x a y
    → Stands x (followed y b packets_from) a
stands_by x b (Ok (Captured p r, s)) y e = ap (λ z. followed z b packets_from) e
stands_by x b (Ok (Other r, s)) y e = ap (λ z. followed z b packets_from) e
stands_by x b (Ok (Wait, s)) y e = tt
stands_by x b (Err k) y e = ap (λ z. followed z b packets_from) e

stands_same : (x : Bytes) (all all' : Packets) (a : FrontResult) → all ≡ all' → Stands x all' a
    → Stands x all a
stands_same x all all' (Ok (Captured p r, s)) e h = e ∙ h
stands_same x all all' (Ok (Other r, s)) e h = e ∙ h
stands_same x all all' (Ok (Wait, s)) e h = tt
stands_same x all all' (Err k) e h = e ∙ h

pub stands : (s : State) (b x : Bytes) → Stands x (packets_from s (b ++ x)) (front s b)
stands s b x =
    stands_same x (packets_from s (b ++ x)) (followed (front s (b ++ x)) (b ++ x) packets_from)
    (front s b)
    (one_step s (b ++ x)) (stands_by x (b ++ x) (front s b) (front s (b ++ x)) (front_longer s b x))
