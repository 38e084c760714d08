-- The options that most segments have.
use Rattle.std.proofs.Common.{◌≡◌, ℕ, ◌+◌, ◌*◌, ◌<◌, ◌≤◌, [], ◌∷◌, length, get_or, false, Some, refl, sym, ap, subst, arith}
use Rattle.layouts.specs.Bytes.{Bytes}
use Rattle.capture.specs.Options.{option_in, timestamp}
use Rattle.arrivals.specs.Arrival.{is_signed}

-- Two bytes of padding come before a timestamp, and nothing behind it.
only_clock : (n a b c d e f g h : ℕ) → n ≡ a * 16777216 + b * 65536 + c * 256 + d
    → timestamp (1 ∷ 1 ∷ 8 ∷ 10 ∷ a ∷ b ∷ c ∷ d ∷ e ∷ f ∷ g ∷ h ∷ []) ≡ Some n
unfolding option_in
only_clock n a b c d e f g h is = ap Some (sym is)

no_signature : (a b c d e f g h : ℕ)
    → is_signed (1 ∷ 1 ∷ 8 ∷ 10 ∷ a ∷ b ∷ c ∷ d ∷ e ∷ f ∷ g ∷ h ∷ []) ≡ false
unfolding option_in
no_signature a b c d e f g h = refl

pub clock_there : (b : Bytes) (n : ℕ) → 12 ≤ length b → length b < 13
    → get_or b 0 0 ≡ 1 → get_or b 1 0 ≡ 1 → get_or b 2 0 ≡ 8 → get_or b 3 0 ≡ 10
    → n ≡ get_or b 4 0 * 16777216 + get_or b 5 0 * 65536 + get_or b 6 0 * 256 + get_or b 7 0
    → timestamp b ≡ Some n
clock_there (k ∷ l ∷ m ∷ o ∷ a ∷ b ∷ c ∷ d ∷ e ∷ f ∷ g ∷ h ∷ []) n _ _ pk pl pm po is =
    subst (λ k. timestamp (k ∷ l ∷ m ∷ o ∷ a ∷ b ∷ c ∷ d ∷ e ∷ f ∷ g ∷ h ∷ []) ≡ Some n) (sym pk)
    (subst (λ l. timestamp (1 ∷ l ∷ m ∷ o ∷ a ∷ b ∷ c ∷ d ∷ e ∷ f ∷ g ∷ h ∷ []) ≡ Some n) (sym pl)
    (subst (λ m. timestamp (1 ∷ 1 ∷ m ∷ o ∷ a ∷ b ∷ c ∷ d ∷ e ∷ f ∷ g ∷ h ∷ []) ≡ Some n) (sym pm)
    (subst (λ o. timestamp (1 ∷ 1 ∷ 8 ∷ o ∷ a ∷ b ∷ c ∷ d ∷ e ∷ f ∷ g ∷ h ∷ []) ≡ Some n) (sym po)
    (only_clock n a b c d e f g h is))))
clock_there b n low high _ _ _ _ _ = absurd (omega arith)

pub unsigned : (b : Bytes) → 12 ≤ length b → length b < 13
    → get_or b 0 0 ≡ 1 → get_or b 1 0 ≡ 1 → get_or b 2 0 ≡ 8 → get_or b 3 0 ≡ 10
    → is_signed b ≡ false
unsigned (k ∷ l ∷ m ∷ o ∷ a ∷ b ∷ c ∷ d ∷ e ∷ f ∷ g ∷ h ∷ []) _ _ pk pl pm po =
    subst (λ k. is_signed (k ∷ l ∷ m ∷ o ∷ a ∷ b ∷ c ∷ d ∷ e ∷ f ∷ g ∷ h ∷ []) ≡ false) (sym pk)
    (subst (λ l. is_signed (1 ∷ l ∷ m ∷ o ∷ a ∷ b ∷ c ∷ d ∷ e ∷ f ∷ g ∷ h ∷ []) ≡ false) (sym pl)
    (subst (λ m. is_signed (1 ∷ 1 ∷ m ∷ o ∷ a ∷ b ∷ c ∷ d ∷ e ∷ f ∷ g ∷ h ∷ []) ≡ false) (sym pm)
    (subst (λ o. is_signed (1 ∷ 1 ∷ 8 ∷ o ∷ a ∷ b ∷ c ∷ d ∷ e ∷ f ∷ g ∷ h ∷ []) ≡ false) (sym po)
    (no_signature a b c d e f g h))))
unsigned b low high _ _ _ _ = absurd (omega arith)
