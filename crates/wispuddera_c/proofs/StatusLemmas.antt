-- The answer for the bytes from an offset on.
use Rattle.std.proofs.Common.{◌≡◌, ℕ, ◌≤◌, ◌<◌, length, drop, Ok, Err, refl, sym, subst, ◌∙◌, ap, arith}
use Rattle.layouts.specs.Bytes.{Bytes}
use Rattle.layouts.specs.Layout.{Layout}
use Rattle.layouts.specs.Meaning.{Refusal}
use Rattle.layouts.specs.Reading.{reading}
use Rattle.wispuddera_c.specs.Status.{IsRefused, IsAnswered, IsAnsweredAt}

pub answered : {A : Type 0} (l : Layout A) (Shows : A → Bytes → Type 0) (b i r : Bytes) (v : A)
    → i ≡ b
    → reading l i ≡ Ok (v, r) → Shows v r → IsAnswered Shows (reading l b) 0 0
answered l Shows b i r v is read shown =
    subst (λ x. IsAnswered Shows x 0 0) (sym (ap (reading l) (sym is) ∙ read)) (refl, refl, shown)

pub shown_by : {A : Type 0} (l : Layout A) (Shows : A → Bytes → Type 0) (b i r : Bytes) (v : A)
    (offset : ℕ)
    → i ≡ drop offset b → offset ≤ length b → reading l i ≡ Ok (v, r) → Shows v r
    → IsAnsweredAt l Shows b offset 0 0
shown_by l Shows b i r v offset is near read shown = record {
  inside = λ _. answered l Shows (drop offset b) i r v is read shown;
  behind = λ far. absurd (omega (arith, near, far));
}

pub refused : {A : Type 0} (l : Layout A) (Shows : A → Bytes → Type 0) (b i : Bytes) (e : Refusal)
    (offset status missing : ℕ) → i ≡ drop offset b → offset ≤ length b → reading l i ≡ Err e
    → IsRefused e status missing → IsAnsweredAt l Shows b offset status missing
refused l Shows b i e offset status missing is near read shown_by = record {
  inside = λ _. subst (λ x. IsAnswered Shows x status missing)
      (sym (ap (reading l) (sym is) ∙ read)) shown_by;
  behind = λ far. absurd (omega (arith, near, far));
}

pub behind : {A : Type 0} (l : Layout A) (Shows : A → Bytes → Type 0) (b : Bytes) (offset : ℕ)
    → length b < offset
    → IsAnsweredAt l Shows b offset 9 0
behind l Shows b offset far =
    record { inside = λ near. absurd (omega (arith, near, far)); behind = λ _. (refl, refl) }
