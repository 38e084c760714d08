-- How long lists and objects are.
use Rattle.std.proofs.Common.{◌≡◌, ℕ, suc, List, [], ◌∷◌, length, refl, ap}
use Rattle.std.specs.Borrow.{Bor}
use Rattle.serde_json.specs.Events.{items_len, members_len}
use Rattle.tls_json.specs.Views.{items_view, members_view}
use Rattle.tls_json.specs.declared.json.Value.{Value}

pub items_len-items_view : (vs : List Value) → items_len (items_view vs) ≡ length vs
items_len-items_view [] = refl
items_len-items_view (v ∷ vs) = ap (λ n. suc n) (items_len-items_view vs)

pub members_len-members_view : (ms : List (Bor (List ℕ) × Value))
    → members_len (members_view ms) ≡ length ms
members_len-members_view [] = refl
members_len-members_view (m ∷ ms) = ap (λ n. suc n) (members_len-members_view ms)
