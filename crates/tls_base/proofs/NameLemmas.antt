-- Look-ups in a table of numbers and names.
use Rattle.std.proofs.Common.{
  ◌≡◌,
  ◌∙◌,
  ap,
  sym,
  ℕ,
  Bool,
  true,
  false,
  cond,
  List,
  [],
  ◌∷◌,
  Option,
  Some,
  map,
  ◌==◌,
  refl,
}
use Rattle.std.specs.Borrow.{Bor}
use Rattle.std.specs.Option.{option_map}
use Rattle.tls_base.specs.Names.{Text, look_up, shown, name}

either_way : {A B : Type 0} (v : A → B) (b : Bool) (x : ℕ × A) (o : Option (ℕ × B))
    (p : Option (ℕ × A))
    → option_map (λ y. y.1) o ≡ option_map v (option_map (λ y. y.1) p)
    → option_map (λ y. y.1) (cond b (Some (x.0, v x.1)) o) ≡ option_map v
    (option_map (λ y. y.1) (cond b (Some x) p))
either_way v true x o p e = refl
either_way v false x o p e = e

-- a look-up in a table whose values are mapped by v
pub look_up-map : {A B : Type 0} (v : A → B) (table : List (ℕ × A)) (n : ℕ)
    → look_up (map (λ x. (x.0, v x.1)) table) n ≡ option_map v (look_up table n)
look_up-map v [] n = refl
look_up-map v (x ∷ table) n = either_way v (x.0 == n) x _ _ (look_up-map v table n)

-- how a number is shown, by the result of the look-up
pub name_shown : (type : Text) (table : List (ℕ × Bor Text)) (n : ℕ) (found : Option (Bor Text))
    → found ≡ look_up table n
    → name type (map (λ x. (x.0, x.1.now)) table) n ≡ shown type n (option_map (λ t. t.now) found)
unfolding name
name_shown type table n found e =
    ap (shown type n) (look_up-map (λ t. t.now) table n ∙ ap (option_map (λ t. t.now)) (sym e))
