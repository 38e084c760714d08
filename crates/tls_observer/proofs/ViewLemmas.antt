-- Views of optional values.
use Rattle.std.proofs.Common.{◌≡◌, Option, Some, None, ap}
use Rattle.std.specs.Borrow.{Bor}
use Rattle.std.specs.Option.{option_copied, option_map}

-- The view of a borrowed value is the view of the value.
pub copied_view : {A B : Type 0} (f : A → B) (r : Option (Bor A)) (o : Option A)
    → option_copied r ≡ o
    → option_map (λ m. f m.now) r ≡ option_map f o
copied_view f (Some b) o e = ap (option_map f) e
copied_view f None o e = ap (option_map f) e
