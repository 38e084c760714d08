-- How out-of-order bytes are stored: position by position.
use Rattle.std.specs.Prelude.{◌≡◌, ℕ, ◌+◌, ◌-◌, ◌^◌, ◌≤◌, Option, Some, None, [], ◌∷◌, ◌++◌, length, map, drop}
use Rattle.segments.specs.Cells.{Bytes, Cells, Held, run}

-- The byte that is present, else y.
abbrev pub standing : Option ℕ → ℕ → ℕ
standing None y = y
standing (Some x) y = x

-- The bytes ys, but a byte that is present in place of the given one.
abbrev pub over : Cells → Bytes → Bytes
over [] ys = ys
over (c ∷ cs) [] = []
over (c ∷ cs) (y ∷ ys) = standing c y ∷ over cs ys

-- What a TcpReassembler keeps: the first position after its in-order bytes is empty, and no
-- position is further after it than the limit.
pub record IsSound (start taken limit : ℕ) (front : Bytes) (window : Cells) : Type 0 where
  pub start_in : start ≤ length front
  pub first_empty : run window ≡ []
  pub within : length window ≤ limit
  pub small : taken + (length front - start) + length window ≤ 2 ^ 62

abbrev pub held_cells : ℕ → Bytes → Cells → Cells
held_cells start front window = map Some (drop start front) ++ window

-- The value that the fields represent.
abbrev pub held_of : ℕ → ℕ → ℕ → ℕ → Bytes → Cells → Held
held_of first limit start taken front window =
    record { first = first; limit = limit; taken = taken; cells = held_cells start front window }
