-- Comma-separated values (RFC 4180). Fields with a comma, a quote or a line break are quoted, and
-- quotes in them doubled.
use Rattle.std.specs.Prelude.{◌≡◌, ℕ, List, [], ◌∷◌, ◌++◌}
use Rattle.csv.specs.Writing.{default_writer, row_text}

-- With a line break behind it the line is the record of these fields.
abbrev pub IsRecord : List (List ℕ) → List ℕ → Type 0
IsRecord fields line = line ++ 10 ∷ [] ≡ row_text default_writer fields
