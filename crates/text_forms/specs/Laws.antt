-- What holds of each line.
use Rattle.std.specs.Prelude.{◌≡◌, ℕ, List, [], ◌∷◌, ◌++◌, Some}
use Rattle.csv.specs.Machine.{next_record}
use Rattle.csv.specs.Reading.{default_config}
use Rattle.csv.specs.Writing.{read_back}
use Rattle.csv.specs.declared.parser.State.TheVariants as st
use Rattle.text_forms.specs.Comma.{IsRecord}

-- A reader of comma-separated values reads the fields from the line, whatever follows. (No field
-- at all is read as one that is empty.)
abbrev pub RecordReadsBack : List (List ℕ) → List ℕ → List ℕ → Type 0
RecordReadsBack fields line tail =
    IsRecord fields line
    → next_record default_config st.StartRecord [] [] ((line ++ 10 ∷ []) ++ tail)
    ≡ Some (read_back fields, st.StartRecord, tail)
