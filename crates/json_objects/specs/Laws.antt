-- What holds of the text of each object.
use Rattle.std.specs.Prelude.{◌≡◌, ◌≢◌, ℕ, List, map, All, Some}
use Rattle.json.specs.Json.{document}
use Rattle.json_objects.specs.Entries.{Entries, braced, member_text, object_of, text_of}

-- The members in braces are the object's text.
abbrev pub IsText : Entries → Type 0
IsText es = braced (map member_text es) ≡ text_of (object_of es)

-- The text has no line break.
abbrev pub HasNoBreak : Entries → Type 0
HasNoBreak es = All (λ b. b ≢ 10) (text_of (object_of es))

-- A reader of JSON reads the object from the text.
abbrev pub ReadsBack : Entries → Type 0
ReadsBack es = document (text_of (object_of es)) ≡ Some (object_of es)

-- Two objects with one text are one object.
abbrev pub AreToldApart : Entries → Entries → Type 0
AreToldApart es fs =
    text_of (object_of es) ≡ text_of (object_of fs) → object_of es ≡ object_of fs
