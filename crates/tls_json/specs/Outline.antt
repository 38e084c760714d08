-- Outlines of values: all of a value except what is in its lists. Clauses are about these.
use Rattle.std.specs.Prelude.{◌≡◌, ◌++◌, ◌/◌, ◌%◌, ℕ, List, [], ◌∷◌, map, codes, Option, Some, None, Result, IfOk, Vec, ⊤}
use Rattle.std.specs.Borrow.{Bor}
use Rattle.std.specs.declared.alloc.AllocError.{AllocError}
use Rattle.std.specs.declared.alloc.Global.{Global}
use Rattle.hex.specs.Hex.{encode_lower}
use Rattle.serde_json.specs.Data.{
  Data,
  null,
  boolean,
  number,
  unsigned,
  string,
  array,
  object,
  no_items,
  Members,
  no_members,
  member,
}
use Rattle.tls_base.specs.Names.{look_up}
use Rattle.tls_base.specs.RegisteredSuites.{registered_suites}
use Rattle.tls_json.specs.Views.{view}
use Rattle.tls_json.specs.declared.json.Value.{Value}
use Rattle.tls_json.specs.declared.suite.SuiteText.{SuiteText}
use Rattle.tls_json.specs.declared.suite.SuiteText.TheVariants.{Name, Number}
use Rattle.tls_json.specs.declared.table.Table.{Table}

-- The data with each list emptied.
abbrev mutual
  pub outline : Data → Data
  outline null = null
  outline (boolean b) = boolean b
  outline (number n) = number n
  outline (string s) = string s
  outline (array ds) = array no_items
  outline (object ms) = object (outlines ms)

  pub outlines : Members → Members
  outlines no_members = no_members
  outlines (member k d ms) = member k (outline d) (outlines ms)

abbrev pub Shows : Data → Value → Type 0
Shows d v = outline (view v) ≡ d

-- Names of fields, each with its data.
abbrev pub Entries : Type 0
Entries = List (List ℕ × Data)

abbrev pub entries : List (Bor (List ℕ) × Value) → Entries
entries = map (λ m. (m.0.now, outline (view m.1)))

abbrev pub entry_names : Entries → List (List ℕ)
entry_names = map (λ e. e.0)

abbrev pub members : Entries → Members
members [] = no_members
members (e ∷ es) = member e.0 e.1 (members es)

abbrev pub object_of : Entries → Data
object_of es = object (members es)

-- A number of 2 bytes, as `0xc02f`.
abbrev pub number_text : ℕ → List ℕ
number_text n = codes "0x" ++ encode_lower (n / 256 ∷ n % 256 ∷ [])

-- A name, or the number if there is none.
abbrev pub name_or_number : Option (List ℕ) → ℕ → List ℕ
name_or_number None n = number_text n
name_or_number (Some name) n = name

-- A cipher suite: its name in IANA's registry, or else its number; or always its number.
unfoldable pub suite_text : SuiteText → ℕ → List ℕ
suite_text Name n = name_or_number (look_up registered_suites n) n
suite_text Number n = number_text n

-- The fields of each form of value.
abbrev pub decimal : List ℕ → ℕ → List ℕ × Data
decimal name n = (name, number (unsigned n))

abbrev pub hexadecimal : List ℕ → ℕ → List ℕ × Data
hexadecimal name n = (name, string (number_text n))

abbrev pub suite : List ℕ → SuiteText → ℕ → List ℕ × Data
suite name text n = (name, string (suite_text text n))

abbrev pub bytes : List ℕ → List ℕ → List ℕ × Data
bytes name b = (name, string (encode_lower b))

abbrev pub list : List ℕ → List ℕ × Data
list name = (name, array no_items)

-- Fields that may be missing.
abbrev pub some_decimal : List ℕ → Option ℕ → Entries
some_decimal name None = []
some_decimal name (Some n) = decimal name n ∷ []

abbrev pub some_hexadecimal : List ℕ → Option ℕ → Entries
some_hexadecimal name None = []
some_hexadecimal name (Some n) = hexadecimal name n ∷ []

abbrev pub some_bytes : List ℕ → List ℕ → Entries
some_bytes name [] = []
some_bytes name (b ∷ bs) = bytes name (b ∷ bs) ∷ []

abbrev pub bytes_if : List ℕ → Option (Bor (List ℕ)) → Entries
bytes_if name None = []
bytes_if name (Some b) = bytes name b.now ∷ []

abbrev pub some_name : List ℕ → Option (Bor (List ℕ)) → Entries
some_name name None = []
some_name name (Some s) = (name, string s.now) ∷ []

-- The names of an object's fields; any other value has none.
abbrev pub member_names : Members → List (List ℕ)
member_names no_members = []
member_names (member k d ms) = k ∷ member_names ms

abbrev pub names : Data → List (List ℕ)
names null = []
names (boolean b) = []
names (number n) = []
names (string s) = []
names (array ds) = []
names (object ms) = member_names ms

abbrev pub HasNames : List (List ℕ) → Value → Type 0
HasNames ns v = names (outline (view v)) ≡ ns

abbrev pub Made : Type 0
Made = Result Value AllocError

-- If memory sufficed, the fields have these names.
abbrev pub ReadsAs : List (List ℕ) → Made → Type 0
ReadsAs ns r = IfOk r (HasNames ns)

-- A table has these fields, if memory sufficed.
abbrev pub HasEntries : Entries → Vec (Bor (List ℕ) × Value) Global → Type 0
HasEntries es fields = entries fields.items ≡ es

abbrev pub IsNamed : List (List ℕ) → Vec (Bor (List ℕ) × Value) Global → Type 0
IsNamed ns fields = entry_names (entries fields.items) ≡ ns

abbrev pub HasFields : Entries → Table → Type 0
HasFields es t = IfOk t.fields (HasEntries es)

abbrev pub HasFieldNames : List (List ℕ) → Table → Type 0
HasFieldNames ns t = IfOk t.fields (IsNamed ns)

-- If it can be parsed, p holds of the value, or of the table with more fields.
abbrev pub IfRead : (Value → Type 0) → Option (Bor (List ℕ) × Made) → Type 0
IfRead p None = ⊤
IfRead p (Some x) = IfOk x.1 p

abbrev pub IfMore : (Table → Type 0) → Option (Bor (List ℕ) × Table) → Type 0
IfMore p None = ⊤
IfMore p (Some x) = p x.1
