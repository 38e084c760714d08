-- Lists in a line.
use Rattle.std.specs.Prelude.{ℕ, Bool, true, false, List, [], ◌∷◌, map}
use Rattle.std.specs.String.{string_bytes}
use Rattle.hex.specs.Hex.{encode_lower}
use Rattle.layouts.specs.Items.{items_in}
use Rattle.layouts.specs.Layout.{counted, number}
use Rattle.tls_ext.specs.InPlace.{extension_type}
use Rattle.text_forms.specs.Escaped.{escaped_text}
use Rattle.log_formats.specs.Cached.{share_groups}
use Rattle.log_formats.specs.Texts.{
  extension_text,
  group_text,
  scheme_text,
  spec_text,
  suite_text,
  version_text,
}
use Rattle.log_formats.specs.declared.lists.Numbers as numbers
use Rattle.log_formats.specs.declared.lists.Numbers.TheVariants as number
use Rattle.log_formats.specs.declared.lists.Texts.{Texts}
use Rattle.log_formats.specs.declared.lists.Texts.TheVariants.{
  Owned,
  Versions,
  Types,
  Groups,
  Schemes,
  Protocols,
  Shares,
  Suites,
  Specs,
  Digests,
}

abbrev pub is_empty : {A : Type 0} → List A → Bool
is_empty [] = true
is_empty (x ∷ xs) = false

-- The texts of a list.
abbrev pub texts_of : Texts → List (List ℕ)
texts_of (Owned all) = map string_bytes all.items
texts_of (Versions list) = map version_text (items_in (number 2) list.bytes.now)
texts_of (Types list) = map extension_text (items_in extension_type list.bytes.now)
texts_of (Groups list) = map group_text (items_in (number 2) list.bytes.now)
texts_of (Schemes list) = map scheme_text (items_in (number 2) list.bytes.now)
texts_of (Protocols list) = map escaped_text (items_in (counted 1) list.bytes.now)
texts_of (Shares bytes) = map group_text (share_groups bytes.now)
texts_of (Suites suites list) = map (suite_text suites.now) (items_in (number 2) list.bytes.now)
texts_of (Specs suites list) = map (spec_text suites.now) (items_in (number 3) list.bytes.now)
texts_of (Digests all) = map encode_lower all.items

-- The numbers of a list.
abbrev pub numbers_of : numbers.Numbers → List ℕ
numbers_of (number.Codes codes) = codes.now
numbers_of (number.Owned all) = all.items
