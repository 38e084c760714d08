-- Object identifiers as texts.
use Rattle.std.specs.Prelude.{ℕ, Bool, true, ◌&&◌, List, [], ◌∷◌, map, Option, Some, None, find, is_some, decimal, if◌then◌else◌}
use Rattle.std.specs.List.{join_with_byte}
use Rattle.std.specs.Str.{bytes_eq}
use Rattle.std.specs.Option.{option_map}
use Rattle.layouts.specs.Bytes.{Bytes}
use Rattle.der.specs.ObjectIdentifier.{arcs_of}
use Rattle.x509_text.specs.Object.{NamedObject}
use Rattle.x509_text.specs.Algorithms.{algorithms}
use Rattle.x509_text.specs.NationalAlgorithms.{national_algorithms}
use Rattle.x509_text.specs.NistAlgorithms.{nist_algorithms}
use Rattle.x509_text.specs.Curves.{curves}
use Rattle.x509_text.specs.FurtherCurves.{further_curves}
use Rattle.x509_text.specs.OlderCurves.{older_curves}
use Rattle.x509_text.specs.DirectoryAttributes.{directory_attributes}
use Rattle.x509_text.specs.FurtherDirectoryAttributes.{further_directory_attributes}
use Rattle.x509_text.specs.Extensions.{extensions}
use Rattle.x509_text.specs.Hexadecimal.{dump_text}
use Rattle.x509_text.specs.OtherAttributes.{other_attributes}
use Rattle.x509_text.specs.Purposes.{purposes}

-- The first object of a table that has this content.
abbrev pub found_in : List NamedObject → Bytes → Option NamedObject
found_in table content = find (λ o. bytes_eq o.content content) table

abbrev pub first_known : List (Option NamedObject) → Option NamedObject
first_known [] = None
first_known (Some o ∷ os) = Some o
first_known (None ∷ os) = first_known os

-- The first object of all tables.
unfoldable pub object_of : Bytes → Option NamedObject
object_of content = first_known (
    found_in directory_attributes content
    ∷ found_in further_directory_attributes content
    ∷ found_in other_attributes content
    ∷ found_in algorithms content
    ∷ found_in nist_algorithms content
    ∷ found_in national_algorithms content
    ∷ found_in curves content
    ∷ found_in further_curves content
    ∷ found_in older_curves content
    ∷ found_in purposes content
    ∷ found_in extensions content
    ∷ [])

-- Such as commonName.
abbrev pub long_name_of : Bytes → Option Bytes
long_name_of content = option_map (λ o. o.long_name) (object_of content)

-- Such as CN.
abbrev pub short_name_of : Bytes → Option Bytes
short_name_of content = option_map (λ o. o.short_name) (object_of content)

abbrev pub arc_text : Option ℕ → Bytes
arc_text (Some n) = decimal n
arc_text None = []

-- Each arc is a number below 2^128.
abbrev pub all_fit : List (Option ℕ) → Bool
all_fit [] = true
all_fit (arc ∷ arcs) = is_some arc && all_fit arcs

-- The numbers separated by `.`.
abbrev pub numbers_text : List (Option ℕ) → Bytes
numbers_text arcs = join_with_byte 46 (map arc_text arcs)

-- The numbers, or the element in hexadecimal if one is too large.
abbrev pub dotted_text : Bytes → Bytes
dotted_text content =
    if all_fit (arcs_of content) then numbers_text (arcs_of content)
    else dump_text (record { tag = 6; content = content })

abbrev pub named_or_dotted : Option Bytes → Bytes → Bytes
named_or_dotted (Some name) content = name
named_or_dotted None content = dotted_text content

-- The long name, else the numbers.
abbrev pub object_text : Bytes → Bytes
object_text content = named_or_dotted (long_name_of content) content
