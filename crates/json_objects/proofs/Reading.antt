-- A reader finds an object in its text.
use Rattle.std.proofs.Common.{◌≡◌, ◌≤◌, ◌<◌, ◌^◌, ℕ, List, [], ◌∷◌, map, Some, refl, sym, ap, ◌∙◌, arith, ℤ, pos, negsuc}
use lib.Signed.{mag}
use Rattle.json.specs.Json.{document}
use Rattle.json.specs.Tree.{HasNumbers, ItemsHaveNumbers, MembersHaveNumbers, depth, items_depth, members_depth}
use Rattle.json.specs.Value.{items_of}
use Rattle.json.proofs.Printed.Decimals.{IsNumber-decimal, IsNumber-signed_decimal}
use Rattle.json.proofs.Printed.Trees.{document-print}
use Rattle.json_objects.specs.Data.{Plain, truth, number, whole, seconds, text, Data, plain, list, object, capped, capped_whole, plain_json, plain_members, json_of}
use Rattle.json_objects.proofs.Fractions.{IsNumber-seconds}
use Rattle.json_objects.specs.Entries.{Entries, members_of, object_of, text_of}

pub capped-small : (n : ℕ) → capped n < 2 ^ 64
capped-small n = omega arith

pub mag-capped : (z : ℤ) → mag (capped_whole z) < 2 ^ 63
mag-capped (pos n) = omega arith
mag-capped (negsuc n) = omega arith

pub capped-same : (n : ℕ) → n < 2 ^ 64 → capped n ≡ n
capped-same n h = omega arith

plain-numbers : (p : Plain) → HasNumbers (plain_json p)
plain-numbers (truth b) = tt
plain-numbers (number n) = IsNumber-decimal (capped n) (capped-small n)
plain-numbers (whole z) = IsNumber-signed_decimal (capped_whole z) (mag-capped z)
plain-numbers (seconds n) = IsNumber-seconds (capped n) (capped-small n)
plain-numbers (text s) = tt

items-numbers : (ps : List Plain) → ItemsHaveNumbers (items_of (map plain_json ps))
items-numbers [] = tt
items-numbers (p ∷ ps) = (plain-numbers p, items-numbers ps)

members-numbers : (ms : List (List ℕ × Plain)) → MembersHaveNumbers (plain_members ms)
members-numbers [] = tt
members-numbers (m ∷ ms) = (plain-numbers m.1, members-numbers ms)

json-numbers : (d : Data) → HasNumbers (json_of d)
json-numbers (plain p) = plain-numbers p
json-numbers (list ps) = items-numbers ps
json-numbers (object ms) = members-numbers ms

entries-numbers : (es : Entries) → MembersHaveNumbers (members_of es)
entries-numbers [] = tt
entries-numbers (e ∷ es) = (json-numbers e.1, entries-numbers es)

plain-depth : (p : Plain) → depth (plain_json p) ≡ 0
plain-depth (truth b) = refl
plain-depth (number n) = refl
plain-depth (whole z) = refl
plain-depth (seconds n) = refl
plain-depth (text s) = refl

items-depth : (ps : List Plain) → items_depth (items_of (map plain_json ps)) ≤ 0
items-depth [] = omega arith
items-depth (p ∷ ps) = omega (arith, plain-depth p, items-depth ps)

members-depth : (ms : List (List ℕ × Plain)) → members_depth (plain_members ms) ≤ 0
members-depth [] = omega arith
members-depth (m ∷ ms) = omega (arith, plain-depth m.1, members-depth ms)

json-depth : (d : Data) → depth (json_of d) ≤ 1
json-depth (plain p) = omega (arith, plain-depth p)
json-depth (list ps) = omega (arith, items-depth ps)
json-depth (object ms) = omega (arith, members-depth ms)

entries-depth : (es : Entries) → members_depth (members_of es) ≤ 1
entries-depth [] = omega arith
entries-depth (e ∷ es) = omega (arith, json-depth e.1, entries-depth es)

pub reads-back : (es : Entries) → document (text_of (object_of es)) ≡ Some (object_of es)
reads-back es = document-print (object_of es) (entries-numbers es) (omega (arith, entries-depth es))

pub told-apart : (es fs : Entries) → text_of (object_of es) ≡ text_of (object_of fs) → object_of es ≡ object_of fs
told-apart es fs same =
    let one : Some (object_of es) ≡ Some (object_of fs) = sym (reads-back es) ∙ ap document same ∙ reads-back fs in
    cc
