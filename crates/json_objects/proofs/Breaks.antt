-- No text has a line break.
use Rattle.std.proofs.Common.{◌≡◌, ◌≢◌, ◌≤◌, ◌<◌, ◌^◌, ◌/◌, ◌%◌, ℕ, zero, suc, Bool, true, false, cond, not, ◌&&◌, ◌==◌, List, [], ◌∷◌, ◌++◌, length, get_or, map, decimal, inl, inr, refl, sym, ap, ◌∙◌, subst, arith, ℤ, pos, negsuc}
use Rattle.std.specs.Prelude.{All}
use Rattle.std.specs.Fmt.{signed_decimal}
use lib.Signed.{mag}
use Rattle.std.proofs.lemmas.List.Elements.{All-from_get_or}
use Rattle.std.proofs.lemmas.Bool.{and_parts, cases_lt, cases_eq, true≢false}
use Rattle.std.proofs.lemmas.Fmt.{decimal_is_IsNumeral}
use Rattle.std.proofs.lemmas.Str.Parse.{digit_at}
use Rattle.json.specs.Token.{Token, key, string, boolean}
use Rattle.json.specs.Value.{items_of}
use Rattle.json.specs.Tree.{json_tokens, items_tokens, members_tokens}
use Rattle.json.specs.Print.{print_from, escape_byte, escape, begins, ends, token_text}
use Rattle.json.proofs.Printed.Strings.{escape_byte_plain}
use Rattle.json_objects.specs.Data.{Plain, Data, plain, list, object, capped, capped_whole, plain_json, plain_members, json_of}
use Rattle.json_objects.specs.Data as data_of
use Rattle.json_objects.specs.Entries.{Entries, members_of, object_of, text_of}
use Rattle.json_objects.specs.Laws.{HasNoBreak}
use Rattle.json_objects.specs.Seconds.{seconds_text, fraction}
use Rattle.json_objects.proofs.Fractions.{AreDigits, fraction-digits}
use Rattle.json_objects.proofs.Reading.{capped-small, mag-capped}

abbrev Free : List ℕ → Type 0
Free [] = Unit {0}
Free (x ∷ xs) = (x ≢ 10) × Free xs

free-at : (xs : List ℕ) → Free xs → (i : ℕ) → i < length xs → get_or xs i 0 ≢ 10
free-at [] h i l = absurd (omega arith)
free-at (x ∷ xs) h zero l = h.0
free-at (x ∷ xs) h (suc i) l = free-at xs h.1 i (omega arith)

has-no-break : (xs : List ℕ) → Free xs → All (λ b. b ≢ 10) xs
has-no-break xs h = All-from_get_or (λ b. b ≢ 10) xs 0 (free-at xs h)

free-append : (xs ys : List ℕ) → Free xs → Free ys → Free (xs ++ ys)
free-append [] ys h k = k
free-append (x ∷ xs) ys h k = (h.0, free-append xs ys h.1 k)

free-digits : (xs : List ℕ) → ((i : ℕ) → i < length xs → 48 ≤ get_or xs i 0) → Free xs
free-digits [] h = tt
free-digits (x ∷ xs) h =
    let first : 48 ≤ x = h 0 (omega arith) in
    ((λ e. omega arith), free-digits xs (λ i l. h (suc i) (omega arith)))

free-decimal : (n : ℕ) → n < 2 ^ 64 → Free (decimal n)
free-decimal n h = free-digits (decimal n) (λ i l. (digit_at _ i (decimal_is_IsNumeral n h).0.1 l).0)

free-signed : (z : ℤ) → mag z < 2 ^ 63 → Free (signed_decimal z)
free-signed (pos n) h = free-decimal n (omega (arith, h))
free-signed (negsuc n) h = ((λ e. omega arith), free-decimal (suc n) (omega (arith, h)))

-- the escapes of the bytes below n
abbrev free_text : List ℕ → Bool
free_text [] = true
free_text (x ∷ xs) = not (x == 10) && free_text xs

not-ten : (x : ℕ) → not (x == 10) ≡ true → x ≢ 10
not-ten x h e = true≢false (sym h ∙ ap (λ y. not (y == 10)) e)

free-tested : (xs : List ℕ) → free_text xs ≡ true → Free xs
free-tested [] h = tt
free-tested (x ∷ xs) h = let p = and_parts _ _ h in (not-ten x p.0, free-tested xs p.1)

abbrev escapes_below : ℕ → Bool
escapes_below zero = true
escapes_below (suc n) = free_text (escape_byte n) && escapes_below n

escape-below : (n : ℕ) → escapes_below n ≡ true → (x : ℕ) → x < n → free_text (escape_byte x) ≡ true
escape-below zero e x h = absurd (omega arith)
escape-below (suc n) e x h =
    let p = and_parts _ _ e in
    elim (cases_eq x n) [ inl same ↦ rw same p.0 | inr other ↦ escape-below n p.1 x (omega arith) ]

all-escapes : escapes_below 93 ≡ true
unfolding escape_byte
all-escapes = refl

free-escape_byte : (x : ℕ) → Free (escape_byte x)
free-escape_byte x = elim (cases_lt x 93) [
  | inl small ↦ free-tested _ (escape-below 93 all-escapes x small)
  | inr large ↦ subst Free (sym (escape_byte_plain x (λ e. omega arith) (λ e. omega arith) (omega arith))) ((λ e. omega arith), tt)
]

free-escape : (xs : List ℕ) → Free (escape xs)
free-escape [] = tt
free-escape (x ∷ xs) = free-append (escape_byte x) (escape xs) (free-escape_byte x) (free-escape xs)

free-quoted : (xs rest : List ℕ) → Free rest → Free (34 ∷ ((escape xs ++ 34 ∷ []) ++ rest))
free-quoted xs rest h = ((λ e. omega arith), free-append (escape xs ++ 34 ∷ []) rest (free-append (escape xs) (34 ∷ []) (free-escape xs) ((λ e. omega arith), tt)) h)

free-comma : (b : Bool) (rest : List ℕ) → Free rest → Free (cond b (44 ∷ []) [] ++ rest)
free-comma true rest h = ((λ e. omega arith), h)
free-comma false rest h = h

-- each number among the tokens has no break
abbrev NumbersFree : List Token → Type 0
NumbersFree [] = Unit {0}
NumbersFree (t ∷ ts) = Free (token_text t) × NumbersFree ts

numbers-append : (ts us : List Token) → NumbersFree ts → NumbersFree us → NumbersFree (ts ++ us)
numbers-append [] us h k = k
numbers-append (t ∷ ts) us h k = (h.0, numbers-append ts us h.1 k)

free-print : (b : Bool) (ts : List Token) → NumbersFree ts → Free (print_from b ts)
unfolding print_from
free-print b [] h = tt
free-print b (t ∷ ts) h = free-comma (b && begins t) _ (free-append (token_text t) _ h.0 (free-print (ends t) ts h.1))

free-string : (s : List ℕ) → Free (token_text (string s))
free-string s = ((λ e. omega arith), free-append (escape s) (34 ∷ []) (free-escape s) ((λ e. omega arith), tt))

free-key : (s : List ℕ) → Free (token_text (key s))
free-key s = free-append (token_text (string s)) (58 ∷ []) (free-string s) ((λ e. omega arith), tt)

one-byte : (x : ℕ) → 11 ≤ x → Free (x ∷ [])
one-byte x h = ((λ e. omega arith), tt)

free-truth : (b : Bool) → Free (token_text (boolean b))
free-truth true = free-tested (token_text (boolean true)) refl
free-truth false = free-tested (token_text (boolean false)) refl

free-are : (ds : List ℕ) → AreDigits ds → Free ds
free-are [] h = tt
free-are (d ∷ ds) h = let least = h.0.least in ((λ e. omega arith), free-are ds h.1)

free-seconds : (n : ℕ) → n < 2 ^ 64 → Free (seconds_text n)
free-seconds n h =
    free-append (decimal (n / 1000000)) _ (free-decimal (n / 1000000) (omega arith)) ((λ e. omega arith), free-are (fraction (n % 1000000)) (fraction-digits (n % 1000000)))

plain-free : (p : Plain) → NumbersFree (json_tokens (plain_json p))
plain-free (data_of.truth b) = (free-truth b, tt)
plain-free (data_of.number n) = (free-decimal (capped n) (capped-small n), tt)
plain-free (data_of.whole z) = (free-signed (capped_whole z) (mag-capped z), tt)
plain-free (data_of.seconds n) = (free-seconds (capped n) (capped-small n), tt)
plain-free (data_of.text s) = (free-string s, tt)

items-free : (ps : List Plain) → NumbersFree (items_tokens (items_of (map plain_json ps)))
items-free [] = (one-byte 93 (omega arith), tt)
items-free (p ∷ ps) = numbers-append _ _ (plain-free p) (items-free ps)

plains-free : (ms : List (List ℕ × Plain)) → NumbersFree (members_tokens (plain_members ms))
plains-free [] = (one-byte 125 (omega arith), tt)
plains-free (m ∷ ms) = (free-key m.0, numbers-append _ _ (plain-free m.1) (plains-free ms))

json-free : (d : Data) → NumbersFree (json_tokens (json_of d))
json-free (plain p) = plain-free p
json-free (list ps) = (one-byte 91 (omega arith), items-free ps)
json-free (object ms) = (one-byte 123 (omega arith), plains-free ms)

entries-free : (es : Entries) → NumbersFree (members_tokens (members_of es))
entries-free [] = (one-byte 125 (omega arith), tt)
entries-free (e ∷ es) = (free-key e.0, numbers-append _ _ (json-free e.1) (entries-free es))

pub has_no_break : (es : Entries) → HasNoBreak es
has_no_break es = has-no-break _ (free-print false _ (one-byte 123 (omega arith), entries-free es))
