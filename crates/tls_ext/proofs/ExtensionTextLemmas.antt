-- The encoding of an extension reads back as that extension, with nothing dropped.
use Rattle.std.proofs.Common.{
  ◌≡◌,
  ℕ,
  ◌+◌,
  ◌*◌,
  ◌/◌,
  ◌%◌,
  ◌^◌,
  ◌<◌,
  ◌≤◌,
  List,
  [],
  ◌∷◌,
  ◌++◌,
  length,
  drop,
  Ok,
  false,
  eqb,
  refl,
  sym,
  ◌∙◌,
  ap,
  subst,
  arith,
  append-nil,
  ◌==◌,
}
use Rattle.std.proofs.lemmas.List.{length-append}
use Rattle.std.specs.List.{All, flat_map}
use Rattle.std.proofs.lemmas.List.Elements.{All-nil, All-cons, All-head, All-tail}
use Rattle.layouts.specs.Bytes.{Bytes, bytes_of}
use Rattle.layouts.specs.Layout.{
  Layout,
  done,
  number,
  window,
  left,
  list,
  chain,
  test,
  choose,
  counted,
  counted_window,
  times,
  pairs,
}
use Rattle.layouts.specs.Meaning.{Spells, Allows}
use Rattle.layouts.specs.declared.result.ErrorKind.TheVariants.{LengthValue}
use Rattle.layouts.specs.Text.{counted_text, numbers_text}
use Rattle.layouts.proofs.NumberLemmas.{length-bytes_of}
use Rattle.layouts.proofs.OneAnswerLemmas.{eqb_other}
use Rattle.layouts.proofs.TextLemmas.{
  joined,
  chain_spelled,
  counted_spelled,
  window_spelled,
  test_spelled,
  times_spelled,
  number_spelled,
  length-numbers,
  picks_second,
  spelled_allowed,
}
use Rattle.tls_ext.specs.Extension as ext
use Rattle.tls_ext.specs.Extension.{Extension, ServerName, extension_type}
use Rattle.tls_ext.specs.Content.{server_name, server_names, max_fragment_length, supported_groups}
use Rattle.tls_ext.specs.Dispatch.{registered, registered_list, extension_content, extension, extensions}
use Rattle.tls_ext.specs.ExtensionText.{
  server_name_text,
  content_text,
  extension_text,
  extensions_text,
  FitsExtension,
  FitsExtensions,
  InRangeExtension,
}
use Rattle.tls_ext.specs.declared.kind.Side.TheVariants.{General}

-- a counted window that its content fills
counted_window_spelled : {A : Type 0} (k : ℕ) (l : Layout A) (w : Bytes) (v : A) (r : Bytes)
    → length w < 256 ^ k
    → Spells l w v [] [] → Spells (counted_window k l) (counted_text k w ++ r) v r []
counted_window_spelled k l w v r h s =
    chain_spelled (number k) (λ n. window n l) (bytes_of k (length w)) w r
    (length w) v (number_spelled k (length w) (w ++ r) h) (window_spelled l w v r s)

-- a list of items, to the end
list_spelled : {A : Type 0} (l : Layout A) (text : A → Bytes) (Fits : A → Type 0)
    → ((v : A) (r : Bytes) → Fits v → Spells l (text v ++ r) v r [])
    → ((v : A) → 0 < length (text v)) → (vs : List A)
    → All Fits vs → Spells (list l) (flat_map text vs) vs [] []
list_spelled l text Fits one some [] h = (refl, refl, λ v r d s. absurd (omega (arith, s.1)))
list_spelled l text Fits one some (v ∷ vs) h = (
  flat_map text vs,
  [],
  [],
  (
    one v (flat_map text vs) (All-head Fits v vs h),
    omega (arith, some v, length-append (text v) (flat_map text vs)),
  ),
  list_spelled l text Fits one some vs (All-tail Fits v vs h),
  refl,
)

-- all bytes as 2-byte numbers
pairs_spelled : (xs : List ℕ) → All (λ x. x < 256 ^ 2) xs
    → Spells pairs (numbers_text 2 xs) xs [] []
pairs_spelled xs all =
    let w = numbers_text 2 xs in
    let size : length w ≡ length xs * 2 = length-numbers 2 xs in
    let even : length w % 2 ≡ 0 = omega (arith, size) in
    let half : length w / 2 ≡ length xs = omega (arith, size) in
    let items : Spells (times (length xs) (number 2)) (w ++ []) xs [] [] =
    times_spelled (number 2) (bytes_of 2) (λ x. x < 256 ^ 2) (number_spelled 2) xs [] all in
    joined left (λ n. chain (test (n % 2 == 0) LengthValue) (λ _. times (n / 2) (number 2))) w xs []
    (length w) w
    (refl, refl, refl)
    (joined (test (length w % 2 == 0) LengthValue) (λ _. times (length w / 2) (number 2))
    w xs [] tt w
    (test_spelled (length w % 2 == 0) LengthValue w (ap (λ x. eqb x 0) even))
    (subst (λ j. Spells (times j (number 2)) w xs [] []) (sym half)
    (subst (λ b. Spells (times (length xs) (number 2)) b xs [] []) (append-nil w) items)))

-- server names
record FitsServerName (n : ServerName) : Type 0 where
  kind : n.name_type < 256 ^ 1
  name : length n.name < 256 ^ 2

name_spelled : (n : ServerName) (r : Bytes) → FitsServerName n
    → Spells server_name (server_name_text n ++ r) n r []
unfolding server_name
name_spelled n r h =
    chain_spelled (number 1)
    (λ kind. chain (counted 2) (λ name. done (record { name_type = kind; name = name })))
    (bytes_of 1 n.name_type) (counted_text 2 n.name) r n.name_type n
    (number_spelled 1 n.name_type (counted_text 2 n.name ++ r) h.kind)
    (joined (counted 2) (λ name. done (record { name_type = n.name_type; name = name }))
    (counted_text 2 n.name ++ r) n r n.name r (counted_spelled 2 n.name r h.name)
    (refl, refl, refl))

pub length-counted : (k : ℕ) (b : Bytes) → length (counted_text k b) ≡ k + length b
length-counted k b = length-append (bytes_of k (length b)) b
    ∙ ap (λ n. n + length b) (length-bytes_of k (length b))

pub length-name : (n : ServerName) → length (server_name_text n) ≡ 3 + length n.name
length-name n = length-append (bytes_of 1 n.name_type) (counted_text 2 n.name)
    ∙ omega (arith, length-bytes_of 1 n.name_type, length-counted 2 n.name)

names_fit : (names : List ServerName) → All (λ n. n.name_type < 256 ^ 1) names
    → length (flat_map server_name_text names) ≤ 65535 → All FitsServerName names
names_fit [] kinds h = All-nil FitsServerName
names_fit (n ∷ names) kinds h =
    let size : length (flat_map server_name_text (n ∷ names)) ≡ length (server_name_text n) + length
    (flat_map server_name_text names) =
    length-append (server_name_text n) (flat_map server_name_text names) in
    All-cons FitsServerName n names
    (record {
      kind = All-head (λ n. n.name_type < 256 ^ 1) n names kinds;
      name =
          omega (arith, size, length-name n);
    })
    (names_fit names (All-tail (λ n. n.name_type < 256 ^ 1) n names kinds) (omega (arith, size)))

names_spelled : (names : List ServerName) → All (λ n. n.name_type < 256 ^ 1) names
    → length (flat_map server_name_text names) ≤ 65533
    → Spells server_names (counted_text 2 (flat_map server_name_text names))
    (ext.server_name names) [] []
unfolding server_names
names_spelled names kinds h =
    let w = flat_map server_name_text names in
    let t = counted_text 2 w in
    let size : length t ≡ 2 + length w = length-counted 2 w in
    let some : (length t == 0) ≡ false =
    eqb_other (length t) 0 (λ e. absurd (omega (arith, size))) in
    let items : Spells (list server_name) w names [] [] =
    list_spelled server_name server_name_text FitsServerName name_spelled
    (λ n. omega (arith, length-name n)) names (names_fit names kinds (omega arith)) in
    let counted : Spells (counted_window 2 (list server_name)) (t ++ []) names [] [] =
    counted_window_spelled 2 (list server_name) w names [] (omega arith) items in
    joined left (λ n. chain (choose (n == 0) (done []) (counted_window 2 (list server_name)))
    (λ names. done (ext.server_name names))) t (ext.server_name names) [] (length t) t (
      refl,
      refl,
      refl,
    )
    (joined (choose (length t == 0) (done []) (counted_window 2 (list server_name)))
    (λ names. done (ext.server_name names)) t (ext.server_name names) [] names []
    (picks_second (length t == 0) (done []) (counted_window 2 (list server_name)) t names [] [] some
    (subst (λ b. Spells (counted_window 2 (list server_name)) b names [] [])
    (append-nil t) counted))
    (refl, refl, refl))

fragment_spelled : (code : ℕ) → code < 256 ^ 1 → Spells max_fragment_length (bytes_of 1 code)
    (ext.max_fragment_length code) [] []
unfolding max_fragment_length
fragment_spelled code h =
    joined (number 1) (λ x. done (ext.max_fragment_length x)) (bytes_of 1 code)
    (ext.max_fragment_length code) [] code [] (h, sym (append-nil (bytes_of 1 code)), refl)
    (refl, refl, refl)

groups_spelled : (groups : List ℕ) → All (λ x. x < 256 ^ 2) groups
    → length (numbers_text 2 groups) ≤ 65533
    → Spells supported_groups (counted_text 2 (numbers_text 2 groups))
    (ext.supported_groups groups) [] []
unfolding supported_groups
groups_spelled groups all h =
    let t = counted_text 2 (numbers_text 2 groups) in
    let counted : Spells (counted_window 2 pairs) (t ++ []) groups [] [] =
    counted_window_spelled 2 pairs (numbers_text 2 groups) groups [] (omega arith)
    (pairs_spelled groups all) in
    joined (counted_window 2 pairs) (λ x. done (ext.supported_groups x)) t
    (ext.supported_groups groups) [] groups []
    (subst (λ b. Spells (counted_window 2 pairs) b groups [] []) (append-nil t) counted)
    (refl, refl, refl)

-- the content of an extension, by its type
content_spelled : (e : Extension) → FitsExtension e → InRangeExtension e
    → (extension_type e < 256 ^ 2) × Spells (extension_content General (extension_type e))
    (content_text e) e [] []
unfolding extension_content registered registered_list
content_spelled (ext.server_name names) fits range = (
  omega arith,
  names_spelled names range
      (omega (arith, fits.length, length-counted 2 (flat_map server_name_text names))),
)
content_spelled (ext.max_fragment_length code) fits range =
    (omega arith, fragment_spelled code range)
content_spelled (ext.supported_groups groups) fits range = (
  omega arith,
  groups_spelled groups range
      (omega (arith, fits.length, length-counted 2 (numbers_text 2 groups))),
)
content_spelled e fits range = absurd fits.kind

pub extension_spelled : (e : Extension) (r : Bytes) → FitsExtension e → InRangeExtension e
    → Spells (extension General) (extension_text e ++ r) e r []
unfolding extension
extension_spelled e r fits range =
    let content = content_spelled e fits range in
    chain_spelled (number 2) (λ n. counted_window 2 (extension_content General n))
    (bytes_of 2 (extension_type e))
    (counted_text 2 (content_text e)) r (extension_type e) e
    (number_spelled 2 (extension_type e) (counted_text 2 (content_text e) ++ r) content.0)
    (counted_window_spelled 2 (extension_content General (extension_type e)) (content_text e) e r
    (omega (arith, fits.length)) content.1)

pub length-extension : (e : Extension) → length (extension_text e) ≡ 4 + length (content_text e)
length-extension e = length-append (bytes_of 2 (extension_type e)) (counted_text 2 (content_text e))
    ∙ omega (arith, length-bytes_of 2 (extension_type e), length-counted 2 (content_text e))

-- an extension that can be read back
record Readable (e : Extension) : Type 0 where
  fits : FitsExtension e
  range : InRangeExtension e

readable : (es : List Extension) → All FitsExtension es → All InRangeExtension es → All Readable es
readable [] fits range = All-nil Readable
readable (e ∷ es) fits range = All-cons Readable e es (record
    { fits = All-head FitsExtension e es fits; range = All-head InRangeExtension e es range })
    (readable es (All-tail FitsExtension e es fits) (All-tail InRangeExtension e es range))

pub extensions_spelled : (es : List Extension) → FitsExtensions es → All InRangeExtension es
    → Spells (extensions General) (flat_map extension_text es) es [] []
extensions_spelled es fits range = list_spelled (extension General) extension_text Readable
    (λ e r h. extension_spelled e r h.fits h.range) (λ e. omega (arith, length-extension e)) es
    (readable es fits.each range)

-- the encoding without its 2 bytes of length
behind_length : (es : List Extension) → drop 2 (extensions_text es) ≡ flat_map extension_text es
behind_length es = refl

pub extensions_read : (es : List Extension) → FitsExtensions es → All InRangeExtension es
    → Allows (extensions General) (drop 2 (extensions_text es)) (Ok (es, []))
extensions_read es fits range =
    subst (λ b. Allows (extensions General) b (Ok (es, []))) (sym (behind_length es))
    (spelled_allowed (extensions General) (flat_map extension_text es) es [] []
    (extensions_spelled es fits range))
