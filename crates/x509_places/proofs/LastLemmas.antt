-- The last part of a content, or of an element.
use Rattle.std.proofs.Common.{◌≡◌, ◌≤◌, ℕ, [], ◌∷◌, ◌++◌, length, arith, Ok, Bool, true, false, ◌==◌, if◌then◌else◌, refl, sym, subst, ap, ◌∙◌}
use Rattle.std.specs.Prelude.{◌%◌, nat_le, not}
use Rattle.std.proofs.lemmas.List.{append-nil, length-append}
use Rattle.layouts.specs.Bytes.{Bytes}
use Rattle.layouts.specs.Layout.{Layout, done, left, number, block, rest, list, look, test, chain, ◌>>=◌, ◌>>◌}
use Rattle.layouts.specs.Meaning.{EndsWith, Allows, Spells}
use Rattle.layouts.specs.declared.result.ErrorKind.{ErrorKind}
use Rattle.layouts.specs.declared.result.ErrorKind.TheVariants.{LengthValue, Switch, Verify}
use Rattle.layouts.proofs.EndLemmas.{ends, ends_after}
use Rattle.der.specs.Element.{Element, der_length, element}
use Rattle.der.specs.ObjectIdentifier.{object_identifier_content, subidentifier}
use Rattle.der.specs.Values.{BitString, bit_string, integer, is_padding, is_shortest}
use Rattle.x509.specs.GeneralName.{GeneralName, Rfc822Name, DnsName, UniformResourceIdentifier, IpAddress, Other, name_of, general_name, view_general_name}
use Rattle.x509.specs.declared.general_name.GeneralName.{GeneralName as LentGeneralName}
use Rattle.x509.specs.declared.general_name.GeneralName.TheVariants as lent
use Rattle.x509_places.specs.Place.{IsBefore}
use Rattle.x509_places.specs.Walk.{name_content}
use Rattle.x509_places.proofs.PlaceLemmas.{end_before}

empty : (r : Bytes) → length r ≤ 0 → r ≡ []
empty [] h = refl
empty (x ∷ r) h = absurd (omega arith)

-- If b encodes v, these bytes of v come right before the rest.
abbrev Last : {A : Type 0} → Layout A → (A → Bytes) → Type 0
Last {A} l last = (b : Bytes) (v : A) (r d : Bytes) → Spells l b v r d → EndsWith b (last v ++ r)

chain_last : {A B : Type 0} (l : Layout A) (f : A → Layout B) (last : B → Bytes)
    → ((a : A) → Last (f a) last)
    → Last (chain l f) last
chain_last l f last more b v r d (a, m, d1, d2, s, t, e) =
    ends_after b m _ (ends l b a m d1 s) (more a m v r d2 t)

block_last : (n : ℕ) → Last (block n) (λ x. x)
block_last n b v r d s = ([], s.1)

rest_last : Last rest (λ x. x)
rest_last = chain_last left (λ n. block n) (λ x. x) block_last

-- Nothing is consumed, and the bytes of the value are these.
abbrev Keeps : {A : Type 0} → Layout A → (A → Bytes) → Bytes → Type 0
Keeps {A} l last x = (b : Bytes) (v : A) (r d : Bytes) → Spells l b v r d → (b ≡ r) × (last v ≡ x)

kept_last : {A B : Type 0} (l : Layout A) (f : A → Layout B) (last : A → Bytes) (of : B → Bytes)
    → ((a : A) → Keeps (f a) of (last a)) → Last l last → Last (chain l f) of
kept_last l f last of keeps more b v r d (a, m, d1, d2, s, t, e) =
    let k : (m ≡ r) × (of v ≡ last a) = keeps a m v r d2 t in
    subst (λ x. EndsWith b (x ++ r)) (sym k.1)
    (subst (λ x. EndsWith b (last a ++ x)) k.0 (more b a m d1 s))

done_keeps : {A : Type 0} (a : A) (of : A → Bytes) (x : Bytes) → of a ≡ x → Keeps (done a) of x
done_keeps a of x same b v r d (is, still, e) = (still, ap of is ∙ same)

test_keeps : {A : Type 0} (c : Bool) (k : ErrorKind) (l : Layout A) (of : A → Bytes) (x : Bytes)
    → Keeps l of x
    → Keeps (chain (test c k) (λ _. l)) of x
test_keeps true k l of x more b v r d (a, m, d1, d2, (is, still, e1), t, e) =
    let here : (m ≡ r) × (of v ≡ x) = more m v r d2 t in (still ∙ here.0, here.1)
test_keeps false k l of x more b v r d (a, m, d1, d2, s, t, e) = absurd s

-- for an allowed answer at the end of bytes
before : {A : Type 0} (l : Layout A) (last : A → Bytes) → Last l last
    → (w b : Bytes) (v : A) (r : Bytes)
    → EndsWith w b → Allows l b (Ok (v, r)) → EndsWith w (last v ++ r)
unfolding Allows
before l last more w b v r at (d, s) = ends_after w b (last v ++ r) at (more b v r d s)

pub rest_before : (w b v r : Bytes) → EndsWith w b → Allows rest b (Ok (v, r)) → EndsWith w (v ++ r)
rest_before = before rest (λ x. x) rest_last

-- all bytes are consumed
rest_is : (b v r : Bytes) → Allows rest b (Ok (v, r)) → (v ≡ b) × (r ≡ [])
unfolding Allows
rest_is b v r (d, (n, m, d1, d2, (is, same, e1), (size, split, e2), e)) =
    let whole : b ≡ v ++ r = same ∙ split in
    let none : r ≡ [] = empty r (omega (arith, size, is, ap length whole ∙ length-append v r)) in
    (sym (whole ∙ ap (λ x. v ++ x) none ∙ append-nil v), none)

pub all_before : (w b v r : Bytes) → EndsWith w b → Allows rest b (Ok (v, r)) → EndsWith w (b ++ r)
all_before w b v r at a =
    subst (λ x. EndsWith w (b ++ x)) (sym (rest_is b v r a).1)
    (subst (λ x. EndsWith w x) (sym (append-nil b)) at)

pub rest_same : (b v r : Bytes) → Allows rest b (Ok (v, r)) → v ≡ b
rest_same b v r a = (rest_is b v r a).0

abbrev whole_identifier : ℕ → Layout Bytes
whole_identifier n = test (n == 0) Verify >> rest

abbrev judged_identifier : Layout Bytes
judged_identifier = look (list subidentifier >> left) >>= whole_identifier

abbrev some_identifier : ℕ → Layout Bytes
some_identifier n = test (nat_le 1 n) LengthValue >> judged_identifier

object_identifier_last : Last object_identifier_content (λ x. x)
unfolding object_identifier_content
object_identifier_last =
    chain_last left some_identifier (λ x. x)
    (λ n. chain_last (test (nat_le 1 n) LengthValue) (λ _. judged_identifier) (λ x. x)
    (λ _. chain_last (look (list subidentifier >> left)) whole_identifier (λ x. x)
    (λ k. chain_last (test (k == 0) Verify) (λ _. rest) (λ x. x) (λ _. rest_last))))

pub object_identifier_before : (w b v r : Bytes) → EndsWith w b
    → Allows object_identifier_content b (Ok (v, r))
    → EndsWith w (v ++ r)
object_identifier_before = before object_identifier_content (λ x. x) object_identifier_last

abbrev judged_integer : Bytes → Layout Bytes
judged_integer bytes = test (is_shortest bytes) Verify >> done bytes

abbrev some_integer : ℕ → Layout Bytes
some_integer n = test (nat_le 1 n) LengthValue >> (rest >>= judged_integer)

integer_last : Last integer (λ x. x)
unfolding integer
integer_last =
    chain_last left some_integer (λ x. x)
    (λ n. chain_last (test (nat_le 1 n) LengthValue) (λ _. rest >>= judged_integer) (λ x. x)
    (λ _. kept_last rest judged_integer (λ x. x) (λ x. x)
    (λ a. test_keeps (is_shortest a) Verify (done a) (λ x. x) a (done_keeps a (λ x. x) a refl))
    rest_last))

pub integer_before : (w b v r : Bytes) → EndsWith w b → Allows integer b (Ok (v, r))
    → EndsWith w (v ++ r)
integer_before = before integer (λ x. x) integer_last

abbrev string_of : ℕ → Bytes → BitString
string_of unused bytes = record { unused = unused; bytes = bytes }

abbrev judged_string : ℕ → Bytes → Layout BitString
judged_string unused bytes = test (is_padding unused bytes) Verify >> done (string_of unused bytes)

abbrev unused_read : ℕ → Layout BitString
unused_read unused = test (nat_le unused 7) Verify >> (rest >>= judged_string unused)

bit_string_last : Last bit_string (λ s. s.bytes)
unfolding bit_string
bit_string_last =
    chain_last (number 1) unused_read (λ s. s.bytes)
    (λ u. chain_last (test (nat_le u 7) Verify) (λ _. rest >>= judged_string u) (λ s. s.bytes)
    (λ _. kept_last rest (judged_string u) (λ x. x) (λ s. s.bytes)
    (λ a. test_keeps (is_padding u a) Verify (done (string_of u a)) (λ s. s.bytes) a
    (done_keeps (string_of u a) (λ s. s.bytes) a refl)) rest_last))

pub bit_string_before : (w b : Bytes) (v : BitString) (r : Bytes) → EndsWith w b
    → Allows bit_string b (Ok (v, r))
    → EndsWith w (v.bytes ++ r)
bit_string_before = before bit_string (λ s. s.bytes) bit_string_last

abbrev made : ℕ → Bytes → Element
made t content = record { tag = t; content = content }

abbrev content_read : ℕ → ℕ → Layout Element
content_read t n = block n >>= λ content. done (made t content)

abbrev tag_read : ℕ → Layout Element
tag_read t = test (not (t % 32 == 31)) Switch >> (der_length >>= content_read t)

element_last : Last element (λ e. e.content)
unfolding element
element_last =
    chain_last (number 1) tag_read (λ e. e.content)
    (λ t. chain_last (test (not (t % 32 == 31)) Switch) (λ _. der_length >>= content_read t)
    (λ e. e.content)
    (λ _. chain_last der_length (content_read t) (λ e. e.content)
    (λ n. kept_last (block n) (λ content. done (made t content)) (λ x. x) (λ e. e.content)
    (λ a. done_keeps (made t a) (λ e. e.content) a refl) (block_last n))))

pub element_before : (w b : Bytes) (v : Element) (r : Bytes) → EndsWith w b
    → Allows element b (Ok (v, r))
    → EndsWith w (v.content ++ r)
element_before = before element (λ e. e.content) element_last

-- the content of a name's element
abbrev content_in : GeneralName → Bytes
content_in (Rfc822Name b) = b
content_in (DnsName b) = b
content_in (UniformResourceIdentifier b) = b
content_in (IpAddress b) = b
content_in (Other e) = e.content

picked : (c : Bool) (x y : GeneralName) (b : Bytes) → content_in x ≡ b → content_in y ≡ b
    → content_in (if c then x else y) ≡ b
picked true x y b one other = one
picked false x y b one other = other

name_of_content : (e : Element) → content_in (name_of e) ≡ e.content
name_of_content e =
    picked (e.tag == 0x81) (Rfc822Name e.content) _ e.content refl
    (picked (e.tag == 0x82) (DnsName e.content) _ e.content refl
    (picked (e.tag == 0x86) (UniformResourceIdentifier e.content) _ e.content refl
    (picked (e.tag == 0x87) (IpAddress e.content) (Other e) e.content refl refl)))

general_name_last : Last general_name content_in
unfolding general_name
general_name_last =
    kept_last element (λ e. done (name_of e)) (λ e. e.content) content_in
    (λ e. done_keeps (name_of e) content_in e.content (name_of_content e)) element_last

same_content : (x : LentGeneralName) → content_in (view_general_name x) ≡ name_content x
same_content (lent.Rfc822Name b) = refl
same_content (lent.DnsName b) = refl
same_content (lent.UniformResourceIdentifier b) = refl
same_content (lent.IpAddress b) = refl
same_content (lent.Other e) = refl

pub general_name_before : (w b y : Bytes) (x : LentGeneralName) (r : Bytes) → y ≡ name_content x
    → EndsWith w b
    → Allows general_name b (Ok (view_general_name x, r)) → IsBefore w 0 (y ++ r)
general_name_before w b y x r is at a =
    let there : EndsWith w (content_in (view_general_name x) ++ r) =
    before general_name content_in general_name_last w b (view_general_name x) r at a in
    end_before w (y ++ r) (subst (λ z. EndsWith w (z ++ r)) (same_content x ∙ sym is) there)
