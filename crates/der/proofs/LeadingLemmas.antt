-- The bytes of a subidentifier are a front of the bytes that are iterated.
use Rattle.std.proofs.Common.{◌≡◌, ℕ, ◌+◌, ◌-◌, [], ◌∷◌, ◌++◌, length, Ok, Err, Bool, true, false, leb, refl, sym, ◌∙◌, ap, arith, append_assoc}
use Rattle.std.proofs.lemmas.List.{length-append}
use Rattle.layouts.specs.Bytes.{Bytes, AreBytes}
use Rattle.layouts.specs.Layout.{number, block, test, done, chain}
use Rattle.layouts.specs.Meaning.{Broken, Answer}
use Rattle.layouts.specs.Reading.{reading, number_at, split_at, ◌and_then◌}
use Rattle.layouts.specs.Items.{items_in, left_in}
use Rattle.layouts.specs.declared.result.ErrorKind.TheVariants.{Verify}
use Rattle.layouts.proofs.OneAnswerLemmas.{number_read}
use Rattle.layouts.proofs.ItemsLemmas.{items_first, items_none, left_first, left_none, none_in, left_over}
use Rattle.layouts.proofs.TextLemmas.{spelled_read}
use Rattle.der.specs.ObjectIdentifier.{leading_byte}

one_read : (x : ℕ) (xs : Bytes) → reading (number 1) (x ∷ xs) ≡ Ok (x, xs)
one_read x xs = number_read 1 (x ∷ xs) (x ∷ []) xs x (omega arith) refl refl (omega arith)

behind_one : Answer ℕ → Answer ℕ
behind_one a = a and_then λ x. reading (chain (test (leb 128 x.0) Verify) (λ _. done x.0)) x.1

leading_read : (x : ℕ) (xs : Bytes) → leb 128 x ≡ true → reading leading_byte (x ∷ xs) ≡ Ok (x, xs)
unfolding leading_byte behind_one
leading_read x xs e =
    ap behind_one (one_read x xs) ∙ ap (λ t. reading (chain (test t Verify) (λ _. done x)) xs) e

leading_refused : (x : ℕ) (xs : Bytes) → leb 128 x ≡ false
    → reading leading_byte (x ∷ xs) ≡ Err (Broken Verify)
unfolding leading_byte behind_one
leading_refused x xs e =
    ap behind_one (one_read x xs) ∙ ap (λ t. reading (chain (test t Verify) (λ _. done x)) xs) e

-- what was iterated and what is left are all bytes
joined : (b : Bytes) → items_in leading_byte b ++ left_in leading_byte b ≡ b
joined [] = rw (none_in leading_byte [] (omega arith), left_over leading_byte [] (omega arith)) refl
joined (x ∷ xs) = go (leb 128 x) refl (joined xs)
  where
    go : (t : Bool) → leb 128 x ≡ t → items_in leading_byte xs ++ left_in leading_byte xs ≡ xs
        → items_in leading_byte (x ∷ xs) ++ left_in leading_byte (x ∷ xs) ≡ x ∷ xs
    go true e more =
        let read : reading leading_byte (x ∷ xs) ≡ Ok (x, xs) = leading_read x xs e in
        let items : items_in leading_byte (x ∷ xs) ≡ x ∷ items_in leading_byte xs =
        items_first leading_byte (x ∷ xs) x xs read (omega arith) in
        let left : left_in leading_byte (x ∷ xs) ≡ left_in leading_byte xs =
        left_first leading_byte (x ∷ xs) x xs read (omega arith) in
        rw (items, left) (ap (λ ys. x ∷ ys) more)
    go false e more =
        let no : reading leading_byte (x ∷ xs) ≡ Err (Broken Verify) = leading_refused x xs e in
        rw (
          items_none leading_byte (x ∷ xs) (Broken Verify) no,
          left_none leading_byte (x ∷ xs) (Broken Verify) no,
        ) refl

-- one byte is read from a front
byte_front : (c : Bytes) (x : ℕ) (r : Bytes) → reading (number 1) c ≡ Ok (x, r) → c ≡ x ∷ r
unfolding number_at split_at
byte_front [] x r e = cc
byte_front (y ∷ ys) x r e =
    let one : reading (number 1) (y ∷ ys) ≡ Ok (y, ys) = one_read y ys in
    let pair : ◌≡◌ {A = ℕ × Bytes} (y, ys) (x, r) = cc in
    ap (λ p. p.0 ∷ p.1) pair

-- the leading bytes and the last one are a front of that length
pub with_last : (b : Bytes) (x : ℕ) (r : Bytes) → AreBytes b
    → reading (number 1) (left_in leading_byte b) ≡ Ok (x, r)
    → reading (block (length b - length r)) b ≡ Ok (items_in leading_byte b ++ x ∷ [], r)
with_last b x r are e =
    let front : Bytes = items_in leading_byte b ++ x ∷ [] in
    let is : b ≡ front ++ r =
    sym (joined b)
    ∙ ap (λ c. items_in leading_byte b ++ c) (byte_front (left_in leading_byte b) x r e)
    ∙ sym (append_assoc (items_in leading_byte b) (x ∷ []) r)
    in
    let long : length b ≡ length front + length r = ap length is ∙ length-append front r in
    spelled_read (block (length b - length r)) b front r [] are ((omega arith), is, refl)
