-- Only its own bytes encode a name.
use Rattle.std.proofs.Common.{◌≡◌, ℕ, ◌-◌, [], ◌++◌, length, take, Ok, Bool, true, false, sym, subst, ap, ◌∙◌}
use Rattle.std.specs.Prelude.{List, ◌==◌, nat_le, nat_lt}
use Rattle.std.proofs.lemmas.List.{append_assoc, append_cancel_right}
use Rattle.layouts.specs.Bytes.{Bytes, bytes_of}
use Rattle.layouts.specs.Layout.{Layout, done, refuse, number, ignored, block, left, tag, window, list, maybe, either, complete, look, chain, test, choose}
use Rattle.layouts.specs.Meaning.{EndsWith, Allows, Spells}
use Rattle.layouts.specs.Stable.{IsStable}
use Rattle.layouts.specs.declared.places.Place.{Place}
use Rattle.layouts.specs.declared.result.ErrorKind.{ErrorKind}
use Rattle.layouts.specs.declared.result.ErrorKind.TheVariants.{Switch, Tag, TooLarge, Verify}
use Rattle.layouts.proofs.EndLemmas.{ends}
use Rattle.layouts.proofs.PlaceLemmas.{ends_here, ends_read}
use Rattle.der.specs.Element.{der_length, items_of, length_by, long_length, tagged}
use Rattle.x509.specs.Name.{AttributeTypeAndValue, name, relative_distinguished_name}
use Rattle.x509_places.specs.Place.{IsBefore, NameStands, Stands}
use Rattle.x509_places.proofs.PlaceLemmas.{front_is}

-- a stable layout encodes the same without bytes at the end
fewer : {A : Type 0} (l : Layout A) → IsStable l → (b s : Bytes) (v : A) (r d : Bytes)
    → Spells l (b ++ s) v (r ++ s) d
    → Spells l b v r d
fewer (done a) st b s v r d (is, still, e) = (is, append_cancel_right b r s still, e)
fewer (refuse k) st b s v r d x = absurd x
fewer (number k) st b s v r d (small, is, e) = (
  small,
  append_cancel_right b (bytes_of k v ++ r) s
      (is ∙ sym (append_assoc (bytes_of k v) r s)),
  e,
)
fewer (ignored k) st b s v r d (size, is) =
    (size, append_cancel_right b (d ++ r) s (is ∙ sym (append_assoc d r s)))
fewer (block n) st b s v r d (size, is, e) =
    (size, append_cancel_right b (v ++ r) s (is ∙ sym (append_assoc v r s)), e)
fewer left st b s v r d x = absurd st
fewer (tag t) st b s v r d (is, e) =
    (append_cancel_right b (t ++ r) s (is ∙ sym (append_assoc t r s)), e)
fewer (window n l) st b s v r d (w, e, f, size, is, inner, all) =
    (w, e, f, size, append_cancel_right b (w ++ r) s (is ∙ sym (append_assoc w r s)), inner, all)
fewer (list l) st b s v r d x = absurd st
fewer (maybe l) st b s v r d x = absurd st
fewer (either l m) st b s v r d x = absurd st
fewer (complete l) st b s v r d x = absurd st
fewer (look l) st b s v r d x = absurd st
fewer (chain l f) st b s v r d (a, m, d1, d2, first, second, e) =
    let end : EndsWith m (r ++ s) = ends (f a) m v (r ++ s) d2 second in
    let is : m ≡ (end.0 ++ r) ++ s = end.1 ∙ sym (append_assoc end.0 r s) in (
      a,
      end.0 ++ r,
      d1,
      d2,
      fewer l st.0 b s a (end.0 ++ r) d1 (subst (λ x. Spells l (b ++ s) a x d1) is first),
      fewer (f a) (st.1 a) (end.0 ++ r) s v r d2
          (subst (λ x. Spells (f a) x v (r ++ s) d2) is second),
      e,
    )

test_stable : (c : Bool) (k : ErrorKind) → IsStable (test c k)
test_stable true k = tt
test_stable false k = tt

choose_stable : {A : Type 0} (c : Bool) (l m : Layout A) → IsStable l → IsStable m
    → IsStable (choose c l m)
choose_stable true l m one other = one
choose_stable false l m one other = other

long_stable : (k least : ℕ) → IsStable (long_length k least)
unfolding long_length
long_stable k least = (tt, λ n. (test_stable (nat_le least n) Verify, λ _. tt))

abbrev by_three : ℕ → Layout ℕ
by_three f = choose (f == 0x83) (long_length 3 0x10000) (refuse TooLarge)

abbrev by_two : ℕ → Layout ℕ
by_two f = choose (f == 0x82) (long_length 2 0x100) (by_three f)

abbrev by_one : ℕ → Layout ℕ
by_one f = choose (f == 0x81) (long_length 1 0x80) (by_two f)

abbrev by_first : ℕ → Layout ℕ
by_first f = choose (f == 0x80) (refuse Switch) (by_one f)

length_stable : (first : ℕ) → IsStable (length_by first)
unfolding length_by
length_stable f =
    choose_stable (nat_lt f 0x80) (done f) (by_first f) tt
    (choose_stable (f == 0x80) (refuse Switch) (by_one f) tt
    (choose_stable (f == 0x81) (long_length 1 0x80) (by_two f) (long_stable 1 0x80)
    (choose_stable (f == 0x82) (long_length 2 0x100) (by_three f) (long_stable 2 0x100)
    (choose_stable (f == 0x83) (long_length 3 0x10000) (refuse TooLarge)
    (long_stable 3 0x10000) tt))))

tagged_stable : {A : Type 0} (t : ℕ) (l : Layout A) → IsStable (tagged t l)
unfolding tagged der_length
tagged_stable t l = (tt, λ k. (test_stable (k == t) Tag, λ _. ((tt, length_stable), λ n. tt)))

name_stable : IsStable name
unfolding name
name_stable = tagged_stable 0x30 (items_of relative_distinguished_name)

name_alone : (x r : Bytes) (n : List (List AttributeTypeAndValue))
    → Allows name (x ++ r) (Ok (n, r))
    → Allows name x (Ok (n, []))
unfolding Allows
name_alone x r n (d, s) = (d, fewer name name_stable x r n [] d s)

pub name_stands : (b : Bytes) (k : ℕ) (i r x : Bytes) (n : List (List AttributeTypeAndValue))
    (p : Place)
    → x ≡ take (length i - length r) i → (IsBefore b k i → EndsWith i r → Stands b p x)
    → IsBefore b k i
    → Allows name i (Ok (n, r)) → NameStands b p n
name_stands b k i r x n p is stands at a =
    let end : EndsWith i r = ends_read name i i n r (ends_here i) a in
    let there : Stands b p x = stands at end in
    let whole : i ≡ x ++ r = front_is i r end ∙ ap (λ y. y ++ r) (sym is) in
    let alone : Allows name x (Ok (n, [])) =
    name_alone x r n (subst (λ y. Allows name y (Ok (n, r))) whole a) in
    record {
      spelled = subst (λ y. Allows name y (Ok (n, []))) (sym there.is) alone;
      within =
          there.within;
    }
