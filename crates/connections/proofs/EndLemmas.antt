-- Both directions of a connection have the same five-tuple, and no others have it.
use Rattle.std.proofs.Common.{Ordering, ℕ, ◌≡◌, ◌⊎◌, Bool, true, false, Some, ap, ◌∙◌, inl, inr, rules}
use Rattle.std.specs.Prelude.{if◌then◌else◌}
use Rattle.std.specs.Ordering.{partial_le, ordering_reverse}
use Rattle.std.specs.declared.cmp.Ordering.TheVariants.{Less, Equal, Greater}
use Rattle.std.specs.Cmp.{IsPartialOrder, IsTotalOrder, Agrees}
use Rattle.connections.specs.declared.five_tuple.Protocol.{Protocol}
use Rattle.connections.specs.declared.five_tuple.End.{End}
use Rattle.connections.specs.declared.five_tuple.FiveTuple.{FiveTuple}
use Rattle.connections.specs.contracts.five_tuple.EndPartialEq.TheImpl as end_eq
use Rattle.connections.specs.contracts.five_tuple.EndPartialOrd.TheImpl as end_order
use Rattle.connections.specs.contracts.five_tuple.EndOrd.TheImpl as end_total
use Rattle.connections.specs.FiveTuple.{is_end, five_tuple_between}

pub same_end : (a b : End) → is_end a b ≡ true → a ≡ b
same_end a b e = search rules

choose : ℕ → Protocol → Bool → End → End → FiveTuple
choose n p t a b = if t then record { network = n; protocol = p; lower = a; upper = b } else
    record { network = n; protocol = p; lower = b; upper = a }

module _ (agrees : Agrees end_order.ghosts.partial_cmp end_total.ghosts.cmp)
    (total : IsTotalOrder end_total.ghosts.cmp)
    (partial : IsPartialOrder end_eq.ghosts.eq end_order.ghosts.partial_cmp) where
  at_order : (n : ℕ) (p : Protocol) (a b : End) (x y : Ordering)
      → end_order.ghosts.partial_cmp a b ≡ Some x
      → end_order.ghosts.partial_cmp b a ≡ Some y → x ≡ ordering_reverse y
      → five_tuple_between n p a b ≡ five_tuple_between n p b a
  at_order n p a b x Less ex ey r = rw (ex, ey, r)
  at_order n p a b x Greater ex ey r = rw (ex, ey, r)
  at_order n p a b x Equal ex ey r = let one : a ≡ b =
      same_end a b ((partial.matches_eq a b).1 (ex ∙ ap Some r)) in
      rw (ex, ey, r) cc

  pub both_directions : (n : ℕ) (p : Protocol) (a b : End)
      → five_tuple_between n p a b ≡ five_tuple_between n p b a
  both_directions n p a b = at_order n p a b (end_total.ghosts.cmp a b) (end_total.ghosts.cmp b a)
      (agrees a b) (agrees b a)
      (total.antisymm a b)

by_tests : (m n : ℕ) (p q : Protocol) (a b c d : End) (s t : Bool)
    → choose m p s a b ≡ choose n q t c d
    → (m ≡ n) × (p ≡ q) × (((a ≡ c) × (b ≡ d)) ⊎ ((a ≡ d) × (b ≡ c)))
unfolding choose
by_tests m n p q a b c d true true e =
    (ap (λ x. x.network) e, ap (λ x. x.protocol) e, inl (ap (λ x. x.lower) e, ap (λ x. x.upper) e))
by_tests m n p q a b c d true false e =
    (ap (λ x. x.network) e, ap (λ x. x.protocol) e, inr (ap (λ x. x.lower) e, ap (λ x. x.upper) e))
by_tests m n p q a b c d false true e =
    (ap (λ x. x.network) e, ap (λ x. x.protocol) e, inr (ap (λ x. x.upper) e, ap (λ x. x.lower) e))
by_tests m n p q a b c d false false e =
    (ap (λ x. x.network) e, ap (λ x. x.protocol) e, inl (ap (λ x. x.upper) e, ap (λ x. x.lower) e))

pub same_ends : (m n : ℕ) (p q : Protocol) (a b c d : End)
    → five_tuple_between m p a b ≡ five_tuple_between n q c d
    → (m ≡ n) × (p ≡ q) × (((a ≡ c) × (b ≡ d)) ⊎ ((a ≡ d) × (b ≡ c)))
unfolding choose
same_ends m n p q a b c d e = by_tests m n p q a b c d (partial_le end_order.ghosts.partial_cmp a b)
    (partial_le end_order.ghosts.partial_cmp c d) e
