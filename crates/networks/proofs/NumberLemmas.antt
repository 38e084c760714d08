-- Each number is given to one network.
use Rattle.std.proofs.Common.{◌≡◌, inl, inr, ℕ, ◌+◌, ◌≤◌, Bool, true, false, ◌&&◌, List, [], ◌∷◌, take, Contains, Option, Some, None, refl, sym, ap, ap₂, ◌∙◌, subst, arith, rules, le_refl, true≢false, nat_eq}
use Rattle.std.specs.Cmp.Lexicographic.{pointwise}
use Rattle.std.specs.Map.{lookup, lookup_entry}
use Rattle.std.specs.Option.{unwrap_or}
use Rattle.std.specs.Prelude.{if◌then◌else◌, is_some}
use Rattle.lru.specs.LruCache.{LruCache, promoted, put_entries}
use Rattle.lru.proofs.CallerLemmas.{Contains-lookup, Contains-promoted, Contains-take}
use Rattle.lru.proofs.Splits.{Contains-cons, Contains-nil}
use Rattle.capture.specs.Vlan.{found_in}
use Rattle.tunnels.specs.Tunnel.{listed}
use Rattle.capture.specs.declared.vlan.VlanTags.{VlanTags}
use Rattle.capture.specs.contracts.vlan.VlanTagsPartialEq.TheImpl as vlans_eq
use Rattle.tunnels.specs.declared.tunnel.Tunnel.{Tunnel}
use Rattle.tunnels.specs.declared.tunnel.Tunnels.{Tunnels}
use Rattle.tunnels.specs.contracts.tunnel.TunnelPartialEq.TheImpl as tunnel_eq
use Rattle.tunnels.specs.contracts.tunnel.TunnelsPartialEq.TheImpl as tunnels_eq
use Rattle.networks.specs.Networks.{IsSame, Numbered, Numbering, is_network, none_held, number_of, numbered, with_packet}
use Rattle.networks.specs.declared.networks.Network.{Network}

-- Without an entry for the network, a new one comes first.
no_entry : (test : Network → Bool) (es : List Numbered) → lookup test es ≡ None
    → lookup_entry test es ≡ None
no_entry test [] h = refl
no_entry test (f ∷ es) h =
    (elim (test f.0) as (λ y. test f.0 ≡ y → lookup_entry test (f ∷ es) ≡ None) [
      | true ↦ λ t. let h' = rw t at h in cc
      | false ↦ λ t. rw t (no_entry test es (rw t at h))
    ]) refl

pub put_new : (c : LruCache Network ℕ) (n : Network) (v : ℕ)
    → lookup (is_network n) c.entries ≡ None → c.cap ≡ 65536
    → put_entries is_network c n v ≡ (n, v) ∷ take 65535 c.entries
put_new c n v none cap = rw (no_entry (is_network n) c.entries none, cap) refl

both : (s t : Bool) → (s && t) ≡ true → (s ≡ true) × (t ≡ true)
both true t e = (refl, e)
both false t e = absurd (true≢false (sym e))

same_list : {A : Type 0} (E : A → A → Bool) → ((x y : A) → E x y ≡ true → x ≡ y) → (xs ys : List A)
    → pointwise E xs ys ≡ true → xs ≡ ys
same_list E f [] [] h = refl
same_list E f [] (y ∷ ys) h = absurd (true≢false (sym h))
same_list E f (x ∷ xs) [] h = absurd (true≢false (sym h))
same_list E f (x ∷ xs) (y ∷ ys) h = let parts = both (E x y) (pointwise E xs ys) h in
    ap₂ (λ z zs. z ∷ zs) (f x y parts.0) (same_list E f xs ys parts.1)

same_number : (x y : ℕ) → nat_eq x y ≡ true → x ≡ y
same_number x y e = search rules

same_tunnel : (a b : Tunnel) → tunnel_eq.ghosts.eq a b ≡ true → a ≡ b
same_tunnel a b e = search rules

-- Networks that compare equal are the same.
same_vlans : (a b : VlanTags) → vlans_eq.ghosts.eq a b ≡ true → found_in a ≡ found_in b
same_vlans a b e = let h = both (pointwise nat_eq a.slots b.slots) (nat_eq a.count b.count) e in
    ap₂ take (same_number a.count b.count h.1) (same_list nat_eq same_number a.slots b.slots h.0)

same_tunnels : (a b : Tunnels) → tunnels_eq.ghosts.eq a b ≡ true → listed a ≡ listed b
same_tunnels a b e = let h =
    both (pointwise tunnel_eq.ghosts.eq a.slots b.slots) (nat_eq a.count b.count) e in
    ap₂ take (same_number a.count b.count h.1)
    (same_list tunnel_eq.ghosts.eq same_tunnel a.slots b.slots h.0)

same : (a b : Network) → is_network a b ≡ true → IsSame a b
same a b e = let h =
    both (vlans_eq.ghosts.eq a.vlans b.vlans) (tunnels_eq.ghosts.eq a.tunnels b.tunnels) e in
    (same_vlans a.vlans b.vlans h.0, same_tunnels a.tunnels b.tunnels h.1)

turned : (a b : Network) → IsSame a b → IsSame b a
turned a b h = (sym h.0, sym h.1)

chained : (a b c : Network) → IsSame a b → IsSame b c → IsSame a c
chained a b c h g = (h.0 ∙ g.0, h.1 ∙ g.1)

-- The number of this packet's network was given, and to no other.
record Given (a : Numbered) (t : Numbering) : Type 0 where
  before : a.1 ≤ t.last
  alone : (f : Numbered) → Contains t.held f → f.1 ≡ a.1 → IsSame f.0 a.0

-- The numbers of all remembered networks were given to no other.
abbrev Valid : Numbering → Type 0
Valid t = (f : Numbered) → Contains t.held f → Given f t

module _ (n : Network) (t : Numbering) where
  -- The packet's number and the table after it, by whether the network is remembered.
  abbrev given : Option ℕ → ℕ
  given o = unwrap_or o (t.last + 1)

  abbrev after : Option ℕ → Numbering
  after o = if is_some o then record t { held = promoted (is_network n) t.held }
      else record { held = (n, t.last + 1) ∷ take 65535 t.held; last = t.last + 1 }

  keeps : (o : Option ℕ) → lookup (is_network n) t.held ≡ o → (a : Numbered) → Given a t
      → Given a (after o)
  keeps (Some k) e a g = record {
    before = g.before;
    alone = λ f c. g.alone f (Contains-promoted (is_network n) t.held f c);
  }
  keeps None e a g = record {
    before = let b = g.before in omega (arith, b);
    alone = λ f c is. elim (Contains-cons (n, t.last + 1) (take 65535 t.held) f c) [
      | inl x ↦ let b = g.before in let next : t.last + 1 ≡ f.1 = ap (λ p. p.1) x in
          absurd (omega (arith, b, next, is))
      | inr i ↦ g.alone f (Contains-take 65535 t.held f i) is
    ];
  }

  gives : (o : Option ℕ) → lookup (is_network n) t.held ≡ o → (a : Numbered) → Given a t
      → given o ≡ a.1 → IsSame n a.0
  gives (Some k) e a g is = let on = Contains-lookup (is_network n) t.held k e in
      chained n on.0 a.0 (same n on.0 on.2) (g.alone (on.0, k) on.1 is)
  gives None e a g is = let b = g.before in absurd (omega (arith, b, is))

  begins : (o : Option ℕ) → lookup (is_network n) t.held ≡ o → Valid t
      → Given (n, given o) (after o)
  begins (Some k) e v = let on = Contains-lookup (is_network n) t.held k e in let old =
      v (on.0, k) on.1 in record {
        before = old.before;
        alone = λ f c is. chained f.0 on.0 n
            (old.alone f (Contains-promoted (is_network n) t.held f c) is)
            (turned n on.0 (same n on.0 on.2));
      }
  begins None e v = record {
    before = le_refl (t.last + 1);
    alone = λ f c is. elim (Contains-cons (n, t.last + 1) (take 65535 t.held) f c) [
      | inl x ↦ subst (λ p. IsSame p.0 n) x (refl, refl)
      | inr i ↦ let b = (v f (Contains-take 65535 t.held f i)).before in
          absurd (omega (arith, b, is))
    ];
  }

  valid : (o : Option ℕ) → lookup (is_network n) t.held ≡ o → Valid t → Valid (after o)
  valid (Some k) e v f c = keeps (Some k) e f (v f (Contains-promoted (is_network n) t.held f c))
  valid None e v f c = elim (Contains-cons (n, t.last + 1) (take 65535 t.held) f c) [
    | inl x ↦ subst (λ p. Given p (after None)) x (begins None e v)
    | inr i ↦ keeps None e f (v f (Contains-take 65535 t.held f i))
  ]

-- Later packets with a number that was given are of its network.
later : (a : Numbered) (t : Numbering) (ns : List Network) → Given a t → (b : Numbered)
    → Contains (numbered t ns) b → b.1 ≡ a.1 → IsSame b.0 a.0
later a t [] g b c is = absurd (Contains-nil b c)
later a t (n ∷ ns) g b c is =
    elim (Contains-cons (n, number_of n t) (numbered (with_packet n t) ns) b c) [
      | inl x ↦ subst (λ p. IsSame p.0 a.0) x
          (gives n t (lookup (is_network n) t.held) refl a g (ap (λ p. p.1) x ∙ is))
      | inr i ↦ later a (with_packet n t) ns
          (keeps n t (lookup (is_network n) t.held) refl a g) b i is
    ]

from : (t : Numbering) (ns : List Network) → Valid t → (a b : Numbered) → Contains (numbered t ns) a
    → Contains (numbered t ns) b
    → a.1 ≡ b.1 → IsSame a.0 b.0
from t [] v a b c d is = absurd (Contains-nil a c)
from t (n ∷ ns) v a b c d is =
    let its : Numbered = (n, number_of n t) in let on = with_packet n t in let it =
    begins n t (lookup (is_network n) t.held) refl v in
    elim (Contains-cons its (numbered on ns) a c) [
      | inl x ↦ elim (Contains-cons its (numbered on ns) b d) [
        | inl y ↦ subst (λ p. IsSame a.0 p.0) (sym x ∙ y) (refl, refl)
        | inr j ↦ subst (λ p. IsSame p.0 b.0) x
            (turned b.0 n (later its on ns it b j (sym is ∙ sym (ap (λ p. p.1) x))))
      ]
      | inr i ↦ elim (Contains-cons its (numbered on ns) b d) [
        | inl y ↦ subst (λ p. IsSame a.0 p.0) y
            (later its on ns it a i (is ∙ sym (ap (λ p. p.1) y)))
        | inr j ↦ from on ns (valid n t (lookup (is_network n) t.held) refl v) a b i j is
      ]
    ]

pub apart : (ns : List Network) (a b : Numbered) → Contains (numbered none_held ns) a
    → Contains (numbered none_held ns) b
    → a.1 ≡ b.1 → IsSame a.0 b.0
apart ns a b = from none_held ns (λ f c. absurd (Contains-nil f c)) a b
