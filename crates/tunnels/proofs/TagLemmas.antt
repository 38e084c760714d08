-- The VLAN tags behind a layer, by how many tunnels may still come.
use Rattle.std.proofs.Common.{◌≡◌, ℕ, zero, suc, ◌-◌, ◌<◌, ◌≤◌, List, [], ◌++◌, Ok, Err, length, take, refl, sym, ap, ◌∙◌, arith, append-nil, length-take, take_all}
use Rattle.layouts.specs.Bytes.{Bytes}
use Rattle.layouts.specs.Meaning.{Refusal}
use Rattle.layouts.specs.Reading.{reading}
use Rattle.capture.specs.Ip.{Datagram}
use Rattle.capture.proofs.VlanLemmas.{joined}
use Rattle.tunnels.specs.Tunnel.{Header}
use Rattle.tunnels.specs.Tags.{frame_vlans, inner_vlans}
use Rattle.tunnels.specs.Walk.{inner_layer, Wraps, Holds, Unknown}

none_refused : (n : ℕ) (e : Refusal) → inner_vlans n (Err e) ≡ []
unfolding inner_vlans
none_refused zero e = refl
none_refused (suc n) e = refl

none_unknown : (n : ℕ) (b : Bytes) → inner_vlans n (Ok (Unknown, b)) ≡ []
unfolding inner_vlans
none_unknown zero b = refl
none_unknown (suc n) b = refl

none_held : (n : ℕ) (d : Datagram) (b : Bytes) → inner_vlans n (Ok (Holds d, b)) ≡ []
unfolding inner_vlans
none_held zero d b = refl
none_held (suc n) d b = refl

none_deeper : (n : ℕ) (h : Header) (b : Bytes) → n ≤ 0 → inner_vlans n (Ok (Wraps h, b)) ≡ []
unfolding inner_vlans
none_deeper zero h b none = refl
none_deeper (suc n) h b none = absurd (omega (arith, none))

one_more : (n : ℕ) (h : Header) (b : Bytes) → 0 < n
    → inner_vlans n (Ok (Wraps h, b)) ≡ frame_vlans h ++ inner_vlans (n - 1)
    (reading (inner_layer h.kind) h.inside)
unfolding inner_vlans
one_more zero h b some = absurd (omega (arith, some))
one_more (suc n) h b some =
    let same : n ≡ suc n - 1 = omega arith in
    ap (λ k. frame_vlans h ++ inner_vlans k (reading (inner_layer h.kind) h.inside)) same

-- Nothing is appended, and the list stays.
pub none : (xs ys : List ℕ) → length xs ≤ 16 → ys ≡ [] → xs ≡ take 16 (xs ++ ys)
none xs ys few is =
    sym (ap (λ l. take 16 (xs ++ l)) is ∙ ap (take 16) (append-nil xs) ∙ take_all 16 xs few)

pub bounded : (xs new : List ℕ) → new ≡ take 16 xs → length new ≤ 16
bounded xs new is = let l = ap length is in omega (arith, l, length-take 16 xs)

module _ (xs : List ℕ) (n : ℕ) (few : length xs ≤ 16) where
  pub refused : (e : Refusal) → xs ≡ take 16 (xs ++ inner_vlans n (Err e))
  refused e = none xs (inner_vlans n (Err e)) few (none_refused n e)

  pub unknown : (b : Bytes) → xs ≡ take 16 (xs ++ inner_vlans n (Ok (Unknown, b)))
  unknown b = none xs (inner_vlans n (Ok (Unknown, b))) few (none_unknown n b)

  pub holds : (d : Datagram) (b : Bytes) → xs ≡ take 16 (xs ++ inner_vlans n (Ok (Holds d, b)))
  holds d b = none xs (inner_vlans n (Ok (Holds d, b))) few (none_held n d b)

  pub deeper : (h : Header) (b : Bytes) → n ≤ 0
      → xs ≡ take 16 (xs ++ inner_vlans n (Ok (Wraps h, b)))
  deeper h b last = none xs (inner_vlans n (Ok (Wraps h, b))) few (none_deeper n h b last)

-- The tags of a tunnel's frame, and of what is inside it.
pub wrapped : (n : ℕ) (h : Header) (b : Bytes) (xs mid new : List ℕ) → 0 < n
    → mid ≡ take 16 (xs ++ frame_vlans h)
    → new ≡ take 16 (mid ++ inner_vlans (n - 1) (reading (inner_layer h.kind) h.inside))
    → new ≡ take 16 (xs ++ inner_vlans n (Ok (Wraps h, b)))
wrapped n h b xs mid new some f g =
    joined xs (frame_vlans h) (inner_vlans (n - 1) (reading (inner_layer h.kind) h.inside))
    mid new f g
    ∙ ap (λ ys. take 16 (xs ++ ys)) (sym (one_more n h b some))

-- The tags of a packet's link, and of the frames in its tunnels.
pub both : (xs ys zs mid new : List ℕ) → xs ≡ [] → mid ≡ take 16 (xs ++ ys)
    → new ≡ take 16 (mid ++ zs) → new ≡ take 16 (ys ++ zs)
both xs ys zs mid new none f g = joined xs ys zs mid new f g
    ∙ ap (λ l. take 16 (l ++ (ys ++ zs))) none
