-- A packet without tunnels holds what `packet` parses, which follows none.
use Rattle.std.proofs.Common.{◌≡◌, ℕ, zero, suc, ◌≤◌, List, [], ◌∷◌, ◌++◌, length, Bool, true, false, Option, Some, None, Ok, Err, ap, arith}
use Rattle.std.specs.Prelude.{◌==◌, ◌||◌}
use Rattle.std.proofs.Math.Nat.{le_refl}
use Rattle.std.proofs.lemmas.Bool.{false≢true}
use Rattle.std.proofs.lemmas.List.{length-append}
use Rattle.layouts.specs.Bytes.{Bytes}
use Rattle.layouts.specs.Layout.{done, choose, mapped}
use Rattle.layouts.specs.Meaning.{Answer}
use Rattle.layouts.specs.Reading.{reading, ◌and_then◌}
use Rattle.capture.specs.Transport.{Content, Tcp, Udp, Fragment, Other as OtherContent}
use Rattle.capture.specs.Ip.{Datagram, ipv4, ipv6}
use Rattle.capture.specs.Link.{IPV4, IPV6, carried, datagram, packet}
use Rattle.tunnels.specs.Tunnel.{Header, carried_between}
use Rattle.tunnels.specs.Labels.{mpls, backbone}
use Rattle.tunnels.specs.Carriers.{by_ports, by_protocol}
use Rattle.tunnels.specs.Walk.{Layer, Wraps, Holds, Unknown, Inside, Held, Unwrapped, by_layer, by_answer, followed, inner_layer, wrapped_or, content_layer, datagram_layer, layer_of_type, packet_layer, unwrapped}
use Rattle.tunnels.specs.declared.tunnel.Tunnel.{Tunnel}

layer_longer : (f : Header → Unwrapped) (found : List Tunnel) (l : Layer)
    → ((h : Header) → length found ≤ length (f h).tunnels)
    → length found ≤ length (by_layer f found l).tunnels
layer_longer f found (Wraps h) some = some h
layer_longer f found (Holds d) some = le_refl (length found)
layer_longer f found Unknown some = le_refl (length found)

answer_longer : (f : Header → Unwrapped) (found : List Tunnel) (a : Answer Layer)
    → ((h : Header) → length found ≤ length (f h).tunnels)
    → length found ≤ length (by_answer f found a).tunnels
answer_longer f found (Ok x) some = layer_longer f found x.0 some
answer_longer f found (Err e) some = le_refl (length found)

one_more : (t : Tunnel) (found : List Tunnel) (n : ℕ) → length (found ++ t ∷ []) ≤ n
    → length found ≤ n
one_more t found n h = omega (arith, h, length-append found (t ∷ []))

-- No tunnel found so far is lost.
longer : (n : ℕ) (found : List Tunnel) (a : Answer Layer)
    → length found ≤ length (followed n found a).tunnels
unfolding followed
longer zero found a = answer_longer _ found a (λ h. le_refl (length found))
longer (suc n) found a =
    answer_longer _ found a
    (λ h. one_more h.tunnel found _
    (longer n (found ++ h.tunnel ∷ []) (reading (inner_layer h.kind) h.inside)))

-- The datagram was found outside all tunnels.
record IsPlain (a : Answer Layer) (d : Datagram) : Type 0 where
  none : (followed 8 [] a).tunnels ≡ []
  holds : (followed 8 [] a).inside ≡ Held d

not_wrapped : (h : Header) (r : Bytes) (d : Datagram) → IsPlain (Ok (Wraps h, r)) d → ⊥
unfolding followed
not_wrapped h r d p =
    let some : 1 ≤ length
    (followed 7 (h.tunnel ∷ []) (reading (inner_layer h.kind) h.inside)).tunnels =
    longer 7 (h.tunnel ∷ []) (reading (inner_layer h.kind) h.inside) in
    let none : length (followed 7 (h.tunnel ∷ []) (reading (inner_layer h.kind) h.inside)).tunnels
    ≡ 0 = ap length p.none in
    omega (arith, some, none)

abbrev held : Datagram → Inside → Datagram
held d (Held e) = e
held d i = d

is_held : (e : Datagram) (r : Bytes) (d : Datagram) → IsPlain (Ok (Holds e, r)) d → e ≡ d
unfolding followed
is_held e r d p = ap (held e) p.holds

kept_or : (e : Datagram) (a : Answer Header) (r : Bytes) (d : Datagram)
    → IsPlain (Ok (wrapped_or e a, r)) d → e ≡ d
kept_or e (Ok x) r d p =
    absurd (not_wrapped (carried_between e.source e.destination x.0) r d p)
kept_or e (Err y) r d p = is_held e r d p

kept : (e : Datagram) (c : Content) (r : Bytes) (d : Datagram)
    → IsPlain (Ok (content_layer e c, r)) d → e ≡ d
kept e (Udp u) r d p = kept_or e (reading (by_ports u.source u.destination) u.payload) r d p
kept e (OtherContent n b) r d p = kept_or e (reading (by_protocol n) b) r d p
kept e (Tcp s) r d p = is_held e r d p
kept e Fragment r d p = is_held e r d p

abbrev is_datagram : Inside → Bool
is_datagram (Held d) = true
is_datagram i = false

from_wraps : (a : Answer Header) (d : Datagram)
    → IsPlain (a and_then λ x. Ok (Wraps x.0, x.1)) d → ⊥
unfolding followed
from_wraps (Ok x) d p = not_wrapped x.0 x.1 d p
from_wraps (Err e) d p = false≢true (ap is_datagram p.holds)

-- The packet parses as this datagram.
record IsPackets (a : Answer (Option Datagram)) (d : Datagram) : Type 0 where
  rest : Bytes
  is : a ≡ Ok (Some d, rest)

from_datagram : (a : Answer Datagram) (d : Datagram)
    → IsPlain (a and_then λ x. Ok (datagram_layer x.0, x.1)) d
    → IsPackets (a and_then λ x. Ok (Some x.0, x.1)) d
unfolding followed
from_datagram (Ok x) d p =
    record { rest = x.1; is = ap (λ e. Ok (Some e, x.1)) (kept x.0 x.0.content x.1 d p) }
from_datagram (Err e) d p = absurd (false≢true (ap is_datagram p.holds))

by_choice : (p q s t : Bool) (m : Bytes) (d : Datagram)
    → IsPlain (reading (choose p (mapped datagram_layer ipv4) (choose q (mapped datagram_layer ipv6)
    (choose s (mapped Wraps mpls) (choose t (mapped Wraps backbone) (done Unknown))))) m) d
    → IsPackets (reading (choose p (mapped Some ipv4) (choose q (mapped Some ipv6) (done None))) m)
    d
unfolding followed
by_choice true q s t m d h = from_datagram (reading ipv4 m) d h
by_choice false true s t m d h = from_datagram (reading ipv6 m) d h
by_choice false false true t m d h = absurd (from_wraps (reading mpls m) d h)
by_choice false false false true m d h = absurd (from_wraps (reading backbone m) d h)
by_choice false false false false m d h = absurd (false≢true (ap is_datagram h.holds))

by_type : (kind : ℕ) (m : Bytes) (d : Datagram) → IsPlain (reading (layer_of_type kind) m) d
    → IsPackets (reading (datagram kind) m) d
unfolding layer_of_type datagram
by_type kind m d h = by_choice (kind == IPV4) (kind == IPV6) ((kind == 0x8847) || (kind == 0x8848))
    (kind == 0x88e7) m d h

by_link : (a : Answer ℕ) (d : Datagram)
    → IsPlain (a and_then λ x. reading (layer_of_type x.0) x.1) d
    → IsPackets (a and_then λ x. reading (datagram x.0) x.1) d
unfolding followed
by_link (Ok x) d h = by_type x.0 x.1 d h
by_link (Err e) d h = absurd (false≢true (ap is_datagram h.holds))

pub plain : (link_type : ℕ) (b : Bytes) (d : Datagram)
    → unwrapped link_type b ≡ record { tunnels = []; inside = Held d }
    → (r : Bytes) × (reading (packet link_type) b ≡ Ok (Some d, r))
unfolding packet_layer packet
plain link_type b d is =
    let h : IsPackets (reading (packet link_type) b) d =
    by_link (reading (carried link_type) b) d (record {
      none = ap (λ u. u.tunnels) is;
      holds = ap (λ u. u.inside) is;
    }) in
    (h.rest, h.is)
