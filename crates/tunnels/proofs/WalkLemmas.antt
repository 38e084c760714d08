-- The walk from one layer, by how many tunnels may still come.
use Rattle.std.proofs.Common.{◌≡◌, ◌≢◌, ℕ, zero, suc, ◌-◌, List, [], ◌∷◌, ◌++◌, Some, None, Ok, Err, refl, ap, arith}
use Rattle.layouts.specs.Bytes.{Bytes}
use Rattle.layouts.specs.Meaning.{Refusal}
use Rattle.layouts.specs.Reading.{reading}
use Rattle.capture.specs.Fragment.{Fragment}
use Rattle.capture.specs.Ip.{Datagram}
use Rattle.tunnels.specs.Tunnel.{Header}
use Rattle.tunnels.specs.Fragments.{found, inner_fragment}
use Rattle.layouts.specs.Meaning.{Answer}
use Rattle.tunnels.specs.Walk.{Layer, followed, inner_layer, Wraps, Holds, Unknown, Held, Other, Unread, Deeper}
use Rattle.tunnels.specs.declared.tunnel.Tunnel.{Tunnel}

pub refused : (n : ℕ) (found : List Tunnel) (e : Refusal)
    → followed n found (Err e) ≡ record { tunnels = found; inside = Unread }
unfolding followed
refused zero found e = refl
refused (suc n) found e = refl

pub unknown : (n : ℕ) (found : List Tunnel) (b : Bytes)
    → followed n found (Ok (Unknown, b)) ≡ record { tunnels = found; inside = Other }
unfolding followed
unknown zero found b = refl
unknown (suc n) found b = refl

pub holds : (n : ℕ) (found : List Tunnel) (d : Datagram) (b : Bytes)
    → followed n found (Ok (Holds d, b)) ≡ record { tunnels = found; inside = Held d }
unfolding followed
holds zero found d b = refl
holds (suc n) found d b = refl

pub deeper : (found : List Tunnel) (h : Header) (b : Bytes)
    → followed 0 found (Ok (Wraps h, b)) ≡ record { tunnels = found; inside = Deeper }
unfolding followed
deeper found h b = refl

pub one_more : (n : ℕ) (found : List Tunnel) (h : Header) (b : Bytes) → n ≢ 0
    → followed n found (Ok (Wraps h, b))
    ≡ followed (n - 1) (found ++ h.tunnel ∷ []) (reading (inner_layer h.kind) h.inside)
unfolding followed
one_more zero found h b some = absurd (some refl)
one_more (suc n) found h b some =
    let same : n ≡ suc n - 1 = omega arith in
    ap (λ k. followed k (found ++ h.tunnel ∷ []) (reading (inner_layer h.kind) h.inside)) same

-- A fragment is at the front.
pub in_front : (n : ℕ) (f : Fragment) (b : Bytes) (read : Answer Layer)
    → found n (Ok (f, b)) read ≡ Some f
unfolding found
in_front zero f b read = refl
in_front (suc n) f b read = refl

pub no_more : (e : Refusal) (read : Answer Layer) → found 0 (Err e) read ≡ None
unfolding found
no_more e read = refl

pub found_behind : (n : ℕ) (e : Refusal) (h : Header) (b : Bytes) → n ≢ 0
    → found n (Err e) (Ok (Wraps h, b))
    ≡ found (n - 1) (reading (inner_fragment h.kind) h.inside)
    (reading (inner_layer h.kind) h.inside)
unfolding found
found_behind zero e h b some = absurd (some refl)
found_behind (suc n) e h b some =
    let same : n ≡ suc n - 1 = omega arith in
    ap (λ k. found k (reading (inner_fragment h.kind) h.inside)
    (reading (inner_layer h.kind) h.inside)) same

pub not_behind : (n : ℕ) (e : Refusal) (d : Datagram) (b : Bytes)
    → found n (Err e) (Ok (Holds d, b)) ≡ None
unfolding found
not_behind zero e d b = refl
not_behind (suc n) e d b = refl

pub none_behind : (n : ℕ) (e : Refusal) (b : Bytes) → found n (Err e) (Ok (Unknown, b)) ≡ None
unfolding found
none_behind zero e b = refl
none_behind (suc n) e b = refl

pub unread_behind : (n : ℕ) (e d : Refusal) → found n (Err e) (Err d) ≡ None
unfolding found
unread_behind zero e d = refl
unread_behind (suc n) e d = refl
