-- The number of a packet's network.
use Rattle.std.proofs.Common.{◌≡◌, ℕ, Bool, true, false, Option, Some, None, List, [], refl, sym, ap, ◌∙◌, subst}
use Rattle.std.specs.Prelude.{IfOk, Result, Ok, Err}
use Rattle.capture.specs.Ip.{Datagram}
use Rattle.capture.specs.Transport.{Segment as TcpHeader}
use Rattle.capture.specs.Transport as content
use Rattle.connections.specs.declared.segment.Segment.{Segment}
use Rattle.networks.specs.Networks.{Numbering}
use Rattle.networks.specs.declared.networks.Network.{Network}
use Rattle.packets.specs.Section.{Packet}
use Rattle.tunnels.specs.Tunnel.{listed}
use Rattle.tunnels.specs.declared.tunnel.Tunnels.{Tunnels}
use Rattle.tunnels.specs.Walk.{Held, Unwrapped}
use Rattle.arrivals.specs.Reader.{IsNetwork, IsNumberOf, IsNumbered, IsNumberedIf, ReadsContent, ReadsInside, ReadsSegment, ReadsUnwrapped, has_network}
use Rattle.arrivals.specs.declared.arrival.Arrival.TheVariants as arrival
use Rattle.arrivals.specs.declared.reader.ArrivalReader.{ArrivalReader}

module _ (vs : List ℕ) (ts : Tunnels) (v : Bool) where
  -- A packet without a network has number 0.
  pub without : (o : Option Numbering) → has_network ts v ≡ false → IsNumbered vs ts v o o 0
  without None none = (refl, refl)
  without (Some t) none =
      subst (λ b. IsNumberedIf b vs ts v t (Some t) 0) (sym none) (refl, refl)

  pub plain : (o : Option Numbering) (n : ℕ) → listed ts ≡ [] → v ≡ false → n ≡ 0
      → IsNumbered vs ts v o o n
  plain o n none is zero =
      subst (λ m. IsNumbered vs ts v o o m) (sym zero) (without o (rw (is, none) refl))

  module _ (network : Network) (new : Option Numbering) where
    number_is : (o : Option Numbering) (n : ℕ) → has_network ts v ≡ true
        → IsNetwork vs ts v network → IsNumberOf network o new n → IsNumbered vs ts v o new n
    number_is None n has is number = number
    number_is (Some t) n has is number =
        subst (λ b. IsNumberedIf b vs ts v t new n) (sym has) (network, is, number)

    pub numbered : {E : Type 0} (r : Result ℕ E) (o : Option Numbering) → has_network ts v ≡ true
        → IsNetwork vs ts v network → IfOk r (IsNumberOf network o new)
        → IfOk r (IsNumbered vs ts v o new)
    numbered (Ok n) o has is number = number_is o n has is number
    numbered (Err e) o has is number = tt

-- A packet in no tunnel with this segment.
pub with_segment : (p : Packet) (u : Unwrapped) (d : Datagram) (t : TcpHeader)
    (old new : ArrivalReader) (s : Segment)
    → u ≡ record { tunnels = []; inside = Held d } → listed new.tunnels ≡ []
    → d.content ≡ content.Tcp t
    → ReadsSegment p d t (record old { tunnels = new.tunnels }) new s
    → ReadsUnwrapped p u old new (Some (arrival.Segment s))
with_segment p u d t old new s is none holds reads = record {
  tunnels = none ∙ sym (ap (λ v. v.tunnels) is);
  reads = subst (λ v. ReadsInside p v.inside (record old { tunnels = new.tunnels }) new
      (Some (arrival.Segment s))) (sym is)
      (subst (λ c. ReadsContent p d c (record old { tunnels = new.tunnels }) new
      (Some (arrival.Segment s))) (sym holds) reads);
}
