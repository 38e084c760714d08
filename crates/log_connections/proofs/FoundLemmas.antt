-- What counting the connections that are over does, and what it leaves as it was.
use Rattle.std.proofs.Common.{◌≡◌, refl, sym, ◌∙◌, subst, Bool, true, false, List, [], ◌∷◌, ◌++◌, Option, Some}
use Rattle.std.specs.Option.{option_map}
use Rattle.arrivals.specs.declared.counts.Counts.{Counts}
use Rattle.arrivals.specs.declared.reader.ArrivalReader.{ArrivalReader}
use Rattle.connections.specs.declared.connection.Connection.{Connection}
use Rattle.connections.specs.declared.five_tuple.Protocol.{Protocol}
use Rattle.connections.specs.declared.five_tuple.Protocol.TheVariants.{Tcp, Udp}
use Rattle.tls_flow.specs.declared.state.Outcome.{Outcome}
use Rattle.tls_flow.specs.declared.state.Outcome.TheVariants as outcome
use Rattle.log_connections.specs.Found.{AreCounted, HasCut, IsCounted, counts_none, counts_tls, with_early, with_gap, with_other_connection, with_outcome, with_protocol}
use Rattle.log_connections.specs.Sink.{as_list}
use Rattle.log_connections.specs.declared.analysis.TlsAnalysis.{TlsAnalysis}

abbrev LeavesCut : Counts → Counts → Type 0
LeavesCut c d = (d.late ≡ c.late) × (d.evicted ≡ c.evicted) × (d.cut_short ≡ c.cut_short)

leaves_then : (a b c : Counts) → LeavesCut a b → LeavesCut b c → LeavesCut a c
leaves_then a b c h k = (k.0 ∙ h.0, k.1 ∙ h.1, k.2 ∙ h.2)

leaves_protocol : (p : Protocol) (c : Counts) → LeavesCut c (with_protocol p c)
leaves_protocol Tcp c = (refl, refl, refl)
leaves_protocol Udp c = (refl, refl, refl)

leaves_outcome : (o : Outcome) (c : Counts) → LeavesCut c (with_outcome o c)
leaves_outcome outcome.Waiting c = (refl, refl, refl)
leaves_outcome outcome.Full c = (refl, refl, refl)
leaves_outcome outcome.Resumed c = (refl, refl, refl)
leaves_outcome (outcome.Tls13 retried early) c = (refl, refl, refl)
leaves_outcome outcome.BrokenOff c = (refl, refl, refl)
leaves_outcome outcome.Unknown c = (refl, refl, refl)
leaves_outcome outcome.NoHandshake c = (refl, refl, refl)

leaves_gap : (b : Bool) (c : Counts) → LeavesCut c (with_gap b c)
leaves_gap true c = (refl, refl, refl)
leaves_gap false c = (refl, refl, refl)

leaves_early : (b : Bool) (c : Counts) → LeavesCut c (with_early b c)
leaves_early true c = (refl, refl, refl)
leaves_early false c = (refl, refl, refl)

leaves_counted : {K : Type 0} (c : Connection (TlsAnalysis K)) (old new : Counts)
    → IsCounted c old new → LeavesCut old new
leaves_counted c old new (counts_tls o gap is has lacks same) =
    let early = with_early c.attachment.is_ended_early old in
    let first = with_protocol c.protocol early in let second = with_outcome o first in
    subst (LeavesCut old) (sym same)
    (leaves_then old early (with_gap gap second)
    (leaves_early c.attachment.is_ended_early old)
    (leaves_then early first (with_gap gap second) (leaves_protocol c.protocol early)
    (leaves_then first second (with_gap gap second) (leaves_outcome o first)
    (leaves_gap gap second))))
leaves_counted c old new (counts_none is same) =
    let early = with_early c.attachment.is_ended_early old in
    subst (LeavesCut old) (sym same)
    (leaves_then old early (with_other_connection early)
    (leaves_early c.attachment.is_ended_early old) (refl, refl, refl))

cut_then : (r : ArrivalReader) (c d : Counts) → HasCut r c → LeavesCut c d → HasCut r d
cut_then r c d h k = (k.0 ∙ h.0, k.1 ∙ h.1, k.2 ∙ h.2)

pub cut_counted : {K : Type 0} (r : ArrivalReader) (over : Connection (TlsAnalysis K))
    (c d : Counts) → HasCut r c → IsCounted over c d → HasCut r d
cut_counted r over c d h counted = cut_then r c d h (leaves_counted over c d counted)

-- Connections are counted one after another.
module _ {K : Type 0} where
  pub counted_one : (c : Connection (TlsAnalysis K)) (old new : Counts) → IsCounted c old new
      → AreCounted (c ∷ []) old new
  counted_one c old new counted = (new, counted, refl)

  pub counted_both : (xs ys : List (Connection (TlsAnalysis K))) (old mid new : Counts)
      → AreCounted xs old mid → AreCounted ys mid new → AreCounted (xs ++ ys) old new
  counted_both [] ys old mid new first second =
      subst (λ k. AreCounted ys k new) first second
  counted_both (x ∷ xs) ys old mid new first second =
      (first.0, first.1, counted_both xs ys first.0 mid new first.2 second)

  -- From the same counts on.
  pub counted_from : (xs : List (Connection (TlsAnalysis K))) (old mid new : Counts) → mid ≡ old
      → AreCounted xs mid new → AreCounted xs old new
  counted_from xs old mid new same counted = subst (λ k. AreCounted xs k new) same counted

-- The one connection that a call removed is counted.
pub one_counted : {K B : Type 0} (value : B → Connection (TlsAnalysis K)) (taken : Option B) (b : B)
    (old new : Counts) → taken ≡ Some b → IsCounted (value b) old new
    → AreCounted (as_list (option_map value taken)) old new
one_counted value taken b old new is counted =
    subst (λ t. AreCounted (as_list (option_map value t)) old new) (sym is) (new, counted, refl)
