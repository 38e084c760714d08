-- The analyzer leaves both sides' hellos as they are.
use Rattle.std.proofs.Common.{◌≡◌, ◌-◌, List, [], ◌∷◌, ◌++◌, length, Bool, true, false, refl, sym, ◌∙◌, ap, subst}
use Rattle.std.specs.Prelude.{nat_lt}
use Rattle.layouts.specs.Bytes.{Bytes}
use Rattle.tls_stream.specs.Item.{Event as StreamEvent, Handshake, Alert}
use Rattle.tls_flow.specs.declared.symbol.Direction.{Direction as Side}
use Rattle.tls_flow.specs.declared.symbol.Direction.TheVariants.{ToServer, FromServer}
use Rattle.tls_summary.specs.HandshakeSummary.{HandshakeSummary, KeepsHellos, view_summary}
use Rattle.tls_summary.proofs.HelloLemmas.{alert_keeps, bytes_keep, keeps_on, stays}
use Rattle.tls_detection.specs.Front.{begins_tls}
use Rattle.tls_analyzer.specs.Following.{known_of}
use Rattle.tls_observer.specs.Noting.{Known, known, noted}
use Rattle.tls_analyzer.specs.Analyzers.{
  IsFirstBy,
  IsReadBy,
  IsReadOn,
  IsNext,
  IsNextBy,
  Waits,
  front,
  side_state,
  is_over,
  known_as_tls,
  waiting,
  with_side_state,
}
use Rattle.tls_analyzer.specs.declared.analyzer.SideState.{SideState}
use Rattle.tls_analyzer.specs.declared.analyzer.SideState.TheVariants.{Unknown, Clear, Encrypted, Other}
use Rattle.tls_analyzer.specs.declared.analyzer.Analyzer.{Analyzer}

abbrev summary_in : Analyzer → HandshakeSummary
summary_in t = view_summary t.conversation_state.handshake

abbrev Keeps : Side → Analyzer → Analyzer → Type 0
Keeps s t u = KeepsHellos s (summary_in t) (summary_in u)

noted_keeps : (s : Side) (f : HandshakeSummary) (v : StreamEvent) → KeepsHellos s f (noted s f v)
noted_keeps s f (Handshake m) = bytes_keep s m f
noted_keeps s f (Alert a) = alert_keeps s a.description f
noted_keeps s f _ = stays s f

known_keeps : (s : Side) (k : Known) (vs : List StreamEvent)
    → KeepsHellos s k.handshake (known s k vs).handshake
known_keeps s k [] = stays s k.handshake
known_keeps s k (v ∷ vs) =
    keeps_on s k.handshake (known s k vs).handshake (noted s (known s k vs).handshake v)
    (known_keeps s k vs)
    (noted_keeps s (known s k vs).handshake v)

same_keeps : (s : Side) (t u : Analyzer) → summary_in u ≡ summary_in t → Keeps s t u
same_keeps s t u same =
    subst (λ f. KeepsHellos s (summary_in t) f) (sym same) (stays s (summary_in t))

next_keeps : (t u : Analyzer) (s : Side) (b : Bytes) → IsNext t s b u → Keeps s t u
next_keeps t u s b next = go (is_over t s) next
  where
    go : (over : Bool) → IsNextBy over t s b u → Keeps s t u
    go true same = same_keeps s t u (ap summary_in same)
    go false followed = subst (λ f. KeepsHellos s (summary_in t) f)
        (sym (ap (λ (k : Known). k.handshake) followed.known))
        (known_keeps s (known_of t.conversation_state) followed.sent)

waits_same : (t u : Analyzer) (s : Side) (w : Bytes) → Waits t s w u → summary_in u ≡ summary_in t
waits_same t u ToServer w waits = ap summary_in waits.2
waits_same t u FromServer w waits = ap summary_in waits.2

with_same : (t : Analyzer) (s : Side) (h : SideState)
    → summary_in (with_side_state t s h) ≡ summary_in t
with_same t ToServer h = refl
with_same t FromServer h = refl

same_switched : (t : Analyzer) (s : Side) → summary_in (known_as_tls t s) ≡ summary_in t
same_switched t ToServer = refl
same_switched t FromServer = refl

-- From an analyzer with the same summary.
keeps_from : (t m u : Analyzer) (s : Side) → summary_in m ≡ summary_in t → Keeps s m u → Keeps s t u
keeps_from t m u s same keeps = subst (λ f. KeepsHellos s f (summary_in u)) same keeps

first_keeps : (short tls : Bool) (t u : Analyzer) (s : Side) (w b : Bytes)
    → IsFirstBy short tls t s w b u → Keeps s t u
first_keeps true tls t u s w b received = same_keeps s t u (waits_same t u s (w ++ b) received)
first_keeps false true t u s w b received =
    keeps_from t (known_as_tls received.0 s) u s (same_switched received.0 s ∙ waits_same t received.0 s [] received.1)
    (next_keeps (known_as_tls received.0 s) u s (w ++ b) received.2)
first_keeps false false t u s w b received =
    keeps_from t received.0 u s (waits_same t received.0 s [] received.2)
    (subst (λ f. KeepsHellos s (summary_in received.0) f)
    (sym (ap summary_in received.4 ∙ with_same received.1 s Other))
    (next_keeps received.0 received.1 s (front w b) received.3))

pub received_keeps : (t u : Analyzer) (s : Side) (b : Bytes) → IsReadOn t s b u → Keeps s t u
received_keeps t u s b received = go (side_state t s) received
  where
    w : Bytes
    w = (waiting t s).items

    go : (h : SideState) → IsReadBy h t s b u → Keeps s t u
    go Unknown first =
        first_keeps (nat_lt (length b) (5 - length w)) (begins_tls (front w b)) t u s w b first
    go Clear next = next_keeps t u s b next
    go Encrypted next = next_keeps t u s b next
    go Other next = next_keeps t u s b next
