-- What is known after events.
use Rattle.std.proofs.Common.{◌≡◌, ℕ, List, [], ◌∷◌, ◌++◌, refl, ◌∙◌, ap}
use Rattle.tls_stream.specs.Item.{Event as StreamEvent}
use Rattle.tls_flow.specs.declared.flow.Flow.{Flow}
use Rattle.tls_flow.specs.declared.symbol.Direction.{Direction as Side}
use Rattle.tls_summary.specs.HandshakeSummary.{HandshakeSummary, view_summary}
use Rattle.tls_analyzer.specs.Following.{IsNoted, known_of}
use Rattle.tls_observer.specs.Noting.{Known, followed, known, known_by, noted}
use Rattle.tls_analyzer.specs.declared.conversation_state.ConversationState.{ConversationState}

abbrev all : Flow → HandshakeSummary → ℕ → Known
all w f n = record { flow = w; handshake = f; longest = n }

pub known_same : (h i : ConversationState) → i.flow ≡ h.flow → i.handshake ≡ h.handshake
    → i.longest ≡ h.longest → known_of i ≡ known_of h
known_same h i flow same longest = ap (λ w. all w (view_summary i.handshake) i.longest) flow
    ∙ ap (λ f. all h.flow (view_summary f) i.longest) same
    ∙ ap (λ n. all h.flow (view_summary h.handshake) n) longest

-- One more event.
pub known_next : (s : Side) (h i : ConversationState) (k : Known) (v : StreamEvent) → IsNoted h s v i
    → known_of h ≡ k
    → known_of i ≡ known_by s k v
known_next s h i k v noted_it is =
    let w : Flow = followed s h.flow (view_summary h.handshake) v in
    let f : HandshakeSummary = noted s (view_summary h.handshake) v in
    ap (λ x. all x (view_summary i.handshake) i.longest) noted_it.flow
    ∙ ap (λ x. all w x i.longest) noted_it.handshake
    ∙ ap (λ n. all w f n) noted_it.longest
    ∙ ap (λ x. known_by s x v) is

pub known_on : (s : Side) (k : Known) (vs ws : List StreamEvent)
    → known s (known s k vs) ws ≡ known s k (ws ++ vs)
known_on s k vs [] = refl
known_on s k vs (w ∷ ws) = ap (λ x. known_by s x w) (known_on s k vs ws)
