-- How much memory an analyzer takes, besides itself and its conversation's buffers, in bytes.
use Rattle.std.specs.Prelude.{ℕ, vec_capacity}
use Rattle.tls_observer.specs.Capacity.{of_handshake, plus}
use Rattle.tls_analyzer.specs.declared.analyzer.Analyzer.{Analyzer}

-- The summary, the history and the stored first bytes.
abbrev pub capacity_of : Analyzer → ℕ
capacity_of t =
    plus (plus (plus (of_handshake t.conversation_state.handshake)
    (vec_capacity t.conversation_state.history)) (vec_capacity t.client_first))
    (vec_capacity t.server_first)
