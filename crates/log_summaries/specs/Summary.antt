-- The summary of a connection.
use Rattle.std.specs.Prelude.{◌≡◌}
use Rattle.connections.specs.Connection.{dropped_by, sent_by, stream_of}
use Rattle.connections.specs.declared.connection.Connection.{Connection}
use Rattle.connections.specs.declared.connection.Side.{Side}
use Rattle.connections.specs.declared.connection.Side.TheVariants.{Originator, Responder}
use Rattle.connections.specs.declared.five_tuple.End.{End}
use Rattle.tls_summary.specs.HandshakeSummary.{view_summary}
use Rattle.log_connections.specs.Accessors.{HasHandshake, HasHistory, HasOutcome, HasStop, IsEstablishedBy, IsResumedBy, LacksFront, records_of}
use Rattle.log_connections.specs.Analysis.{dialogue_of, direction_of, preamble_of, tunnels_in}
use Rattle.log_connections.specs.declared.analysis.TlsAnalysis.{TlsAnalysis}
use Rattle.log_fields.specs.declared.summary.Party.{Party}
use Rattle.log_fields.specs.declared.summary.Summary.{Summary}
use Rattle.tls_flow.specs.declared.symbol.Direction.TheVariants.{ToServer, FromServer}
use Rattle.log_summaries.specs.Pieces.{chain_in, collector_of}
use Rattle.log_summaries.specs.declared.analysis.CollectedPieces.{CollectedPieces}

module _ {K : Type 0} where
  abbrev pub end_of : Side → Connection (TlsAnalysis K) → End
  end_of Originator c = c.originator
  end_of Responder c = c.responder

  -- A party has its side's fields of the connection.
  pub record IsParty (side : Side) (c : Connection (TlsAnalysis K)) (p : Party) : Type 0 where
    pub end : p.end ≡ end_of side c
    pub stream : p.stream.now ≡ stream_of side c
    pub sent : p.sent ≡ sent_by side c
    pub dropped : p.dropped ≡ dropped_by side c
    pub preamble : p.preamble ≡ preamble_of side c.attachment.transport
    pub records : p.records ≡ records_of c.attachment.protocol side c.attachment
    pub lacks_front :
        LacksFront p.lacks_front (direction_of c.attachment.is_turned side) c.attachment.transport

-- A summary has the connection's fields, those of its handshake, and the chains that are kept.
pub record IsSummary (c : Connection (TlsAnalysis CollectedPieces)) (s : Summary) : Type 0 where
  pub protocol : s.protocol ≡ c.protocol
  pub first_time : s.first_time ≡ c.first_time
  pub last_time : s.last_time ≡ c.last_time
  pub originator : IsParty Originator c s.originator
  pub responder : IsParty Responder c s.responder
  pub handshake : HasHandshake (view_summary s.handshake.now) c.attachment.transport
  pub history : HasHistory s.history.now c.attachment.transport
  pub outcome : HasOutcome s.outcome c.attachment.transport
  pub stop : HasStop s.stop c.attachment.transport
  pub established : IsEstablishedBy s.is_established c.attachment.transport
  pub resumed : IsResumedBy s.is_resumed c.attachment.transport
  pub ended_early : s.is_ended_early ≡ c.attachment.is_ended_early
  pub client_chain : s.client_chain.now ≡ chain_in ToServer (collector_of c.attachment)
  pub server_chain : s.server_chain.now ≡ chain_in FromServer (collector_of c.attachment)
  pub dialogue : s.dialogue ≡ dialogue_of c.attachment.transport
  pub tunnels : s.tunnels.now ≡ tunnels_in c.attachment.tunnels
