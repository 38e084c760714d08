-- How a connection that is over counts.
use Rattle.std.specs.Prelude.{◌≡◌, Bool, true, false, ◌||◌, List, [], ◌∷◌, length}
use Rattle.arrivals.specs.Counts.{one_more}
use Rattle.arrivals.specs.declared.counts.Counts.{Counts}
use Rattle.arrivals.specs.declared.reader.ArrivalReader.{ArrivalReader}
use Rattle.connections.specs.Stream.{lacks}
use Rattle.connections.specs.declared.connection.Connection.{Connection}
use Rattle.connections.specs.declared.connection.Side.TheVariants.{Originator, Responder}
use Rattle.connections.specs.declared.five_tuple.Protocol.{Protocol}
use Rattle.connections.specs.declared.five_tuple.Protocol.TheVariants.{Tcp, Udp}
use Rattle.tls_flow.specs.declared.state.Outcome.{Outcome}
use Rattle.tls_flow.specs.declared.state.Outcome.TheVariants as outcome
use Rattle.log_connections.specs.Accessors.{HasOutcome, LacksFront}
use Rattle.log_connections.specs.Analysis.{IsTlsBy, direction_of}
use Rattle.log_connections.specs.declared.analysis.TlsAnalysis.{TlsAnalysis}

abbrev pub with_protocol : Protocol → Counts → Counts
with_protocol Tcp c = record c { tls = one_more c.tls }
with_protocol Udp c = record c { dtls = one_more c.dtls }

-- A handshake that isn't successful counts by its outcome.
abbrev pub with_outcome : Outcome → Counts → Counts
with_outcome outcome.BrokenOff c = record c { broken_off = one_more c.broken_off }
with_outcome outcome.Waiting c = record c { waiting = one_more c.waiting }
with_outcome outcome.Unknown c = record c { unknown = one_more c.unknown }
with_outcome outcome.NoHandshake c = record c { no_handshake = one_more c.no_handshake }
with_outcome _ c = c

abbrev pub with_gap : Bool → Counts → Counts
with_gap true c = record c { gaps = one_more c.gaps }
with_gap false c = c

abbrev pub with_other_connection : Counts → Counts
with_other_connection c = record c { other_connections = one_more c.other_connections }

abbrev pub with_early : Bool → Counts → Counts
with_early true c = record c { ended_early = one_more c.ended_early }
with_early false c = c

-- The datagrams that were dropped or cut short in reassembly are counted, as the reader has them.
abbrev pub HasCut : ArrivalReader → Counts → Type 0
HasCut r c =
    (c.late ≡ r.fragments.late) × (c.evicted ≡ r.fragments.evicted)
    × (c.cut_short ≡ length r.fragments.waiting)

module _ {K : Type 0} where
  -- Bytes of one of its streams are missing, or the first messages of a side.
  pub record HasGap (b : Bool) (c : Connection (TlsAnalysis K)) : Type 0 where
    pub one : Bool
    pub other : Bool
    pub of_originator :
        LacksFront one (direction_of c.attachment.is_turned Originator) c.attachment.transport
    pub of_responder :
        LacksFront other (direction_of c.attachment.is_turned Responder) c.attachment.transport
    pub is : b ≡ (lacks c.from_originator c.from_originator.reading
        || (lacks c.from_responder c.from_responder.reading || (one || other)))

  -- A connection counts by its protocol, its outcome and its gaps, or as one that is neither TLS
  -- nor DTLS; and, either way, if it ended early.
  pub data IsCounted (c : Connection (TlsAnalysis K)) (old new : Counts) : Type 0 where
    counts_tls :
        (o : Outcome) (gap : Bool) → IsTlsBy true c.attachment.is_turned c.attachment.transport
        → HasOutcome o c.attachment.transport → HasGap gap c
        → new ≡ with_gap gap (with_outcome o (with_protocol c.protocol
        (with_early c.attachment.is_ended_early old)))
        → IsCounted c old new
    counts_none :
        IsTlsBy false c.attachment.is_turned c.attachment.transport
        → new ≡ with_other_connection (with_early c.attachment.is_ended_early old)
        → IsCounted c old new

  -- Connections that are over are counted one after another.
  abbrev pub AreCounted : List (Connection (TlsAnalysis K)) → Counts → Counts → Type 0
  AreCounted [] old new = new ≡ old
  AreCounted (c ∷ cs) old new = (mid : Counts) × IsCounted c old mid × AreCounted cs mid new
