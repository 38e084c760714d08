-- How much memory is accounted for the analysis of a connection, in bytes.
use Rattle.std.specs.Prelude.{ℕ, ◌+◌, ◌*◌, ◌-◌, ◌^◌, ◌<◌, ◌≤◌, min, IfSome, Option, Some, None}
use Rattle.std.specs.Global.{Box}
use Rattle.connections.specs.Connection.{held_by}
use Rattle.connections.specs.Memory.{most_weight}
use Rattle.connections.specs.Table.{Table, at}
use Rattle.connections.specs.declared.connection.Connection.{Connection}
use Rattle.connections.specs.declared.five_tuple.FiveTuple.{FiveTuple}
use Rattle.tls_observer.specs.Capacity.{plus}
use Rattle.tls_analyzer.specs.Capacity.{capacity_of}
use Rattle.tunnels.specs.declared.tunnel.Tunnels.{Tunnels}
use Rattle.log_connections.specs.declared.analysis.TheConstants.{ANALYSIS_COST, COLLECTOR_COST, MAX_BUFFERS, TUNNELS_COST}
use Rattle.log_connections.specs.declared.analysis.TlsAnalysis.{TlsAnalysis}
use Rattle.log_connections.specs.declared.analysis.TransportAnalyzer.{TransportAnalyzer}
use Rattle.log_connections.specs.declared.analysis.TransportAnalyzer.TheVariants as transport

-- The most that the buffers of a conversation take, by the bytes that were analyzed: they double
-- when they are full.
abbrev pub buffers_of : ℕ → ℕ
buffers_of received = min (min (received * 2) (2 ^ 64 - 1)) MAX_BUFFERS

-- Over TCP, what the analyzer keeps, and its buffers. Over UDP no clause bounds it.
abbrev pub least_of_transport : TransportAnalyzer → ℕ → ℕ
least_of_transport (transport.Stream x f) received = plus (capacity_of x) (buffers_of received)
least_of_transport (transport.Datagrams t) received = 0

abbrev pub most_of_transport : TransportAnalyzer → ℕ → ℕ
most_of_transport (transport.Stream x f) received = plus (capacity_of x) (buffers_of received)
most_of_transport (transport.Datagrams t) received = 2 ^ 64 - 1

abbrev pub of_tunnels : Option (Box Tunnels) → ℕ
of_tunnels None = 0
of_tunnels (Some b) = TUNNELS_COST

module _ {K : Type 0} where
  -- A collector, which takes at most M for what it keeps.
  abbrev pub of_collector : (K → ℕ) → Option (Box K) → ℕ
  of_collector M None = 0
  of_collector M (Some b) = plus (M b.value) COLLECTOR_COST

  abbrev pub most_bytes_of : (K → ℕ) → TlsAnalysis K → ℕ
  most_bytes_of M a = plus (plus (plus (most_of_transport a.transport a.received)
      (of_collector M a.collector)) (of_tunnels a.tunnels)) ANALYSIS_COST

  abbrev pub least_bytes_of : TlsAnalysis K → ℕ
  least_bytes_of a = plus (plus (plus (least_of_transport a.transport a.received)
      (of_collector (λ _. 0) a.collector)) (of_tunnels a.tunnels)) ANALYSIS_COST

module _ {K : Type 0} (M : K → ℕ) where
  -- A connection's accounted memory is at least the bytes that its streams store, as long as no
  -- machine has more with what is accounted for the others, and at most what was captured of it can
  -- take.
  pub record IsWeighed (others : ℕ) (c : Connection (TlsAnalysis K)) : Type 0 where
    pub enough : others + held_by c < 2 ^ 63 → held_by c ≤ c.weight
    pub within : c.weight ≤ most_weight (most_bytes_of M) c

  -- So it is for the connection of this five-tuple, if one is open.
  abbrev pub IsWeighedAt : FiveTuple → Table (TlsAnalysis K) → Type 0
  IsWeighedAt e t = IfSome (at e t.live) (λ c. IsWeighed (t.held - c.weight) c)
