-- The log that a run's options ask for.
use Rattle.std.specs.Prelude.{◌≡◌, Bool, true, false, [], is_some}
use Rattle.log_connections.specs.declared.log.Log.{Log}
use Rattle.log_captures.specs.declared.options.RunOptions.{RunOptions}
use Rattle.log_captures.specs.declared.options.Separation.{Separation}
use Rattle.log_captures.specs.declared.options.Separation.TheVariants as separation

-- Whether packets have a number of their network, and whether VLANs count for it.
abbrev pub tells_networks : Separation → Bool
tells_networks separation.Tunnels = true
tells_networks separation.Networks = true
tells_networks separation.Nothing = false

abbrev pub counts_vlans : Separation → Bool
counts_vlans separation.Tunnels = false
counts_vlans separation.Networks = true
counts_vlans separation.Nothing = false

module _ {K : Type 0} where
  -- An empty log has each option.
  pub record IsLogBy (options : RunOptions) (log : Log K) : Type 0 where
    pub empty : log.connections ≡ record { live = []; closed = []; held = 0 }
    pub kept : log.kept ≡ options.pieces
    pub memory : log.memory ≡ options.memory
    pub checksums : log.arrivals.checksums ≡ options.checksums
    pub part : log.arrivals.part ≡ options.part
    pub networks : is_some log.arrivals.networks ≡ tells_networks options.separation
    pub vlans : log.arrivals.counts_vlans ≡ counts_vlans options.separation
