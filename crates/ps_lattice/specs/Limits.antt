-- The range that registers, counters and choices share.
use Rattle.std.specs.Prelude.{ℕ, Bool, ◌&&◌, nat_le}
use Rattle.ps_grid.specs.declared.parties.TheConstants.{REPLICAS}

-- a number that a replica may have
abbrev pub is_replica : ℕ → Bool
is_replica replica = nat_le 1 replica && nat_le replica REPLICAS
