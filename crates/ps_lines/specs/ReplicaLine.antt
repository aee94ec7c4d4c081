-- The line with the number of a replica.
use Rattle.std.specs.Prelude.{◌≡◌, ◌≢◌, ◌≤◌, ℕ, List, ◌++◌, codes, decimal}
use Rattle.ps_grid.specs.declared.parties.TheConstants.{REPLICAS}

-- the first line of a kept file: the number of the replica that wrote the lines after it
abbrev pub replica_line : ℕ → List ℕ
replica_line n = codes "replica " ++ decimal n

-- the line is the one of replica n
abbrev pub Tells : List ℕ → ℕ → Type 0
Tells line n = (1 ≤ n) × (n ≤ REPLICAS) × (line ≡ replica_line n)

-- the line is the one of no replica
abbrev pub TellsNone : List ℕ → Type 0
TellsNone line = (n : ℕ) → 1 ≤ n → n ≤ REPLICAS → line ≢ replica_line n
