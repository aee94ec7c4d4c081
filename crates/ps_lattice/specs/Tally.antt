-- A counter that goes up and down (a PN-counter): two vectors by replica, P of what was added and N of what was
-- subtracted. Its value is the sum of P less the sum of N, and two join by the maximum of each entry.
use Rattle.std.specs.Prelude.{ℕ, max, ℤ, pos, ◌-ℤ◌, Bool, ◌&&◌, ◌||◌, nat_le, List, sum_by}
use Rattle.std.specs.List.{list_all}
use Rattle.std.specs.Option.{option_map_or}
use Rattle.std.specs.Ordering.{nat_cmp}
use Rattle.std.specs.FinMap as map
use Rattle.ps_lattice.specs.declared.tally.Count.{Count}
use Rattle.ps_lattice.specs.declared.limits.TheConstants.{COUNT_LIMIT, AMOUNT_LIMIT}
use Rattle.ps_lattice.specs.Limits.{is_replica}
use Rattle.ps_lattice.specs.Maps.{joined_maps}

-- the replicas that changed the counter, each with its two counts
abbrev pub Counts : Type 0
Counts = map.FinMap nat_cmp Count

-- P of a replica: all that it added
abbrev pub added : Counts → ℕ → ℕ
added t replica = option_map_or (λ c. c.added) (map.get t replica) 0

-- N of a replica: all that it subtracted
abbrev pub subtracted : Counts → ℕ → ℕ
subtracted t replica = option_map_or (λ c. c.subtracted) (map.get t replica) 0

-- the sum of P less the sum of N
abbrev pub value_of : Counts → ℤ
value_of t = pos (sum_by (λ e. e.1.added) (map.entries t)) -ℤ pos (sum_by (λ e. e.1.subtracted) (map.entries t))

-- the maximum of each of two counts
abbrev pub greater_counts : Count → Count → Count
greater_counts x y = record { added = max x.added y.added; subtracted = max x.subtracted y.subtracted }

-- the maximum by entry
abbrev pub joined_tallies : Counts → Counts → Counts
joined_tallies s t = joined_maps greater_counts s t

-- t with the two counts of one replica set
abbrev pub with_counts : Counts → ℕ → ℕ → ℕ → Counts
with_counts t replica p n = map.insert t replica (record { added = p; subtracted = n })

-- one replica's counts and nothing else
abbrev pub counts_of : ℕ → ℕ → ℕ → Counts
counts_of replica p n = with_counts map.empty replica p n

-- a replica, with counts of at most the limit that aren't both 0
abbrev pub is_count : ℕ × Count → Bool
is_count e =
    is_replica e.0 && nat_le e.1.added COUNT_LIMIT && nat_le e.1.subtracted COUNT_LIMIT
    && (nat_le 1 e.1.added || nat_le 1 e.1.subtracted)

-- the entries of a counter: ascending by replica and distinct, each in its ranges
abbrev pub is_tally : List (ℕ × Count) → Bool
is_tally es = map.is_sorted nat_cmp es && list_all is_count es

-- an amount of 1 to the limit
abbrev pub is_amount : ℕ → Bool
is_amount amount = nat_le 1 amount && nat_le amount AMOUNT_LIMIT
