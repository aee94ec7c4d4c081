-- Whether a state has everything in a delta that is marked with a given replica.
use Rattle.std.specs.Prelude.{ℕ, Bool, true, false, not, ◌&&◌, ◌||◌, ◌==◌, nat_le, List, Option, is_some}
use Rattle.std.specs.List.{list_any, list_all}
use Rattle.std.specs.Option.{option_map_or}
use Rattle.std.specs.Ordering.{is_gt}
use Rattle.std.specs.FinMap as map
use Rattle.ps_lattice.specs.declared.choice.Pair.{Pair}
use Rattle.ps_lattice.specs.declared.register.Assignment.{Assignment}
use Rattle.ps_lattice.specs.declared.tally.Count.{Count}
use Rattle.ps_lattice.specs.Register.{assignment_cmp}
use Rattle.ps_lattice.specs.Choice.{pair_cmp}
use Rattle.ps_content.specs.declared.content.Content.{Content}
use Rattle.ps_content.specs.Order.{content_cmp}
use Rattle.ps_delta.specs.declared.cell_state.CellState.{CellState}
use Rattle.ps_delta.specs.Deltas.{Entries}
use Rattle.ps_delta.specs.State.{State}

-- the assignment a isn't greater than b, by time, then replica, then content
abbrev pub is_at_most : Assignment Content → Assignment Content → Bool
is_at_most a b = not (is_gt (assignment_cmp content_cmp a b))

-- if the assignment a is marked with the replica, the register has it or a greater one
abbrev pub has_assignment : ℕ → Option (Assignment Content) → Assignment Content → Bool
has_assignment replica register a = not (a.replica == replica) || option_map_or (is_at_most a) register false

-- another count has the same replica, and is no less in both totals
abbrev pub is_counted_in : ℕ × Count → ℕ × Count → Bool
is_counted_in count other =
    (other.0 == count.0) && (nat_le count.1.added other.1.added && nat_le count.1.subtracted other.1.subtracted)

-- if the count is marked with the replica, the counts have one of it that is no less
abbrev pub has_count : ℕ → List (ℕ × Count) → ℕ × Count → Bool
has_count replica counts count = not (count.0 == replica) || list_any (is_counted_in count) counts

-- if the pair is marked with the replica, it is one of the pairs, removed or not
abbrev pub has_pair : ℕ → List (Pair × Bool) → Pair × Bool → Bool
has_pair replica pairs pair = not (pair.0.replica == replica) || is_some (map.find pair_cmp pair.0 pairs)

-- the cell state x has everything in `part` that is marked with the replica
abbrev pub has_own_of_cell : ℕ → CellState → CellState → Bool
has_own_of_cell replica x part =
    option_map_or (has_assignment replica x.register) part.register true
    && (list_all (has_count replica (map.entries x.tally)) (map.entries part.tally)
    && list_all (has_pair replica (map.entries x.choice)) (map.entries part.choice))

-- THE OWN PART: the state s has everything in the delta that is marked with the replica
abbrev pub has_own : ℕ → State → Entries → Bool
has_own replica s delta = list_all (λ part. has_own_of_cell replica (s part.0) part.1) delta
