-- What a join of a delta would change: cells in order, each with the state that it would have.
use Rattle.std.specs.Prelude.{◌≡◌, ◌↔◌, ℕ, map}
use Rattle.std.specs.List.{All}
use Rattle.std.specs.List.Sorted.{IsStrictlyIncreasing}
use Rattle.ps_grid.specs.Chains.{In}
use Rattle.ps_delta.specs.State.{Blocks, HasPlace, State, joined_state}
use Rattle.ps_delta.specs.Deltas.{AreInGrid, Entries, cells_of, overlaid}

-- exactly the cells at which two states differ, in order, each with what it holds in the second one
pub record AreChanges (before after : State) (cells : Entries) : Type 0 where
  pub ascending : IsStrictlyIncreasing (cells_of cells)
  pub in_grid : AreInGrid cells
  pub exact : (c : ℕ) → In (cells_of cells) c ↔ ¬ (after c ≡ before c)
  pub gives : overlaid before cells ≡ after

-- exactly the cells that a join of d would change in s, each with the state that it would have
abbrev pub AreChangesBy : State → State → Entries → Type 0
AreChangesBy s d cells = AreChanges s (joined_state s d) cells

-- each cell of the entries with what it holds in s
abbrev pub entries_from : State → Entries → Entries
entries_from s entries = map (λ e. (e.0, s e.0)) entries

-- the grid with these blocks has a state for each cell of the entries
unfoldable pub HasRoomFor : Blocks → Entries → Type 0
HasRoomFor blocks entries = All (λ e. HasPlace blocks e.0) entries
