-- What holds of the tables between two changes, and what a recalculation needs and gives.
use Rattle.std.specs.Prelude.{◌≡◌, ◌≤◌, ◌<◌, ◌⊎◌, ℕ, true, false, List, [], length, map, nat_eq}
use Rattle.std.specs.List.{All, IsDistinct}
use Rattle.ps_grid.specs.Chains.{In, InRegion, IsDepth}
use Rattle.ps_grid.specs.declared.size.TheConstants.{CELLS}
use Rattle.ps_grid.specs.declared.parties.TheConstants.{WORKERS}
use Rattle.ps_index.specs.Stands.{Stands}
use Rattle.ps_region.specs.Listed.{listed}
use Rattle.ps_shown.specs.declared.kept.Kept.{Kept}
use Rattle.ps_shown.specs.Kept.{value_of as value_kept}
use Rattle.ps_shown.specs.Shown.{shown_at}
use Rattle.ps_delta.specs.State.{State, IsInGrid, state_at}
use Rattle.ps_cells.specs.Settled.{refers_to, Cyclic, IsSettled}
use Rattle.ps_cells.specs.Inside.Formulas.{forms_of}
use Rattle.ps_cells.specs.Inside.Waiting.{first_value}
use Rattle.ps_cells.specs.Inside.Steps.{AreListed, flag_at, HasRoom}
use Rattle.ps_cells.specs.Inside.Walk.{IsStateChange, IsCount, IsRegionOf, IsWork, InFrame, HoldsCyclic, formula_at}
use Rattle.ps_cells.specs.declared.tables.Tables.{Tables}

-- the cyclic cells are known, no cell is flagged, there are workers, and the region is that of a change of its source
pub record IsTidy (s : State) (x : Tables) : Type 0 where
  pub cyclic : HoldsCyclic s x.cyclic
  pub length : length x.flags.items ≡ CELLS
  pub off : (c : ℕ) → flag_at x.flags.items c ≡ false
  pub level : HasRoom CELLS x.level
  pub workers : (0 < x.workers) × (x.workers ≤ WORKERS)
  pub region : IsRegionOf s x.source x.region

-- BETWEEN TWO CHANGES: what is shown is settled, and the index stands for the formulas
pub record IsWhole (x : Tables) : Type 0 where
  pub in_grid : IsInGrid (state_at x.grid)
  pub settled : IsSettled (state_at x.grid) (shown_at x.shown.kept)
  pub stands : Stands x.index (forms_of (state_at x.grid))
  pub tidy : IsTidy (state_at x.grid) x
  pub still : x.shown.olds ≡ []

-- WITHIN A CHANGE: the touched cells hold their new states, and nothing else is done yet; `first` has what they show at
-- first
pub record MayRecalculate (x : Tables) (touched : List ℕ) (first : List (ℕ × Kept)) : Type 0 where
  pub before : State
  pub change : IsStateChange before (state_at x.grid) (shown_at x.shown.kept) touched
  pub tidy : IsTidy before x
  pub once : IsDistinct nat_eq touched
  pub inside : (c : ℕ) → In touched c → c < CELLS
  pub lists : AreListed (refers_to (state_at x.grid)) touched (listed x.index)
  pub cells : map (λ e. e.0) first ≡ touched
  pub values : All (λ e. value_kept e.1 ≡ first_value (state_at x.grid e.0)) first

-- AFTER A RECALCULATION: the values are settled, and the work is counted
pub record Recalculates (x y : Tables) (touched : List ℕ) (evaluated cyclic levels : ℕ) : Type 0 where
  pub grid : y.grid ≡ x.grid
  pub index : y.index ≡ x.index
  pub workers : y.workers ≡ x.workers
  pub settled : IsSettled (state_at x.grid) (shown_at y.shown.kept)
  pub tidy : IsTidy (state_at x.grid) y
  pub works : IsCount (IsWork (state_at x.grid) touched (shown_at x.shown.kept) (shown_at y.shown.kept)) evaluated
  pub closes : IsCount (λ c. InRegion (refers_to (state_at x.grid)) touched c × (formula_at (state_at x.grid) c ≡ true)
      × Cyclic (state_at x.grid) c) cyclic
  pub deepest : (c : ℕ) → InFrame (state_at x.grid) touched c
      → (k : ℕ) × IsDepth (refers_to (state_at x.grid)) (InFrame (state_at x.grid) touched) c k × (k ≤ levels)
  pub reached : (levels ≡ 0) ⊎ ((c : ℕ) × InFrame (state_at x.grid) touched c
      × IsDepth (refers_to (state_at x.grid)) (InFrame (state_at x.grid) touched) c levels)
