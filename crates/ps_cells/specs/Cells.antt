-- The cells of one replica, as contracts see them.
use Rattle.std.specs.Prelude.{◌≡◌, ℕ, Option, Some, None, List}
use Rattle.ps_value.specs.declared.value.Value.{Value}
use Rattle.ps_eval.specs.Items.{Assignment}
use Rattle.ps_shown.specs.declared.kept.Kept.{Kept}
use Rattle.ps_shown.specs.Shown.{shown_at}
use Rattle.ps_delta.specs.State.{Blocks, State, state_at}
use Rattle.ps_delta.specs.Deltas.{Entries, overlaid}
use Rattle.ps_cells.specs.ChangedCells.{put_back}

-- `grid` is what each cell holds, and `shown` what it shows; `olds` is what some showed before the staged change;
-- `changed` has the cells that were listed last as showing another value, `changes` the cells and values that were
-- listed last; `workers` counts the workers; `staged` has the touched cells of a staged change, each with the state
-- that it had
pub record CellsView : Type 0 where
  pub grid : Blocks
  pub shown : List Kept
  pub olds : List (ℕ × Kept)
  pub changed : List ℕ
  pub changes : List (ℕ × Value)
  pub workers : ℕ
  pub staged : Option Entries

-- the state that the cells hold, and what they show
abbrev pub state_now : CellsView → State
state_now x = state_at x.grid

abbrev pub shown_now : CellsView → Assignment
shown_now x = shown_at x.shown

-- the state before the staged change; without one, the state s that the cells hold
abbrev pub state_without : State → Option Entries → State
state_without s None = s
state_without s (Some olds) = overlaid s olds

abbrev pub state_before : CellsView → State
state_before x = state_without (state_at x.grid) x.staged

abbrev pub shown_before : CellsView → Assignment
shown_before x = put_back x.olds (shown_at x.shown)

-- the cells hold and show the same, with the same change staged and the same workers
pub record AreTheSame (x y : CellsView) : Type 0 where
  pub state : state_now y ≡ state_now x
  pub shown : y.shown ≡ x.shown
  pub olds : y.olds ≡ x.olds
  pub changed : y.changed ≡ x.changed
  pub changes : y.changes ≡ x.changes
  pub workers : y.workers ≡ x.workers
  pub staged : y.staged ≡ x.staged
