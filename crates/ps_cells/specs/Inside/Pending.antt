-- A change that is made and can still be cancelled.
use Rattle.std.specs.Prelude.{◌≡◌}
use Rattle.std.specs.List.Sorted.{IsStrictlyIncreasing}
use Rattle.ps_index.specs.Stands.{Stands}
use Rattle.ps_shown.specs.Shown.{shown_at}
use Rattle.ps_delta.specs.State.{State, IsInGrid, state_at}
use Rattle.ps_delta.specs.Deltas.{Entries, cells_of, overlaid}
use Rattle.ps_delta.specs.Changes.{HasRoomFor, entries_from}
use Rattle.ps_cells.specs.Settled.{IsSettled}
use Rattle.ps_cells.specs.Inside.Formulas.{forms_of, with_puts}
use Rattle.ps_cells.specs.Inside.Kept.{IsTidy}
use Rattle.ps_cells.specs.Inside.Screens.{before_of}
use Rattle.ps_cells.specs.declared.tables.Tables.{Tables}

-- PENDING: a change under way. Before it the touched cells had the states of `olds`, all cells had the state s, and
-- their values were settled. Now the cells hold and show what they do after it, and the index has old and new formulas
pub record IsPending (s : State) (x : Tables) (olds : Entries) : Type 0 where
  pub was_in_grid : IsInGrid s
  pub was_settled : IsSettled s (before_of x.shown)
  pub gives : overlaid (state_at x.grid) olds ≡ s
  pub ready : HasRoomFor x.grid olds
  pub ascending : IsStrictlyIncreasing (cells_of olds)
  pub stood : Stands x.index (with_puts (entries_from (state_at x.grid) olds) (forms_of s))
  pub in_grid : IsInGrid (state_at x.grid)
  pub settled : IsSettled (state_at x.grid) (shown_at x.shown.kept)
  pub stands : Stands x.index (with_puts olds (forms_of (state_at x.grid)))
  pub tidy : IsTidy (state_at x.grid) x
