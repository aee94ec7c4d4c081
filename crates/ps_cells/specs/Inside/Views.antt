-- How contracts see `Cells`, and its invariant.
use Rattle.std.specs.Prelude.{Bool, true, false, Option, Some, None}
use Rattle.ps_delta.specs.State.{state_at}
use Rattle.ps_delta.specs.Deltas.{Entries, overlaid}
use Rattle.ps_cells.specs.Cells.{CellsView}
use Rattle.ps_cells.specs.Inside.Kept.{IsWhole}
use Rattle.ps_cells.specs.Inside.Pending.{IsPending}
use Rattle.ps_cells.specs.declared.tables.Tables.{Tables}
use Rattle.ps_cells.specs.declared.cells.Cells.TheInside.{Inside}

-- the states that the touched cells had, where a change is staged
abbrev pub staged_by : Bool → Entries → Option Entries
staged_by true olds = Some olds
staged_by false olds = None

abbrev pub staged_of : Inside → Option Entries
staged_of x = staged_by x.is_staged x.lists.states.items

abbrev pub view_of : Inside → CellsView
view_of x = record {
  grid = x.tables.grid;
  shown = x.tables.shown.kept;
  olds = x.tables.shown.olds;
  changed = x.tables.shown.changed;
  changes = x.tables.shown.changes;
  workers = x.tables.workers;
  staged = staged_of x;
}

-- between two changes the tables are whole; a staged change can be taken back
abbrev pub AreCellsBy : Tables → Option Entries → Type 0
AreCellsBy t None = IsWhole t
AreCellsBy t (Some olds) = IsPending (overlaid (state_at t.grid) olds) t olds

abbrev pub AreCells : Inside → Type 0
AreCells x = AreCellsBy x.tables (staged_of x)
