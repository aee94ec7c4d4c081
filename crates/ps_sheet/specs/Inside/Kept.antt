-- What a sheet with a staged change stores beside what contracts see, and how contracts see it: as a `Staging`, and as
-- a `Prepared`.
use Rattle.std.specs.Prelude.{◌≡◌, ◌≤◌, ◌<◌, true, false, Option, Some, None, is_some, [], ◌∷◌, ◌++◌}
use Rattle.std.specs.Prelude.{IsSomeAnd, Vec, vec_len, vec_capacity, ℕ, ◌+◌, ◌⊎◌}
use Rattle.ps_grid.specs.declared.parties.TheConstants.{REPLICAS}
use Rattle.ps_delta.specs.State.{IsBelow, IsInGrid}
use Rattle.ps_delta.specs.Deltas.{Entries, joined_history, state_of}
use Rattle.ps_cells.specs.Cells.{CellsView, state_before, state_now}
use Rattle.ps_sheet.specs.Prepared.{PreparedView, IsDeltaOf, IsPrepared, IsToAppend, history_after}
use Rattle.ps_sheet.specs.Sheet.{SheetView, IsFresh, Takes}
use Rattle.ps_sheet.specs.Staging.{StagedView, StagingView, IsIdle, IsStaging, prepared_of}
use Rattle.ps_delta.specs.declared.edit.Change.{Change}
use Rattle.ps_sheet.specs.declared.sheet.Report.{Report}
use Rattle.ps_sheet.specs.declared.staging.Staged.{Staged}
use Rattle.ps_sheet.specs.declared.staging.Staging.TheInside.{Inside}

abbrev pub staged_of : CellsView → Option Staged → Option StagedView
staged_of cells None = None
staged_of cells (Some s) = Some (record {
  delta = s.delta;
  fresh = is_some cells.staged;
  olds = cells.olds;
  changed = cells.changed;
  changes = cells.changes;
  report = s.report;
})

abbrev pub view_of : Inside → StagingView
view_of x = record {
  replica = x.replica;
  history = x.history.items;
  shown = x.cells.shown;
  workers = x.cells.workers;
  staged = staged_of x.cells x.staged;
}

-- the cells hold what the history joins to, with the delta of the staged change; if no change is staged, nothing is
-- staged in the cells either
abbrev pub IsStagedBy : StagingView → CellsView → Option StagedView → Type 0
IsStagedBy x cells None = (state_now cells ≡ joined_history x.history) × (cells.staged ≡ None)
IsStagedBy x cells (Some p) = state_now cells ≡ joined_history (history_after (prepared_of x p))

pub record IsKept (x : Inside) : Type 0 where
  pub staging : IsStaging (view_of x)
  pub holds : IsStagedBy (view_of x) x.cells (staged_of x.cells x.staged)
  pub before : state_before x.cells ≡ joined_history x.history.items
  pub room : is_some x.cells.staged ≡ true → vec_len x.history < vec_capacity x.history
  pub still : x.cells.staged ≡ None → x.cells.olds ≡ []
  pub fresh : IsFresh x.history.items
  pub in_grid : IsInGrid (joined_history x.history.items)
  pub in_grid_now : IsInGrid (state_now x.cells)
  pub replica : (1 ≤ x.replica) × (x.replica ≤ REPLICAS)

-- the prepared change that contracts see: the staged one, or an empty one if none is staged
abbrev pub prepared_by : StagingView → Option StagedView → PreparedView
prepared_by x None = prepared_of x (record {
  delta = [];
  fresh = false;
  olds = [];
  changed = [];
  changes = [];
  report = record { version = 0; evaluated = 0; cyclic = 0; levels = 0 };
})
prepared_by x (Some p) = prepared_of x p

-- a change is staged, and what holds of each prepared change holds of it
abbrev pub StagesPrepared : StagingView → Type 0
StagesPrepared x = IsSomeAnd x.staged (λ p. IsPrepared (prepared_of x p))

-- the prepared changes p and q are the same, apart from what was listed
pub record Prepares (p q : PreparedView) : Type 0 where
  pub replica : q.replica ≡ p.replica
  pub history : q.history ≡ p.history
  pub delta : q.delta ≡ p.delta
  pub fresh : q.fresh ≡ p.fresh
  pub shown : q.shown ≡ p.shown
  pub olds : q.olds ≡ p.olds
  pub report : q.report ≡ p.report
  pub workers : q.workers ≡ p.workers

-- MAKES: the change c makes the sheet y of the sheet x, with the report r. The delta of c is appended to the history,
-- unless it is below the state; then the sheet stays as it is
pub record Makes (x y : SheetView) (c : Change) (r : Report) : Type 0 where
  pub delta : Entries
  pub of : IsDeltaOf x.replica (joined_history x.history) c delta
  pub takes : Takes delta x.history y.history
  pub appended : IsToAppend x.replica (joined_history x.history) c → y.history ≡ x.history ++ delta ∷ []
  pub idle : IsBelow (state_of delta) (joined_history x.history) → IsIdle x y r

-- the vector has room for n more items, or is empty
abbrev pub HasRoomAfter : {X Z : Type 0} → Vec X Z → ℕ → Type 0
HasRoomAfter v n = (v.items ≡ []) ⊎ (vec_len v + n ≤ vec_capacity v)
