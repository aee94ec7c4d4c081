-- A sheet in which at most one change is staged, as contracts see it.
use Rattle.std.specs.Prelude.{◌≡◌, ℕ, ◌↔◌, Bool, true, Option, Some, None, IsSomeAnd, List, length}
use Rattle.ps_value.specs.declared.value.Value.{Value}
use Rattle.ps_shown.specs.declared.kept.Kept.{Kept}
use Rattle.ps_shown.specs.Shown.{shown_at}
use Rattle.ps_delta.specs.State.{IsBelow}
use Rattle.ps_delta.specs.Deltas.{Entries, state_of, joined_history}
use Rattle.ps_cells.specs.Settled.{IsSettled}
use Rattle.ps_sheet.specs.Prepared.{PreparedView, history_after, shown_before, shown_after}
use Rattle.ps_sheet.specs.Reports.{IsReport}
use Rattle.ps_sheet.specs.Sheet.{SheetView, IsSheet, Takes}
use Rattle.ps_sheet.specs.declared.sheet.Report.{Report}

-- `fresh` says whether the delta is to be appended. `olds` lists the cells whose shown value was written, with what
-- they showed before. `changed` are the cells that were listed as showing another value, and `changes` those that were
-- listed with the new value.
pub record StagedView : Type 0 where
  pub delta : Entries
  pub fresh : Bool
  pub olds : List (ℕ × Kept)
  pub changed : List ℕ
  pub changes : List (ℕ × Value)
  pub report : Report

-- the replica and the history without the staged change, what each cell shows with it, and the number of workers
pub record StagingView : Type 0 where
  pub replica : ℕ
  pub history : List Entries
  pub shown : List Kept
  pub workers : ℕ
  pub staged : Option StagedView

-- the sheet with what x shows; if nothing is staged in x, it is x as a sheet
abbrev pub sheet_of : StagingView → SheetView
sheet_of x = record { replica = x.replica; history = x.history; shown = x.shown; workers = x.workers }

-- the sheet x, with nothing staged in it
abbrev pub staging_of : SheetView → StagingView
staging_of x = record { replica = x.replica; history = x.history; shown = x.shown; workers = x.workers; staged = None }

-- the staged change p of x, as a prepared change
abbrev pub prepared_of : StagingView → StagedView → PreparedView
prepared_of x p = record {
  replica = x.replica;
  history = x.history;
  delta = p.delta;
  fresh = p.fresh;
  shown = x.shown;
  olds = p.olds;
  changes = p.changes;
  report = p.report;
  workers = x.workers;
}

-- what holds of each staged change, whether its values were listed or not
pub record IsWorkedOut (p : PreparedView) : Type 0 where
  pub takes : Takes p.delta p.history (history_after p)
  pub fresh : (p.fresh ≡ true) ↔ (¬ IsBelow (state_of p.delta) (joined_history p.history))
  pub before : IsSettled (joined_history p.history) (shown_before p)
  pub after : IsSettled (joined_history (history_after p)) (shown_after p)
  pub version : p.report.version ≡ length (history_after p)
  pub report : IsReport (joined_history p.history) (joined_history (history_after p)) (shown_before p) (shown_after p)
      p.report

-- what holds of a sheet in which this change, or none, is staged
abbrev pub IsStagedAs : StagingView → Option StagedView → Type 0
IsStagedAs x None = IsSheet (sheet_of x)
IsStagedAs x (Some p) = IsWorkedOut (prepared_of x p)

abbrev pub IsStaging : StagingView → Type 0
IsStaging x = IsStagedAs x x.staged

-- STAGES: y is x with a change staged that has the report r; it was worked out over the history and the values of x
pub record Stages (x y : StagingView) (r : Report) : Type 0 where
  pub replica : y.replica ≡ x.replica
  pub history : y.history ≡ x.history
  pub workers : y.workers ≡ x.workers
  pub worked_out : IsSomeAnd y.staged (λ p. IsWorkedOut (prepared_of y p))
  pub before : IsSomeAnd y.staged (λ p. shown_before (prepared_of y p) ≡ shown_at x.shown)
  pub report : IsSomeAnd y.staged (λ p. p.report ≡ r)

-- IDLE: the sheet y is the sheet x, and the report r has no work
pub record IsIdle (x y : SheetView) (r : Report) : Type 0 where
  pub same : y ≡ x
  pub evaluated : r.evaluated ≡ 0
  pub cyclic : r.cyclic ≡ 0
  pub levels : r.levels ≡ 0

-- the staged changes p and q are the same, apart from what was listed
pub record IsSameChange (p q : StagedView) : Type 0 where
  pub delta : q.delta ≡ p.delta
  pub fresh : q.fresh ≡ p.fresh
  pub olds : q.olds ≡ p.olds
  pub report : q.report ≡ p.report

-- LISTED: x and y are the same with the same change staged, apart from what was listed
pub record IsListed (x y : StagingView) : Type 0 where
  pub replica : y.replica ≡ x.replica
  pub history : y.history ≡ x.history
  pub shown : y.shown ≡ x.shown
  pub workers : y.workers ≡ x.workers
  pub staged : IsSomeAnd x.staged (λ p. IsSomeAnd y.staged (IsSameChange p))
