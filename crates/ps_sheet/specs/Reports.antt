-- The report of an accepted change.
use Rattle.std.specs.Prelude.{ℕ}
use Rattle.ps_eval.specs.Items.{Assignment}
use Rattle.ps_delta.specs.State.{State}
use Rattle.ps_cells.specs.Recalculated.{IsRecalculated}
use Rattle.ps_cells.specs.declared.tables.Work.{Work}
use Rattle.ps_sheet.specs.declared.sheet.Report.{Report}

-- the report r fits the change from the state s, where the cells showed v, to the state t, where they show w
abbrev pub IsReport : State → State → Assignment → Assignment → Report → Type 0
IsReport s t v w r = IsRecalculated s t v w r.evaluated r.cyclic r.levels

-- the report of this work; version is the length of the history after it
abbrev pub report_of : ℕ → Work → Report
report_of version work = record {
  version = version;
  evaluated = work.evaluated;
  cyclic = work.cyclic;
  levels = work.levels;
}
