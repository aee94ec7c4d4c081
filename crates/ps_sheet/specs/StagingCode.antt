-- A code of what contracts see of a sheet with a staged change. Only the view of `Staging` uses it.
use Rattle.std.specs.Prelude.{ℕ, Bool, Option, List, refl}
use Rattle.std.specs.Coded.{Coded, code_by, coded×, coded_ℕ, coded_list, coded_bool, coded_option}
use Rattle.ps_value.specs.declared.value.Value.{Value}
use Rattle.ps_value.specs.contracts.value.Value as value
use Rattle.ps_shown.specs.declared.kept.Kept.{Kept}
use Rattle.ps_shown.specs.contracts.kept.Kept as kept
use Rattle.ps_delta.specs.Deltas.{Entries}
use Rattle.ps_delta.specs.contracts.delta.Delta as delta
use Rattle.ps_sheet.specs.declared.sheet.Report.{Report}
use Rattle.ps_sheet.specs.contracts.sheet.Report as report
use Rattle.ps_sheet.specs.Staging.{StagedView, StagingView}

-- both are stored as the tuple of their parts
abbrev pub staged_code : Coded StagedView
staged_code =
    code_by ((Entries × (Bool × Report)) × (List (ℕ × Kept) × (List ℕ × List (ℕ × Value))))
    (coded×
    (coded× delta.the_row.coded (coded× coded_bool report.the_row.coded))
    (coded× (coded_list (coded× coded_ℕ kept.the_row.coded))
    (coded× (coded_list coded_ℕ) (coded_list (coded× coded_ℕ value.the_row.coded)))))
    (λ p. ((p.delta, (p.fresh, p.report)), (p.olds, (p.changed, p.changes))))
    (λ c. record {
      delta = c.0.0;
      fresh = c.0.1.0;
      report = c.0.1.1;
      olds = c.1.0;
      changed = c.1.1.0;
      changes = c.1.1.1;
    })
    (λ _. refl)

abbrev pub staging_code : Coded StagingView
staging_code =
    code_by ((ℕ × ℕ) × (List Entries × (List Kept × Option StagedView)))
    (coded× (coded× coded_ℕ coded_ℕ)
    (coded× (coded_list delta.the_row.coded) (coded× (coded_list kept.the_row.coded) (coded_option staged_code))))
    (λ x. ((x.replica, x.workers), (x.history, (x.shown, x.staged))))
    (λ c. record { replica = c.0.0; workers = c.0.1; history = c.1.0; shown = c.1.1.0; staged = c.1.1.1 })
    (λ _. refl)
