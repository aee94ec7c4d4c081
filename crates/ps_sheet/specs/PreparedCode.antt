-- A code of what contracts see of a prepared change. Only the view of `Prepared` uses it.
use Rattle.std.specs.Prelude.{ℕ, Bool, List, refl}
use Rattle.std.specs.Coded.{Coded, code_by, coded×, coded_ℕ, coded_list, coded_bool}
use Rattle.ps_value.specs.declared.value.Value.{Value}
use Rattle.ps_value.specs.contracts.value.Value as value
use Rattle.ps_shown.specs.declared.kept.Kept.{Kept}
use Rattle.ps_shown.specs.contracts.kept.Kept as kept
use Rattle.ps_delta.specs.Deltas.{Entries}
use Rattle.ps_delta.specs.contracts.delta.Delta as delta
use Rattle.ps_sheet.specs.declared.sheet.Report.{Report}
use Rattle.ps_sheet.specs.contracts.sheet.Report as report
use Rattle.ps_sheet.specs.Prepared.{PreparedView}

-- a prepared change is stored as the tuple of its parts
abbrev pub prepared_code : Coded PreparedView
prepared_code =
    code_by
    ((ℕ × (List Entries × Entries)) × ((Bool × (Report × ℕ)) × ((List Kept × List (ℕ × Kept)) × List (ℕ × Value))))
    (coded× (coded× coded_ℕ (coded× (coded_list delta.the_row.coded) delta.the_row.coded))
    (coded× (coded× coded_bool (coded× report.the_row.coded coded_ℕ))
    (coded× (coded× (coded_list kept.the_row.coded) (coded_list (coded× coded_ℕ kept.the_row.coded)))
    (coded_list (coded× coded_ℕ value.the_row.coded)))))
    (λ p. (
      (p.replica, (p.history, p.delta)),
      ((p.fresh, (p.report, p.workers)), ((p.shown, p.olds), p.changes)),
    ))
    (λ c. record {
      replica = c.0.0;
      history = c.0.1.0;
      delta = c.0.1.1;
      fresh = c.1.0.0;
      report = c.1.0.1.0;
      workers = c.1.0.1.1;
      shown = c.1.1.0.0;
      olds = c.1.1.0.1;
      changes = c.1.1.1;
    })
    (λ _. refl)
