-- A code of what contracts see of a sheet. Only the view of `Sheet` uses it.
use Rattle.std.specs.Prelude.{ℕ, List, refl}
use Rattle.std.specs.Coded.{Coded, code_by, coded×, coded_ℕ, coded_list}
use Rattle.ps_shown.specs.declared.kept.Kept.{Kept}
use Rattle.ps_shown.specs.contracts.kept.Kept as kept
use Rattle.ps_delta.specs.Deltas.{Entries}
use Rattle.ps_delta.specs.contracts.delta.Delta as delta
use Rattle.ps_sheet.specs.Sheet.{SheetView}

-- a sheet is stored as the tuple of its parts
abbrev pub sheet_code : Coded SheetView
sheet_code =
    code_by ((ℕ × ℕ) × (List Entries × List Kept))
    (coded× (coded× coded_ℕ coded_ℕ) (coded× (coded_list delta.the_row.coded) (coded_list kept.the_row.coded)))
    (λ s. ((s.replica, s.workers), (s.history, s.shown)))
    (λ p. record { replica = p.0.0; workers = p.0.1; history = p.1.0; shown = p.1.1 })
    (λ _. refl)
