-- A code of what contracts see of arrivals. Only the view of `Arrivals` uses it.
use Rattle.std.specs.Prelude.{List, refl}
use Rattle.std.specs.Coded.{Coded, code_by, coded×, coded_list}
use Rattle.ps_delta.specs.State.{Blocks}
use Rattle.ps_delta.specs.Deltas.{Entries}
use Rattle.ps_delta.specs.contracts.delta.Delta as delta
use Rattle.ps_delta.specs.contracts.grid.Grid as grid
use Rattle.ps_sheet.specs.Arrivals.{ArrivalsView}

-- arrivals are stored as the tuple of their parts
abbrev pub arrivals_code : Coded ArrivalsView
arrivals_code =
    code_by (List Entries × Blocks) (coded× (coded_list delta.the_row.coded) grid.the_row.coded)
    (λ a. (a.deltas, a.grid)) (λ p. record { deltas = p.0; grid = p.1 }) (λ _. refl)
