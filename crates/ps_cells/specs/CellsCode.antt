-- A code of what contracts see of cells. Nothing but the view of `Cells` uses it.
use Rattle.std.specs.Prelude.{ℕ, Option, List, refl}
use Rattle.std.specs.Coded.{Coded, code_by, coded×, coded_ℕ, coded_list, coded_option}
use Rattle.ps_value.specs.declared.value.Value.{Value}
use Rattle.ps_value.specs.contracts.value.Value as value
use Rattle.ps_shown.specs.declared.kept.Kept.{Kept}
use Rattle.ps_shown.specs.contracts.kept.Kept as kept
use Rattle.ps_delta.specs.State.{Blocks}
use Rattle.ps_delta.specs.Deltas.{Entries}
use Rattle.ps_delta.specs.contracts.delta.Delta as delta
use Rattle.ps_delta.specs.contracts.grid.Grid as grid
use Rattle.ps_cells.specs.Cells.{CellsView}

-- cells are stored as the tuple of their parts
abbrev pub cells_code : Coded CellsView
cells_code =
    code_by
    ((Blocks × (List Kept × List (ℕ × Kept))) × ((List ℕ × List (ℕ × Value)) × (ℕ × Option Entries)))
    (coded×
    (coded× grid.the_row.coded
    (coded× (coded_list kept.the_row.coded) (coded_list (coded× coded_ℕ kept.the_row.coded))))
    (coded×
    (coded× (coded_list coded_ℕ) (coded_list (coded× coded_ℕ value.the_row.coded)))
    (coded× coded_ℕ (coded_option delta.the_row.coded))))
    (λ x. ((x.grid, (x.shown, x.olds)), ((x.changed, x.changes), (x.workers, x.staged))))
    (λ p. record {
      grid = p.0.0;
      shown = p.0.1.0;
      olds = p.0.1.1;
      changed = p.1.0.0;
      changes = p.1.0.1;
      workers = p.1.1.0;
      staged = p.1.1.1;
    })
    (λ _. refl)
