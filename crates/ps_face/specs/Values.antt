-- The values of all cells in order, and what changes make of them.
use Rattle.std.specs.Prelude.{ℕ, zero, suc, List, [], ◌∷◌, ◌++◌, fold, slice_set}
use Rattle.ps_grid.specs.declared.size.TheConstants.{CELLS}
use Rattle.ps_value.specs.declared.value.Value.{Value}
use Rattle.ps_shown.specs.declared.kept.Kept.{Kept}
use Rattle.ps_shown.specs.Kept.{value_of}
use Rattle.ps_shown.specs.Shown.{with_value}
use Rattle.ps_eval.specs.Items.{Assignment}

-- the values of the cells below n, in order
unfoldable pub listed : Assignment → ℕ → List Value
listed v zero = []
listed v (suc n) = listed v n ++ v n ∷ []

-- the values of all cells, in order
abbrev pub in_order : Assignment → List Value
in_order v = listed v CELLS

-- cells with new values
abbrev pub Changes : Type 0
Changes = List (ℕ × Value)

-- a cell with its value, from a cell with its value as a sheet stores it
abbrev pub valued : ℕ × Kept → ℕ × Value
valued e = (e.0, value_of e.1)

-- the values of all cells with the changes written, one after another
abbrev pub written : List Value → Changes → List Value
written values changes = fold (λ vs e. slice_set vs e.0 e.1) values changes

-- the assignment v with the values of the changes, one after another
abbrev pub overlaid : Assignment → Changes → Assignment
overlaid v changes = fold (λ w e. with_value w e.0 e.1) v changes
