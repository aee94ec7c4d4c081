-- The values of the formulas of a level.
use Rattle.std.specs.Prelude.{◌≡◌, ℕ, ◌+◌, ◌<◌, ◌≤◌, List, map, length, All, IsSome, Option, Some}
use Rattle.std.specs.Prelude.{None}
use Rattle.ps_grid.specs.declared.parties.TheConstants.{WORKERS}
use Rattle.ps_value.specs.declared.value.Value.{Value}
use Rattle.ps_value.specs.declared.value.Value.TheVariants.{Empty}
use Rattle.ps_formula.specs.Tree.{Tree}
use Rattle.ps_eval.specs.Items.{Assignment}
use Rattle.ps_eval.specs.Value.{ev}
use Rattle.ps_shown.specs.declared.kept.Kept.{Kept}
use Rattle.ps_shown.specs.Kept.{value_of as value_kept}

-- each of the cells has a formula
abbrev pub HaveFormulas : (ℕ → Option Tree) → List ℕ → Type 0
HaveFormulas formulas cells = All (λ c. IsSome (formulas c)) cells

-- the value of a cell's formula; a cell without a formula counts as empty
abbrev pub formula_value : Assignment → Option Tree → Value
formula_value v None = Empty
formula_value v (Some t) = ev t v

-- the value of each cell's formula, in the order of the cells
abbrev pub values_of : (ℕ → Option Tree) → Assignment → List ℕ → List Value
values_of formulas v cells = map (λ c. formula_value v (formulas c)) cells

-- the values of stored cells
abbrev pub kept_values : List Kept → List Value
kept_values out = map value_kept out

-- the cells are work for `count` workers, numbered from `first` on: at least one cell for each, and `out` is as long
abbrev pub IsWorkFor : (ℕ → Option Tree) → ℕ → ℕ → List ℕ → List Kept → Type 0
IsWorkFor formulas first count cells out =
    (0 < count)
    × (count ≤ length cells)
    × (first + count ≤ WORKERS)
    × HaveFormulas formulas cells
    × (length out ≡ length cells)

-- `out` has the values of the cells, and `ticks` counts each evaluation
abbrev pub IsDone : (ℕ → Option Tree) → Assignment → List ℕ → List Kept → ℕ → Type 0
IsDone formulas v cells out ticks = (kept_values out ≡ values_of formulas v cells) × (ticks ≡ length cells)
