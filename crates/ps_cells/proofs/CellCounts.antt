-- No count of cells is above the number of cells.
use Rattle.std.proofs.Common.{◌<◌, ◌≤◌, ℕ, List, length, eqb, subst}
use Rattle.std.specs.List.{IsDistinct}
use Rattle.std.proofs.lemmas.Map.Steps.{length-le_from_distinct_below}
use Rattle.ps_grid.specs.declared.size.TheConstants.{CELLS}
use Rattle.ps_grid.specs.Chains.{In}
use Rattle.ps_cells.specs.Inside.Walk.{IsCount}

pub distinct_below_cells : (xs : List ℕ) → IsDistinct eqb xs → ((c : ℕ) → In xs c → c < CELLS) → length xs ≤ CELLS
distinct_below_cells xs once below = length-le_from_distinct_below xs CELLS once below

pub count_below_cells : (P : ℕ → Type 0) (n : ℕ) → ((c : ℕ) → P c → c < CELLS) → IsCount P n → n ≤ CELLS
count_below_cells P n below k =
    subst (λ m. m ≤ CELLS) k.4 (distinct_below_cells k.0 k.1 (λ c i. below c (k.2 c i)))
