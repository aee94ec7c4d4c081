-- The items of a range, cell by cell.
use Rattle.std.proofs.Common.{◌≡◌, ◌≤◌, ℕ, List, [], ◌∷◌, length, length-append, ap, arith}
use Rattle.std.specs.List.{flat_map}
use Rattle.ps_value.specs.declared.value.Value.{Value}
use Rattle.ps_value.specs.declared.value.Value.TheVariants.{Empty, Num, Text, Choice, Err}
use Rattle.ps_grid.specs.declared.size.TheConstants.{CELLS}
use Rattle.ps_grid.specs.Rectangle.{Area, LiesInGrid, cells_of}
use Rattle.ps_grid.proofs.AreaLemmas.{area-le, filter-cells_of, length-cells_of}
use Rattle.ps_eval.specs.Number.{Number}
use Rattle.ps_eval.specs.Items.{Assignment, cell_items, numbers_in, range_items}
use Rattle.ps_eval.proofs.SummaryLemmas.{fewer_numbers}

-- the items of cells, one after another
abbrev pub items_at : Assignment → List ℕ → List Number
items_at v cells = flat_map (λ c. cell_items (v c)) cells

pub range_items_are : (v : Assignment) (a : Area) → LiesInGrid a → range_items v a ≡ items_at v (cells_of a)
range_items_are v a g = ap (items_at v) (filter-cells_of a g)

one_item : (x : Value) → length (cell_items x) ≤ 1
one_item Empty = omega arith
one_item (Num n) = omega arith
one_item (Text text) = omega arith
one_item (Choice options) = omega arith
one_item (Err fault) = omega arith

-- no more items than cells
pub fewer_items : (v : Assignment) (cells : List ℕ) → length (items_at v cells) ≤ length cells
fewer_items v [] = omega arith
fewer_items v (c ∷ cells) =
    let p = one_item (v c) in
    let q = fewer_items v cells in
    let r = length-append (cell_items (v c)) (items_at v cells) in
    omega (arith, p, q, r)

-- no more numbers than the grid has cells
pub few_numbers : (v : Assignment) (a : Area) → LiesInGrid a → length (numbers_in (range_items v a)) ≤ CELLS
few_numbers v a g =
    let p = fewer_numbers (range_items v a) in
    let q = fewer_items v (cells_of a) in
    let r = ap length (range_items_are v a g) in
    let s = length-cells_of a in
    let t = area-le a g in
    omega (arith, p, q, r, s, t)
