-- The items of a rectangle, column after column.
use Rattle.std.specs.Prelude.{ℕ, List, flat_map, take}
use Rattle.std.specs.List.{range_with_len}
use Rattle.ps_grid.specs.Rectangle.{Area, cell_within}
use Rattle.ps_eval.specs.Number.{Number}
use Rattle.ps_eval.specs.Items.{Assignment, cell_items}
use Rattle.ps_eval.specs.Summarized.{Summarizes}
use Rattle.ps_eval.specs.declared.summary.Summary.{Summary}
use Rattle.ps_shown.specs.declared.kept.Kept.{Kept}
use Rattle.ps_shown.specs.Kept.{value_of}

-- the items of stored cells, one after another
abbrev pub items_kept : List Kept → List Number
items_kept kept = flat_map (λ k. cell_items (value_of k)) kept

-- the items of one column of a rectangle, from the top down
abbrev pub column_items : Assignment → Area → ℕ → List Number
column_items v a across = flat_map (λ down. cell_items (v (cell_within a across down))) (range_with_len 0 a.height)

-- the items of the first n columns of a rectangle
abbrev pub items_by_columns : Assignment → Area → ℕ → List Number
items_by_columns v a n = flat_map (column_items v a) (range_with_len 0 n)

-- a summary of the first n stored cells
abbrev pub HasTaken : List Kept → ℕ → Summary → Type 0
HasTaken kept n s = Summarizes (items_kept (take n kept)) s
