use Rattle.std.proofs.Common.{◌≡◌, ℕ, ◌||◌, take, eqb}
use Rattle.std.specs.List.{list_any}
use Rattle.ps_region.specs.CellSets.{has_cell}
use Rattle.ps_region.proofs.cell_set.CellSet.insert_all.Given as goal

abbrev pub invariant-loop-c : goal.invariant-loop-c
invariant-loop-c l = (d : ℕ) → has_cell l.self d ≡ (has_cell l.initial.self d || list_any (eqb d) (take l.c-index l.cells))
