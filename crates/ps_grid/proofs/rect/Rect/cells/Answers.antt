use Rattle.std.proofs.Common.{sym, subst, ◌∙◌, ap, eqb}
use Rattle.std.specs.List.{IsDistinct, list_any}
use Rattle.ps_grid.specs.Inside.Walking.{last_cells}
use Rattle.ps_grid.proofs.AreaLemmas.{list_any-cells_of, IsDistinct-cells_of}
use Rattle.ps_grid.proofs.WalkLemmas.{last_cells-all}
use Rattle.ps_grid.proofs.rect.Rect.cells.Goals as goal

-- a walk that begins has all cells to come
pub returns-clause-cells : goal.returns-clause-cells
returns-clause-cells c = ap (last_cells c.args.self) c.area.ensures.area ∙ last_cells-all c.args.self

pub returns-clause-inside : goal.returns-clause-inside
returns-clause-inside c = λ cell.
    ap (list_any (eqb cell)) (returns-clause-cells c) ∙ list_any-cells_of c.args.self cell c.area.ensures.in_grid

pub returns-clause-once : goal.returns-clause-once
returns-clause-once c =
    subst (IsDistinct eqb) (sym (returns-clause-cells c)) (IsDistinct-cells_of c.args.self c.area.ensures.in_grid)
