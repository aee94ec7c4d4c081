use Rattle.std.proofs.Common.{ℕ, List, subst, sym, nat_eq}
use Rattle.std.specs.List.{IsDistinct}
use Rattle.ps_grid.specs.declared.size.TheConstants.{CELLS}
use Rattle.ps_index.proofs.CellsPassing.{cells_from-distinct}
use Rattle.ps_index.proofs.index.Index.readers.Goals as goal

pub returns-clause-once : goal.returns-clause-once
returns-clause-once c = λ (cells : List ℕ) is.
    subst (λ xs. IsDistinct nat_eq xs) (sym (c.readers.ensures.row cells is)) (cells_from-distinct _ 0 CELLS)

pub returns-clause-once_of_two : goal.returns-clause-once_of_two
returns-clause-once_of_two c = λ (cells : List ℕ) is.
    subst (λ xs. IsDistinct nat_eq xs) (sym (c.readers.ensures.two_rows cells is)) (cells_from-distinct _ 0 CELLS)
