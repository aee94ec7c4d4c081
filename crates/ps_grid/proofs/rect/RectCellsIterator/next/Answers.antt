use Rattle.std.proofs.Common.{◌+◌, ◌-◌, subst, sym, ◌∙◌, arith}
use Rattle.ps_grid.specs.declared.size.TheConstants.{COLUMNS}
use Rattle.ps_grid.specs.Inside.Walking.{IsAt}
use Rattle.ps_grid.proofs.WalkLemmas.{along_row, to_next_row}
use Rattle.ps_grid.proofs.rect.RectCellsIterator.next.Goals as goal

pub invariant_of-self : goal.invariant_of-self
invariant_of-self c =
    let w = c.self.inside in
    let is = c.width.ensures.width in
    subst (λ n. IsAt w.rect (w.left - 1) (w.place + 1 + (COLUMNS - n)) 0) (sym c.width-then-self-width.ensures.width)
    (to_next_row w.rect w.left w.place w.across c.self.invariant (omega arith) (omega arith))

pub invariant_of-self-else-self-width : goal.invariant_of-self-else-self-width
invariant_of-self-else-self-width c =
    let w = c.self.inside in
    let is = c.width.ensures.width in
    along_row w.rect w.left w.place w.across c.self.invariant (omega arith)
    (λ full. c.if-self-width.false (full ∙ sym is))
