use Rattle.std.proofs.Common.{◌≡◌, ◌≤◌, ◌+◌, inl, inr, sym, ◌∙◌, arith, Some, [], min}
use Rattle.std.proofs.lemmas.Bool.{cases_lt}
use Rattle.ps_grid.specs.declared.size.TheConstants.{CELLS}
use Rattle.ps_index.proofs.CellsPassing.{cells_from-end}
use Rattle.ps_index.proofs.WalksInOrder.{heads_on, heads_yield, walk_goes, walk_later}
use Rattle.ps_index.specs.Spans.{cells_from, refers_at}
use Rattle.ps_index.proofs.two_rows.TwoRowReadersIterator.next.Goals as goal

pub returns-in_err-cell-clause-steps : goal.returns-in_err-cell-clause-steps
returns-in_err-cell-clause-steps c =
    let first = min c.self.inside.own.cell c.self.inside.upper.cell in
    let past : CELLS ≤ first = elim (cases_lt c.min-first.result CELLS) [
      | inl lt ↦ absurd (c.in_err-cell.ensures lt)
      | inr ge ↦ omega (arith, c.min-first.ensures)
    ] in
    let none : cells_from (refers_at c.self.inside.spans.now c.self.inside.row) first CELLS ≡ [] =
    cells_from-end _ first CELLS past in
    rw c.from_residual.ensures (sym c.self.view_is ∙ none, sym c.self.view_is ∙ none)

pub returns-clause-steps : goal.returns-clause-steps
returns-clause-steps c =
    heads_yield _ _ _ _ _ _ _ _ _ _ _ _ c.min-first.result c.self.invariant (omega (arith, c.min-first.ensures))
    c.past-own.ensures c.past-upper.ensures c.args.self.now c.in_ok-cell.cell c.self.view_is c.in_ok-cell.ensures.0
    c.in_ok-cell.ensures.1

pub returns-clause-goes : goal.returns-clause-goes
returns-clause-goes c =
    let steps = heads_yield _ _ _ _ _ _ _ _ _ _ _ _ c.min-first.result c.self.invariant
    (omega (arith, c.min-first.ensures)) c.past-own.ensures c.past-upper.ensures c.args.self.now c.in_ok-cell.cell
    c.self.view_is c.in_ok-cell.ensures.0 c.in_ok-cell.ensures.1 in
    walk_goes _ _ (Some c.in_ok-cell.cell) steps

pub invariant_of-self : goal.invariant_of-self
invariant_of-self c =
    heads_on _ _ _ _ (c.min-first.result + 1) _ _ _ _ _ _
    (walk_later _ _ _ _ _ _ (c.min-first.result + 1) c.self.invariant.walk (omega (arith, c.min-first.ensures)))
    c.past-own.ensures c.past-upper.ensures
