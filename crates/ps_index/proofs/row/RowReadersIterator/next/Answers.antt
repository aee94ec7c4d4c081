use Rattle.std.proofs.Common.{◌≡◌, ◌<◌, ◌+◌, ◌∷◌, sym, ◌∙◌, ap, arith, [], Some}
use Rattle.ps_grid.specs.declared.size.TheConstants.{CELLS}
use Rattle.ps_index.specs.Spans.{cell_of, cells_from, refers_at}
use Rattle.ps_index.specs.declared.span.Span.{Span}
use Rattle.ps_index.proofs.RowsInOrder.{row_end, row_first}
use Rattle.ps_index.proofs.WalksInOrder.{walk_goes}
use Rattle.ps_index.proofs.row.RowReadersIterator.next.Goals as goal

pub returns-then-place-self-clause-steps : goal.returns-then-place-self-clause-steps
returns-then-place-self-clause-steps c =
    let none : c.args.self.now ≡ [] =
    sym c.self.view_is
    ∙ row_end _ _ _ _ _ c.first_from-place.result c.self.invariant c.first_from-place.ensures.from
    c.first_from-place.ensures.to c.first_from-place.ensures.passed (omega arith) in
    (none, none)

pub returns-clause-steps : goal.returns-clause-steps
returns-clause-steps c =
    let spans = c.self.inside.spans.now in
    let place = c.first_from-place.result in
    let more : place < c.self.inside.end = omega (arith, c.first_from-place.ensures.to, c.if-place-self.false) in
    let at : (d : Span) → cell_of spans place d ≡ c.index.result = λ (d : Span).
    ap (λ (s : Span). s.cell) (c.at-cell.ensures.span d) ∙ sym c.index.ensures.index in
    sym c.self.view_is
    ∙ row_first _ _ _ _ _ place c.self.invariant c.first_from-place.ensures.from c.first_from-place.ensures.to
    c.first_from-place.ensures.passed c.index.result more at
    (omega (arith, at c.at-cell.result, c.first_from-place.ensures.from_least more c.at-cell.result))
    ∙ ap (λ n. n ∷ cells_from (refers_at spans c.self.inside.row) (c.index.result + 1) CELLS) c.index.ensures.index

pub returns-clause-goes : goal.returns-clause-goes
returns-clause-goes c =
    walk_goes _ _
    (Some c.at-cell.result.cell)
    (returns-clause-steps c)
