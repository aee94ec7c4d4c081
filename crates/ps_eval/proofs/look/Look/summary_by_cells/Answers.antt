use Rattle.std.proofs.Common.{◌≡◌, ap, sym, ◌∙◌, subst, arith}
use Rattle.std.proofs.lemmas.Iterator.Consumers.{YieldsList-from_first, YieldsList-turn, YieldsList-end}
use Rattle.std.proofs.lemmas.List.{map-id}
use Rattle.ps_grid.specs.Rectangle.{cells_of}
use Rattle.ps_grid.proofs.AreaLemmas.{area-le, length-cells_of}
use Rattle.ps_eval.specs.Summarized.{Summarizes}
use Rattle.ps_eval.proofs.RangeItems.{items_at, range_items_are}
use Rattle.ps_eval.proofs.look.Look.summary_by_cells.Goals as goal

pub take_cell-requires : goal.take_cell-requires
take_cell-requires g c =
    let a = c.args.rect in
    let road = YieldsList-from_first (λ x. x) (λ rest. rest) (cells_of a)
    (c.into_iter-cell-iterator.ensures.into_iter_gives ∙ c.cells-cell-items.ensures.cells) in
    let turn = YieldsList-turn road c.loop-cell.yielded _ c.loop-cell.yielded_by _ _ c.in-Some.cell c.in-Some.is
    c.next.ensures.steps in
    omega (arith, c.loop-cell.invariant.1, turn.0, length-cells_of a, area-le a c.cells-cell-items.ensures.in_grid)

pub returns : goal.returns
returns g c =
    let a = c.args.rect in
    let v = g.Self.Look.value_at c.args.self.now in
    let road = YieldsList-from_first (λ x. x) (λ rest. rest) (cells_of a)
    (c.into_iter-cell-iterator.ensures.into_iter_gives ∙ c.cells-cell-items.ensures.cells) in
    let end = YieldsList-end road c.loop-cell.yielded _ c.loop-cell.yielded_by _ _ c.in-None.is c.next.ensures.steps in
    let all : c.loop-cell.yielded ≡ cells_of a = sym (map-id c.loop-cell.yielded) ∙ end.0 in
    let whole = ap (items_at v) all ∙ sym (range_items_are v a c.cells-cell-items.ensures.in_grid) in
    subst (λ ns. Summarizes ns c.loop-cell.summary) whole c.loop-cell.invariant.0
