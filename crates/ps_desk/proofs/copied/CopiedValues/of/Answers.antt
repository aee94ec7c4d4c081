use Rattle.std.proofs.Common.{◌≡◌, ap, sym, ◌∙◌, map}
use Rattle.std.proofs.lemmas.Iterator.Consumers.{YieldsList-from_first, YieldsList-end}
use Rattle.std.proofs.lemmas.List.{map-id}
use Rattle.ps_grid.specs.Rectangle.{cells_of}
use Rattle.ps_value.specs.declared.value.Value.TheVariants.{Empty}
use Rattle.ps_desk.proofs.CopyLemmas.{get-copied}
use Rattle.ps_desk.proofs.copied.CopiedValues.of.Goals as goal

pub returns-clause-same : goal.returns-clause-same
returns-clause-same g c cell inside =
    let a = c.args.rect in
    let v = g.G.Look.value_at c.args.look.now in
    let road = YieldsList-from_first (λ x. x) (λ rest. rest) (cells_of a)
    (c.into_iter-cell-iterator.ensures.into_iter_gives ∙ c.cells-cell-items.ensures.cells) in
    let end = YieldsList-end road c.loop-cell.yielded _ c.loop-cell.yielded_by _ _ c.in-None.is c.next.ensures.steps in
    let all : c.loop-cell.yielded ≡ cells_of a = sym (map-id c.loop-cell.yielded) ∙ end.0 in
    get-copied v c.loop-cell.values.items a Empty cell (c.loop-cell.invariant ∙ ap (map v) all) inside
