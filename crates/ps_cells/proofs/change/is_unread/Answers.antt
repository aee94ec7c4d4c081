use Rattle.std.proofs.Common.{◌∷◌, [], ◌∙◌, ap, sym}
use Rattle.ps_region.proofs.ListedLemmas.{listed_is}
use Rattle.ps_cells.specs.Inside.Alone.{is_empty}
use Rattle.ps_cells.proofs.AloneCells.{empty_by_first}
use Rattle.ps_cells.proofs.change.is_unread.Goals as goal

pub returns-in-Nobody : goal.returns-in-Nobody
returns-in-Nobody c =
    ap is_empty (listed_is c.args.index.now c.args.cell [] (sym (c.readers.ensures.nobody c.in-Nobody.is)))

pub returns-in-One : goal.returns-in-One
returns-in-One c =
    ap is_empty (listed_is c.args.index.now c.args.cell (_ ∷ []) (sym (c.readers.ensures.one _ c.in-One.is)))

pub returns-in-Row : goal.returns-in-Row
returns-in-Row c =
    empty_by_first c.in-Row.walk _ c.next.result c.is_none.result c.next.ensures.steps c.is_none.ensures
    ∙ ap is_empty (listed_is c.args.index.now c.args.cell c.in-Row.walk
    (c.readers.ensures.row c.in-Row.walk c.in-Row.is))

pub returns-in-TwoRows : goal.returns-in-TwoRows
returns-in-TwoRows c =
    empty_by_first c.in-TwoRows.walk _ c.next-in-TwoRows.result c.is_none-in-TwoRows.result
    c.next-in-TwoRows.ensures.steps c.is_none-in-TwoRows.ensures
    ∙ ap is_empty (listed_is c.args.index.now c.args.cell c.in-TwoRows.walk
    (c.readers.ensures.two_rows c.in-TwoRows.walk c.in-TwoRows.is))

pub returns-in-Several : goal.returns-in-Several
returns-in-Several c =
    empty_by_first c.dependents.result _ c.next-in-Several.result c.is_none-in-Several.result
    c.next-in-Several.ensures.steps c.is_none-in-Several.ensures
    ∙ ap is_empty (listed_is c.args.index.now c.args.cell c.dependents.result c.dependents.ensures.list)
