use Rattle.std.proofs.Common.{◌-◌, ◌∙◌, ap, arith, get_or, length, sym}
use Rattle.std.proofs.lemmas.List.{get_or_read}
use Rattle.ps_index.proofs.CountsWritten.{count_after, count_written}
use Rattle.ps_index.proofs.counts.RowCounts.kept_at.Goals as goal

pub returns-then-row-len-clause-from : goal.returns-then-row-len-clause-from
returns-then-row-len-clause-from c =
    get_or_read c.self.inside.ends.items (c.args.row - 1) c.index.result.now (omega arith) c.index.ensures 0
    ∙ sym (count_written c.self.inside.ends.items (length c.self.inside.ends.items - 1) (c.args.row - 1) (omega arith)
    (omega arith))
    ∙ ap (λ xs. get_or xs (c.args.row - 1) 0) c.self.view_is

pub returns-then-row-len-clause-to : goal.returns-then-row-len-clause-to
returns-then-row-len-clause-to c =
    get_or_read c.self.inside.ends.items c.args.row c.index-then-row-len.result.now (omega arith)
    c.index-then-row-len.ensures 0
    ∙ sym (count_written c.self.inside.ends.items (length c.self.inside.ends.items - 1) c.args.row (omega arith)
    (omega arith))
    ∙ ap (λ xs. get_or xs c.args.row 0) c.self.view_is

pub returns-else-row-len-clause-from : goal.returns-else-row-len-clause-from
returns-else-row-len-clause-from c =
    get_or_read c.self.inside.ends.items (c.len-else-row-len.result - 1) c.index-all.result.now (omega arith)
    c.index-all.ensures 0
    ∙ ap (λ k. get_or c.self.inside.ends.items k 0) (omega arith)
    ∙ sym (count_after c.self.inside.ends.items (length c.self.inside.ends.items - 1) (c.args.row - 1) (omega arith)
    (omega arith))
    ∙ ap (λ xs. get_or xs (c.args.row - 1) 0) c.self.view_is

pub returns-else-row-len-clause-to : goal.returns-else-row-len-clause-to
returns-else-row-len-clause-to c =
    get_or_read c.self.inside.ends.items (c.len-else-row-len.result - 1) c.index-all.result.now (omega arith)
    c.index-all.ensures 0
    ∙ ap (λ k. get_or c.self.inside.ends.items k 0) (omega arith)
    ∙ sym (count_after c.self.inside.ends.items (length c.self.inside.ends.items - 1) c.args.row (omega arith)
    (omega arith))
    ∙ ap (λ xs. get_or xs c.args.row 0) c.self.view_is
