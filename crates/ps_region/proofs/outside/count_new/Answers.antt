use Rattle.std.proofs.Common.{◌≡◌, ◌+◌, ◌&&◌, ℕ, arith, sym, ◌∙◌}
use Rattle.ps_grid.specs.declared.size.TheConstants.{CELLS}
use Rattle.ps_region.specs.Inside.Counts.{count_below}
use Rattle.ps_region.specs.Inside.Outside.{in_columns, in_rows, is_new}
use Rattle.ps_region.proofs.CountLemmas.{count_below-le}
use Rattle.ps_region.proofs.OutsideCounts.{no_columns, next_column, all_columns}
use Rattle.ps_region.proofs.outside.count_new.Goals as goal

pub loop-across-init : goal.loop-across-init
loop-across-init c = sym (no_columns c.args.rect (is_new c.args.set.now c.args.marks.now c.args.before.now))

pub overflow_add-count : goal.overflow_add-count
overflow_add-count c =
    let so_far = count_below-le
    (λ d. in_columns c.args.rect c.loop-across.across d
    && is_new c.args.set.now c.args.marks.now c.args.before.now d) CELLS in
    let more = count_below-le
    (λ d. in_rows c.args.rect c.loop-across.across c.args.rect.height d
    && is_new c.args.set.now c.args.marks.now c.args.before.now d) CELLS in
    omega (arith, so_far, more, c.loop-across.invariant, c.count_rows-count.ensures)

pub loop-across-preserved : goal.loop-across-preserved
loop-across-preserved c =
    (λ i. c.loop-across.invariant i + c.count_rows-count.ensures i)
    ∙ sym (next_column c.args.rect (is_new c.args.set.now c.args.marks.now c.args.before.now) c.loop-across.across)

pub returns : goal.returns
returns c =
    c.loop-across.invariant
    ∙ all_columns c.args.rect (is_new c.args.set.now c.args.marks.now c.args.before.now) c.loop-across.across
    (let t = c.loop-across-test.false in let n = c.loop-across.auto.across-end in
    let w = c.width-across-end.ensures.width in omega (arith, t, n, w))
