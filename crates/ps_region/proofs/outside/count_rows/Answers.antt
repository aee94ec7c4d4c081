use Rattle.std.proofs.Common.{◌≡◌, ◌+◌, ◌-◌, ◌/◌, ◌%◌, ◌&&◌, ℕ, Bool, true, false, arith, sym, ap, ◌∙◌, not}
use Rattle.ps_grid.specs.declared.size.TheConstants.{CELLS, COLUMNS}
use Rattle.ps_grid.specs.Rectangle.{cell_within}
use Rattle.ps_region.specs.CellSets.{has_cell}
use Rattle.ps_region.specs.declared.cell_set.TheConstants.{HIGH}
use Rattle.ps_region.specs.Inside.Counts.{as_one, count_below}
use Rattle.ps_region.specs.Inside.Outside.{in_rows, is_covered, is_new}
use Rattle.ps_region.specs.Inside.Tallies.{block_of}
use Rattle.ps_region.proofs.CountLemmas.{count_below-le}
use Rattle.ps_region.proofs.OutsideCounts.{no_rows, all_rows, next_row, skip_rows, clear_new}
use Rattle.ps_region.proofs.outside.count_rows.Goals as goal
use Rattle.ps_region.proofs.outside.count_rows.Goals.{then-is_new_cell, else-is_new_cell}

pub loop-down-init : goal.loop-down-init
loop-down-init c =
    sym (no_rows c.args.rect c.args.across c.area.ensures.in_grid c.requires.across
    (is_new c.args.set.now c.args.marks.now c.args.before.now))

pub loop-down-preserved-then-is_clear : goal.loop-down-preserved-then-is_clear
loop-down-preserved-then-is_clear c =
    let r = c.args.rect in
    let down = c.loop-down.down in
    let d = c.at-c.result in
    let at : d ≡ cell_within r c.args.across down = c.at-c.ensures in
    let n = HIGH - (c.row.result - 1) % HIGH in
    let skip : n ≡ HIGH - (cell_within r c.args.across down / COLUMNS) % HIGH =
    omega (arith, at, c.row.ensures.row) in
    c.loop-down.invariant
    ∙ sym (skip_rows r c.args.across c.area.ensures.in_grid c.requires.across
    (is_new c.args.set.now c.args.marks.now c.args.before.now) down n skip
    (λ x same. clear_new c.args.set.now c.args.marks.now c.args.before.now x
    (c.is_clear.ensures c.if-is_clear.true x (same ∙ ap block_of (sym at)))))

pub overflow_add-count : goal.overflow_add-count
overflow_add-count c =
    let le = count_below-le
    (λ d. in_rows c.args.rect c.args.across c.loop-down.down d
    && is_new c.args.set.now c.args.marks.now c.args.before.now d) CELLS in
    omega (arith, le, c.loop-down.invariant)

pub loop-down-preserved : goal.loop-down-preserved
loop-down-preserved c =
    let Q : ℕ → Bool = is_new c.args.set.now c.args.marks.now c.args.before.now in
    let r = c.args.rect in
    let down = c.loop-down.down in
    let d = c.at-c.result in
    let at : d ≡ cell_within r c.args.across down = c.at-c.ensures in
    let next = next_row r c.args.across c.area.ensures.in_grid c.requires.across Q down
    (let t = c.loop-down-test.true in let h = c.height-height.ensures.height in omega (arith, t, h)) in
    let so_far = c.loop-down.invariant in
    elim c.if-is_new_cell.branch [
      | then-is_new_cell w ↦
          let one : as_one (Q (cell_within r c.args.across down)) ≡ 1 =
          ap (λ x. as_one (Q x)) (sym at) ∙ ap as_one (sym w.if-is_new_cell.ensures) in
          w.count-is ∙ omega (arith, next, so_far, one)
      | else-is_new_cell w ↦
          let none : as_one (Q (cell_within r c.args.across down)) ≡ 0 =
          ap (λ x. as_one (Q x)) (sym at) ∙ ap as_one (sym w.if-is_new_cell.ensures) in
          w.count-is ∙ omega (arith, next, so_far, none)
    ]

pub returns : goal.returns
returns c =
    c.loop-down.invariant
    ∙ all_rows c.args.rect c.args.across c.area.ensures.in_grid c.requires.across
    (is_new c.args.set.now c.args.marks.now c.args.before.now) c.loop-down.down
    (let t = c.loop-down-test.false in let h = c.height-height.ensures.height in omega (arith, t, h))
