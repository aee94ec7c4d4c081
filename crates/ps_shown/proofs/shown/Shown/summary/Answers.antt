use Rattle.std.proofs.Common.{sym, ◌∙◌, subst, arith}
use Rattle.ps_eval.specs.Summarized.{Summarizes}
use Rattle.ps_shown.specs.Shown.{shown_at}
use Rattle.ps_shown.specs.Sums.{items_by_columns}
use Rattle.ps_shown.proofs.Columns.{few_in_columns, one_column, turned_clean, turned_led, turned_summary}
use Rattle.ps_shown.proofs.shown.Shown.summary.Goals as goal

pub returns-then-width-eq1 : goal.returns-then-width-eq1
returns-then-width-eq1 c =
    let one = sym c.width.ensures.width ∙ c.if-width-eq1.true in
    subst (λ ns. Summarizes ns c.column.result)
    (one_column (shown_at c.args.self.now) c.args.rect c.area.ensures.in_grid one) c.column.ensures

pub returns-then-not-has_fault : goal.returns-then-not-has_fault
returns-then-not-has_fault c =
    let v = shown_at c.args.self.now in
    let a = c.args.rect in
    let known = c.columns-summary.ensures.summary in
    let none = sym (c.has_fault.ensures (items_by_columns v a a.width) known) ∙ c.if-not-has_fault.true in
    turned_summary v a c.columns-summary.result c.columns-summary.ensures.in_grid known none

pub led_by-requires : goal.led_by-requires
led_by-requires c =
    let v = shown_at c.args.self.now in
    let a = c.args.rect in
    let few = few_in_columns v a c.columns-summary.ensures.in_grid in
    omega (arith, few, c.columns-summary.ensures.summary.counted)

pub returns-in-Some : goal.returns-in-Some
returns-in-Some c =
    let v = shown_at c.args.self.now in
    let a = c.args.rect in
    turned_led v a c.led_by.result c.in-Some.fault c.columns-summary.ensures.in_grid
    (c.led_by.ensures (items_by_columns v a a.width) c.columns-summary.ensures.summary)
    c.in-Some.ensures

pub returns-in-None : goal.returns-in-None
returns-in-None c =
    let v = shown_at c.args.self.now in
    let a = c.args.rect in
    let g = c.columns-summary.ensures.in_grid in
    turned_summary v a c.columns-summary.result g c.columns-summary.ensures.summary
    (turned_clean v a g c.in-None.ensures)
