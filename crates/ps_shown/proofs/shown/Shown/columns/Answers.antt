use Rattle.std.proofs.Common.{◌≡◌, subst, arith}
use Rattle.ps_eval.specs.Summarized.{Summarizes}
use Rattle.ps_shown.specs.Shown.{shown_at}
use Rattle.ps_shown.specs.Sums.{column_items, items_by_columns}
use Rattle.ps_shown.proofs.Columns.{few_in_column, one_more_column}
use Rattle.ps_shown.proofs.shown.Shown.columns.Goals as goal

pub join-requires-clause-room : goal.join-requires-clause-room
join-requires-clause-room c =
    let narrow = c.width-across-end.ensures.in_grid in
    omega (arith, c.loop-across.invariant.1, c.loop-across-test.true, narrow)

pub join-requires-clause-room_of_other : goal.join-requires-clause-room_of_other
join-requires-clause-room_of_other c =
    let few = few_in_column (shown_at c.args.self.now) c.args.rect c.loop-across.across c.area.ensures.in_grid in
    omega (arith, few, c.column.ensures.counted)

pub loop-across-preserved : goal.loop-across-preserved
loop-across-preserved c =
    let a = c.args.rect in
    let v = shown_at c.args.self.now in
    let n = c.loop-across.across in
    let few = few_in_column v a n c.area.ensures.in_grid in
    let both = c.join.ensures.items (items_by_columns v a n) (column_items v a n) c.loop-across.invariant.0
    c.column.ensures in (
      subst (λ ns. Summarizes ns c.join.new.self) (one_more_column v a n) both,
      omega (arith, few, c.column.ensures.counted, c.join.ensures.count, c.loop-across.invariant.1),
    )

pub returns : goal.returns
returns c =
    let end : c.loop-across.across ≡ c.args.rect.width =
    omega (arith, c.loop-across-test.false, c.width-across-end.ensures.width, c.loop-across.auto.across-end) in
    record {
      summary =
          subst (λ n. Summarizes (items_by_columns (shown_at c.args.self.now) c.args.rect n) c.loop-across.summary)
          end c.loop-across.invariant.0;
      in_grid = c.area.ensures.in_grid;
    }
