use Rattle.std.proofs.Common.{◌≡◌, ◌+◌, ◌++◌, ◌∷◌, [], take, sym, ap, ◌∙◌, subst}
use Rattle.std.proofs.lemmas.List.{take_more}
use Rattle.ps_value.specs.declared.value.Value.TheVariants.{Err}
use Rattle.ps_value.specs.declared.value.Fault.{Fault}
use Rattle.ps_eval.specs.Items.{Assignment}
use Rattle.ps_shown.specs.Shown.{shown_at}
use Rattle.ps_cells.specs.Inside.Steps.{ClosesAll}
use Rattle.ps_cells.proofs.PutValues.{with_value-here, with_value-there}
use Rattle.ps_cells.proofs.WalkSteps.{closes_more}
use Rattle.ps_cells.proofs.walk.close_all.Goals as goal

pub loop-cell-preserved : goal.loop-cell-preserved
loop-cell-preserved c =
    let cells = c.args.cells.now in
    let i = c.loop-cell.cell-index in
    let x = c.cell-item.result in
    let longer : take (i + 1) cells ≡ take i cells ++ x ∷ [] =
    take_more cells i x c.loop-cell-test.true ∙ ap (λ q. take i cells ++ q ∷ []) (sym c.cell-item.is) in
    record {
      closed = subst (λ xs. ClosesAll xs (shown_at c.args.shown.now.kept) (shown_at c.put.new.self.kept)) (sym longer)
          (closes_more (take i cells) x (shown_at c.args.shown.now.kept) (shown_at c.loop-cell.shown.kept)
          (shown_at c.put.new.self.kept)
          c.loop-cell.invariant.closed
          (ap (λ (w : Assignment). w x) c.put.ensures.shown ∙ with_value-here (shown_at c.loop-cell.shown.kept) x
          (Err Fault.Cycle))
          (λ q ne. ap (λ (w : Assignment). w q) c.put.ensures.shown
          ∙ with_value-there (shown_at c.loop-cell.shown.kept) x q (Err Fault.Cycle) ne));
      before = c.put.ensures.before ∙ c.loop-cell.invariant.before;
    }
