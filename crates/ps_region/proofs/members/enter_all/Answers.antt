use Rattle.std.proofs.Common.{sym, ap, ◌∙◌, get_or, ℕ}
use Rattle.std.proofs.lemmas.List.{get_or_read}
use Rattle.ps_region.specs.Inside.Cells.{with_cell}
use Rattle.ps_region.proofs.CellListLemmas.{with_all_more}
use Rattle.ps_region.proofs.members.enter_all.Goals as goal

pub loop-c-preserved : goal.loop-c-preserved
loop-c-preserved c = record {
  members =
      let more = with_all_more c.args.members.now.items c.args.cells.now c.loop-c.c-index 0 c.loop-c-test.true in
      let at = get_or_read c.args.cells.now c.loop-c.c-index c.c-item.result c.loop-c-test.true c.c-item.is 0 in
      (c.enter.ensures.members
      ∙ (ap (λ x. with_cell c.loop-c.members.items x) at
      ∙ ap (λ xs. with_cell xs (get_or c.args.cells.now c.loop-c.c-index 0)) c.loop-c.invariant.members))
      ∙ sym more;
  marked = c.enter.ensures.marked;
  room = c.enter.ensures.room;
  counts = λ (q : ℕ). c.enter.ensures.counts q ∙ c.loop-c.invariant.counts q;
}
