use Rattle.std.proofs.Common.{ap, ◌∙◌, map}
use Rattle.ps_grid.specs.declared.size.TheConstants.{CELLS}
use Rattle.ps_shown.specs.Shown.{shown_at}
use Rattle.ps_face.specs.CellChanges.{entries_of}
use Rattle.ps_face.specs.Values.{in_order, valued}
use Rattle.ps_face.specs.Seen.{Copy}
use Rattle.ps_face.proofs.Orders.{listed-overlaid}
use Rattle.ps_face.proofs.face.Face.apply.Goals as goal

pub returns : goal.returns
returns c =
    let x = c.self.inside in
    let o = c.operation.inside in
    let values = ap in_order c.in_ok-put_copies.ensures.shown
    ∙ listed-overlaid (shown_at x.shown) CELLS (map valued (entries_of o.changes)) in
    let now : Copy = record {
      book = c.again.result.book;
      list = c.again.result.list;
      version = o.version;
      values = in_order (shown_at c.put_copies.new.shown);
    } in
    rw (← c.self.view_is, ← c.operation.view_is)
    (λ i. record now { book = (c.again.ensures i).book; list = (c.again.ensures i).list; values = values i })
