use Rattle.std.proofs.Common.{ap, ◌∙◌, map}
use Rattle.ps_grid.specs.declared.size.TheConstants.{CELLS}
use Rattle.ps_shown.specs.Shown.{shown_at}
use Rattle.ps_face.specs.CellChanges.{entries_of}
use Rattle.ps_face.specs.Values.{in_order, valued}
use Rattle.ps_face.specs.Seen.{Copy}
use Rattle.ps_face.proofs.Orders.{listed-overlaid}
use Rattle.ps_face.proofs.face.Face.take_in.Goals as goal

pub returns : goal.returns
returns c =
    let x = c.self.inside in
    let o = c.operation.inside in
    let values = ap in_order c.put.ensures
    ∙ listed-overlaid (shown_at x.shown) CELLS (map valued (entries_of o.changes)) in
    let now : Copy = record {
      book = o.front.book;
      list = o.front.list;
      version = o.version;
      values = in_order (shown_at c.put.new.shown);
    } in
    rw (← c.self.view_is, ← c.operation.view_is) (λ i. record now { values = values i })
