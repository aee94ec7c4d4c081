use Rattle.std.proofs.Common.{ap, sym, ◌∙◌, get_or}
use Rattle.ps_grid.specs.declared.size.TheConstants.{CELLS}
use Rattle.ps_value.specs.declared.value.Value.TheVariants.{Empty}
use Rattle.ps_shown.specs.Shown.{shown_at}
use Rattle.ps_face.specs.Seen.{Copy}
use Rattle.ps_face.proofs.Orders.{get-listed}
use Rattle.ps_face.proofs.face.Face.at.Goals as goal

pub returns : goal.returns
returns c =
    let within = rw c.index.ensures.index at c.index.ensures.in_grid in record {
      value = c.at.ensures ∙ sym (get-listed (shown_at c.self.inside.shown) CELLS c.args.cell Empty within)
          ∙ ap (λ (x : Copy). get_or x.values c.args.cell Empty) c.self.view_is;
    }
