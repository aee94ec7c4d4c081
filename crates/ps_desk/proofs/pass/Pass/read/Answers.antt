use Rattle.std.proofs.Common.{◌<◌, List, ap, subst, sym}
use Rattle.ps_grid.specs.declared.size.TheConstants.{CELLS}
use Rattle.ps_face.specs.declared.patch.Note.{Note}
use Rattle.ps_face.specs.declared.rule.View.{View}
use Rattle.ps_face.specs.Legal.{history_of}
use Rattle.ps_desk.specs.Passes.{IsShown}
use Rattle.ps_desk.proofs.Read.{shown_one}
use Rattle.ps_desk.proofs.pass.Pass.read.Goals as goal

pub returns-clause-value : goal.returns-clause-value
returns-clause-value g c =
    let h = g.L.Named.opening in
    subst (λ (list : List Note). IsShown (history_of h list) c.args.cell c.at.result)
    (sym (ap (λ (v : View). v.list) c.leave.ensures))
    (shown_one (history_of h c.in_ok-seen.seen.list) c.in_ok-seen.seen.values c.args.cell c.at.result
    c.in_ok-seen.ensures.whole (subst (λ k. k < CELLS) c.index.ensures.index c.index.ensures.in_grid)
    c.at.ensures.value)
