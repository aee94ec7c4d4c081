use Rattle.std.proofs.Common.{◌≡◌, ◌+◌, ◌∙◌, ap, subst, sym, List}
use Rattle.ps_face.specs.declared.patch.Note.{Note}
use Rattle.ps_face.specs.declared.rule.View.{View}
use Rattle.ps_face.specs.Legal.{IsLegal, Shows, history_of}
use Rattle.ps_desk.specs.Copies.{shows_in}
use Rattle.ps_desk.specs.Passes.{PassView}
use Rattle.ps_desk.proofs.TableLemmas.{tabled}
use Rattle.ps_desk.proofs.pass.Pass.table.Goals as goal

pub returns-clause-shown : goal.returns-clause-shown
returns-clause-shown g c =
    let h = g.L.Named.opening in
    let seen = c.in-Some.seen in
    let list : c.leave.result.list ≡ seen.list = ap (λ (v : View). v.list) c.leave.ensures in
    tabled h c.args.self.now _ c.args.rect seen.values (shows_in c.in_ok-copied.field-0) c.exported_text.result
    c.requires.in_grid (subst (IsLegal h) (sym list) c.in-Some.ensures.legal)
    (subst (λ (l : List Note). Shows (history_of h l) seen.values) (sym list) c.in-Some.ensures.whole)
    c.in_ok-copied.ensures.same c.exported_text.ensures.text c.exported_text.ensures.memory
    (ap (λ (p : PassView). p.appended) c.self.view_is)
    (ap (λ (v : View). v.enters) c.leave.ensures
    ∙ (c.in-Some.ensures.step ∙ ap (λ n. n + 1) (ap (λ (p : PassView). p.enters) c.self.view_is)))
