use Rattle.std.proofs.Common.{◌≡◌, ℕ, List, ap, sym, subst, ◌∙◌}
use Rattle.std.specs.Prelude.{IfOk}
use Rattle.ps_csv.specs.Exports.{exported_entries, held_in}
use Rattle.ps_face.specs.Legal.{history_of}
use Rattle.ps_face.specs.Published.{Published}
use Rattle.ps_face.specs.declared.patch.Note.{Note}
use Rattle.ps_desk.specs.Copies.{holds_in}
use Rattle.ps_desk.specs.Passes.{PassView}
use Rattle.ps_desk.proofs.TableLemmas.{entries_same}
use Rattle.ps_desk.proofs.desk.Desk.entries.Goals as goal

pub returns-clause-text : goal.returns-clause-text
returns-clause-text g c =
    let h = g.L.Named.opening in
    let a = c.args.rect in
    let locked : c.deref.result.now.list ≡ c.look.new.pass.list =
    ap (λ (p : Published). p.list) c.deref.ensures ∙ sym (ap (λ (p : PassView). p.list) c.look.ensures.pass) in
    subst (λ (z : List ℕ). IfOk c.entries_text.result (λ t. t.items ≡ z))
    (entries_same (holds_in c.in_ok-copied.field-0) (held_in (history_of h c.deref.result.now.list)) a
    c.area.ensures.in_grid c.in_ok-copied.ensures.same
    ∙ ap (λ (l : List Note). exported_entries (held_in (history_of h l)) a) locked)
    c.entries_text.ensures.text
