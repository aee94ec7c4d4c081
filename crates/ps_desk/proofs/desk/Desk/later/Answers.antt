use Rattle.std.proofs.Common.{◌≡◌, ◌-◌, ◌^◌, List, ap, arith, drop, sym, subst, ◌∙◌}
use Rattle.std.proofs.lemmas.List.{length-drop, take_all}
use Rattle.std.specs.Prelude.{IfOk}
use Rattle.ps_delta.specs.Deltas.{Entries}
use Rattle.ps_face.specs.Legal.{history_of}
use Rattle.ps_face.specs.Published.{Published}
use Rattle.ps_face.specs.declared.patch.Note.{Note}
use Rattle.ps_desk.proofs.desk.Desk.later.Goals as goal

pub returns-clause-deltas : goal.returns-clause-deltas
returns-clause-deltas g c =
    let h : List Entries = g.L.Named.opening in
    let from = c.args.from in
    let is = c.catch_up.ensures.all ∙ c.show-shown.ensures.shown in
    subst (λ (z : List Entries). IfOk c.deltas_after-deltas.result (λ ds. ds.items ≡ z))
    (take_all (2 ^ 64 - 1) (drop from (history_of h c.deref.result.now.list))
    (omega (arith, length-drop from (history_of h c.deref.result.now.list), c.deltas_after-deltas.ensures.bound))
    ∙ ap (λ (p : Published). drop from (history_of h p.list)) c.deref.ensures
    ∙ ap (λ (l : List Note). drop from (history_of h l)) (sym is))
    c.deltas_after-deltas.ensures.deltas
