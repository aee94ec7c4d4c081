use Rattle.std.proofs.Common.{[], ◌∷◌, Ok, ap, sym, ◌∙◌, subst, rules, FitsSigned, w64}
use Rattle.std.proofs.lemmas.Int.{to_z-of_z}
use Rattle.ps_eval.specs.Summarized.{Summarizes}
use Rattle.ps_eval.proofs.summary.Summary.of_item.Goals as goal

pub returns-in-Ok-clause-items : goal.returns-in-Ok-clause-items
returns-in-Ok-clause-items c =
    let fits : FitsSigned w64 c.in-Ok.number = search rules in
    subst (λ x. Summarizes (x ∷ []) c.take_number.new.self)
    (ap Ok (to_z-of_z w64 c.in-Ok.number fits) ∙ sym c.in-Ok.is)
    (c.take_number.ensures.items [] c.new-summary.ensures)

pub returns-in-Err-clause-items : goal.returns-in-Err-clause-items
returns-in-Err-clause-items c =
    subst (λ x. Summarizes (x ∷ []) c.take_fault.new.self) (sym c.in-Err.is)
    (c.take_fault.ensures.items [] c.new-summary.ensures)
