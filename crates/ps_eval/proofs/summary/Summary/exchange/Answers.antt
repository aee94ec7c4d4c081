use Rattle.std.proofs.Common.{◌≡◌, ◌⊎◌, inl, inr, ◌++◌, [], ◌∷◌, Ok, append-nil, append_assoc, ap, sym, ◌∙◌, subst}
use Rattle.std.proofs.Common.{rules, FitsSigned, w64}
use Rattle.std.proofs.lemmas.Int.{to_z-of_z}
use Rattle.ps_value.specs.declared.operand.Operand.{Operand}
use Rattle.ps_value.specs.declared.operand.Operand.TheVariants.{Empty, Text}
use Rattle.ps_eval.specs.Inside.Operands.{items_from}
use Rattle.ps_eval.specs.Summarized.{Summarizes}
use Rattle.ps_eval.proofs.SummaryLemmas.{known-among, none_around}
use Rattle.ps_eval.proofs.summary.Summary.exchange.Goals.{in-Empty, in-Num}
use Rattle.ps_eval.proofs.summary.Summary.exchange.Goals as goal

no_item : (operand : Operand) → (operand ≡ Empty) ⊎ (operand ≡ Text) → items_from operand ≡ []
no_item operand (inl is) = ap items_from is
no_item operand (inr is) = ap items_from is

pub returns-clause-items : goal.returns-clause-items
returns-clause-items c = λ could front back s.
    let none = none_around front (items_from c.args.old) back
    (sym (c.has_fault.ensures (front ++ items_from c.args.old ++ back) s) ∙ c.if-has_fault.false) in
    let left : Summarizes (front ++ back) c.match-old.self = elim c.match-old.branch [
      | in-Empty w ↦
          let same = ap (λ ns. front ++ ns ++ back) (no_item c.args.old w.in-Empty.is)
          ∙ ap (λ ns. ns ++ back) (append-nil front) in
          subst (Summarizes (front ++ back)) (sym w.self-is) (subst (λ ns. Summarizes ns c.args.self.now) same s)
      | in-Num w ↦
          let fits : FitsSigned w64 w.in-Num.number = search rules in
          let one = ap items_from w.in-Num.is ∙ ap (λ n. Ok n ∷ []) (sym (to_z-of_z w64 w.in-Num.number fits)) in
          let same = ap (λ ns. front ++ ns ++ back) one ∙ append_assoc front _ back in
          subst (Summarizes (front ++ back)) (sym w.self-is)
          (w.leave_out.ensures.items front back (subst (λ ns. Summarizes ns c.args.self.now) same s))
    ] in
    known-among front (items_from c.args.new) back (c.take_cell.ensures.items (front ++ back) left) none
