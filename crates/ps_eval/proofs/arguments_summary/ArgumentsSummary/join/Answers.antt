use Rattle.std.proofs.Common.{◌∙◌, rules, arith, FitsSigned, w64}
use Rattle.std.proofs.lemmas.Int.{ints, to_z-of_z}
use Rattle.ps_eval.proofs.SummaryLemmas.{known-append}
use Rattle.ps_eval.proofs.arguments_summary.ArgumentsSummary.join.Goals as goal

pub returns-clause-items : goal.returns-clause-items
returns-clause-items c = λ items others s t.
    let least_fits : FitsSigned w64 c.args.self.now.least = search rules in
    let greatest_fits : FitsSigned w64 c.args.self.now.greatest = search rules in
    let least_fits_too : FitsSigned w64 c.args.argument.now.least = search rules in
    let greatest_fits_too : FitsSigned w64 c.args.argument.now.greatest = search rules in
    let low : FitsSigned w64 c.min-self.result = search rules in
    let high : FitsSigned w64 c.max-self.result = search rules in
    let least_is = simp to_z-of_z at c.min-self.ensures in
    let greatest_is = simp to_z-of_z at c.max-self.ensures in
    known-append items others s t (omega arith) (omega (arith, ints))
    (to_z-of_z w64 c.min-self.result low ∙ least_is.value)
    (to_z-of_z w64 c.max-self.result high ∙ greatest_is.value)
    c.or-self.ensures
