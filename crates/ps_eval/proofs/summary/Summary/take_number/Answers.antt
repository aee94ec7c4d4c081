use Rattle.std.proofs.Common.{◌+◌, ◌+ℤ◌, ap, sym, ◌∙◌, rules, arith, FitsSigned, w64}
use Rattle.std.specs.Int.{int_max, int_min}
use Rattle.std.proofs.lemmas.Int.{ints, to_z-of_z}
use Rattle.ps_eval.proofs.SummaryLemmas.{counted_more, summed_more, lowest_more, highest_more, ranged_more}
use Rattle.ps_eval.proofs.SummaryLemmas.{first_fault-number}
use Rattle.ps_eval.proofs.summary.Summary.take_number.Goals as goal

pub returns-clause-items : goal.returns-clause-items
returns-clause-items c = λ items s.
    let n = c.args.number in
    let fits : FitsSigned w64 c.args.number = search rules in
    let least_fits : FitsSigned w64 c.args.self.now.least = search rules in
    let greatest_fits : FitsSigned w64 c.args.self.now.greatest = search rules in
    let low : FitsSigned w64 c.min-self.result = search rules in
    let high : FitsSigned w64 c.max-self.result = search rules in
    let least_is = simp to_z-of_z at c.min-self.ensures in
    let greatest_is = simp to_z-of_z at c.max-self.ensures in
    record {
      counted = ap (λ k. k + 1) s.counted ∙ sym (counted_more items n);
      summed = omega (arith, ints) ∙ ap (λ z. z +ℤ n) s.summed ∙ sym (summed_more items n);
      lowest = to_z-of_z w64 c.min-self.result low ∙ least_is.value
          ∙ (λ i. int_min (s.lowest i) n) ∙ sym (lowest_more items n);
      highest = to_z-of_z w64 c.max-self.result high ∙ greatest_is.value
          ∙ (λ i. int_max (s.highest i) n) ∙ sym (highest_more items n);
      first = s.first ∙ sym (first_fault-number items n);
      ranged = ranged_more items n fits s.ranged;
    }
