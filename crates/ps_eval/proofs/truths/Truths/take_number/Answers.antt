use Rattle.std.proofs.Common.{sym, ◌∙◌}
use Rattle.std.specs.Prelude.{not, ◌&&◌, ◌||◌}
use Rattle.ps_eval.specs.Number.{is_zero}
use Rattle.std.proofs.lemmas.Int.{to_z-of_z}
use Rattle.ps_eval.proofs.SummaryLemmas.{every_more, some_more, first_fault-number}
use Rattle.ps_eval.proofs.truths.Truths.take_number.Goals as goal

pub returns : goal.returns
returns c = λ values s.
    let n = c.args.number in
    record {
      every = (simp (to_z-of_z, c.ranges.number) at c.every-self.ensures) ∙ (λ i. s.every i && not (is_zero n))
          ∙ sym (every_more values n);
      some = (simp (to_z-of_z, c.ranges.number) at c.some-self.ensures) ∙ (λ i. s.some i || not (is_zero n))
          ∙ sym (some_more values n);
      first = s.first ∙ sym (first_fault-number values n);
    }
