use Rattle.std.proofs.Common.{Some, ap, sym, ◌∙◌, length}
use Rattle.std.specs.List.{list_all}
use Rattle.std.specs.Option.{option_or}
use Rattle.ps_eval.specs.Summarized.{lowest_of, highest_of}
use Rattle.ps_eval.specs.Items.{total}
use Rattle.ps_eval.specs.Number.{in_range}
use Rattle.ps_eval.proofs.SummaryLemmas.{numbers_in-fault, first_fault-fault}
use Rattle.ps_eval.proofs.summary.Summary.take_fault.Goals as goal

pub returns-clause-items : goal.returns-clause-items
returns-clause-items c = λ items s.
    let same = sym (numbers_in-fault items c.args.fault) in
    record {
      counted = s.counted ∙ ap length same;
      summed = s.summed ∙ ap total same;
      lowest = s.lowest ∙ ap lowest_of same;
      highest = s.highest ∙ ap highest_of same;
      first = c.or-self.ensures ∙ ap (λ known. option_or known (Some c.args.fault)) s.first
          ∙ sym (first_fault-fault items c.args.fault);
      ranged = ap (list_all in_range) (numbers_in-fault items c.args.fault) ∙ s.ranged;
    }
