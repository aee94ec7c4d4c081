use Rattle.std.proofs.Common.{Some, ap, sym, ◌∙◌}
use Rattle.std.specs.Prelude.{not}
use Rattle.std.specs.List.{list_all, list_any}
use Rattle.std.specs.Option.{option_or}
use Rattle.ps_eval.specs.Number.{is_zero}
use Rattle.ps_eval.proofs.SummaryLemmas.{numbers_in-fault, first_fault-fault}
use Rattle.ps_eval.proofs.truths.Truths.take_fault.Goals as goal

pub returns : goal.returns
returns c = λ values s.
    let same = sym (numbers_in-fault values c.args.fault) in
    record {
      every = s.every ∙ ap (list_all (λ n. not (is_zero n))) same;
      some = s.some ∙ ap (list_any (λ n. not (is_zero n))) same;
      first = c.or-self.ensures ∙ ap (λ known. option_or known (Some c.args.fault)) s.first
          ∙ sym (first_fault-fault values c.args.fault);
    }
