use Rattle.std.proofs.Common.{◌∙◌, ap, arith, nat_lt}
use Rattle.std.specs.List.{count_by}
use Rattle.ps_keep.proofs.NumberLemmas.{place_in_file}
use Rattle.ps_keep.proofs.digested.LineNumbers.in_file.Goals as goal

pub returns : goal.returns
returns c = λ lines are some below.
    place_in_file lines c.args.self.now c.args.number c.count_below-passed.result c.saturating_add.result are some below
    (c.count_below-passed.ensures ∙ ap (count_by (λ n. nat_lt n c.args.number)) (c.as_slice.ensures.value
    ∙ c.self.view_is))
    (λ fits. let e = c.saturating_add.ensures in omega arith)
