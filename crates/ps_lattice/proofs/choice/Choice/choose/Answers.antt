use Rattle.std.proofs.Common.{◌+◌, sym, ap, ◌∙◌, false}
use Rattle.ps_lattice.specs.Choice.{pair_of, with_pair, joined_choices}
use Rattle.ps_lattice.specs.Choice.{pair_cmp}
use Rattle.ps_lattice.specs.ChoiceLaws.{pairs_total, pairs_apart}
use Rattle.std.specs.FinMap as map
use Rattle.ps_lattice.proofs.Views.{seen_one}
use Rattle.ps_lattice.proofs.ChoiceLemmas.{joined-with_pair, chosen_is_fresh}
use Rattle.ps_lattice.proofs.choice.Choice.choose.Goals as goal

pub returns-clause-ok : goal.returns-clause-ok
returns-clause-ok c =
    rw c.in_ok-pairs.ensures.ok
    (seen_one pair_cmp pairs_total pairs_apart (pair_of c.args.option c.args.replica
    (c.last_sequence-last.result + 1)) false
    ∙ ap (λ n. with_pair map.empty c.args.option c.args.replica (n + 1)) c.last_sequence-last.ensures.value)

pub returns-clause-adds : goal.returns-clause-adds
returns-clause-adds c =
    ap (joined_choices c.args.self.now) (returns-clause-ok c)
    ∙ joined-with_pair c.args.self.now c.args.option c.args.replica

pub returns-clause-fresh : goal.returns-clause-fresh
returns-clause-fresh c same =
    chosen_is_fresh c.args.self.now c.args.option c.args.replica
    (ap (joined_choices c.args.self.now) (sym (returns-clause-ok c)) ∙ same)
