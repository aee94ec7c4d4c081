use Rattle.std.proofs.Common.{◌≤◌, sym, subst}
use Rattle.ps_lattice.specs.declared.limits.TheConstants.{SEQUENCES}
use Rattle.ps_lattice.specs.Choice.{is_pair, pair_cmp}
use Rattle.std.specs.FinMap as map
use Rattle.std.specs.List.{list_all}
use Rattle.ps_lattice.proofs.Rising.{and_right}
use Rattle.ps_lattice.proofs.ChoiceLemmas.{last_fits}
use Rattle.ps_lattice.proofs.choice.Choice.last_sequence.Goals as goal

pub returns-clause-in_range : goal.returns-clause-in_range
returns-clause-in_range c =
    let es = c.parts.result.now in
    subst (λ n. n ≤ SEQUENCES) (sym c.last_by_blocks.ensures)
    (last_fits c.args.replica es (and_right (map.is_sorted pair_cmp es) (list_all is_pair es) c.parts.ensures.in_range))
