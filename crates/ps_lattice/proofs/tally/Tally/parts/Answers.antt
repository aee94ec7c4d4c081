use Rattle.std.proofs.Common.{ap, ◌∙◌}
use Rattle.ps_lattice.specs.Tally.{is_tally}
use Rattle.ps_lattice.specs.Inside.Counts.{entries_in}
use Rattle.ps_lattice.proofs.CountLemmas.{seen_in_range}
use Rattle.ps_lattice.proofs.tally.Tally.parts.Goals as goal

pub returns-clause-in_range : goal.returns-clause-in_range
returns-clause-in_range c =
    seen_in_range (entries_in c.entries.result) (ap is_tally c.entries.ensures ∙ c.self.invariant)
