use Rattle.std.proofs.Common.{ap, arith, length}
use Rattle.ps_delta.specs.State.{state_at}
use Rattle.ps_delta.proofs.BlockLemmas.{state_at-past}
use Rattle.ps_delta.proofs.FirstLemmas.{first_all, first_entries, first_none}
use Rattle.ps_delta.proofs.grid.Grid.entries.Goals as goal

pub loop-index-init : goal.loop-index-init
loop-index-init c = rw c.new-entries.ensures.items (first_none (state_at c.args.self.now))

pub returns-clause-entries : goal.returns-clause-entries
returns-clause-entries c = first_entries (state_at c.args.self.now) _ _ c.loop-index.invariant

pub returns-clause-same : goal.returns-clause-same
returns-clause-same c =
    let blocks = c.blocks-index-end.ensures in
    first_all (state_at c.args.self.now) _ _ c.loop-index.invariant
    (λ k h. state_at-past c.args.self.now k blocks.all
    (omega (arith, h, c.loop-index-test.false, blocks.all, ap length blocks.same)))
