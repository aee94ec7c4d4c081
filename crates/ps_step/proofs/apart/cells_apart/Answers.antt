use Rattle.std.proofs.Common.{◌≤◌, arith}
use Rattle.ps_grid.specs.declared.size.TheConstants.{CELLS}
use Rattle.ps_delta.specs.State.{state_at}
use Rattle.ps_step.proofs.ApartLemmas.{apart_all}
use Rattle.ps_step.proofs.apart.cells_apart.Goals as goal

pub returns-clause-apart : goal.returns-clause-apart
returns-clause-apart c =
    let all : CELLS ≤ c.loop-index.index = omega arith in
    apart_all (state_at c.args.one.now) (state_at c.args.other.now) c.loop-index.index c.loop-index.cells.items
    c.loop-index.invariant.apart
    (λ k h. c.loop-index.invariant.outside (omega (arith, all)) k (omega (arith, all, h)))
