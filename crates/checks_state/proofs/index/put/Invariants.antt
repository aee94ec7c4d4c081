use Rattle.ps_index.specs.Stands.{Puts, Stands}
use Rattle.checks_state.proofs.index.put.Given as goal

abbrev pub invariant-loop-line : goal.invariant-loop-line
invariant-loop-line l = (forms : Puts) × Stands l.index forms
