use Rattle.std.proofs.Common.{◌≡◌}
use Rattle.std.specs.List.{AllAdjacentBelow}
use Rattle.std.specs.declared.cmp.Ordering.TheVariants.{Less}
use Rattle.ps_lattice.proofs.entries.is_ascending.Given as goal

abbrev pub invariant-loop-i : goal.invariant-loop-i
invariant-loop-i g l = AllAdjacentBelow (λ x y. g.K.Ord.cmp x.0 y.0 ≡ Less) l.entries l.i
