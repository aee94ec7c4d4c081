use Rattle.std.proofs.Common.{◌≡◌, map}
use Rattle.ps_desk.proofs.copied.CopiedValues.of.Given as goal

-- one for each cell so far
abbrev pub invariant-loop-cell : goal.invariant-loop-cell
invariant-loop-cell g l = l.values.items ≡ map (g.G.Look.value_at l.look) l.yielded
