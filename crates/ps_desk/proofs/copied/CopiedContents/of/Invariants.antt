use Rattle.std.proofs.Common.{◌≡◌, map}
use Rattle.ps_desk.proofs.copied.CopiedContents.of.Given as goal

-- one for each cell so far
abbrev pub invariant-loop-cell : goal.invariant-loop-cell
invariant-loop-cell g l = l.contents.items ≡ map (g.H.Holds.held_at l.holds) l.yielded
