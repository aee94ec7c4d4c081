use Rattle.std.specs.List.{AllWithin}
use Rattle.ps_lattice.proofs.Covering.{IsCovered}
use Rattle.ps_lattice.proofs.entries.is_below.Given as goal

-- each entry so far changes nothing
abbrev pub invariant-loop-key : goal.invariant-loop-key
invariant-loop-key g l = AllWithin (IsCovered g.K.Ord.cmp g.X.Join.joined l.theirs) l.mine 0 l.key-index
