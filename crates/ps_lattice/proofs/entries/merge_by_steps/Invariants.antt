use Rattle.std.proofs.Common.{◌≡◌, ◌+◌, ◌-◌, ◌≤◌, ◌++◌, length, drop}
use Rattle.ps_lattice.proofs.Merging.{merged}
use Rattle.ps_lattice.proofs.entries.merge_by_steps.Given as goal

-- what is merged so far, and the rest of both lists merged, are both lists merged
abbrev pub invariant-loop-i : goal.invariant-loop-i
invariant-loop-i g l = record {
  in_mine : l.i ≤ length l.mine;
  in_theirs : l.j ≤ length l.theirs;
  so_far : l.all.items ++ merged g.K.Ord.cmp g.X.Join.joined (drop l.i l.mine) (drop l.j l.theirs)
      ≡ merged g.K.Ord.cmp g.X.Join.joined l.mine l.theirs;
}

abbrev pub decreases-loop-i : goal.decreases-loop-i
decreases-loop-i g l = (length l.mine - l.i) + (length l.theirs - l.j)
