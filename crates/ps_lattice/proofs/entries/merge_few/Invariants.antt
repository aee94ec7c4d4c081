use Rattle.std.proofs.Common.{◌≡◌, ◌≤◌, ◌++◌, length, drop}
use Rattle.ps_lattice.proofs.Merging.{merged}
use Rattle.ps_lattice.proofs.entries.merge_few.Given as goal

-- what is merged so far, and the rest of both lists merged, are both lists merged
abbrev pub invariant-loop-entry : goal.invariant-loop-entry
invariant-loop-entry g l = record {
  in_many : l.i ≤ length l.many;
  so_far : l.all.items ++ merged g.K.Ord.cmp g.X.Join.joined (drop l.i l.many) (drop l.entry-index l.few)
      ≡ merged g.K.Ord.cmp g.X.Join.joined l.many l.few;
}
