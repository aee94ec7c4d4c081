use Rattle.std.proofs.Common.{◌≡◌, ◌≤◌, ℕ, take, vec_capacity}
use Rattle.ps_grid.specs.declared.size.TheConstants.{CELLS}
use Rattle.ps_region.specs.Inside.Cells.{Marked, with_all}
use Rattle.ps_region.specs.Inside.Counts.{counted_in}
use Rattle.ps_region.proofs.members.enter_all.Given as goal

abbrev pub invariant-loop-c : goal.invariant-loop-c
invariant-loop-c l = record {
  members : l.members.items ≡ with_all l.initial.members.items (take l.c-index l.cells);
  marked : Marked l.marks l.members.items;
  room : CELLS ≤ vec_capacity l.members;
  counts : (q : ℕ) → counted_in l.members.items l.left q ≡ counted_in l.initial.members.items l.initial.left q;
}
