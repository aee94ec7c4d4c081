use Rattle.std.proofs.Common.{◌≡◌, ◌+◌, ◌≤◌, All, length, map}
use Rattle.ps_wire.specs.declared.TheConstants.{DELTA_LINE_LIMIT}
use Rattle.ps_squash.specs.Inside.{AreWritten, cell_size}
use Rattle.ps_squash.proofs.lines.divide.Given as goal

abbrev pub invariant-lines : goal.invariant-lines
invariant-lines l = record {
  written : AreWritten l.fn.entries l.left l.fn.text.items l.text.items;
  sizes : l.left_sizes ≡ map cell_size l.left;
  fit : All (λ n. n + 2 ≤ DELTA_LINE_LIMIT) l.left_sizes;
}

abbrev pub decreases-lines : goal.decreases-lines
decreases-lines l = length l.left
