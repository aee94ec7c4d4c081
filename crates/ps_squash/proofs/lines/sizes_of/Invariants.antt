use Rattle.std.proofs.Common.{◌≡◌, ◌+◌, ◌≤◌, All, map, take}
use Rattle.ps_wire.specs.declared.TheConstants.{DELTA_LINE_LIMIT}
use Rattle.ps_squash.specs.Inside.{cell_size}
use Rattle.ps_squash.proofs.lines.sizes_of.Given as goal

abbrev pub invariant-loop-entry : goal.invariant-loop-entry
invariant-loop-entry l = record {
  sizes : l.sizes.items ≡ map cell_size (take l.entry-index l.entries);
  fit : All (λ n. n + 2 ≤ DELTA_LINE_LIMIT) l.sizes.items;
}
