use Rattle.std.proofs.Common.{◌≡◌, ◌-◌, ◌≤◌, ℕ, length, get_or}
use Rattle.ps_delta.specs.declared.block.TheConstants.{BLOCK}
use Rattle.ps_delta.specs.State.{empty_cell}
use Rattle.ps_delta.proofs.block.Block.add_cells.Given as goal

abbrev pub invariant-loop-alloc : goal.invariant-loop-alloc
invariant-loop-alloc l = record {
  same : (p : ℕ) → get_or l.self-inside.cells.items p empty_cell
      ≡ get_or l.initial.self-inside.cells.items p empty_cell;
  longer : length l.initial.self-inside.cells.items ≤ length l.self-inside.cells.items;
}

abbrev pub decreases-loop-alloc : goal.decreases-loop-alloc
decreases-loop-alloc l = BLOCK - length l.self-inside.cells.items
