use Rattle.std.proofs.Common.{◌≡◌, ◌<◌, map, take}
use Rattle.std.specs.List.{All}
use Rattle.serde_json.specs.View.{view}
use Rattle.ps_grid.specs.declared.size.TheConstants.{CELLS}
use Rattle.ps_wire.specs.Value.{cell_value, IsState}
use Rattle.ps_wire.proofs.cells.read_cells.Given as goal

-- what was read stands for the values so far
abbrev pub invariant-loop-value : goal.invariant-loop-value
invariant-loop-value l = record {
  spelled : map view (take l.value-index l.values) ≡ map cell_value l.cells.items;
  in_grid : All (λ e. e.0 < CELLS) l.cells.items;
  states : All (λ e. IsState e.1) l.cells.items;
}
