use Rattle.std.proofs.Common.{◌≡◌, ◌++◌, map, take}
use Rattle.ps_delta.proofs.joining.append.Given as goal

abbrev pub invariant-loop-cell : goal.invariant-loop-cell
invariant-loop-cell l =
    map (λ e. e.now) l.entries.items ≡ map (λ e. e.now) l.initial.entries.items ++ take l.cell-index l.cells
