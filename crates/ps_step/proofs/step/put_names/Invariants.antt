use Rattle.std.proofs.Common.{◌≡◌, ◌++◌, take}
use Rattle.ps_step.specs.Steps.{names_text}
use Rattle.ps_step.proofs.step.put_names.Given as goal

abbrev pub invariant-loop-cell : goal.invariant-loop-cell
invariant-loop-cell l = l.text.items ≡ l.initial.text.items ++ names_text (take l.cell-index l.cells)
