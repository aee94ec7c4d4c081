use Rattle.std.proofs.Common.{take}
use Rattle.ps_index.specs.Stands.{Puts, Stands}
use Rattle.ps_cells.specs.Inside.Formulas.{with_puts}
use Rattle.ps_cells.proofs.change.put_formulas.Given as goal

-- the formulas of the cells so far are put in
abbrev pub invariant-loop-i : goal.invariant-loop-i
invariant-loop-i l = (forms : Puts) → Stands l.initial.index forms → Stands l.index (with_puts (take l.i l.cells) forms)
