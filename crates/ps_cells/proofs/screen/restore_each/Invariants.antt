use Rattle.std.proofs.Common.{take}
use Rattle.ps_eval.specs.Items.{Assignment}
use Rattle.ps_cells.specs.Inside.Screens.{ShowCycle, put_back}
use Rattle.ps_cells.proofs.screen.restore_each.Given as goal

-- the old values so far are back in the set
abbrev pub invariant-loop-old : goal.invariant-loop-old
invariant-loop-old l =
    (w : Assignment) → ShowCycle w l.initial.cyclic → ShowCycle (put_back (take l.old-index l.olds) w) l.cyclic
