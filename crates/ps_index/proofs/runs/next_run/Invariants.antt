use Rattle.std.proofs.Common.{take}
use Rattle.ps_index.specs.Inside.Places.{covered}
use Rattle.ps_index.proofs.RunsNearest.{IsNearest}
use Rattle.ps_index.proofs.runs.next_run.Given as goal

abbrev pub invariant-loop-rect : goal.invariant-loop-rect
invariant-loop-rect l =
    IsNearest (covered (take l.rect-index l.rects)) l.place l.from l.«end» l.other
