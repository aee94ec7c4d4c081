use Rattle.std.proofs.Common.{◌≡◌, length}
use Rattle.ps_world.specs.Inside.Steps.{AreNew}
use Rattle.ps_world.proofs.world.opened.Given as goal

abbrev pub invariant-loop-place : goal.invariant-loop-place
invariant-loop-place l = (length l.opened.items ≡ l.place) × AreNew l.opened.items
