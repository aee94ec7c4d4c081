use Rattle.std.proofs.Common.{◌≡◌, take}
use Rattle.ps_delta.specs.Places.{joined_places}
use Rattle.ps_delta.proofs.places.are_below.Given as goal

abbrev pub invariant-loop-i : goal.invariant-loop-i
invariant-loop-i g l = joined_places g.X.Join.joined (take l.i l.theirs) (take l.i l.mine) ≡ take l.i l.theirs
