use Rattle.std.proofs.Common.{◌≡◌, ◌≤◌, length, take}
use Rattle.ps_delta.specs.Places.{joined_places}
use Rattle.ps_delta.proofs.places.joined.Given as goal

abbrev pub invariant-loop-i : goal.invariant-loop-i
invariant-loop-i g l = l.all.items ≡ joined_places g.X.Join.joined (take l.i l.mine) (take l.i l.theirs)

abbrev pub invariant-loop-k : goal.invariant-loop-k
invariant-loop-k g l = (length l.mine ≤ l.k)
    × (l.all.items ≡ joined_places g.X.Join.joined l.mine (take l.k l.theirs))
