use Rattle.std.proofs.Common.{◌≡◌, ◌+◌, All, length}
use Rattle.ps_desk.specs.Closing.{EndsAt, appended_of}
use Rattle.ps_desk.proofs.close.merge_all.Given as goal

abbrev pub invariant-loop-pass : goal.invariant-loop-pass
invariant-loop-pass g l =
    (l.all.parts ≡ l.initial.all.parts + length l.yielded)
    × (l.all.amount ≡ l.initial.all.amount + appended_of l.yielded)
    × All (EndsAt l.front.list) l.yielded
