use Rattle.std.proofs.Common.{◌≤◌, ◌-◌, ◌++◌, ℕ, List, length, take}
use Rattle.ps_delta.specs.State.{state_at}
use Rattle.ps_squash.specs.Inside.{StandsAfter, sum_of}
use Rattle.ps_squash.specs.declared.selection.Selection.{Selection}
use Rattle.ps_squash.proofs.intake.Intake.take_in.Given as goal

abbrev pub invariant-turns : goal.invariant-turns
invariant-turns l = record {
  within : l.start ≤ length l.fn.piece;
  stands : (asked : Selection) → (read : List ℕ)
      → StandsAfter asked read l.fn.self.session.pending l.fn.self.told
      (sum_of (state_at l.fn.self.taken.state) l.fn.self.taken.still) l.fn.self.ended
      → StandsAfter asked (read ++ take l.start l.fn.piece) l.self.session.pending l.self.told
      (sum_of (state_at l.self.taken.state) l.self.taken.still) l.self.ended;
}

abbrev pub decreases-turns : goal.decreases-turns
decreases-turns l = length l.fn.piece - l.start
