use Rattle.std.proofs.Common.{◌≡◌}
use Rattle.ps_shown.proofs.shown.Shown.remember.Given as goal

-- what a contract sees stays
abbrev pub invariant-loop-column : goal.invariant-loop-column
invariant-loop-column l = l.self ≡ l.initial.self
