use Rattle.std.proofs.Common.{◌≤◌}
use Rattle.std.specs.Prelude.{vec_capacity}
use Rattle.ps_shown.specs.Blocks.{AreRemembered}
use Rattle.ps_shown.proofs.blocks.remember_blocks.Given as goal

abbrev pub invariant-loop-block : goal.invariant-loop-block
invariant-loop-block l = record {
  remembered : AreRemembered l.kept l.sums.items;
  room : vec_capacity l.initial.sums ≤ vec_capacity l.sums;
}
