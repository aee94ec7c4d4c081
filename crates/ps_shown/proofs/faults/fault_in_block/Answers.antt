use Rattle.std.proofs.Common.{arith}
use Rattle.ps_shown.proofs.faults.fault_in_block.Goals as goal

pub returns-then-is_free_of_faults : goal.returns-then-is_free_of_faults
returns-then-is_free_of_faults c = record {
  order = c.requires.order;
  within = omega arith;
  clean = λ j low high.
      c.is_free_of_faults.ensures c.if-is_free_of_faults.true j (omega (arith, low, c.requires.begins))
      (omega (arith, high, c.requires.ends));
  there = λ less. absurd (omega (arith, less));
}
