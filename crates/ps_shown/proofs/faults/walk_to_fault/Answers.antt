use Rattle.std.proofs.Common.{ap, sym, ◌∙◌, subst, is_some, ◌≤◌, ◌<◌, ◌≡◌, ℕ, None, arith}
use Rattle.ps_shown.specs.Faults.{fault_kept}
use Rattle.ps_shown.proofs.FaultLemmas.{one_more_clean}
use Rattle.ps_shown.proofs.faults.walk_to_fault.Goals as goal

pub returns-then-is_some : goal.returns-then-is_some
returns-then-is_some c = record {
  order = c.cells.invariant.order;
  within = c.cells.invariant.within;
  clean = c.cells.invariant.clean;
  there = λ less. ap is_some (sym c.fault_at.ensures) ∙ sym c.is_some.ensures ∙ c.if-is_some.true;
}

pub cells-preserved : goal.cells-preserved
cells-preserved c = record {
  order = omega (arith, c.cells.invariant.order);
  within = omega (arith, c.cells-test.true);
  clean = one_more_clean c.args.kept.now c.args.from c.cells.next c.fault_at.result c.cells.invariant.clean
      c.fault_at.ensures (sym c.is_some.ensures ∙ c.if-is_some.false);
}

pub returns : goal.returns
returns c =
    let end : c.cells.next ≡ c.args.to = omega (arith, c.cells-test.false, c.cells.invariant.within) in
    record {
      order = c.requires;
      within = omega arith;
      clean = subst (λ n. (j : ℕ) → c.args.from ≤ j → j < n → fault_kept c.args.kept.now j ≡ None) end
          c.cells.invariant.clean;
      there = λ less. absurd (omega (arith, less));
    }
