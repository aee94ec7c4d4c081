use Rattle.std.proofs.Common.{◌≡◌, ℕ, ◌||◌}
use Rattle.std.specs.Prelude.{nat_eq}
use Rattle.std.specs.List.{list_any}
use Rattle.ps_cells.specs.Inside.Steps.{flag_at}
use Rattle.ps_cells.proofs.walk.flag_each.Given as goal

-- the cells so far are flagged
abbrev pub invariant-loop-dependent : goal.invariant-loop-dependent
invariant-loop-dependent g l = record {
  can_next : (goal.iterator-loop-dependent g).can_next l.dependent-iterator;
  is_finite : (goal.iterator-loop-dependent g).is_finite l.dependent-iterator;
  flagged : (c : ℕ) → flag_at l.flags c ≡ (flag_at l.initial.flags c || list_any (nat_eq c) l.yielded);
}
