use Rattle.std.proofs.Common.{◌≡◌, ◌≤◌, ℕ, length, take, get_or, vec_capacity}
use Rattle.std.specs.List.{filter}
use Rattle.ps_grid.specs.Chains.{In}
use Rattle.ps_region.specs.Inside.Touched.{not_plain}
use Rattle.ps_region.specs.Inside.LevelWalk.{is_ready}
use Rattle.ps_region.proofs.levels.first_level.Given as goal

abbrev pub invariant-loop-c : goal.invariant-loop-c
invariant-loop-c l = record {
  order : l.order.items ≡ filter (is_ready (not_plain l.plain) l.left) (take l.c-index l.members);
  few : length l.order.items ≤ l.c-index;
  level : (q : ℕ) → In l.order.items q → get_or l.level q 0 ≡ 1;
  room : vec_capacity l.initial.order ≤ vec_capacity l.order;
}
