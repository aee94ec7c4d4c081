use Rattle.std.proofs.Common.{◌≡◌, ◌≤◌, length, take, vec_capacity}
use Rattle.std.specs.List.{filter}
use Rattle.ps_region.specs.Inside.Touched.{not_plain}
use Rattle.ps_region.specs.Inside.LevelWalk.{is_held}
use Rattle.ps_region.proofs.levels.list_held.Given as goal

abbrev pub invariant-loop-c : goal.invariant-loop-c
invariant-loop-c l = record {
  cyclic : l.cyclic.items ≡ filter (is_held (not_plain l.plain) l.left) (take l.c-index l.members);
  few : length l.cyclic.items ≤ l.c-index;
  room : vec_capacity l.initial.cyclic ≤ vec_capacity l.cyclic;
}
