-- The working memory of a region, between calls. The tables are empty until the first mark writes them whole.
use Rattle.std.specs.Prelude.{◌≡◌, ◌<◌, ◌≤◌, ℕ, true, false, length, slice_index_or, vec_capacity}
use Rattle.ps_grid.specs.Chains.{In}
use Rattle.ps_grid.specs.declared.size.TheConstants.{CELLS}
use Rattle.ps_region.specs.Inside.Cells.{Marked}
use Rattle.ps_region.specs.Inside.LevelWalk.{Levels}
use Rattle.ps_region.specs.Found.{Found}
use Rattle.ps_region.specs.declared.region.Region.TheInside.{Inside}

abbrev pub found_of : Inside → Found
found_of r = record {
  members = r.members.items;
  order = r.order.items;
  starts = r.starts.items;
  left = r.left.items;
  plain = r.plain.items;
  cyclic = r.cyclic.items;
}

pub record IsScratch (r : Inside) : Type 0 where
  pub marks_length : length r.marks.items ≤ CELLS
  pub fresh_length : length r.fresh.items ≤ CELLS
  pub plain_length : length r.plain.items ≡ length r.marks.items
  pub left_length : length r.left.items ≡ length r.marks.items
  pub level_length : length r.level.items ≤ CELLS
  pub sole_length : length r.sole.items ≤ CELLS
  pub marks_room : CELLS ≤ vec_capacity r.marks
  pub fresh_room : CELLS ≤ vec_capacity r.fresh
  pub plain_room : CELLS ≤ vec_capacity r.plain
  pub left_room : CELLS ≤ vec_capacity r.left
  pub level_room : CELLS ≤ vec_capacity r.level
  pub sole_room : CELLS ≤ vec_capacity r.sole
  pub marked : Marked r.marks.items r.members.items
  pub fresh_members : (c : ℕ) → slice_index_or r.fresh.items c false ≡ true → In r.members.items c
  pub plain_members : (c : ℕ) → slice_index_or r.plain.items c false ≡ true → In r.members.items c
  pub members_room : CELLS ≤ vec_capacity r.members
  pub order_room : CELLS ≤ vec_capacity r.order
  pub starts_room : CELLS < vec_capacity r.starts
  pub cyclic_room : CELLS ≤ vec_capacity r.cyclic
  pub levels : Levels r.starts.items r.order.items r.level.items
