-- The joins of a history's first delta, of its first two, and so on.
use Rattle.std.specs.Prelude.{ℕ, ◌+◌, ◌<◌, ◌≤◌, List, length, take, get_or, sum_by}
use Rattle.std.specs.FinMap as map
use Rattle.ps_delta.specs.declared.cell_state.CellState.{CellState}
use Rattle.ps_delta.specs.Deltas.{Entries}
use Rattle.ps_lines.specs.PullReplies.{IsGroupLine, IsJoint}

-- the joints are the joins of the first delta, of the first two, and so on
abbrev pub AreFirstJoints : List Entries → List Entries → Type 0
AreFirstJoints deltas joints =
    (k : ℕ) (d : Entries) → k < length joints → IsJoint (take (k + 1) deltas) (get_or joints k d)

-- .. at most `most`; no join of more deltas than these has a line
pub record AreJoints (deltas : List Entries) (most : ℕ) (joints : List Entries) : Type 0 where
  pub few : length joints ≤ most
  pub within : length joints ≤ length deltas
  pub first : AreFirstJoints deltas joints
  pub last : (k : ℕ) (line : List ℕ) → length joints < k → k ≤ most → ¬ IsGroupLine deltas k line

-- the number of a cell's parts: the cell, its counts and its pairs
abbrev pub part_count : ℕ × CellState → ℕ
part_count e = 1 + length (map.entries e.1.tally) + length (map.entries e.1.choice)

-- .. of all the cells
abbrev pub parts_in : Entries → ℕ
parts_in cells = sum_by part_count cells
