-- How many spans are stored up to each row.
use Rattle.std.specs.Prelude.{ℕ, ◌+◌, List, get_or, map, min}
use Rattle.std.specs.List.{range_with_len}
use Rattle.ps_grid.specs.declared.size.TheConstants.{ROWS}

-- the counts of all rows from 0 on, where each row after `last` has the count of `last`
unfoldable pub all_counts : List ℕ → ℕ → List ℕ
all_counts ends last = map (λ j. get_or ends (min j last) 0) (range_with_len 0 (ROWS + 1))
