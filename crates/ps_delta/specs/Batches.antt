-- Cells with contents, for one edit.
use Rattle.std.specs.Prelude.{ℕ, ◌<◌, List, length, map}
use Rattle.std.specs.List.Sorted.{IsStrictlyIncreasing}
use Rattle.ps_content.specs.declared.content.Content.{Content}

-- at least one cell, ascending and distinct
pub record IsBatch (cells : List (ℕ × Content)) : Type 0 where
  pub some : 0 < length cells
  pub ascending : IsStrictlyIncreasing (map (λ e. e.0) cells)
