-- The blocks of the table whose summaries are remembered.
use Rattle.std.specs.Prelude.{◌≡◌, ◌+◌, ◌*◌, ℕ, List, Option, Some, None, slice_range, slice_index_or}
use Rattle.ps_eval.specs.Number.{Number}
use Rattle.ps_eval.specs.Summarized.{Summarizes}
use Rattle.ps_eval.specs.declared.summary.Summary.{Summary}
use Rattle.ps_shown.specs.declared.kept.Kept.{Kept}
use Rattle.ps_shown.specs.declared.blocks.TheConstants.{BLOCK}
use Rattle.ps_shown.specs.Sums.{items_kept}

-- the items of the places from p up to q, without q
abbrev pub items_between : List Kept → ℕ → ℕ → List Number
items_between kept p q = items_kept (slice_range kept p q)

-- the items of a block
abbrev pub block_items : List Kept → ℕ → List Number
block_items kept b = items_between kept (b * BLOCK) (b * BLOCK + BLOCK)

-- each stored summary is the summary of its block's present items
abbrev pub AreRemembered : List Kept → List (Option Summary) → Type 0
AreRemembered kept sums =
    (b : ℕ) (s : Summary) → slice_index_or sums b None ≡ Some s → Summarizes (block_items kept b) s
