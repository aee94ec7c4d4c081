-- Cells that are alone: they have no formula, and no formula refers to them.
use Rattle.std.specs.Prelude.{ℕ, Bool, true, false, not, ◌&&◌, List, [], ◌∷◌}
use Rattle.ps_delta.specs.declared.cell_state.CellState.{CellState}
use Rattle.ps_cells.specs.Settled.{content_of}
use Rattle.ps_shown.specs.declared.kept.Kept.{Kept}
use Rattle.ps_cells.specs.Inside.Waiting.{is_formula}
use Rattle.ps_cells.specs.declared.change.Beginning.{Beginning}
use Rattle.ps_cells.specs.declared.change.Beginning.TheVariants.{Sole, Alone, Region}

abbrev pub is_empty : List ℕ → Bool
is_empty [] = true
is_empty (c ∷ cells) = false

-- the cell has no formula, and no formula is listed for it
abbrev pub is_alone : (ℕ → Bool) → (ℕ → List ℕ) → ℕ → Bool
is_alone formula listed c = not (formula c) && is_empty (listed c)

-- the state isn't that of a formula, and no formula is listed for the cell
abbrev pub is_alone_entry : (ℕ → List ℕ) → ℕ × CellState → Bool
is_alone_entry listed e = not (is_formula (content_of e.1)) && is_empty (listed e.0)

-- the touched cells are alone
abbrev pub are_alone : Beginning → Bool
are_alone (Sole c k) = true
are_alone Alone = true
are_alone Region = false

-- the touched cells with what is stored for them at first: all are listed, except a sole one
abbrev pub firsts_by : Beginning → List (ℕ × Kept) → List (ℕ × Kept)
firsts_by (Sole c k) cells = (c, k) ∷ []
firsts_by Alone cells = cells
firsts_by Region cells = cells
