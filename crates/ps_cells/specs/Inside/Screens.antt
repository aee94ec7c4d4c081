-- What the cells show, and what the cells that were put showed before.
use Rattle.std.specs.Prelude.{◌≡◌, ◌≢◌, ◌↔◌, ◌⊎◌, ℕ, Bool, true, false, List, [], ◌∷◌, ◌++◌, length, map, nat_eq}
use Rattle.std.specs.List.{IsDistinct}
use Rattle.ps_grid.specs.Chains.{In}
use Rattle.ps_grid.specs.declared.size.TheConstants.{CELLS}
use Rattle.ps_value.specs.declared.value.Value.{Value}
use Rattle.ps_eval.specs.Items.{Assignment}
use Rattle.ps_shown.specs.declared.kept.Kept.{Kept}
use Rattle.ps_shown.specs.Kept.{value_of as value_kept}
use Rattle.ps_shown.specs.Shown.{shown_at}
unfoldable pub use Rattle.ps_cells.specs.ChangedCells.{put_back}
use Rattle.ps_region.specs.CellSets.{has_cell}
use Rattle.ps_cells.specs.Inside.Steps.{flag_at}
use Rattle.ps_cells.specs.Inside.Waiting.{is_waiting}

-- `kept` has what is stored for each cell; `olds` what was stored before for the cells that were put; `changed` the
-- cells that were listed last as showing another value; `changes` the cells and values that were listed last
pub record ScreenView : Type 0 where
  pub kept : List Kept
  pub olds : List (ℕ × Kept)
  pub changed : List ℕ
  pub changes : List (ℕ × Value)

-- the cells of a list
abbrev pub cells_in : List (ℕ × Kept) → List ℕ
cells_in olds = map (λ e. e.0) olds

-- what the cells showed before they were put
abbrev pub before_of : ScreenView → Assignment
before_of s = put_back s.olds (shown_at s.kept)

-- the list has each cell once, and exactly its cells are flagged
pub record IsNoted (olds : List (ℕ × Kept)) (flags : List Bool) : Type 0 where
  pub length : length flags ≡ CELLS
  pub once : IsDistinct nat_eq (cells_in olds)
  pub flagged : (c : ℕ) → In (cells_in olds) c → flag_at flags c ≡ true
  pub noted : (c : ℕ) → flag_at flags c ≡ true → In (cells_in olds) c

-- exactly the cells at which two assignments differ, each once
pub record Differ (w v : Assignment) (cells : List ℕ) : Type 0 where
  pub once : IsDistinct nat_eq cells
  pub exact : (c : ℕ) → In cells c ↔ ¬ (w c ≡ v c)

-- ONE CELL is added to the list if it shows another value, by w, than the one that was stored for it before
abbrev pub ListsDiffering : ℕ × Kept → Assignment → List ℕ → List ℕ → Type 0
ListsDiffering e w cells cells2 =
    ((w e.0 ≡ value_kept e.1) × (cells2 ≡ cells)) ⊎ ((¬ (w e.0 ≡ value_kept e.1)) × (cells2 ≡ cells ++ e.0 ∷ []))

-- the set has exactly the cells that show #CYCLE!
abbrev pub ShowCycle : Assignment → List Bool → Type 0
ShowCycle w set = (c : ℕ) → has_cell set c ≡ is_waiting (w c)

-- ONE CELL is put into the set if #CYCLE! was stored for it, or else taken out
abbrev pub HoldsAsKept : ℕ × Kept → List Bool → List Bool → Type 0
HoldsAsKept e set set2 =
    (has_cell set2 e.0 ≡ is_waiting (value_kept e.1)) × ((c : ℕ) → c ≢ e.0 → has_cell set2 c ≡ has_cell set c)
