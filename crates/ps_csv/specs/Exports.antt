-- The table that is exported from a rectangle, as `csv` writes it: what the cells show, or what they hold.
use Rattle.std.specs.Prelude.{◌≡◌, ◌⊎◌, ℕ, ◌<◌, List, map, length, take, Option, Result, ⊤, IfErr, OnOk}
use Rattle.std.specs.Io.KnownBytes.{Appends}
use Rattle.std.specs.List.{flat_map, range_with_len}
use Rattle.csv.specs.Writing.{default_writer, row_text}
use Rattle.ps_grid.specs.Rectangle.{Area, cell_within}
use Rattle.ps_grid.specs.declared.refusal.Refusal.{Refusal}
use Rattle.ps_grid.specs.declared.refusal.Refusal.TheVariants.{Device, Memory}
use Rattle.ps_value.specs.Shown.{shown_text}
use Rattle.ps_eval.specs.Items.{Assignment}
use Rattle.ps_content.specs.Content.{canonical_text}
use Rattle.ps_content.specs.declared.content.Content.{Content}
use Rattle.ps_delta.specs.Deltas.{Entries, joined_history}
use Rattle.ps_cells.specs.Settled.{content_of}

-- a text for each cell
abbrev pub CellTexts : Type 0
CellTexts = ℕ → List ℕ

-- the texts of the cells of the k-th row, from the left to the right
unfoldable pub row_record : CellTexts → Area → ℕ → List (List ℕ)
row_record text a k = map (λ j. text (cell_within a j k)) (range_with_len 0 a.width)

-- a record for each row of the rectangle, from the upper to the lower
unfoldable pub row_records : CellTexts → Area → List (List (List ℕ))
row_records text a = map (row_record text a) (range_with_len 0 a.height)

-- the text of a table: each of its records as `csv` writes it by its defaults
unfoldable pub table_text : List (List (List ℕ)) → List ℕ
table_text table = flat_map (row_text default_writer) table

-- THE TABLE of a rectangle whose cells have these texts
abbrev pub tabled : CellTexts → Area → List ℕ
tabled text a = table_text (row_records text a)

-- THE EXPORT of a rectangle where the cells show v
abbrev pub exported : Assignment → Area → List ℕ
exported v a = tabled (λ c. shown_text (v c)) a

-- what each cell holds
abbrev pub Holdings : Type 0
Holdings = ℕ → Content

-- what each cell's register holds after these deltas; blank for a cell that nothing was assigned to
abbrev pub held_in : List Entries → Holdings
held_in history c = content_of (joined_history history c)

-- the entry of each cell: the canonical text of what it holds
abbrev pub entry_text : Holdings → CellTexts
entry_text held c = canonical_text (held c)

-- THE ENTRIES of a rectangle where the cells hold these contents
abbrev pub exported_entries : Holdings → Area → List ℕ
exported_entries held a = tabled (entry_text held) a

-- WRITES OUT: how writing this text ends. The whole text was written; or memory ran out, and nothing was written; or
-- the sink failed, and a beginning was written. The sink was `old` and is `new`
pub record WritesOut {K : Type 0} (contents : K → Option (List ℕ)) (failures : K → ℕ) (text : List ℕ) (old new : K)
    (result : Result ⊤ Refusal) : Type 0 where
  pub written : OnOk result (Appends (contents old) (contents new) text)
  pub calm : OnOk result (failures new ≡ failures old)
  pub device : IfErr result (λ e. e ≡ Device → (count : ℕ) × (count < length text)
      × Appends (contents old) (contents new) (take count text))
  pub failed : IfErr result (λ e. e ≡ Device → failures old < failures new)
  pub memory : IfErr result (λ e. e ≡ Memory → new ≡ old)
  pub refused : IfErr result (λ e. (e ≡ Memory) ⊎ (e ≡ Device))
