-- What an import does to a source and to a sheet.
use Rattle.std.specs.Prelude.{◌≡◌, ◌≢◌, ℕ, ◌<◌, ◌≤◌, List, [], ◌∷◌, ◌++◌, length, drop, take, Ok, Option}
use Rattle.std.specs.Io.KnownBytes.{Consumes, IsAtEnd}
use Rattle.ps_grid.specs.declared.size.TheConstants.{COLUMNS, ROWS}
use Rattle.ps_delta.specs.Deltas.{Entries, joined_history}
use Rattle.ps_sheet.specs.Sheet.{SheetView}
use Rattle.ps_sheet.specs.Edits.{delta_of_edit}
use Rattle.ps_delta.specs.declared.edit.Edit.TheVariants.{SetAll}
use Rattle.ps_csv.specs.declared.bytes.TheConstants.{LONGEST_TABLE}
use Rattle.ps_csv.specs.Records.{Cells, IsTable, Record, RecordsSay, most_fields}

-- a source with the bytes `old` was read to its end, and P holds of these bytes
abbrev pub ReadToEnd : Option (List ℕ) → Option (List ℕ) → (List ℕ → Type 0) → Type 0
ReadToEnd old new P = (bytes : List ℕ) × Consumes old new bytes × IsAtEnd new × P bytes

-- a table of so many records, with at most so many fields in each, lies in the grid, and each record has a field
abbrev pub LieInGrid : ℕ → ℕ → Type 0
LieInGrid records fields = (records ≤ ROWS) × (fields ≤ COLUMNS) × (0 < records → 0 < fields)

-- ASSIGNED at replica r: the history h grew to k by one edit for each list that has any cells, in order, and by nothing
-- else. The edit assigns to all cells of the list
unfoldable pub Assigned : ℕ → List Entries → List Cells → List Entries → Type 0
Assigned r h [] k = k ≡ h
Assigned r h ([] ∷ batches) k = Assigned r h batches k
Assigned r h ((cell ∷ cells) ∷ batches) k = (delta : Entries)
    × (delta_of_edit r (joined_history h) (SetAll (cell ∷ cells)) ≡ Ok delta) × Assigned r (h ++ delta ∷ []) batches k

-- the table of the bytes was imported; it has this number of records, and this is the greatest number of their fields
pub record ImportsTable (bytes : List ℕ) (records fields : ℕ) (old new : SheetView) : Type 0 where
  pub table : List Record
  pub batches : List Cells
  pub within : length bytes ≤ LONGEST_TABLE
  pub read : IsTable bytes table
  pub said : RecordsSay (joined_history old.history) 0 table batches
  pub assigned : Assigned old.replica old.history batches new.history
  pub records_are : records ≡ length table
  pub fields_are : fields ≡ most_fields table

-- BEGINS FILLED: the first of these lists exists, and has a cell
abbrev pub BeginsFilled : List Cells → Type 0
BeginsFilled batches = (cells : Cells) × (others : List Cells) × (cells ≢ []) × (batches ≡ cells ∷ others)

-- only the first records of the table were assigned, `applied` of them. At least one of these has contents, so the
-- history grew. The next record has contents too: its delta couldn't be made. No other number fits (`OneCountFits`)
pub record StopsAfter (bytes : List ℕ) (applied : ℕ) (old new : SheetView) : Type 0 where
  pub table : List Record
  pub batches : List Cells
  pub within : length bytes ≤ LONGEST_TABLE
  pub read : IsTable bytes table
  pub said : RecordsSay (joined_history old.history) 0 table batches
  pub assigned : Assigned old.replica old.history (take applied batches) new.history
  pub grown : length old.history < length new.history
  pub next : BeginsFilled (drop applied batches)
