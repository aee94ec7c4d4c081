-- LAWS of tables.
use Rattle.std.specs.Prelude.{◌≡◌, ℕ, ◌<◌, List, []}
use Rattle.ps_grid.specs.Rectangle.{Area, cell_within}
use Rattle.ps_content.specs.Content.{IsContent}
use Rattle.ps_sheet.specs.Sheet.{SheetView}
use Rattle.ps_csv.specs.Exports.{Holdings, entry_text, exported_entries, held_in}
use Rattle.ps_csv.specs.Imports.{ImportsTable, StopsAfter}
use Rattle.ps_csv.specs.Records.{place}

-- LAW: the entries of a rectangle are exported as a table, and the table is imported into an empty sheet. Then the
-- sheet has the same entries, in a rectangle of the same size that begins at the first cell of the grid
abbrev pub EntriesComeBack : Type 0
EntriesComeBack =
    (held : Holdings) (a : Area) (records fields : ℕ) (old new : SheetView) → ((c : ℕ) → IsContent (held c))
    → old.history ≡ [] → ImportsTable (exported_entries held a) records fields old new
    → (j k : ℕ) → j < a.width → k < a.height
    → entry_text (held_in new.history) (place k j) ≡ entry_text held (cell_within a j k)

-- LAW: if an import stops amid the records, one number alone fits the table and what became of the sheet
abbrev pub OneCountFits : Type 0
OneCountFits =
    (bytes : List ℕ) (old new : SheetView) (n m : ℕ) → StopsAfter bytes n old new → StopsAfter bytes m old new → n ≡ m
