-- What the records of a table say: field j of record n, both counted from 0, is an entry for its cell.
use Rattle.std.specs.Prelude.{◌≡◌, ℕ, ◌+◌, ◌*◌, ◌<◌, false, List, [], ◌∷◌, ◌++◌, length, max, Ok, fold}
use Rattle.csv.specs.Reading.{AreRecords, Reached, default_config, strip_bom}
use Rattle.csv.specs.declared.parser.State.{State as ReaderState}
use Rattle.csv.specs.declared.parser.State.TheVariants as reader
use Rattle.ps_grid.specs.declared.size.TheConstants.{COLUMNS, ROWS}
use Rattle.ps_content.specs.declared.content.Content.{Content}
use Rattle.ps_content.specs.Entry.{Reads, kind_of}
use Rattle.ps_delta.specs.State.{State}
use Rattle.ps_sheet.specs.Edits.{is_clock_full}

-- the fields of a record
abbrev pub Record : Type 0
Record = List (List ℕ)

-- cells with contents, in order
abbrev pub Cells : Type 0
Cells = List (ℕ × Content)

-- the cell of field j of record n
abbrev pub place : ℕ → ℕ → ℕ
place n j = n * COLUMNS + j

-- a field that isn't empty says the content of its entry for the cell c, whose register doesn't have the last time;
-- an empty field says nothing
unfoldable pub FieldSays : State → ℕ → List ℕ → Cells → Type 0
FieldSays s c [] cells = cells ≡ []
FieldSays s c (b ∷ bs) cells = (content : Content) × Reads (kind_of (b ∷ bs)) (b ∷ bs) (Ok content)
    × (is_clock_full (s c) ≡ false) × (cells ≡ (c, content) ∷ [])

-- the fields of record n from the j-th on say these cells; none stands past the last column
unfoldable pub FieldsSay : State → ℕ → ℕ → Record → Cells → Type 0
FieldsSay s n j [] cells = cells ≡ []
FieldsSay s n j (field ∷ fields) cells = (here : Cells) × (others : Cells) × (j < COLUMNS)
    × FieldSays s (place n j) field here × FieldsSay s n (j + 1) fields others × (cells ≡ here ++ others)

-- the records from the n-th on say these cells, each its own; none stands past the last row
unfoldable pub RecordsSay : State → ℕ → List Record → List Cells → Type 0
RecordsSay s n [] batches = batches ≡ []
RecordsSay s n (record_n ∷ table) batches = (here : Cells) × (others : List Cells) × (n < ROWS)
    × FieldsSay s n 0 record_n here × RecordsSay s (n + 1) table others × (batches ≡ here ∷ others)

-- these are all the records of a text, as `csv` reads them with no header row
abbrev pub IsTable : List ℕ → List Record → Type 0
IsTable bytes table = AreRecords default_config reader.StartRecord (strip_bom bytes) table

-- these are the first records of a text, as `csv` reads them with no header row
abbrev pub BeginsTable : List ℕ → List Record → Type 0
BeginsTable bytes table =
    (state : ReaderState) × (rest : List ℕ) × Reached default_config reader.StartRecord (strip_bom bytes) table
    state rest

-- the greatest number of fields in a record
abbrev pub most_fields : List Record → ℕ
most_fields table = fold (λ most fields. max most (length fields)) 0 table
