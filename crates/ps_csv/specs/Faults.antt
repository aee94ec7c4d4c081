-- Why the import of a table fails.
use Rattle.std.specs.Prelude.{◌≡◌, ◌≢◌, ◌⊎◌, ℕ, ◌<◌, ◌≤◌, true, List, [], ◌∷◌, ◌++◌, length, Option, None, Ok, Err}
use Rattle.std.specs.Io.KnownBytes.{Consumes}
use Rattle.csv.specs.Reading.{error_kind, is_io}
use Rattle.csv.specs.declared.error.Error.{Error}
use Rattle.ps_grid.specs.declared.refusal.Refusal.{Refusal}
use Rattle.ps_grid.specs.declared.refusal.Refusal.TheVariants.{ClockFull, Csv, Device, Memory}
use Rattle.ps_grid.specs.declared.size.TheConstants.{COLUMNS, ROWS}
use Rattle.ps_content.specs.declared.content.Content.{Content}
use Rattle.ps_content.specs.Entry.{Reads, kind_of}
use Rattle.ps_delta.specs.State.{State}
use Rattle.ps_sheet.specs.Edits.{is_clock_full}
use Rattle.ps_csv.specs.declared.bytes.TheConstants.{LONGEST_TABLE}
use Rattle.ps_csv.specs.declared.fault.ImportFault.{ImportFault}
use Rattle.ps_csv.specs.Imports.{ReadToEnd}
use Rattle.ps_csv.specs.Records.{BeginsTable, Cells, FieldsSay, Record, RecordsSay, place}

-- TOO MANY BYTES: more bytes were read from the source than a table may have
pub record TooManyBytes (old new : Option (List ℕ)) : Type 0 where
  pub bytes : List ℕ
  pub consumed : Consumes old new bytes
  pub beyond : LONGEST_TABLE < length bytes

-- e is the refusal of a field for the cell c: that of its entry, or else ClockFull if the cell's register has the last
-- time
unfoldable pub EntryFault : State → ℕ → List ℕ → Refusal → Type 0
EntryFault s c [] e = ⊥
EntryFault s c (b ∷ bs) e =
    (Reads (kind_of (b ∷ bs)) (b ∷ bs) (Err e) × (e ≢ Memory))
    ⊎ ((content : Content) × Reads (kind_of (b ∷ bs)) (b ∷ bs) (Ok content) × (is_clock_full (s c) ≡ true)
    × (e ≡ ClockFull))

-- e is the refusal of field j of record n; a field past the last column is refused whatever it holds
abbrev pub FieldFault : State → ℕ → ℕ → List ℕ → Refusal → Type 0
FieldFault s n j field e = ((COLUMNS ≤ j) × (e ≡ Csv)) ⊎ ((j < COLUMNS) × EntryFault s (place n j) field e)

-- e is the first fault of record n: that of a field after fields that have none
pub record RecordFault (s : State) (n : ℕ) (fields : Record) (e : Refusal) : Type 0 where
  pub before : Record
  pub field : List ℕ
  pub after : Record
  pub cells : Cells
  pub split : fields ≡ before ++ field ∷ after
  pub said : FieldsSay s n 0 before cells
  pub fault : FieldFault s n (length before) field e

-- e is the first fault of the record `here`, the n-th; a record past the last row is refused whatever its fields hold
abbrev pub NextFault : State → ℕ → Record → Refusal → Type 0
NextFault s n here e = ((ROWS ≤ n) × (e ≡ Csv)) ⊎ ((n < ROWS) × RecordFault s n here e)

-- FIRST FAULT of a text, in reading order: that of a record after records that have none
pub record FirstFault (s : State) (bytes : List ℕ) (e : Refusal) : Type 0 where
  pub before : List Record
  pub here : Record
  pub batches : List Cells
  pub read : BeginsTable bytes (before ++ here ∷ [])
  pub said : RecordsSay s 0 before batches
  pub fault : NextFault s (length before) here e

-- CSV'S OWN READER FAILED with this error after the first records, which have no fault: the error says that reading
-- from its source failed. The source is bytes in memory, but no contract of `csv` excludes this error for them. Its
-- contracts exclude all other errors except out of memory
pub record ReaderFails (s : State) (bytes : List ℕ) (error : Error) : Type 0 where
  pub before : List Record
  pub batches : List Cells
  pub read : BeginsTable bytes before
  pub said : RecordsSay s 0 before batches
  pub of_source : is_io (error_kind error) ≡ true

-- a source with the bytes `old` was read to its end, a table may have so many bytes, and P holds of them
abbrev pub WholeTable : Option (List ℕ) → Option (List ℕ) → (List ℕ → Type 0) → Type 0
WholeTable old new P = ReadToEnd old new (λ bytes. (length bytes ≤ LONGEST_TABLE) × P bytes)

-- why a source's table is refused: memory, a device, too many bytes, or the first fault of its text
abbrev pub TableFault : State → Option (List ℕ) → Option (List ℕ) → Refusal → Type 0
TableFault s old new e =
    (e ≡ Memory) ⊎ (e ≡ Device) ⊎ ((e ≡ Csv) × TooManyBytes old new)
    ⊎ WholeTable old new (λ bytes. FirstFault s bytes e)

-- a source's table is refused because `csv`'s own reader failed
abbrev pub TableReaderFails : State → Option (List ℕ) → Option (List ℕ) → Refusal → Error → Type 0
TableReaderFails s old new e error = (e ≡ Csv) × WholeTable old new (λ bytes. ReaderFails s bytes error)

-- the fault of a refusal with nothing assigned
abbrev pub refused_as : Refusal → ImportFault
refused_as refusal = record { refusal = refusal; applied = 0; reader_error = None }
