-- What the contracts of private functions say; no public contract cites these.
use Rattle.std.specs.Prelude.{◌≡◌, ◌==◌, ◌&&◌, ◌||◌, ◌++◌, ℕ, List, map, length, true, false, not, Some, None}
use Rattle.std.specs.Borrow.{Bor}
use Rattle.std.specs.Global.{Vec}
use Rattle.csv.specs.Reading.{default_config, is_flexible, names_headers, reader_config, reader_headers}
use Rattle.csv.specs.Reading.{reader_state, reader_trim, source_of, strip_bom}
use Rattle.csv.specs.Writing.{default_writer, fields_written, has_written, is_blank, row_body, text_written}
use Rattle.csv.specs.Writing.{writer_setup}
use Rattle.csv.specs.declared.error.Error.{Error}
use Rattle.csv.specs.declared.error.ErrorKind.{ErrorKind}
use Rattle.csv.specs.declared.error.ErrorKind.TheVariants as kinds
use Rattle.csv.specs.declared.parser.State.TheVariants as states
use Rattle.csv.specs.declared.reader.Reader.{Reader}
use Rattle.csv.specs.declared.reader.Trim.TheVariants as trims
use Rattle.csv.specs.declared.writer.Writer.{Writer}
use Rattle.ps_grid.specs.declared.refusal.Refusal.TheVariants.{Csv, Memory}
use Rattle.ps_content.specs.declared.content.Content.{Content}
use Rattle.ps_delta.specs.State.{State}
use Rattle.ps_csv.specs.declared.fault.ImportFault.{ImportFault}
use Rattle.ps_csv.specs.declared.table.Table.{Table}
use Rattle.ps_csv.specs.Faults.{refused_as}
use Rattle.ps_csv.specs.Records.{Cells, Record, RecordsSay, most_fields}

-- the cells of each record
abbrev pub cells_of_each : List (Vec (ℕ × Content)) → List Cells
cells_of_each batches = map (λ batch. batch.items) batches

-- the table has what these records say
pub record HasRead (s : State) (table : List Record) (t : Table) : Type 0 where
  pub said : RecordsSay s 0 table (cells_of_each t.batches.items)
  pub most : t.fields ≡ most_fields table

-- a reader of these bytes that has read nothing yet, by `csv`'s defaults but with no header row and with records of any
-- length
pub record HasReadNothing (bytes : List ℕ) (reader : Reader (Bor (List ℕ))) : Type 0 where
  pub config : reader_config reader ≡ default_config
  pub trim : reader_trim reader ≡ trims.None
  pub flexible : is_flexible reader ≡ true
  pub no_headers : names_headers reader ≡ false
  pub no_header_row : reader_headers reader ≡ None
  pub state : reader_state reader ≡ states.StartRecord
  pub source : source_of (λ s. Some s.now) reader ≡ Some (strip_bom bytes)

-- the fault of an error of `csv` of this kind
abbrev pub fault_of_kind : ErrorKind → Error → ImportFault
fault_of_kind kinds.OutOfMemory error = refused_as Memory
fault_of_kind _ error = record { refusal = Csv; applied = 0; reader_error = Some error }

-- the writer has `csv`'s defaults, stands after a record, and has written this text so far
pub record HasWritten (w : Writer (Vec ℕ)) (written : List ℕ) : Type 0 where
  pub setup : writer_setup w ≡ default_writer
  pub fields : fields_written w ≡ 0
  pub whole : has_written w ≡ false
  pub bytes : text_written (λ v. Some v.items) w ≡ Some written

-- the writer has `csv`'s defaults, and has written this text and then these fields of a record that isn't ended
pub record IsWriting (w : Writer (Vec ℕ)) (written : List ℕ) (fields : Record) : Type 0 where
  pub setup : writer_setup w ≡ default_writer
  pub count : fields_written w ≡ length fields
  pub blank : is_blank default_writer fields
      ≡ (not (has_written w) && ((length fields == 0) || (length fields == 1)))
  pub bytes : text_written (λ v. Some v.items) w ≡ Some (written ++ row_body default_writer fields)
