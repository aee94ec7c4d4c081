-- What the records of a table say, record by record, as `csv` gives them.
use Rattle.std.proofs.Common.{◌≡◌, ◌⊎◌, ◌+◌, ◌<◌, ◌≤◌, ◌∷◌, ◌++◌, ◌∙◌, [], ℕ, List, length, max}
use Rattle.std.proofs.Common.{refl, ap, sym, subst, inl, inr, arith, true, false, Option, Some, None}
use Rattle.std.proofs.Common.{Result, Ok, Err, Bor, IfSome, IfNone}
use Rattle.std.proofs.lemmas.Bool.{false≢true}
use Rattle.std.proofs.lemmas.List.{length-map, map-append}
use Rattle.std.proofs.lemmas.List.Sums.{fold-append}
use Rattle.std.specs.Global.{Vec}
use Rattle.csv.specs.Reading.{ExplainsRead, FlexibleStep, Reached, Ready, RowStep, default_config, error_kind, is_io}
use Rattle.csv.specs.Reading.{is_flexible, owned_rows_left, owned_rows_reader}
use Rattle.csv.specs.Reading.{reader_config, reader_state, reader_trim, source_of, strip_bom}
use Rattle.csv.specs.Records.{Row, fields_of}
use Rattle.csv.specs.declared.error.Error.{Error}
use Rattle.csv.specs.declared.error.ErrorKind.{ErrorKind}
use Rattle.csv.specs.declared.error.ErrorKind.TheVariants as kinds
use Rattle.csv.specs.declared.iter.ByteRecordsIntoIter.{ByteRecordsIntoIter}
use Rattle.csv.specs.declared.parser.State.TheVariants as states
use Rattle.csv.specs.declared.reader.Reader.{Reader}
use Rattle.csv.specs.declared.reader.Trim.TheVariants as trims
use Rattle.csv.proofs.ReadFacts.{rows-end, rows-more}
use Rattle.ps_grid.specs.declared.refusal.Refusal.{Refusal}
use Rattle.ps_grid.specs.declared.refusal.Refusal.TheVariants.{Csv, Memory}
use Rattle.ps_grid.specs.declared.size.TheConstants.{ROWS}
use Rattle.ps_content.specs.declared.content.Content.{Content}
use Rattle.ps_delta.specs.Deltas.{joined_history}
use Rattle.ps_delta.specs.State.{State}
use Rattle.ps_sheet.specs.Sheet.{SheetView}
use Rattle.ps_csv.specs.declared.bytes.TheConstants.{LONGEST_TABLE}
use Rattle.ps_csv.specs.declared.table.Table.{Table}
use Rattle.ps_csv.specs.declared.fault.ImportFault.{ImportFault}
use Rattle.ps_csv.specs.Faults.{FirstFault, NextFault, ReaderFails, RecordFault}
use Rattle.ps_csv.specs.Imports.{Assigned, ImportsTable}
use Rattle.ps_csv.specs.Records.{Cells, FieldsSay, IsTable, Record, RecordsSay, most_fields}
use Rattle.ps_csv.specs.Inside.{HasRead, HasReadNothing, cells_of_each, fault_of_kind}

-- one more record
pub records_say-push : (s : State) (n : ℕ) (table : List Record) (fields : Record) (batches : List Cells)
    (here : Cells)
    → RecordsSay s n table batches → n + length table < ROWS → FieldsSay s (n + length table) 0 fields here
    → RecordsSay s n (table ++ fields ∷ []) (batches ++ here ∷ [])
unfolding RecordsSay
records_say-push s n [] fields batches here said lt says =
    let at : n + 0 ≡ n = omega arith in (
      here,
      [],
      omega (arith, lt),
      subst (λ (k : ℕ). FieldsSay s k 0 fields here) at says,
      refl,
      ap (λ (xs : List Cells). xs ++ here ∷ []) said,
    )
records_say-push s n (r ∷ table) fields batches here said lt says =
    let next : n + length (r ∷ table) ≡ (n + 1) + length table = omega arith in
    let says_there = subst (λ (k : ℕ). FieldsSay s k 0 fields here) next says in (
      said.0,
      said.1 ++ here ∷ [],
      said.2,
      said.3,
      records_say-push s (n + 1) table fields said.1 here said.4 (omega (arith, lt)) says_there,
      ap (λ (xs : List Cells). xs ++ here ∷ []) said.5,
    )

-- each record has its cells
pub length-records_say : (s : State) (n : ℕ) (table : List Record) (batches : List Cells)
    → RecordsSay s n table batches
    → length batches ≡ length table
unfolding RecordsSay
length-records_say s n [] batches said = ap (λ (xs : List Cells). length xs) said
length-records_say s n (r ∷ table) batches said =
    let here = ap (λ (xs : List Cells). length xs) said.5 in
    let others = length-records_say s (n + 1) table said.1 said.4 in
    omega (arith, here, others)

pub length-read : (s : State) (table : List Record) (t : Table) → HasRead s table t
    → length t.batches.items ≡ length table
length-read s table t has =
    sym (length-map t.batches.items (λ batch. batch.items))
    ∙ length-records_say s 0 table (cells_of_each t.batches.items) has.said

-- one more record in the table
pub has_read-more : (s : State) (table : List Record) (fields : Record) (t u : Table) (cells : Vec (ℕ × Content))
    → HasRead s table t
    → length t.batches.items < ROWS → FieldsSay s (length t.batches.items) 0 fields cells.items
    → u.batches.items ≡ t.batches.items ++ cells ∷ [] → u.fields ≡ max t.fields (length fields)
    → HasRead s (table ++ fields ∷ []) u
has_read-more s table fields t u cells has lt says batches most =
    let size = length-read s table t has in
    let at : length t.batches.items ≡ 0 + length table = omega (arith, size) in
    let says_there = subst (λ (k : ℕ). FieldsSay s k 0 fields cells.items) at says in
    let said = records_say-push s 0 table fields (cells_of_each t.batches.items) cells.items has.said
    (omega (arith, size, lt)) says_there in
    let each : cells_of_each u.batches.items ≡ cells_of_each t.batches.items ++ cells.items ∷ []
    = ap (λ (xs : List (Vec (ℕ × Content))). cells_of_each xs) batches
    ∙ map-append (λ (batch : Vec (ℕ × Content)). batch.items) t.batches.items (cells ∷ []) in
    let more : most_fields (table ++ fields ∷ []) ≡ max (most_fields table) (length fields)
    = fold-append (λ (most : ℕ) (r : Record). max most (length r)) 0 table (fields ∷ []) in
    record {
      said = subst (λ (xs : List Cells). RecordsSay s 0 (table ++ fields ∷ []) xs) (sym each) said;
      most = most ∙ ap (λ (k : ℕ). max k (length fields)) has.most ∙ sym more;
    }

-- a record past the last row
pub fault_past : (s : State) (table : List Record) (fields : Record) (t : Table) → HasRead s table t
    → ROWS ≤ length t.batches.items
    → (Csv ≡ Memory) ⊎ NextFault s (length table) fields Csv
fault_past s table fields t has le =
    let size = length-read s table t has in
    inr (inl (omega (arith, size, le), refl))

-- a record at fault
pub fault_within : (s : State) (table : List Record) (fields : Record) (t : Table) (e : Refusal) → HasRead s table t
    → length t.batches.items < ROWS → (e ≡ Memory) ⊎ RecordFault s (length t.batches.items) fields e
    → (e ≡ Memory) ⊎ NextFault s (length table) fields e
fault_within s table fields t e has lt (inl memory) = inl memory
fault_within s table fields t e has lt (inr fault) =
    let size = length-read s table t has in
    inr (inr (omega (arith, size, lt), subst (λ (k : ℕ). RecordFault s k fields e) size fault))

-- a reader on its way through the records of these bytes, and the table of those that it has given
pub record IsReading (s : State) (bytes : List ℕ) (it : ByteRecordsIntoIter (Bor (List ℕ))) (t : Table) : Type 0 where
  pub config : reader_config (owned_rows_reader it) ≡ default_config
  pub trim : reader_trim (owned_rows_reader it) ≡ trims.None
  pub flexible : is_flexible (owned_rows_reader it) ≡ true
  pub ready : Ready (owned_rows_reader it)
  pub left : 0 < owned_rows_left it
  pub table : List Record
  pub rest : List ℕ
  pub source : source_of (λ r. Some r.now) (owned_rows_reader it) ≡ Some rest
  pub reached : Reached default_config states.StartRecord (strip_bom bytes) table
      (reader_state (owned_rows_reader it)) rest
  pub read : HasRead s table t

-- a step that gave this
abbrev pub Gave : ByteRecordsIntoIter (Bor (List ℕ)) → ByteRecordsIntoIter (Bor (List ℕ))
    → Option (Result Row Error) → Type 0
Gave a b r = RowStep (λ (x : Bor (List ℕ)). Some x.now) (owned_rows_reader a) (owned_rows_reader b)
    (owned_rows_left b) r

pub reading_starts : (s : State) (bytes : List ℕ) (reader : Reader (Bor (List ℕ)))
    (it : ByteRecordsIntoIter (Bor (List ℕ))) (t : Table)
    → HasReadNothing bytes reader → owned_rows_reader it ≡ reader → 0 < owned_rows_left it → t.batches.items ≡ []
    → t.fields ≡ 0
    → IsReading s bytes it t
unfolding Reached RecordsSay
reading_starts s bytes reader it t fresh is left none zero = record {
  config = ap reader_config is ∙ fresh.config;
  trim = ap reader_trim is ∙ fresh.trim;
  flexible = ap is_flexible is ∙ fresh.flexible;
  ready = rw is (inr (inr (fresh.no_headers, fresh.no_header_row)));
  left = left;
  table = [];
  rest = strip_bom bytes;
  source = rw is fresh.source;
  reached = (sym (ap reader_state is ∙ fresh.state), refl);
  read = record { said = ap (λ (xs : List (Vec (ℕ × Content))). cells_of_each xs) none; most = zero };
}

pub reading_goes_on : (s : State) (bytes : List ℕ) (a b : ByteRecordsIntoIter (Bor (List ℕ))) (t u : Table)
    (row : Row)
    → IsReading s bytes a t → Gave a b (Some (Ok row))
    → FlexibleStep (owned_rows_reader a) (owned_rows_reader b) (Some (Ok row))
    → ((before : List Record) → HasRead s before t → HasRead s (before ++ fields_of row ∷ []) u)
    → IsReading s bytes b u
reading_goes_on s bytes a b t u row on gave kept more =
    let m = rows-more (λ (r : Bor (List ℕ)). Some r.now) (owned_rows_reader a) (owned_rows_reader b)
    (fields_of row) default_config
    states.StartRecord (strip_bom bytes) on.rest on.table on.config on.source on.reached gave.0 in
    record {
      config = gave.0.2 ∙ on.config;
      trim = gave.0.3 ∙ on.trim;
      flexible = kept ∙ on.flexible;
      ready = inl gave.1;
      left = gave.2;
      table = on.table ++ fields_of row ∷ [];
      rest = m.0;
      source = m.1;
      reached = m.2;
      read = more on.table on.read;
    }

pub reading_stops : (s : State) (bytes : List ℕ) (a b : ByteRecordsIntoIter (Bor (List ℕ))) (t : Table)
    (row : Row) (e : Refusal)
    → IsReading s bytes a t → Gave a b (Some (Ok row))
    → ((before : List Record) → HasRead s before t → (e ≡ Memory) ⊎ NextFault s (length before) (fields_of row) e)
    → (e ≡ Memory) ⊎ FirstFault s bytes e
reading_stops s bytes a b t row e on gave fault =
    let m = rows-more (λ (r : Bor (List ℕ)). Some r.now) (owned_rows_reader a) (owned_rows_reader b)
    (fields_of row) default_config
    states.StartRecord (strip_bom bytes) on.rest on.table on.config on.source on.reached gave.0 in
    elim (fault on.table on.read) [
      | inl memory ↦ inl memory
      | inr next ↦ inr (record {
        before = on.table;
        here = fields_of row;
        batches = cells_of_each t.batches.items;
        read = (reader_state (owned_rows_reader b), m.0, m.2);
        said = on.read.said;
        fault = next;
      })
    ]

-- the fault of a text for which `csv` returned an error instead of a record: memory, or its reader failed
pub record IsOfCsv (s : State) (bytes : List ℕ) (f : ImportFault) : Type 0 where
  pub fault : IfNone f.reader_error ((f.refusal ≡ Memory) ⊎ FirstFault s bytes f.refusal)
  pub reader : IfSome f.reader_error (λ error. (f.refusal ≡ Csv) × ReaderFails s bytes error)
  pub none : f.applied ≡ 0

-- an error of `csv` that isn't out of memory says that reading from its source failed
explained : (s : State) (bytes : List ℕ) (a b : ByteRecordsIntoIter (Bor (List ℕ))) (t : Table) (kind : ErrorKind)
    (error : Error)
    → error_kind error ≡ kind
    → IsReading s bytes a t
    → ExplainsRead (λ (r : Bor (List ℕ)). Some r.now) (owned_rows_reader a) (owned_rows_reader b) false kind
    → IsOfCsv s bytes (fault_of_kind kind error)
explained s bytes a b t kinds.OutOfMemory error is on why = record { fault = inl refl; reader = tt; none = refl }
explained s bytes a b t (kinds.Io e) error is on why = record {
  fault = tt;
  reader = (
    refl,
    record {
      before = on.table;
      batches = cells_of_each t.batches.items;
      read = (reader_state (owned_rows_reader a), on.rest, on.reached);
      said = on.read.said;
      of_source = ap is_io is;
    },
  );
  none = refl;
}
explained s bytes a b t (kinds.UnequalLengths pos expected len) error is on why =
    absurd (false≢true (sym why.0 ∙ on.flexible))
explained s bytes a b t (kinds.Utf8 pos err) error is on why = absurd (false≢true why.0)
explained s bytes a b t (kinds.Serialize text) error is on why = absurd why
explained s bytes a b t (kinds.Deserialize pos err) error is on why = absurd why

pub reading_fails : (s : State) (bytes : List ℕ) (a b : ByteRecordsIntoIter (Bor (List ℕ))) (t : Table)
    (error : Error) (f : ImportFault)
    → IsReading s bytes a t → Gave a b (Some (Err error)) → f ≡ fault_of_kind (error_kind error) error
    → IsOfCsv s bytes f
reading_fails s bytes a b t error f on gave is =
    subst (λ (x : ImportFault). IsOfCsv s bytes x) (sym is)
    (explained s bytes a b t (error_kind error) error refl on gave)

pub reading_ends : (s : State) (bytes : List ℕ) (a b : ByteRecordsIntoIter (Bor (List ℕ))) (t : Table)
    → IsReading s bytes a t → Gave a b None → (table : List Record) × IsTable bytes table × HasRead s table t
reading_ends s bytes a b t on gave = (
  on.table,
  (
    reader_state (owned_rows_reader a),
    on.rest,
    on.reached,
    rows-end (λ (r : Bor (List ℕ)). Some r.now) (owned_rows_reader a) (owned_rows_reader b) [] default_config
        on.rest on.config on.source gave,
  ),
  on.read,
)

-- a table that was read and assigned was imported
pub imports_table : (bytes : List ℕ) (table : List Record) (t : Table) (records fields : ℕ) (old new : SheetView)
    → length bytes ≤ LONGEST_TABLE → IsTable bytes table → HasRead (joined_history old.history) table t
    → Assigned old.replica old.history (cells_of_each t.batches.items) new.history → records ≡ length t.batches.items
    → fields ≡ t.fields → ImportsTable bytes records fields old new
imports_table bytes table t records fields old new within is has assigned size most = record {
  table = table;
  batches = cells_of_each t.batches.items;
  within = within;
  read = is;
  said = has.said;
  assigned = assigned;
  records_are = size ∙ length-read (joined_history old.history) table t has;
  fields_are = most ∙ has.most;
}
