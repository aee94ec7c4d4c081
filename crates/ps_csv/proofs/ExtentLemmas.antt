-- A table that was read lies in the grid, and each of its records has a field.
use Rattle.std.proofs.Common.{◌≡◌, ◌+◌, ◌<◌, ◌≤◌, ◌∷◌, ◌++◌, [], ℕ, List, length, max, Bool, true, false, if◌then◌else◌}
use Rattle.std.proofs.Common.{◌∙◌, refl, sym, subst, arith, Option, Some, None}
use Rattle.std.specs.Prelude.{fold}
use Rattle.std.proofs.lemmas.Bool.{false≢true}
use Rattle.std.proofs.lemmas.List.{length-append}
use Rattle.csv.specs.Machine.{Read, ends_at_end, field_after, fields_after, is_end, next_record, step}
use Rattle.csv.specs.Reading.{Reached}
use Rattle.csv.specs.declared.parser.Action.{Action}
use Rattle.csv.specs.declared.parser.Action.TheVariants as actions
use Rattle.csv.specs.declared.parser.Config.{Config}
use Rattle.csv.specs.declared.parser.State.{State as ReaderState}
use Rattle.csv.specs.declared.parser.State.TheVariants as states
use Rattle.ps_grid.specs.declared.size.TheConstants.{COLUMNS, ROWS}
use Rattle.ps_delta.specs.State.{State}
use Rattle.ps_csv.specs.declared.table.Table.{Table}
use Rattle.ps_csv.specs.Records.{Cells, FieldsSay, IsTable, Record, RecordsSay, most_fields}
use Rattle.ps_csv.specs.Inside.{HasRead, cells_of_each}
use Rattle.ps_csv.proofs.TableLemmas.{length-read}

fields_within : (s : State) (n j : ℕ) (fields : Record) (cells : Cells) → j ≤ COLUMNS → FieldsSay s n j fields cells
    → j + length fields ≤ COLUMNS
unfolding FieldsSay
fields_within s n j [] cells le said = omega (arith, le)
fields_within s n j (f ∷ fields) cells le said =
    let within : j < COLUMNS = said.2 in
    let later = fields_within s n (j + 1) fields said.1 (omega (arith, within)) said.4 in
    omega (arith, later)

records_within : (s : State) (n : ℕ) (table : List Record) (batches : List Cells) → n ≤ ROWS
    → RecordsSay s n table batches → n + length table ≤ ROWS
unfolding RecordsSay
records_within s n [] batches le said = omega (arith, le)
records_within s n (r ∷ table) batches le said =
    let within : n < ROWS = said.2 in
    let later = records_within s (n + 1) table said.1 (omega (arith, within)) said.4 in
    omega (arith, later)

-- the maximum of m and of the numbers of fields
abbrev most_from : ℕ → List Record → ℕ
most_from m table = fold (λ most fields. max most (length fields)) m table

most_within : (s : State) (n m : ℕ) (table : List Record) (batches : List Cells) → m ≤ COLUMNS
    → RecordsSay s n table batches → most_from m table ≤ COLUMNS
unfolding RecordsSay
most_within s n m [] batches le said = le
most_within s n m (r ∷ table) batches le said =
    let within = fields_within s n 0 r said.0 (omega arith) said.3 in
    most_within s (n + 1) (max m (length r)) table said.1 (omega (arith, le, within)) said.4

most_least : (m : ℕ) (table : List Record) → m ≤ most_from m table
most_least m [] = omega arith
most_least m (r ∷ table) =
    let later = most_least (max m (length r)) table in
    omega (arith, later)

-- what ends a record ends a field of it
ended : (a : Action) (fields : Record) (field : List ℕ) → is_end a ≡ true → 0 < length (fields_after a fields field)
ended actions.EndRecord fields field is = omega (arith, length-append fields (field ∷ []))
ended actions.Skip fields field is = absurd (false≢true is)
ended actions.Copy fields field is = absurd (false≢true is)
ended actions.EndField fields field is = absurd (false≢true is)

given : (x p : Read) → ◌≡◌ {A = Option Read} (Some x) (Some p) → 0 < length x.0 → 0 < length p.0
given x p is lt =
    let same : x ≡ p = cc in
    subst (λ (q : Read). 0 < length q.0) same lt

next_has_field : (config : Config) (s : ReaderState) (fields : Record) (field bytes : List ℕ) (p : Read)
    → next_record config s fields field bytes ≡ Some p → 0 < length p.0
unfolding next_record
next_has_field config s fields field [] p is = at_end (ends_at_end s) is
  where
    at_end : (b : Bool)
        → ◌≡◌ {A = Option Read} (if b then Some (fields ++ (field ∷ []), states.StartRecord, []) else None) (Some p)
        → 0 < length p.0
    at_end true e = given _ p e (omega (arith, length-append fields (field ∷ [])))
    at_end false e = cc
next_has_field config s fields field (c ∷ rest) p is =
    at_byte (is_end (step config s c).1) refl is
    (next_has_field config (step config s c).0 (fields_after (step config s c).1 fields field)
    (field_after (step config s c).1 c field) rest p)
  where
    at_byte : (b : Bool) → is_end (step config s c).1 ≡ b
        → ◌≡◌ {A = Option Read}
        (if b then Some (fields_after (step config s c).1 fields field, (step config s c).0, rest)
        else next_record config (step config s c).0 (fields_after (step config s c).1 fields field)
        (field_after (step config s c).1 c field) rest) (Some p)
        → (next_record config (step config s c).0 (fields_after (step config s c).1 fields field)
        (field_after (step config s c).1 c field) rest ≡ Some p → 0 < length p.0)
        → 0 < length p.0
    at_byte true ends e later = given _ p e (ended (step config s c).1 fields field ends)
    at_byte false ends e later = later e

first_has_field : (config : Config) (s t : ReaderState) (bytes rest : List ℕ) (fields : Record) (table : List Record)
    → Reached config s bytes (fields ∷ table) t rest → 0 < length fields
unfolding Reached
first_has_field config s t bytes rest fields table reached =
    let some = next_has_field config s [] [] bytes reached.0 reached.1 in
    subst (λ (r : Record). 0 < length r) (sym reached.2) some

some_field : (bytes : List ℕ) (table : List Record) → IsTable bytes table → 0 < length table → 0 < most_fields table
some_field bytes [] is lt = absurd (omega (arith, lt))
some_field bytes (fields ∷ table) is lt =
    let first = first_has_field _ _ is.0 _ is.1 fields table is.2 in
    let most = most_least (max 0 (length fields)) table in
    omega (arith, first, most)

pub extent : (s : State) (bytes : List ℕ) (table : List Record) (t : Table) (records fields : ℕ)
    → IsTable bytes table → HasRead s table t → records ≡ length t.batches.items → fields ≡ t.fields
    → (records ≤ ROWS) × (fields ≤ COLUMNS) × (0 < records → 0 < fields)
extent s bytes table t records fields is has size most =
    let told : records ≡ length table = size ∙ length-read s table t has in
    let widest : fields ≡ most_fields table = most ∙ has.most in
    let rows = records_within s 0 table (cells_of_each t.batches.items) (omega arith) has.said in
    let columns = most_within s 0 0 table (cells_of_each t.batches.items) (omega arith) has.said in (
      omega (arith, told, rows),
      omega (arith, widest, columns),
      λ lt. omega (arith, widest, some_field bytes table is (omega (arith, told, lt))),
    )
