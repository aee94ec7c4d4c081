-- A table's text, record by record.
use Rattle.std.proofs.Common.{◌≡◌, ◌≢◌, ◌==◌, ◌≤◌, ◌+◌, ◌^◌, ◌-◌, ◌∷◌, ◌++◌, ◌∙◌, [], ℕ, List, map, length, min, not}
use Rattle.std.proofs.Common.{true, false, Option, Some, None, Result, Ok, Err, IfOk}
use Rattle.std.proofs.Common.{refl, ap, arith, append_assoc, length-append}
use Rattle.std.specs.Io.KnownBytes.{Appends}
use Rattle.std.specs.List.{flat_map, range_with_len}
use Rattle.std.proofs.lemmas.List.{append-nil}
use Rattle.std.proofs.lemmas.List.Concat.{flat_map-append}
use Rattle.std.proofs.lemmas.List.FromFn.{length-map-range_with_len, map-range_with_len_more}
use Rattle.std.specs.Global.{Vec}
use Rattle.csv.specs.Writing.{default_writer, field_text, fields_written, has_written, is_blank, next_sep, row_body}
use Rattle.csv.specs.Writing.{row_text, tail_text, text_written, writer_setup}
use Rattle.csv.proofs.WriteFacts.{blank-more, row-final, row-more}
use Rattle.csv.specs.declared.writer.QuoteStyle.TheVariants as style
use Rattle.csv.specs.declared.writer.Writer.{Writer}
use Rattle.csv.specs.declared.writer.WriterBuilder.{WriterBuilder}
use Rattle.ps_grid.specs.declared.refusal.Refusal.{Refusal}
use Rattle.ps_grid.specs.Rectangle.{Area, cell_within}
use Rattle.ps_csv.specs.Exports.{CellTexts, row_record, row_records, table_text}
use Rattle.ps_csv.specs.Inside.{HasWritten, IsWriting}
use Rattle.ps_csv.specs.Records.{Record}

-- the first fields of a row's record
abbrev pub first_fields : CellTexts → Area → ℕ → ℕ → List (List ℕ)
first_fields v a k n = map (λ j. v (cell_within a j k)) (range_with_len 0 n)

pub first_fields-more : (v : CellTexts) (a : Area) (k n : ℕ)
    → first_fields v a k (n + 1) ≡ first_fields v a k n ++ v (cell_within a n k) ∷ []
first_fields-more v a k n = map-range_with_len_more (λ j. v (cell_within a j k)) 0 n n (omega arith)

pub first_fields-all : (v : CellTexts) (a : Area) (k : ℕ) → first_fields v a k a.width ≡ row_record v a k
unfolding row_record
first_fields-all v a k = refl

pub first_fields-length : (v : CellTexts) (a : Area) (k n : ℕ) → length (first_fields v a k n) ≡ n
first_fields-length v a k n = length-map-range_with_len (λ j. v (cell_within a j k)) 0 n

-- the text of the first records of a table
abbrev pub first_records : CellTexts → Area → ℕ → List ℕ
first_records v a n = table_text (map (row_record v a) (range_with_len 0 n))

pub first_records-none : (v : CellTexts) (a : Area) → first_records v a 0 ≡ []
unfolding table_text
first_records-none v a = refl

pub first_records-more : (v : CellTexts) (a : Area) (n : ℕ)
    → first_records v a (n + 1) ≡ first_records v a n ++ row_text default_writer (row_record v a n)
unfolding table_text
first_records-more v a n =
    let before = map (row_record v a) (range_with_len 0 n) in
    let one = row_text default_writer (row_record v a n) in
    ap (flat_map (row_text default_writer)) (map-range_with_len_more (row_record v a) 0 n n (omega arith))
    ∙ flat_map-append (row_text default_writer) before (row_record v a n ∷ [])
    ∙ ap (λ (t : List ℕ). flat_map (row_text default_writer) before ++ t) (append-nil one)

pub first_records-all : (v : CellTexts) (a : Area) → first_records v a a.height ≡ table_text (row_records v a)
unfolding row_records
first_records-all v a = refl

-- the text that a finished writer gives
pub finished : (r : Result (Vec ℕ) Refusal) (w : Writer (Vec ℕ)) (written : List ℕ)
    → IfOk r (λ t. (text : List ℕ) → HasWritten w text → t.items ≡ text) → HasWritten w written
    → IfOk r (λ t. t.items ≡ written)
finished (Ok t) w written h has = h written has
finished (Err e) w written h has = tt

-- what a writer has written after a record is what it has before the next one
pub writing-begins : (w : Writer (Vec ℕ)) (written : List ℕ) → HasWritten w written → IsWriting w written []
unfolding is_blank
writing-begins w written has = record {
  setup = has.setup;
  count = has.fields;
  blank = rw has.whole refl;
  bytes = rw (append-nil written) has.bytes;
}

-- the text after one piece was appended to a known text
appended : (old new : Option (List ℕ)) (written more : List ℕ) → old ≡ Some written → Appends old new more
    → new ≡ Some (written ++ more)
appended old None written more is appends = absurd (rw is at appends)
appended old (Some now) written more is appends = ap (λ (t : List ℕ). Some t) (rw is at appends)

-- the other way round: the known text, from the text after the piece
appends_known : (o : Option (List ℕ)) (written more : List ℕ) → o ≡ Some (written ++ more)
    → Appends (Some written) o more
appends_known o written more is = rw is refl

-- the writer doesn't look at numbers
abbrev pub IsPlain : Writer (Vec ℕ) → Type 0
IsPlain w = (writer_setup w).style ≢ style.NonNumeric

plain : (cfg : WriterBuilder) → cfg ≡ default_writer → cfg.style ≢ style.NonNumeric
plain cfg is = rw is (λ (h : style.Necessary ≡ style.NonNumeric). cc h)

-- one more field of a record
pub writing-goes_on : (old new : Writer (Vec ℕ)) (written : List ℕ) (fields : Record) (field : List ℕ)
    → length fields + 1 ≤ 2 ^ 64 - 1 → IsWriting old written fields
    → writer_setup new ≡ writer_setup old
    → fields_written new ≡ min (fields_written old + 1) (2 ^ 64 - 1)
    → (has_written old ≡ false → IsPlain old
    → has_written new ≡ not (length (field_text (writer_setup old) field) == 0))
    → (has_written old ≡ true → has_written new ≡ true)
    → (IsPlain old → Appends (text_written (λ v. Some v.items) old) (text_written (λ v. Some v.items) new)
    (next_sep (writer_setup old) (fields_written old) ++ field_text (writer_setup old) field))
    → IsWriting new written (fields ++ field ∷ [])
writing-goes_on old new written fields field few has setup count shows stays appends =
    let size = length-append fields (field ∷ []) in
    let is_plain = plain (writer_setup old) has.setup in
    let body = row-more default_writer fields field in
    let more : text_written (λ v. Some v.items) new ≡ Some ((written ++ row_body default_writer fields)
    ++ (next_sep default_writer (length fields) ++ field_text default_writer field)) =
    appended (text_written (λ v. Some v.items) old) (text_written (λ v. Some v.items) new)
    (written ++ row_body default_writer fields)
    (next_sep default_writer (length fields) ++ field_text default_writer field) has.bytes
    (rw (has.setup, has.count) at (appends is_plain)) in
    record {
      setup = setup ∙ has.setup;
      count = rw (count, has.count, size) (omega (arith, few));
      blank = rw size (blank-more default_writer fields field (has_written old) (has_written new) has.blank
          (λ none. rw has.setup at (shows none is_plain)) stays);
      bytes = rw (
        body,
        ← append_assoc written (row_body default_writer fields)
            (next_sep default_writer (length fields) ++ field_text default_writer field),
      ) more;
    }

-- a record ends
pub writing-ends : (old new : Writer (Vec ℕ)) (written : List ℕ) (fields : Record) → IsWriting old written fields
    → writer_setup new ≡ writer_setup old → fields_written new ≡ 0 → has_written new ≡ false
    → Appends (text_written (λ v. Some v.items) old) (text_written (λ v. Some v.items) new)
    (tail_text (writer_setup old) (has_written old) (fields_written old))
    → HasWritten new (written ++ row_text default_writer fields)
writing-ends old new written fields has setup none whole appends =
    let begun = appends_known (text_written (λ v. Some v.items) old) written (row_body default_writer fields)
    has.bytes in
    let tail = rw (has.setup, has.count) at appends in
    let row = row-final (Some written) (text_written (λ v. Some v.items) old) (text_written (λ v. Some v.items) new)
    default_writer fields (has_written old) (length fields) begun has.blank tail in
    record {
      setup = setup ∙ has.setup;
      fields = none;
      whole = whole;
      bytes = appended (Some written) (text_written (λ v. Some v.items) new) written (row_text default_writer fields)
          refl row;
    }
