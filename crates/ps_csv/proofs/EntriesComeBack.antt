-- The entries of a rectangle, exported and then imported into an empty sheet, are the same entries again.
use Rattle.std.proofs.Common.{◌≡◌, ◌+◌, ◌<◌, ◌∙◌, [], ℕ, List, length, refl, ap, subst, arith, get_or}
use Rattle.std.proofs.lemmas.List.FromFn.{get_or-map-range_with_len, length-map-range_with_len}
use Rattle.ps_grid.specs.Rectangle.{Area, cell_within}
use Rattle.ps_content.specs.Content.{canonical_text}
use Rattle.ps_cells.specs.Settled.{content_of}
use Rattle.ps_delta.specs.State.{empty_cell, empty_state}
use Rattle.ps_delta.specs.Deltas.{Entries, joined_history}
use Rattle.ps_csv.specs.Exports.{CellTexts, entry_text, row_record, row_records}
use Rattle.ps_csv.specs.Laws.{EntriesComeBack}
use Rattle.ps_csv.specs.Records.{Record, RecordsSay, place}
use Rattle.ps_csv.proofs.EntriesHeld.{records_hold}
use Rattle.ps_csv.proofs.ReadsWritten.{ArePlain, canonical_ascii, front, reads_written}

module _ (text : CellTexts) (a : Area) where
  row_at : (k : ℕ) → k < a.height → get_or (row_records text a) k [] ≡ row_record text a k
  unfolding row_records
  row_at k below = get_or-map-range_with_len (row_record text a) 0 a.height k k [] below (omega arith)

  row_length : (k : ℕ) → length (row_record text a k) ≡ a.width
  unfolding row_record
  row_length k = length-map-range_with_len (λ j. text (cell_within a j k)) 0 a.width

  rows_length : length (row_records text a) ≡ a.height
  unfolding row_records
  rows_length = length-map-range_with_len (row_record text a) 0 a.height

  field_at : (j k : ℕ) → j < a.width → get_or (row_record text a k) j [] ≡ text (cell_within a j k)
  unfolding row_record
  field_at j k across =
      get_or-map-range_with_len (λ i. text (cell_within a i k)) 0 a.width j j [] across (omega arith)

  plain : 0 < a.width → ((c : ℕ) → front (text c) < 128) → ArePlain (row_records text a)
  plain some low = record {
    some = λ k lt. let below : k < a.height = omega (arith, lt, rows_length) in
        rw (row_at k below) (omega (arith, row_length k, some));
    ascii = λ k lt. let below : k < a.height = omega (arith, lt, rows_length) in
        rw (row_at k below, field_at 0 k some) (low (cell_within a 0 k));
  }

nothing_yet : (h : List Entries) → h ≡ [] → (c : ℕ) → joined_history h c ≡ empty_cell
unfolding joined_history empty_cell empty_state
nothing_yet h none c = rw none refl

pub entries_come_back : EntriesComeBack
entries_come_back held a records fields old new contents none imports j k across down =
    let text = entry_text held in
    let low = λ (c : ℕ). canonical_ascii (held c) (contents c) in
    let whole = plain text a (omega (arith, across)) low in
    let same = reads_written (row_records text a) imports.table whole imports.read in
    let said = subst (λ (t : List Record). RecordsSay (joined_history old.history) 0 t imports.batches) same
    imports.said in
    let row = row_at text a k down in
    let field : get_or (get_or (row_records text a) k []) j [] ≡ text (cell_within a j k) =
    ap (λ (r : Record). get_or r j []) row ∙ field_at text a j k across in
    let inside : j < length (get_or (row_records text a) k []) =
    omega (arith, ap (λ (r : Record). length r) row, row_length text a k, across) in
    let there : 0 + k ≡ k = omega arith in
    let back = records_hold old.replica (joined_history old.history) 0 (row_records text a) imports.batches old.history
    new.history said imports.assigned (λ c le. nothing_yet old.history none c) k j
    (omega (arith, rows_length text a, down)) inside (held (cell_within a j k)) (contents (cell_within a j k)) field in
    subst (λ q. canonical_text (content_of (joined_history new.history (place q j)))
    ≡ get_or (get_or (row_records text a) k []) j []) there back ∙ field
