use Rattle.std.proofs.Common.{◌<◌, ◌∙◌, ap, refl}
use Rattle.std.proofs.lemmas.Result.{err_from_is_err_and}
use Rattle.csv.specs.Reading.{owned_rows_left, owned_rows_reader}
use Rattle.ps_delta.specs.Deltas.{joined_history}
use Rattle.ps_csv.proofs.TableLemmas.{IsOfCsv, reading_fails, reading_goes_on, reading_starts, reading_stops}
use Rattle.ps_csv.proofs.table.read_table.Goals as goal
use Rattle.ps_csv.proofs.table.read_table.Given.{Over}
use Rattle.ps_csv.proofs.table.read_table.Goals.{After-drop-table-in-Err}

pub loop-row-init : goal.loop-row-init
loop-row-init g c =
    let s = joined_history c.args.sheet.now.history in
    let same = c.into_iter-row-iterator.ensures.into_iter_gives in
    let left : 0 < owned_rows_left c.into_iter-row-iterator.result = rw same
    c.into_byte_records-row-items.ensures.left in
    reading_starts s c.args.bytes.now c.new_reader.result _ _ c.new_reader.ensures
    (ap (λ it. owned_rows_reader it) same ∙ c.into_byte_records-row-items.ensures.rdr) left c.new.ensures.items refl

pub returns-in_err-take_record-in-Ok-clause-fault : goal.returns-in_err-take_record-in-Ok-clause-fault
returns-in_err-take_record-in-Ok-clause-fault g c =
    let s = joined_history c.args.sheet.now.history in
    let p = err_from_is_err_and c.from_residual.result c.from_residual.ensures.1 in
    let inv = c.loop-row.invariant in
    let gave = rw (c.in-Some.is, c.in-Ok.is) at ((c.next.ensures.steps inv.left inv.trim).0 inv.ready) in
    rw (p.1, p.2)
    (reading_stops s c.args.bytes.now c.loop-row.row-iterator c.next.new.self
    c.loop-row.table c.in-Ok.row
    c.in_err-take_record-in-Ok.field-0.0 inv gave c.in_err-take_record-in-Ok.ensures.fault)

-- the fault if `csv` returns an error instead of a record
of_error : (g : Over) (c : After-drop-table-in-Err g)
    → IsOfCsv (joined_history c.args.sheet.now.history) c.args.bytes.now c.fault_of.result
of_error g c =
    let inv = c.loop-row.invariant in
    let gave = rw (c.in-Some.is, c.in-Err.is) at ((c.next.ensures.steps inv.left inv.trim).0 inv.ready) in
    reading_fails (joined_history c.args.sheet.now.history) c.args.bytes.now c.loop-row.row-iterator c.next.new.self
    c.loop-row.table c.in-Err.error c.fault_of.result inv gave c.fault_of.ensures

pub returns-in-Err-clause-fault : goal.returns-in-Err-clause-fault
returns-in-Err-clause-fault g c = (of_error g c).fault

pub returns-in-Err-clause-reader : goal.returns-in-Err-clause-reader
returns-in-Err-clause-reader g c = (of_error g c).reader

pub returns-in-Err-clause-none : goal.returns-in-Err-clause-none
returns-in-Err-clause-none g c = (of_error g c).none

pub loop-row-preserved : goal.loop-row-preserved
loop-row-preserved g c =
    let s = joined_history c.args.sheet.now.history in
    let inv = c.loop-row.invariant in
    let steps = c.next.ensures.steps inv.left inv.trim in
    let gave = rw (c.in-Some.is, c.in-Ok.is) at (steps.0 inv.ready) in
    let kept = rw (c.in-Some.is, c.in-Ok.is) at steps.3 in
    reading_goes_on s c.args.bytes.now c.loop-row.row-iterator c.next.new.self
    c.loop-row.table
    c.take_record.new.table c.in-Ok.row inv gave kept c.in_ok-take_record-in-Ok.ensures.read
