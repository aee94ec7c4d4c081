use Rattle.std.proofs.Common.{◌≡◌, ◌⊎◌, ◌<◌, ◌≤◌, ◌∙◌, ap, subst, length, max, arith, rules, ℕ}
use Rattle.std.proofs.lemmas.Result.{err_from_is_err_and}
use Rattle.csv.specs.Records.{fields_of}
use Rattle.ps_grid.specs.declared.size.TheConstants.{ROWS}
use Rattle.ps_grid.specs.declared.refusal.Refusal.TheVariants.{Memory}
use Rattle.ps_delta.specs.Deltas.{joined_history}
use Rattle.ps_csv.specs.Faults.{RecordFault}
use Rattle.ps_csv.specs.Records.{FieldsSay}
use Rattle.ps_csv.proofs.TableLemmas.{fault_past, fault_within, has_read-more}
use Rattle.ps_csv.proofs.table.take_record.Goals as goal

pub returns-then-n-ge-ROWS-clause-fault : goal.returns-then-n-ge-ROWS-clause-fault
returns-then-n-ge-ROWS-clause-fault g c =
    let s = joined_history c.args.sheet.now.history in
    λ before has.
    let size : c.len-n.result ≡ length c.args.table.now.batches.items = search rules in
    let past : ROWS ≤ length c.args.table.now.batches.items = omega (arith, size) in
    fault_past s before (fields_of c.args.fields.now) c.args.table.now has past

pub returns-in_err-cells-clause-fault : goal.returns-in_err-cells-clause-fault
returns-in_err-cells-clause-fault g c =
    let s = joined_history c.args.sheet.now.history in
    let p = err_from_is_err_and c.from_residual.result c.from_residual.ensures.1 in
    rw (p.1, p.2) (λ before has.
    let size : c.len-n.result ≡ length c.args.table.now.batches.items = search rules in
    let within : length c.args.table.now.batches.items < ROWS = omega (arith, size) in
    let fields = fields_of c.args.fields.now in
    let e = c.in_err-cells.field-0.0 in
    let fault = subst (λ (k : ℕ). (e ≡ Memory) ⊎ RecordFault s k fields e) size
    c.in_err-cells.ensures.fault in
    fault_within s before fields c.args.table.now e has within fault)

pub returns-clause-read : goal.returns-clause-read
returns-clause-read g c =
    let s = joined_history c.args.sheet.now.history in
    λ before has.
    let size : c.len-n.result ≡ length c.args.table.now.batches.items = search rules in
    let within : length c.args.table.now.batches.items < ROWS = omega (arith, size) in
    let fields = fields_of c.args.fields.now in
    let says = subst (λ (k : ℕ). FieldsSay s k 0 fields c.in_ok-cells.cells.items) size
    c.in_ok-cells.ensures.said in
    has_read-more s before fields c.args.table.now _ c.in_ok-cells.cells has within says
    c.in_ok-push.ensures.items (c.max-table.ensures ∙ ap (λ (k : ℕ). max c.args.table.now.fields k) c.len.ensures)
