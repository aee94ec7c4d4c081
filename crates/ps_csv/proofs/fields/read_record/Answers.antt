use Rattle.std.proofs.Common.{◌<◌, ◌≤◌, refl, length, arith, inl, inr}
use Rattle.std.proofs.lemmas.Result.{err_from_is_err_and}
use Rattle.csv.specs.Records.{fields_of}
use Rattle.ps_grid.specs.declared.size.TheConstants.{COLUMNS}
use Rattle.ps_grid.specs.declared.refusal.Refusal.TheVariants.{Csv}
use Rattle.ps_delta.specs.Deltas.{joined_history}
use Rattle.ps_csv.proofs.RecordLemmas.{entry_fault, field_given, field_is_there, fields_say-all, fields_say-none}
use Rattle.ps_csv.proofs.RecordLemmas.{more_said, record_fault}
use Rattle.ps_csv.proofs.fields.read_record.Goals as goal

pub loop-j-init : goal.loop-j-init
loop-j-init g c =
    let s = joined_history c.args.sheet.now.history in
    fields_say-none s c.args.n (fields_of c.args.fields.now) _ c.in_ok-cells.ensures.items

pub returns-in_default-clause-fault : goal.returns-in_default-clause-fault
returns-in_default-clause-fault g c =
    let s = joined_history c.args.sheet.now.history in
    let past : COLUMNS ≤ c.loop-j.j = omega (arith, c.in_default.ensures) in
    let there : c.loop-j.j < length (fields_of c.args.fields.now) = omega arith in
    inr (record_fault s c.args.n c.loop-j.j (fields_of c.args.fields.now) _ _ Csv there refl
    c.loop-j.invariant (inl (past, refl)))

pub unwrap-field-requires : goal.unwrap-field-requires
unwrap-field-requires g c =
    let there : c.loop-j.j < length (fields_of c.args.fields.now) = omega arith in
    field_is_there (fields_of c.args.fields.now) c.loop-j.j c.get.result c.get.ensures.value there

pub returns-in_err-take_field-clause-fault : goal.returns-in_err-take_field-clause-fault
returns-in_err-take_field-clause-fault g c =
    let s = joined_history c.args.sheet.now.history in
    let from = c.from_residual-in_err-take_field in
    let p = err_from_is_err_and from.result from.ensures.1 in
    let there : c.loop-j.j < length (fields_of c.args.fields.now) = omega arith in
    let given = field_given (fields_of c.args.fields.now) c.loop-j.j c.get.result _ c.get.ensures.value
    c.unwrap-field.ensures in
    rw (p.1, p.2)
    (entry_fault s c.args.n c.loop-j.j c.in-Some.cell (fields_of c.args.fields.now) _ _
    c.in_err-take_field.field-0.0 there given c.loop-j.invariant c.in-Some.ensures.0 c.in-Some.ensures.1
    c.in_err-take_field.ensures.fault)

pub loop-j-preserved : goal.loop-j-preserved
loop-j-preserved g c =
    let s = joined_history c.args.sheet.now.history in
    let there : c.loop-j.j < length (fields_of c.args.fields.now) = omega arith in
    let given = field_given (fields_of c.args.fields.now) c.loop-j.j c.get.result _ c.get.ensures.value
    c.unwrap-field.ensures in
    more_said s c.args.n c.loop-j.j c.in-Some.cell (fields_of c.args.fields.now) _ _ _
    there given
    c.loop-j.invariant c.in-Some.ensures.0 c.in-Some.ensures.1 c.in_ok-take_field.ensures.said

pub returns-clause-said : goal.returns-clause-said
returns-clause-said g c =
    let s = joined_history c.args.sheet.now.history in
    let all : length (fields_of c.args.fields.now) ≤ c.loop-j.j = omega arith in
    fields_say-all s c.args.n c.loop-j.j (fields_of c.args.fields.now) _ all
    c.loop-j.invariant
