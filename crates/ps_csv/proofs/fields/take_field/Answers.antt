use Rattle.std.proofs.Common.{◌≡◌, ◌<◌, ◌∷◌, [], ◌∙◌, sym, length, rules, inr}
use Rattle.std.proofs.lemmas.List.{append-nil}
use Rattle.ps_delta.specs.Deltas.{joined_history}
use Rattle.ps_csv.proofs.RecordLemmas.{fault-entry, fault-full, says-empty, says-entry}
use Rattle.ps_csv.proofs.fields.take_field.Goals as goal

pub returns-then-is_empty-clause-said : goal.returns-then-is_empty-clause-said
returns-then-is_empty-clause-said g c =
    let s = joined_history c.args.sheet.now.history in
    let none : length c.args.field.now ≡ 0 = search rules in (
      [],
      says-empty s c.args.cell c.args.field.now none,
      sym (append-nil c.args.cells.now.items),
    )

pub returns-in-Err-clause-fault : goal.returns-in-Err-clause-fault
returns-in-Err-clause-fault g c =
    let s = joined_history c.args.sheet.now.history in
    let some : 0 < length c.args.field.now = search rules in
    fault-entry s c.args.cell c.args.field.now c.in-Err.refusal some c.in-Err.ensures

pub returns-then-is_clock_full-clause-fault : goal.returns-then-is_clock_full-clause-fault
returns-then-is_clock_full-clause-fault g c =
    let s = joined_history c.args.sheet.now.history in
    let some : 0 < length c.args.field.now = search rules in
    inr (fault-full s c.args.cell c.args.field.now c.in-Ok.content some
    c.in-Ok.ensures
    (sym c.is_clock_full.ensures.full ∙ c.if-is_clock_full.true))

pub returns-clause-said : goal.returns-clause-said
returns-clause-said g c =
    let s = joined_history c.args.sheet.now.history in
    let some : 0 < length c.args.field.now = search rules in
    let says = says-entry s c.args.cell c.args.field.now c.in-Ok.content some
    c.in-Ok.ensures
    (sym c.is_clock_full.ensures.full ∙ c.if-is_clock_full.false) in
    ((c.args.cell, c.in-Ok.content) ∷ [], says, c.in_ok-push.ensures.items)
