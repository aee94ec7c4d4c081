use Rattle.ps_sheet.proofs.MadeChanges.{listed_prepared}
use Rattle.ps_sheet.proofs.StagedChanges.{ready_prepared}
use Rattle.ps_sheet.proofs.prepared.Prepared.of.Goals as goal

pub invariant_of-result : goal.invariant_of-result
invariant_of-result c =
    let x = c.args.staging in
    let y = c.list_changed.new.self in
    let z = c.list_values.new.self in
    let first = c.list_changed.ensures.same in
    let second = c.list_values.ensures.same in
    listed_prepared x y z x.staged y.staged z.staged c.requires.staged first.history first.shown second.history
    second.shown
    first.staged second.staged c.list_changed.ensures.changed c.list_values.ensures.changed c.list_values.ensures.values

pub returns-clause-prepared : goal.returns-clause-prepared
returns-clause-prepared c =
    ready_prepared c.list_values.new.self c.list_values.new.self.staged (invariant_of-result c)
