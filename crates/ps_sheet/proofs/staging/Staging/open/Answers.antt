use Rattle.std.proofs.Common.{None, refl}
use Rattle.ps_sheet.proofs.StagedChanges.{kept_open, opened_sheet}
use Rattle.ps_sheet.proofs.staging.Staging.open.Goals as goal

pub invariant_of-result : goal.invariant_of-result
invariant_of-result c =
    let said = c.in_ok-cells.ensures in
    kept_open
    (record { replica = c.args.replica; history = c.new-2.result; cells = c.in_ok-cells.cells; staged = None })
    refl c.new-2.ensures.items said.settled said.empty said.none c.requires.replica

pub returns-clause-sheet : goal.returns-clause-sheet
returns-clause-sheet c =
    let said = c.in_ok-cells.ensures in
    opened_sheet
    (record { replica = c.args.replica; history = c.new-2.result; cells = c.in_ok-cells.cells; staged = None })
    c.new-2.ensures.items said.settled said.empty c.requires.replica
