use Rattle.ps_sheet.proofs.MergedChanges.{merge_below, merge_idle, merge_joined, merge_known, merge_made}
use Rattle.ps_sheet.proofs.sheet.Sheet.merge.Goals as goal

pub returns-clause-merged : goal.returns-clause-merged
returns-clause-merged g c =
    merge_made c.args.self.now c.change.new.self c.args.delta c.change.result c.change.ensures.made

pub returns-clause-joined : goal.returns-clause-joined
returns-clause-joined g c =
    merge_joined c.args.self.now c.change.new.self c.args.delta c.change.result c.change.ensures.made

pub returns-clause-below : goal.returns-clause-below
returns-clause-below g c =
    let said = c.change.ensures in
    merge_below c.args.self.now c.change.new.self c.args.delta c.args.meter.now c.change.new.meter c.change.result
    said.made said.metered said.refused said.asked

pub returns-clause-idle : goal.returns-clause-idle
returns-clause-idle g c =
    merge_idle c.args.self.now c.change.new.self c.args.delta c.change.result c.change.ensures.made

pub returns-clause-known : goal.returns-clause-known
returns-clause-known g c =
    merge_known c.args.self.now c.change.new.self c.args.delta c.change.result c.change.ensures.made
    c.change.ensures.version
