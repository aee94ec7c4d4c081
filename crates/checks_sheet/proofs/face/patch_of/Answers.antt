use Rattle.std.proofs.Common.{rules}
use Rattle.ps_face.proofs.Noted.{after_fresh, prepared_follows}
use Rattle.checks_sheet.proofs.face.patch_of.Goals as goal

pub returns-clause-follows : goal.returns-clause-follows
returns-clause-follows g c =
    prepared_follows c.args.prepared.now c.new.result c.report.ensures.prepared (search rules) (search rules)
    (search rules) (search rules)

pub returns-clause-after : goal.returns-clause-after
returns-clause-after g c = after_fresh c.args.prepared.now c.new.result.delta (search rules) (search rules)
