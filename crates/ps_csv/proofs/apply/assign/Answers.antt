use Rattle.ps_csv.proofs.ApplyLemmas.{assigned_none, assigned_one, made_after}
use Rattle.ps_csv.proofs.apply.assign.Goals as goal

pub returns-in-Ok-clause-assigned : goal.returns-in-Ok-clause-assigned
returns-in-Ok-clause-assigned c = λ h follow.
    assigned_one _ _ _ c.args.cells.items c.in-Some.batch c.in-Some.ensures.0 c.in-Some.ensures.1
    (made_after h _ _ _ (c.in-Ok.ensures.made h follow))

pub returns-in-None-clause-assigned : goal.returns-in-None-clause-assigned
returns-in-None-clause-assigned c = λ h follow.
    assigned_none _ _ c.args.cells.items c.in-None.ensures c.requires.ascending
