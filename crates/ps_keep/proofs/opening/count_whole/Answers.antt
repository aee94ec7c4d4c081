use Rattle.ps_keep.proofs.OpenLemmas.{none_whole, whole_up_to}
use Rattle.ps_keep.proofs.opening.count_whole.Goals as goal

pub returns-in-Some-clause-lines : goal.returns-in-Some-clause-lines
returns-in-Some-clause-lines c =
    let found = c.in-Some.ensures in
    whole_up_to c.args.bytes.now c.in-Some.place found.0.high found.0.after found.1

pub returns-in-None-clause-lines : goal.returns-in-None-clause-lines
returns-in-None-clause-lines c = none_whole c.args.bytes.now c.in-None.ensures
