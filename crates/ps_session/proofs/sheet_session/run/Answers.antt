use Rattle.std.proofs.Common.{subst, ◌≤◌}
use Rattle.ps_grid.specs.declared.parties.TheConstants.{REPLICAS}
use Rattle.ps_session.specs.Answers.{Answers}
use Rattle.ps_session.specs.Keeping.{IsLater}
use Rattle.ps_session.proofs.ReplicaAndLinesStay.{answered_later, later_itself, then_later}
use Rattle.ps_session.proofs.Runs.{talked}
use Rattle.ps_session.proofs.sheet_session.run.Goals as goal

pub returns-clause-replica : goal.returns-clause-replica
returns-clause-replica g c =
    let told = c.talk-answered.ensures in
    let kept : IsLater c.args.sheet.now c.talk-answered.new.board =
    talked IsLater later_itself then_later Answers answered_later _ _ _ _ _ _ _ _
    c.talk-answered.result told.transcribed told.sink told.source told.keep told.memory in
    kept.replica

pub returns-clause-lines : goal.returns-clause-lines
returns-clause-lines g c =
    let told = c.talk-answered.ensures in
    let kept : IsLater c.args.sheet.now c.talk-answered.new.board =
    talked IsLater later_itself then_later Answers answered_later _ _ _ _ _ _ _ _
    c.talk-answered.result told.transcribed told.sink told.source told.keep told.memory in
    let sheet = c.version.ensures.sheet in
    kept.lines (subst (λ r. 1 ≤ r) kept.replica sheet.replica.0)
    (subst (λ r. r ≤ REPLICAS) kept.replica sheet.replica.1)
