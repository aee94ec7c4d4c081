use Rattle.std.proofs.Common.{Some, refl, arith}
use Rattle.ps_sheet.specs.declared.staging.Staged.{Staged}
use Rattle.ps_sheet.proofs.StagedChanges.{kept_staged_fresh, stages_fresh}
use Rattle.ps_sheet.proofs.staging.Staging.stage_fresh.Goals as goal

pub invariant_of-self-2 : goal.invariant_of-self-2
invariant_of-self-2 g c =
    let x = c.self.inside in
    let work = c.in_ok-work.work in
    let said = c.in_ok-work.ensures in
    let staged : Staged = record { delta = c.args.delta; report = c.of-report.result } in
    kept_staged_fresh x
    (record { replica = x.replica; history = c.reserve.new.self; cells = c.stage.new.self; staged = Some staged })
    c.args.self.now c.self.view_is c.requires.none c.self.invariant staged c.len.result work.evaluated work.cyclic
    work.levels c.of-report.ensures refl refl c.reserve.ensures.items
    (omega (arith, c.len.ensures))
    c.requires.fresh
    said.joined
    said.settled said.staged said.before said.workers said.work
    (let room = c.in_ok-reserve.ensures.ok in omega (arith, room)) said.in_grid

pub returns-clause-staged : goal.returns-clause-staged
returns-clause-staged g c =
    let x = c.self.inside in
    let work = c.in_ok-work.work in
    let said = c.in_ok-work.ensures in
    let staged : Staged = record { delta = c.args.delta; report = c.of-report.result } in
    stages_fresh x
    (record { replica = x.replica; history = c.reserve.new.self; cells = c.stage.new.self; staged = Some staged })
    c.args.self.now c.self.view_is c.requires.none c.self.invariant staged c.len.result work.evaluated work.cyclic
    work.levels c.of-report.ensures refl refl c.reserve.ensures.items
    (omega (arith, c.len.ensures))
    c.requires.fresh
    said.joined
    said.settled said.staged said.before said.workers said.work
