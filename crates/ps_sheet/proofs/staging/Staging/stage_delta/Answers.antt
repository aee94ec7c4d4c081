use Rattle.std.proofs.Common.{◌≡◌, false}
use Rattle.ps_delta.specs.State.{IsBelow}
use Rattle.ps_delta.specs.Deltas.{joined_history, state_of}
use Rattle.ps_sheet.specs.Staging.{IsIdle, sheet_of}
use Rattle.ps_sheet.proofs.Staged.{of_some}
use Rattle.ps_sheet.proofs.StagedChanges.{fresh_idle, fresh_on}
use Rattle.ps_sheet.proofs.staging.Staging.stage_delta.Goals as goal

pub returns-then-covers-clause-idle : goal.returns-then-covers-clause-idle
returns-then-covers-clause-idle g c =
    let x = c.args.self.now in
    let y = c.stage_idle.new.self in
    of_some (λ p. p.delta ≡ c.args.delta)
    (λ p. p.fresh ≡ false → IsIdle (sheet_of x) (sheet_of y) c.stage_idle.result) y.staged
    (λ p is off. c.stage_idle.ensures.idle) c.stage_idle.ensures.delta

pub returns-clause-fresh : goal.returns-clause-fresh
returns-clause-fresh g c =
    fresh_on (¬ IsBelow (state_of c.args.delta) (joined_history c.args.self.now.history))
    c.stage_fresh.result c.stage_fresh.new.self.staged c.stage_fresh.ensures.fresh

pub returns-clause-idle : goal.returns-clause-idle
returns-clause-idle g c =
    fresh_idle (sheet_of c.args.self.now) (sheet_of c.stage_fresh.new.self) c.stage_fresh.result
    c.stage_fresh.new.self.staged c.stage_fresh.ensures.fresh
