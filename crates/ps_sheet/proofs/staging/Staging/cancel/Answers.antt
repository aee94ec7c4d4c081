use Rattle.std.proofs.Common.{None, refl, sym}
use Rattle.ps_sheet.proofs.StagedChanges.{kept_cancelled, cancelled_idle}
use Rattle.ps_sheet.proofs.staging.Staging.cancel.Goals as goal

pub invariant_of-self : goal.invariant_of-self
invariant_of-self c =
    kept_cancelled c.self.inside
    (record {
      replica = c.self.inside.replica;
      history = c.self.inside.history;
      cells = c.cancel.new.self;
      staged = None;
    })
    c.args.self.now c.self.view_is c.requires.staged c.self.invariant refl refl refl c.cancel.ensures.none
    c.cancel.ensures.state c.cancel.ensures.shown

pub returns-else-is_staged-clause-of : goal.returns-else-is_staged-clause-of
returns-else-is_staged-clause-of c =
    cancelled_idle c.self.inside
    (record {
      replica = c.self.inside.replica;
      history = c.self.inside.history;
      cells = c.self.inside.cells;
      staged = None;
    })
    c.args.self.now c.self.view_is c.requires.staged c.self.invariant (sym c.if-is_staged.ensures.staged) refl refl refl
