use Rattle.std.proofs.Common.{◌≡◌, true, false, refl, sym, ◌∙◌}
use Rattle.ps_sheet.specs.Staging.{sheet_of}
use Rattle.ps_sheet.specs.Inside.Kept.{view_of}
use Rattle.ps_sheet.proofs.StagedChanges.{committed_idle, committed_sheet, kept_committed}
use Rattle.ps_sheet.proofs.staging.Staging.make.Goals as goal

pub invariant_of-self : goal.invariant_of-self
invariant_of-self c =
    kept_committed c.self.inside
    (record {
      replica = c.self.inside.replica;
      history = c.push_reserved.new.self;
      cells = c.commit.new.self;
      staged = c.take.new.self;
    })
    c.in-Some.staged (sym c.take.ensures.value ∙ c.in-Some.is) c.if-is_staged.ensures.staged c.self.invariant refl
    c.push_reserved.ensures.items c.commit.ensures.kept.0 c.commit.ensures.kept.1 c.take.ensures.after
    c.commit.ensures.none

pub returns-then-is_staged-clause-sheet : goal.returns-then-is_staged-clause-sheet
returns-then-is_staged-clause-sheet c =
    committed_sheet c.self.inside
    (record {
      replica = c.self.inside.replica;
      history = c.push_reserved.new.self;
      cells = c.commit.new.self;
      staged = c.take.new.self;
    })
    c.in-Some.staged (sym c.take.ensures.value ∙ c.in-Some.is) c.if-is_staged.ensures.staged c.self.invariant refl
    c.push_reserved.ensures.items c.commit.ensures.kept.0 c.commit.ensures.kept.1

pub returns-then-is_staged-clause-idle : goal.returns-then-is_staged-clause-idle
returns-then-is_staged-clause-idle c =
    committed_idle c.self.inside c.args.self.now
    (sheet_of (view_of (record {
      replica = c.self.inside.replica;
      history = c.push_reserved.new.self;
      cells = c.commit.new.self;
      staged = c.take.new.self;
    })))
    c.self.view_is c.requires.staged
    (λ off. absurd (let on = c.if-is_staged.ensures.staged in let f : true ≡ false = on ∙ off in cc))

pub returns-else-is_staged-clause-idle : goal.returns-else-is_staged-clause-idle
returns-else-is_staged-clause-idle c =
    committed_idle c.self.inside c.args.self.now (sheet_of (view_of c.self.inside)) c.self.view_is c.requires.staged
    (λ off. refl)
