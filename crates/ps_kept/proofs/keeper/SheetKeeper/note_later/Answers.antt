use Rattle.std.proofs.Common.{◌≡◌, ◌+◌, ℕ, length, subst, take}
use Rattle.ps_keep.specs.Journals.{JournalView}
use Rattle.ps_kept.specs.Inside.{later}
use Rattle.ps_kept.specs.Kept.{Notes}
use Rattle.ps_kept.proofs.KeeperLemmas.{later_is, on_err, on_ok}
use Rattle.ps_kept.proofs.keeper.SheetKeeper.note_later.Goals as goal

pub returns-clause-all : goal.returns-clause-all
returns-clause-all g c =
    let new : JournalView = c.note_deltas.new.journal in
    let all = later c.args.self.now.lines c.args.history.now in
    let count = subst (λ j. length j.lines ≡ c.self.inside.noted + 1) c.self.view_is c.self.invariant in
    let due = later_is c.args.self.now.lines c.args.history.now c.self.inside.noted count in
    on_ok c.note_deltas.result _ (Notes c.args.self.now all new)
    (λ told. subst (λ j. Notes j all new) c.self.view_is
    (subst (λ ds. Notes c.self.inside.journal ds new) due told.0))
    c.note_deltas.ensures.noted

pub returns-clause-part : goal.returns-clause-part
returns-clause-part g c =
    let new : JournalView = c.note_deltas.new.journal in
    let all = later c.args.self.now.lines c.args.history.now in
    let count = subst (λ j. length j.lines ≡ c.self.inside.noted + 1) c.self.view_is c.self.invariant in
    let due = later_is c.args.self.now.lines c.args.history.now c.self.inside.noted count in
    on_err c.note_deltas.result _ ((n : ℕ) × Notes c.args.self.now (take n all) new)
    (λ part. (
      part.0,
      subst (λ j. Notes j (take part.0 all) new) c.self.view_is
          (subst (λ ds. Notes c.self.inside.journal (take part.0 ds) new) due part.3),
    ))
    c.note_deltas.ensures.part
