use Rattle.std.proofs.Common.{List, ℕ, ◌≡◌, ◌∙◌, subst}
use Rattle.ps_keep.specs.Crash.{SurvivesCrashes}
use Rattle.ps_keep.specs.Journals.{IsJournal, JournalView}
use Rattle.ps_keep.proofs.CrashLemmas.{journal_survives}
use Rattle.ps_keep.proofs.JournalLemmas.{all_holds, appended_moment, ends_of, holds_journal, holds_moment, part_holds}
use Rattle.ps_keep.proofs.journal.Journal.sync.Goals as goal

pub returns-then-self-clause-journal : goal.returns-then-self-clause-journal
returns-then-self-clause-journal g c = subst IsJournal c.self.view_is (holds_journal _ _ _ _ _ _ _ c.self.invariant.0)

pub returns-then-self-clause-any_moment : goal.returns-then-self-clause-any_moment
returns-then-self-clause-any_moment g c = journal_survives c.args.self.now (returns-then-self-clause-journal g c)

pub returns-then-is_empty-clause-journal : goal.returns-then-is_empty-clause-journal
returns-then-is_empty-clause-journal g c =
    subst IsJournal c.self.view_is (holds_journal _ _ _ _ _ _ _ c.self.invariant.0)

pub returns-then-is_empty-clause-any_moment : goal.returns-then-is_empty-clause-any_moment
returns-then-is_empty-clause-any_moment g c = journal_survives c.args.self.now (returns-then-is_empty-clause-journal g
    c)

-- from the fields to what callers see
moment_of : (before : JournalView) (later : List ℕ) (seen : JournalView) → before ≡ seen
    → SurvivesCrashes later before.synced before.kept before.lines
    → SurvivesCrashes later seen.synced seen.kept seen.lines
moment_of before later seen is s = subst (λ (j : JournalView). SurvivesCrashes later j.synced j.kept j.lines) is s

-- a beginning of what waited was appended, and the file was cut, or couldn't be
pub invariant_of-self : goal.invariant_of-self
invariant_of-self g c =
    let dev = g.D.Device in
    let part = rw c.as_slice.ensures.value at c.in-Err.ensures.part in (
      part_holds _ _ _ _ _ _ _ c.self.invariant.0 (dev.written c.cut.new.self) part.0 (dev.synced c.cut.new.self)
          (dev.is_cut c.cut.new.self) (dev.cut_failed c.cut.new.self) c.if-self.false (c.cut.ensures.same.0 ∙ part.1)
          (c.cut.ensures.same.1 ∙ c.in-Err.ensures.no_more)
          (ends_of _ c.cut.result _ _ c.cut.ensures.cut c.cut.ensures.not_cut),
      c.cut.ensures.failed,
    )

pub returns-in-Err-clause-journal : goal.returns-in-Err-clause-journal
returns-in-Err-clause-journal g c = holds_journal _ _ _ _ _ _ _ (invariant_of-self g c).0

pub returns-in-Err-clause-any_moment : goal.returns-in-Err-clause-any_moment
returns-in-Err-clause-any_moment g c =
    let h = (invariant_of-self g c).0 in
    moment_of _ (g.D.Device.written c.cut.new.self) _ c.self.view_is (holds_moment _ _ _ _ _ _ _ c.self.invariant.0 _
    h.kept h.noted)

-- all that waited is on the disk
pub invariant_of-self-2 : goal.invariant_of-self-2
invariant_of-self-2 g c =
    let dev = g.D.Device in
    let all = rw c.as_slice.ensures.value at c.in-Ok.ensures.appended in
    let h = all_holds _ _ _ _ _ _ _ c.self.invariant.0 (dev.written c.append_and_sync.new.device) (dev.synced
    c.append_and_sync.new.device) (dev.is_cut c.append_and_sync.new.device) (dev.cut_failed
    c.append_and_sync.new.device) c.if-self.false all c.in-Ok.ensures.synced c.append_and_sync.ensures.cut.0
    c.append_and_sync.ensures.cut.1 in (
      rw (c.of.ensures, c.clear.ensures.items) h,
      c.in-Ok.ensures.failed,
    )

pub returns-clause-journal : goal.returns-clause-journal
returns-clause-journal g c = holds_journal _ _ _ _ _ _ _ (invariant_of-self-2 g c).0

pub returns-clause-any_moment : goal.returns-clause-any_moment
returns-clause-any_moment g c =
    let all = rw c.as_slice.ensures.value at c.in-Ok.ensures.appended in
    moment_of _ (g.D.Device.written c.append_and_sync.new.device) _ c.self.view_is (appended_moment _ _ _ _ _ _ _
    c.self.invariant.0 _ c.if-self.false all)
