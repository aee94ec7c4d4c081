use Rattle.std.proofs.Common.{ap, arith, length, subst, take, ◌∙◌}
use Rattle.ps_keep.specs.Crash.{SurvivesCrashes}
use Rattle.ps_kept.specs.Inside.{later}
use Rattle.ps_kept.specs.Kept.{IsKept, IsNoted, Notes}
use Rattle.ps_kept.proofs.KeeperLemmas.{kept_all, kept_outlives, lines_within, noted_again, noted_all, noted_part}
use Rattle.ps_kept.proofs.KeeperLemmas.{noting_outlives, ok_fits, on_ok, told_all}
use Rattle.ps_kept.proofs.keeper.SheetKeeperKeeperSheet.sync.Goals as goal
use Rattle.ps_kept.proofs.keeper.SheetKeeperKeeperSheet.sync.Goals.{After-sync}

pub note_later-requires : goal.note_later-requires
note_later-requires g c =
    let h = c.args.board.now.history in
    let within = lines_within c.args.board.now.replica h c.args.self.now c.requires.fits.0 in
    record { within = omega (arith, within, ap length c.history.ensures.history) }

-- all of the history is noted
all : (g : _) (c : After-sync g)
    → Notes c.args.self.now (later c.args.self.now.lines c.args.board.now.history) c.note_later.new.self
all g c =
    subst (λ h. Notes c.args.self.now (later c.args.self.now.lines h) c.note_later.new.self) c.history.ensures.history
    c.in-Ok.ensures.all

pub returns-in-Ok-clause-covered : goal.returns-in-Ok-clause-covered
returns-in-Ok-clause-covered g c =
    let sheet = c.args.board.now in
    let told = told_all sheet.replica sheet.history c.args.self.now c.requires.fits.0 c.note_later.new.self (all g c) in
    on_ok c.sync.result _ (IsKept sheet.replica sheet.history c.sync.new.self)
    (λ same. kept_all sheet.replica sheet.history c.note_later.new.self c.sync.new.self c.sync.ensures.journal (same
    ∙ ap (λ j. j.lines) c.self.view_is) told)
    c.sync.ensures.acknowledged

pub returns-in-Ok-clause-fits : goal.returns-in-Ok-clause-fits
returns-in-Ok-clause-fits g c =
    let sheet = c.args.board.now in
    let told = told_all sheet.replica sheet.history c.args.self.now c.requires.fits.0 c.note_later.new.self (all g c) in
    ok_fits c.sync.result c.sync.new.self.has_failed (IsNoted sheet.replica sheet.history c.sync.new.self)
    c.sync.ensures.failed
    (noted_again sheet.replica sheet.history c.note_later.new.self c.sync.new.self c.sync.ensures.journal
    (c.sync.ensures.lines ∙ ap (λ j. j.lines) c.self.view_is) told)

pub returns-in-Ok-clause-any_moment : goal.returns-in-Ok-clause-any_moment
returns-in-Ok-clause-any_moment g c =
    let sheet = c.args.board.now in
    let old = c.args.self.now in
    let mid = c.note_later.new.self in
    let noted = noted_all sheet.replica sheet.history old c.requires.fits.0 mid (all g c) in
    let survives = subst (λ j. SurvivesCrashes c.sync.new.self.written j.synced j.kept j.lines) c.self.view_is
    c.sync.ensures.any_moment in
    λ kept is fresh. kept_outlives sheet.replica sheet.history kept old mid c.sync.new.self.written is noted
    (ap (λ j. j.kept) (all g c).lines) (ap (λ j. j.synced) (all g c).lines) fresh survives

pub returns-in-Err-clause-any_moment : goal.returns-in-Err-clause-any_moment
returns-in-Err-clause-any_moment g c =
    let sheet = c.args.board.now in
    let old = c.args.self.now in
    let mid = c.note_later.new.self in
    let part = c.in-Err.ensures.part in
    let notes = subst (λ h. Notes old (take part.0 (later old.lines h)) mid) c.history.ensures.history part.1 in
    let noted = noted_part sheet.replica sheet.history old c.requires.fits.0 part.0 mid notes in
    λ kept is fresh. noting_outlives sheet.replica sheet.history kept old mid _ is noted notes fresh
