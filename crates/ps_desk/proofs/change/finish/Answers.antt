use Rattle.std.proofs.Common.{◌≡◌, refl, ap, sym, ◌∙◌}
use Rattle.ps_shown.specs.Shown.{shown_at}
use Rattle.ps_sheet.specs.declared.sheet.Report.{Report}
use Rattle.ps_sheet.specs.Prepared.{IsOf, history_after}
use Rattle.ps_sheet.specs.Staging.{StagedView, StagingView, prepared_of, sheet_of}
use Rattle.ps_face.specs.Legal.{history_of}
use Rattle.ps_desk.specs.Patches.{change_in}
use Rattle.ps_desk.proofs.Locked.{same_locked}
use Rattle.ps_desk.proofs.Noted.{at_staged, worked_out}
use Rattle.ps_desk.proofs.Receipted.{history_kept, tells_appended, tells_included}
use Rattle.ps_desk.proofs.change.finish.Goals as goal

pub append-requires-clause-fresh : goal.append-requires-clause-fresh
append-requires-clause-fresh g c =
    sym (at_staged (λ (p : StagedView). c.fresh.result ≡ p.fresh) _ c.fresh.ensures.fresh) ∙ c.if-fresh.true

pub append-requires-clause-worked_out : goal.append-requires-clause-worked_out
append-requires-clause-worked_out g c = worked_out c.args.sheet.now c.requires.staged c.fresh.ensures.staging

pub returns-clause-under_lock : goal.returns-clause-under_lock
returns-clause-under_lock g c =
    let x : StagingView = c.args.sheet.now in
    let new : StagingView = c.make.new.self in
    let idle = sym (at_staged (λ (p : StagedView). c.fresh.result ≡ p.fresh) x.staged c.fresh.ensures.fresh)
    ∙ c.if-fresh.false in
    let of = at_staged (λ (p : StagedView). IsOf (sheet_of new) x.replica (history_after (prepared_of x p))
    (shown_at x.shown)) x.staged
    c.make.ensures.of in
    same_locked g.L.DeskName.replica g.L.Named.opening x c.args.copies.now c.args.book.now.total c.requires.under_lock
    new.replica new.history c.args.copies.now of.replica (of.history ∙ history_kept (change_in x) idle) refl refl

pub returns-clause-receipt : goal.returns-clause-receipt
returns-clause-receipt g c =
    let x : StagingView = c.args.sheet.now in
    let idle = sym (at_staged (λ (p : StagedView). c.fresh.result ≡ p.fresh) x.staged c.fresh.ensures.fresh)
    ∙ c.if-fresh.false in
    tells_included g.L.Named.opening (change_in x) c.args.pass.now.list c.args.pass.now.seat _
    (worked_out x c.requires.staged c.fresh.ensures.staging) idle
    (c.requires.under_lock.history ∙ ap (history_of g.L.Named.opening) (sym c.requires.seen))
    (ap (λ (r : Report). r.version)
    (at_staged (λ (p : StagedView). c.report-number.result ≡ p.report) x.staged c.report-number.ensures.report))
    refl refl

pub returns-then-fresh-clause-receipt : goal.returns-then-fresh-clause-receipt
returns-then-fresh-clause-receipt g c =
    let x : StagingView = c.args.sheet.now in
    let made = c.in_ok-number.ensures in
    tells_appended g.L.Named.opening (change_in x) c.args.pass.now.list c.append.new.pass.list c.args.pass.now.seat _
    (worked_out x c.requires.staged c.fresh.ensures.staging)
    (sym (at_staged (λ (p : StagedView). c.fresh.result ≡ p.fresh) x.staged c.fresh.ensures.fresh) ∙ c.if-fresh.true)
    (c.requires.under_lock.history ∙ ap (history_of g.L.Named.opening) (sym c.requires.seen)) made.published
    made.told refl
