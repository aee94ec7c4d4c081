use Rattle.std.proofs.Common.{◌≡◌, ◌∙◌, ℕ, List, ap, sym, subst}
use Rattle.std.proofs.lemmas.Result.{err_from_is_err_and}
use Rattle.ps_delta.specs.Deltas.{Entries, IsDelta, joined_history}
use Rattle.ps_sheet.specs.Prepared.{IsDeltaOf}
use Rattle.ps_sheet.specs.Staging.{IsWorkedOut, StagedView, StagingView, prepared_of}
use mathlib.Core.List.{IsPrefix}
use Rattle.ps_face.specs.Legal.{IsLegal, history_of}
use Rattle.ps_face.specs.Seen.{Told}
use Rattle.ps_face.specs.declared.patch.Note.{Note}
use Rattle.ps_desk.specs.Patches.{change_in, staged_in}
use Rattle.ps_desk.proofs.Locked.{same_locked}
use Rattle.ps_desk.proofs.Noted.{at_staged, is_there}
use Rattle.ps_desk.proofs.Waiting.{waits_after}
use Rattle.ps_desk.specs.Passes.{PassView}
use Rattle.ps_desk.specs.Receipts.{Took, Unmade}
use Rattle.ps_desk.proofs.Receipted.{caught_later, caught_seat, made_change, took_caught, took_more, unpublished}
use Rattle.ps_desk.proofs.Receipted.{unstaged}
use Rattle.ps_desk.proofs.state.DeskState.make.Goals as goal

pub finish-done-requires-clause-staged : goal.finish-done-requires-clause-staged
finish-done-requires-clause-staged g c =
    let y : StagingView = c.stage.new.self in
    is_there (λ (p : StagedView). IsWorkedOut (prepared_of y p)) y.staged c.in_ok-_report.ensures.staged.worked_out

pub finish-done-requires-clause-under_lock : goal.finish-done-requires-clause-under_lock
finish-done-requires-clause-under_lock g c =
    let x = c.self.inside in
    same_locked g.L.DeskName.replica g.L.Named.opening x.sheet x.copies x.book.total c.self.invariant.1
    c.stage.new.self.replica c.stage.new.self.history c.make_way.new.copies c.in_ok-_report.ensures.staged.replica
    c.in_ok-_report.ensures.staged.history c.make_way.ensures.list c.make_way.ensures.pending

-- the pass has caught up with the list
caught : (h : List Entries) (old new : PassView) (t : Told) (list : List Note) → IsPrefix old.list t.list
    → new ≡ record old { list = t.list } → t.list ≡ list → IsLegal h list → Took h old new
caught h old new t list later is same legal =
    took_caught h old new t.list later is (subst (λ (l : List Note). IsLegal h l) (sym same) legal)

pub returns-in_err-_report-clause-took : goal.returns-in_err-_report-clause-took
returns-in_err-_report-clause-took g c =
    caught g.L.Named.opening c.args.pass.now c.catch_up.new.self c.front.result.now c.make_way.new.copies.list
    c.catch_up.ensures.later c.catch_up.ensures.pass (ap (λ (t : Told). t.list) c.front.ensures.front)
    c.front.ensures.legal

pub returns-clause-took : goal.returns-clause-took
returns-clause-took g c =
    let h : List Entries = g.L.Named.opening in
    let last : PassView = c.finish-done.new.pass in
    rw c.note_shown.ensures (took_more h c.args.pass.now c.catch_up.new.self last
    (caught h c.args.pass.now c.catch_up.new.self c.front.result.now c.make_way.new.copies.list
    c.catch_up.ensures.later c.catch_up.ensures.pass (ap (λ (t : Told). t.list) c.front.ensures.front)
    c.front.ensures.legal)
    c.finish-done.ensures.later
    (subst (λ (l : List Note). IsLegal h l) (sym c.finish-done.ensures.all) c.front-2.ensures.legal)
    c.finish-done.ensures.seat)

pub returns-clause-made : goal.returns-clause-made
returns-clause-made g c =
    let h : List Entries = g.L.Named.opening in
    let tells = g.E.Enclosure.tells in
    let list = c.front.result.now.list in
    let old = c.args.pass.now in
    let mid = c.catch_up.new.self in
    let x : StagingView = c.self.inside.sheet in
    let y : StagingView = c.stage.new.self in
    let s = c.in_ok-standing.standing in
    let made =
    at_staged (λ (p : StagedView). IsDeltaOf x.replica (joined_history x.history) c.args.change p.delta) y.staged
    c.in_ok-_report.ensures.delta in
    let lent = at_staged (λ (p : StagedView). c.delta.result.now ≡ p.delta) y.staged c.delta.ensures.delta in
    let lent_again = at_staged (λ (p : StagedView). c.delta-2.result.now ≡ p.delta) y.staged c.delta-2.ensures.delta in
    rw (c.note_shown.ensures, c.enclosing.ensures) (made_change tells g.L.DeskName.replica h c.args.change
    (change_in y) s.number c.of-enclosed.result s.fresh old mid c.finish-done.new.pass
    (caught_later list old mid c.catch_up.ensures.later c.catch_up.ensures.pass)
    (caught_seat list old mid c.catch_up.ensures.pass)
    (ap (λ (q : PassView). q.appended) c.catch_up.ensures.pass)
    (subst IsDelta (c.parts.ensures.value ∙ lent) c.parts.ensures.delta)
    (subst (tells c.of-enclosed.result) lent_again c.of-enclosed.ensures)
    (subst (λ (z : ℕ × List Entries). IsDeltaOf z.0 (joined_history z.1) c.args.change (staged_in y).delta)
    (λ i. (c.self.invariant.1.replica i, sym c.in_ok-_report.ensures.staged.history i)) made)
    c.in_ok-standing.ensures.receipt c.in_ok-standing.ensures.counted)

pub returns-in_err-_report-clause-unmade : goal.returns-in_err-_report-clause-unmade
returns-in_err-_report-clause-unmade g c =
    let h : List Entries = g.L.Named.opening in
    let old : PassView = c.args.pass.now in
    let mid : PassView = c.catch_up.new.self in
    let x : StagingView = c.self.inside.sheet in
    let e = c.in_err-_report.field-0.0 in
    let refused = err_from_is_err_and c.from_residual.result c.from_residual.ensures.1 in
    let all : x.history ≡ history_of h mid.list =
    c.self.invariant.1.history ∙ ap (history_of h) (sym c.make_way.ensures.list
    ∙ sym (ap (λ (t : Told). t.list) c.front.ensures.front)
    ∙ sym (ap (λ (q : PassView). q.list) c.catch_up.ensures.pass)) in
    rw (refused.1, refused.2) (subst (λ r. Unmade r h c.args.change old mid e) c.self.invariant.1.replica
    (unstaged x.replica h c.args.change old mid e x.history all
    (ap (λ (q : PassView). q.appended) c.catch_up.ensures.pass) c.in_err-_report.ensures.refused
    c.in_err-_report.ensures.asked))

pub returns-in_err-standing-clause-took : goal.returns-in_err-standing-clause-took
returns-in_err-standing-clause-took g c =
    let h : List Entries = g.L.Named.opening in
    let last : PassView = c.finish-done.new.pass in
    rw c.note_shown.ensures (took_more h c.args.pass.now c.catch_up.new.self last
    (caught h c.args.pass.now c.catch_up.new.self c.front.result.now c.make_way.new.copies.list
    c.catch_up.ensures.later c.catch_up.ensures.pass (ap (λ (t : Told). t.list) c.front.ensures.front)
    c.front.ensures.legal)
    c.finish-done.ensures.later
    (subst (λ (l : List Note). IsLegal h l) (sym c.finish-done.ensures.all) c.front-2.ensures.legal)
    c.finish-done.ensures.seat)

pub returns-in_err-standing-clause-unmade : goal.returns-in_err-standing-clause-unmade
returns-in_err-standing-clause-unmade g c =
    let h : List Entries = g.L.Named.opening in
    let old : PassView = c.args.pass.now in
    let mid : PassView = c.catch_up.new.self in
    let last : PassView = c.finish-done.new.pass in
    let x : StagingView = c.self.inside.sheet in
    let y : StagingView = c.stage.new.self in
    let e = c.in_err-standing.field-0.0 in
    let gives = c.from_residual-in_err-standing in
    let refused = err_from_is_err_and gives.result gives.ensures.1 in
    let kept : last ≡ mid = c.in_err-standing.ensures.kept.1 in
    let all : y.history ≡ history_of h last.list =
    c.in_ok-_report.ensures.staged.history
    ∙ c.self.invariant.1.history ∙ ap (history_of h) (sym c.make_way.ensures.list
    ∙ sym (ap (λ (t : Told). t.list) c.front.ensures.front)
    ∙ sym (ap (λ (q : PassView). q.list) c.catch_up.ensures.pass)
    ∙ sym (ap (λ (q : PassView). q.list) kept)) in
    let made =
    at_staged (λ (p : StagedView). IsDeltaOf x.replica (joined_history x.history) c.args.change p.delta) y.staged
    c.in_ok-_report.ensures.delta in
    rw (c.note_shown.ensures, refused.1, refused.2) (unpublished g.L.DeskName.replica h c.args.change old last e
    y.history all
    (ap (λ (q : PassView). q.appended) kept ∙ ap (λ (q : PassView). q.appended) c.catch_up.ensures.pass)
    (staged_in y).delta
    (subst (λ (z : ℕ × List Entries). IsDeltaOf z.0 (joined_history z.1) c.args.change (staged_in y).delta)
    (λ i. (c.self.invariant.1.replica i, sym c.in_ok-_report.ensures.staged.history i)) made)
    c.in_err-standing.ensures.memory c.in_err-standing.ensures.asked)

pub invariant_of-self-in_err-standing : goal.invariant_of-self-in_err-standing
invariant_of-self-in_err-standing g c =
    let finished = c.finish-done.ensures in
    let same : c.catch_up.new.self.seat ≡ c.args.pass.now.seat = ap (λ (q : PassView). q.seat) c.catch_up.ensures.pass in (
      finished.idle,
      finished.under_lock,
      waits_after c.self.inside.waiting c.waiting.result c.seat.result c.beside-showing.result c.self.inside.copies
          c.make_way.new.copies c.finish-done.new.copies c.make_way.ensures.list c.make_way.ensures.shown
          c.make_way.ensures.steady c.beside-showing.ensures.later c.self.invariant.2
          (λ w. rw (c.seat.ensures, sym same) (finished.waits (rw (same, sym c.seat.ensures) w)))
          (rw (c.seat.ensures, sym c.seat-2.ensures) c.waiting.ensures) finished.shown,
    )

pub invariant_of-self-2 : goal.invariant_of-self-2
invariant_of-self-2 g c =
    let finished = c.finish-done.ensures in
    let same : c.catch_up.new.self.seat ≡ c.args.pass.now.seat = ap (λ (q : PassView). q.seat) c.catch_up.ensures.pass in (
      finished.idle,
      finished.under_lock,
      waits_after c.self.inside.waiting c.waiting.result c.seat.result c.beside-showing.result c.self.inside.copies
          c.make_way.new.copies c.finish-done.new.copies c.make_way.ensures.list c.make_way.ensures.shown
          c.make_way.ensures.steady c.beside-showing.ensures.later c.self.invariant.2
          (λ w. rw (c.seat.ensures, sym same) (finished.waits (rw (same, sym c.seat.ensures) w)))
          (rw (c.seat.ensures, sym c.seat-2.ensures) c.waiting.ensures) finished.shown,
    )
