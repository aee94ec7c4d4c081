use Rattle.std.proofs.Common.{◌≡◌, ◌++◌, ◌∷◌, [], List, ap, sym, subst, ◌≤◌, ◌∙◌}
use Rattle.ps_shown.specs.Shown.{shown_at}
use Rattle.ps_sheet.specs.declared.sheet.Report.{Report}
use Rattle.ps_sheet.specs.Prepared.{IsOf, history_after, shown_before}
use Rattle.ps_sheet.specs.Staging.{StagedView, StagingView, prepared_of, sheet_of}
use Rattle.ps_face.specs.declared.patch.Note.{Note}
use Rattle.ps_face.specs.Seen.{Told}
use Rattle.ps_face.specs.Published.{Published}
use Rattle.ps_desk.specs.Patches.{found_in, note_of}
use Rattle.ps_desk.specs.Passes.{PassView, owned_by}
use Rattle.ps_desk.proofs.Locked.{appended_locked, room_left, same_locked}
use Rattle.ps_desk.proofs.Noted.{at_staged}
use Rattle.ps_desk.proofs.Owners.{owned_next}
use Rattle.ps_desk.proofs.change.append.Goals as goal

pub count-requires-clause-room : goal.count-requires-clause-room
count-requires-clause-room g c =
    let keeps = c.find_changed-one.ensures.same in
    room_left g.L.DeskName.replica g.L.Named.opening c.args.sheet.now c.args.copies.now c.args.book.now.total
    c.requires.under_lock c.in-Ok.number c.requires.worked_out c.requires.fresh
    (c.in-Ok.ensures.number ∙ ap (λ (r : Report). r.version) keeps.report) c.in-Ok.ensures.bound

pub count-requires-clause-owned : goal.count-requires-clause-owned
count-requires-clause-owned g c =
    let pass : PassView = c.args.pass.now in
    let y : StagingView = c.find_changed-one.new.sheet in
    let patch : Note = note_of y (found_in y c.find_changed-one.result) c.seat.result in
    let published : c.front.result.now.list ≡ pass.list ++ patch ∷ [] =
    ap (λ (t : Told). t.list) c.front.ensures.front ∙ c.in-Ok.ensures.list
    ∙ ap (λ (l : List Note). l ++ patch ∷ []) (sym c.requires.seen) in
    owned_next pass c.catch_up.new.self c.front.result.now.list patch c.catch_up.ensures.pass published c.seat.ensures
    (subst (λ n. n ≤ owned_by pass.seat pass.list) c.appended.ensures.appended c.appended.ensures.owned)

pub returns-in-Ok-clause-under_lock : goal.returns-in-Ok-clause-under_lock
returns-in-Ok-clause-under_lock g c =
    let y : StagingView = c.find_changed-one.new.sheet in
    let new : StagingView = c.make.new.self in
    let of = at_staged (λ (p : StagedView). IsOf (sheet_of new) y.replica (history_after (prepared_of y p))
    (shown_at y.shown)) y.staged
    c.make.ensures.of in
    appended_locked g.L.DeskName.replica g.L.Named.opening c.args.sheet.now c.args.copies.now c.args.book.now.total
    c.requires.under_lock y (sheet_of new) (shown_at y.shown) c.tell.new.copies
    (found_in y c.find_changed-one.result) c.count.new.book.total c.seat.result c.find_changed-one.ensures.same
    c.requires.fresh of c.in-Ok.ensures.list c.in-Ok.ensures.none c.count.ensures.book

pub returns-in-Ok-clause-published : goal.returns-in-Ok-clause-published
returns-in-Ok-clause-published g c =
    let keeps = c.find_changed-one.ensures.same in
    let y : StagingView = c.find_changed-one.new.sheet in
    let patch : Note = note_of y (found_in y c.find_changed-one.result) c.seat.result in
    record {
      patch = patch;
      last = ap (λ (q : PassView). q.list) c.count.ensures.pass ∙ ap (λ (q : PassView). q.list) c.catch_up.ensures.pass
          ∙ ap (λ (t : Told). t.list) c.front.ensures.front
          ∙ c.in-Ok.ensures.list
          ∙ ap (λ (l : List Note). l ++ patch ∷ []) (sym c.requires.seen);
      number = ap (λ (r : Report). r.version) keeps.report;
      delta = keeps.delta;
      owner = c.seat.ensures;
    }

pub returns-in-Err-clause-under_lock : goal.returns-in-Err-clause-under_lock
returns-in-Err-clause-under_lock g c =
    let y : StagingView = c.find_changed-one.new.sheet in
    let new : StagingView = c.cancel.new.self in
    let keeps = c.find_changed-one.ensures.same in
    let of = at_staged (λ (p : StagedView). IsOf (sheet_of new) y.replica y.history
    (shown_before (prepared_of y p))) y.staged c.cancel.ensures.of in
    same_locked g.L.DeskName.replica g.L.Named.opening c.args.sheet.now c.args.copies.now c.args.book.now.total
    c.requires.under_lock new.replica new.history c.tell.new.copies (of.replica ∙ keeps.replica)
    (of.history ∙ keeps.history) (ap (λ (p : Published). p.list) c.in-Err.ensures.kept)
    (ap (λ (p : Published). p.pending) c.in-Err.ensures.kept)

pub returns-in-Ok-clause-told : goal.returns-in-Ok-clause-told
returns-in-Ok-clause-told g c =
    c.in-Ok.ensures.number ∙ ap (λ (r : Report). r.version) c.find_changed-one.ensures.same.report
