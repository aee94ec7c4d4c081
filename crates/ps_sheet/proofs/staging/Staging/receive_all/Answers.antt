use Rattle.std.proofs.Common.{◌≡◌, ◌<◌, ◌++◌, Some, ap, ◌∙◌, arith, refl, rules, sym, subst, length}
use Rattle.std.proofs.lemmas.Grind.{common_steps}
use Rattle.std.specs.Option.{SomeIff}
use Rattle.ps_delta.specs.State.{state_at}
use Rattle.ps_delta.specs.Deltas.{IsDelta, joined_history}
use Rattle.ps_shown.specs.Shown.{shown_at}
use Rattle.ps_cells.specs.Recalculated.{IsRecalculated}
use Rattle.ps_sheet.specs.Arrivals.{ArrivalsView}
use Rattle.ps_sheet.specs.declared.sheet.Report.{Report}
use Rattle.ps_sheet.proofs.Following.{all_kept, all_report, all_sheet, cells_are_delta, made_delta, none_recalculated}
use Rattle.ps_sheet.proofs.Following.{some_hold}
use Rattle.ps_sheet.proofs.staging.Staging.receive_all.Goals as goal

pub returns-then-is_empty-clause-report : goal.returns-then-is_empty-clause-report
returns-then-is_empty-clause-report g c =
    let v = c.args.self.now in
    let no = c.none.ensures in
    none_recalculated (joined_history v.history) (shown_at v.shown) c.of.result.evaluated c.of.result.cyclic
    c.of.result.levels
    (ap (λ (r : Report). r.evaluated) c.of.ensures ∙ no.evaluated)
    (ap (λ (r : Report). r.cyclic) c.of.ensures ∙ no.cyclic)
    (ap (λ (r : Report). r.levels) c.of.ensures ∙ no.levels)

pub unreachable-requires : goal.unreachable-requires
unreachable-requires g c =
    let a = c.args.arrivals in
    let es = c.in_ok-entries.entries.items in
    let deltas : c.arrivals.inside.deltas.items ≡ a.deltas = ap (λ (w : ArrivalsView). w.deltas) c.arrivals.view_is in
    let here : 0 < length c.arrivals.inside.deltas.items =
    grind (arith, common_steps, c.is_empty.ensures, c.if-is_empty.false) in
    let some : 0 < length a.deltas = subst (λ ds. 0 < length ds) deltas here in
    subst (λ o. SomeIff o (IsDelta es) es) c.in_default.is c.in_ok-delta.ensures.made
    (cells_are_delta es (state_at a.grid) c.in_ok-entries.ensures.entries
    (c.in_ok-entries.ensures.same ∙ ap (λ (w : ArrivalsView). state_at w.grid) c.arrivals.view_is)
    (some_hold c.args.self.now.history a c.requires.follow some))

pub invariant_of-self-2 : goal.invariant_of-self-2
invariant_of-self-2 g c =
    let x = c.self.inside in
    let es = c.in_ok-entries.entries.items in
    let said = c.in_ok-work.ensures in
    all_kept x c.args.self.now c.self.view_is c.requires.none c.self.invariant c.args.arrivals c.requires.follow es
    c.in-Some.delta
    (made_delta c.in-Some.delta es (subst (λ o. SomeIff o (IsDelta es) es) c.in-Some.is c.in_ok-delta.ensures.made))
    (c.in_ok-entries.ensures.same ∙ ap (λ (w : ArrivalsView). state_at w.grid) c.arrivals.view_is)
    (record {
      replica = x.replica;
      history = c.put_after.new.history;
      cells = c.commit.new.self;
      staged = x.staged;
    })
    c.stage.new.self said.joined said.settled said.in_grid
    (c.put_after.ensures ∙ (ap (λ h. h ++ c.arrivals.inside.deltas.items) c.in_ok-make_room.ensures.same
    ∙ ap (λ (w : ArrivalsView). x.history.items ++ w.deltas) c.arrivals.view_is))
    c.commit.ensures.kept.0 c.commit.ensures.kept.1 refl refl c.commit.ensures.none

pub returns-clause-report : goal.returns-clause-report
returns-clause-report g c =
    let x = c.self.inside in
    let v = c.args.self.now in
    let es = c.in_ok-entries.entries.items in
    let said = c.in_ok-work.ensures in
    let work = c.in_ok-work.work in
    subst (λ (r : Report). IsRecalculated (joined_history v.history) (joined_history c.put_after.new.history.items)
    (shown_at v.shown) (shown_at c.commit.new.self.shown) r.evaluated r.cyclic r.levels)
    (sym c.of-2.ensures)
    (all_report x v c.self.view_is c.requires.none c.self.invariant c.args.arrivals c.requires.follow es
    c.in-Some.delta
    (made_delta c.in-Some.delta es (subst (λ o. SomeIff o (IsDelta es) es) c.in-Some.is c.in_ok-delta.ensures.made))
    (c.in_ok-entries.ensures.same ∙ ap (λ (w : ArrivalsView). state_at w.grid) c.arrivals.view_is)
    (record {
      replica = x.replica;
      history = c.put_after.new.history;
      cells = c.commit.new.self;
      staged = x.staged;
    })
    c.stage.new.self said.joined said.settled said.in_grid
    (c.put_after.ensures ∙ (ap (λ h. h ++ c.arrivals.inside.deltas.items) c.in_ok-make_room.ensures.same
    ∙ ap (λ (w : ArrivalsView). x.history.items ++ w.deltas) c.arrivals.view_is))
    c.commit.ensures.kept.0 c.commit.ensures.kept.1 refl work.evaluated work.cyclic work.levels said.work)

pub returns-clause-sheet : goal.returns-clause-sheet
returns-clause-sheet g c =
    let x = c.self.inside in
    let es = c.in_ok-entries.entries.items in
    let said = c.in_ok-work.ensures in
    all_sheet x c.args.self.now c.self.view_is c.requires.none c.self.invariant c.args.arrivals c.requires.follow es
    c.in-Some.delta
    (made_delta c.in-Some.delta es (subst (λ o. SomeIff o (IsDelta es) es) c.in-Some.is c.in_ok-delta.ensures.made))
    (c.in_ok-entries.ensures.same ∙ ap (λ (w : ArrivalsView). state_at w.grid) c.arrivals.view_is)
    (record {
      replica = x.replica;
      history = c.put_after.new.history;
      cells = c.commit.new.self;
      staged = x.staged;
    })
    c.stage.new.self said.joined said.settled said.in_grid
    (c.put_after.ensures ∙ (ap (λ h. h ++ c.arrivals.inside.deltas.items) c.in_ok-make_room.ensures.same
    ∙ ap (λ (w : ArrivalsView). x.history.items ++ w.deltas) c.arrivals.view_is))
    c.commit.ensures.kept.0 c.commit.ensures.kept.1 refl
