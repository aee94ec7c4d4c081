use Rattle.std.proofs.Common.{rules, ◌≡◌, sym, ap, ◌∙◌, subst}
use Rattle.ps_index.specs.Stands.{Stands}
use Rattle.ps_delta.specs.State.{State, IsInGrid, state_at}
use Rattle.ps_shown.specs.Shown.{shown_at}
use Rattle.ps_cells.specs.Settled.{IsSettled}
use Rattle.ps_cells.specs.Inside.Formulas.{forms_of}
use Rattle.ps_cells.specs.Inside.Kept.{IsTidy, IsWhole}
use Rattle.std.proofs.lemmas.List.{with_items_is}
use Rattle.ps_delta.specs.Deltas.{Entries, state_of}
use Rattle.std.specs.Vec.{with_items}
use Rattle.ps_delta.specs.Changes.{HasRoomFor, entries_from}
use Rattle.ps_cells.proofs.ScreenLemmas.{still_before}
use Rattle.ps_cells.proofs.PendingChanges.{pending_of, tidy_with}
use Rattle.ps_cells.specs.Inside.Alone.{firsts_by}
use Rattle.ps_cells.specs.Inside.Screens.{cells_in}
use Rattle.ps_region.specs.Listed.{listed}
use Rattle.ps_cells.proofs.TakenIn.{after_in_grid, first_alone, first_cells, given_of, may_recalculate, recalculated}
use Rattle.ps_cells.proofs.tables.Tables.join.Goals as goal

pub returns-in_err-how-clause-whole : goal.returns-in_err-how-clause-whole
returns-in_err-how-clause-whole g c =
    let w = c.requires.whole in
    let same = sym c.begin.ensures.same in
    let whole : IsWhole (record c.args.self.now { grid = c.begin.new.grid; index = c.begin.new.index }) = record {
      in_grid = subst IsInGrid same w.in_grid;
      settled = subst (λ (s : State). IsSettled s (shown_at c.args.self.now.shown.kept)) same w.settled;
      stands = subst (λ (s : State). Stands c.begin.new.index (forms_of s)) same
          (c.in_err-how.ensures.undone (forms_of (state_at c.args.self.now.grid)) w.stands);
      tidy = subst
          (λ (s : State). IsTidy s (record c.args.self.now { grid = c.begin.new.grid; index = c.begin.new.index }))
          same
          (tidy_with (state_at c.args.self.now.grid) c.args.self.now c.begin.new.grid c.begin.new.index
          c.args.self.now.shown w.tidy);
      still = w.still;
    } in
    search rules

pub recalculate-requires-clause-may : goal.recalculate-requires-clause-may
recalculate-requires-clause-may g c κs within =
    let w = c.requires.whole in
    may_recalculate (state_at c.args.self.now.grid) (state_of c.args.delta.now) c.begin.new.lists.states.items
    (record c.args.self.now { grid = c.exchange.new.self; index = c.begin.new.index })
    (cells_in (firsts_by c.in_ok-how.how c.begin.new.lists.first.items))
    (firsts_by c.in_ok-how.how c.begin.new.lists.first.items) w.in_grid w.settled
    (tidy_with (state_at c.args.self.now.grid) c.args.self.now c.exchange.new.self c.begin.new.index
    c.args.self.now.shown w.tidy)
    (c.in_ok-how.ensures.put (forms_of (state_at c.args.self.now.grid)) w.stands)
    c.in_ok-how.ensures.changes
    (given_of (state_at c.args.self.now.grid) (state_at c.begin.new.grid) (state_at c.exchange.new.self)
    c.begin.new.lists.states.items c.deref_mut.result.now c.exchange.ensures.given c.begin.ensures.same
    c.deref_mut.ensures.value)
    (first_cells
    (firsts_by c.in_ok-how.how c.begin.new.lists.first.items) c.begin.new.lists.states.items c.in_ok-how.ensures.first)
    c.in_ok-how.ensures.first

pub recalculate-requires-clause-touched : goal.recalculate-requires-clause-touched
recalculate-requires-clause-touched g c κs within = λ apart.
    c.deref.ensures.value
    ∙ (c.in_ok-how.ensures.touched apart
    ∙ sym (first_cells
    (firsts_by c.in_ok-how.how c.begin.new.lists.first.items) c.begin.new.lists.states.items c.in_ok-how.ensures.first))

pub recalculate-requires-clause-alone : goal.recalculate-requires-clause-alone
recalculate-requires-clause-alone g c κs within = λ are. (
  (c.in_ok-how.ensures.alone are).0,
  first_alone (state_at c.args.self.now.grid) (state_at c.exchange.new.self) (listed c.begin.new.index)
      c.begin.new.lists.states.items (firsts_by c.in_ok-how.how c.begin.new.lists.first.items)
      c.in_ok-how.ensures.changes.ascending
      (given_of (state_at c.args.self.now.grid) (state_at c.begin.new.grid) (state_at c.exchange.new.self)
      c.begin.new.lists.states.items c.deref_mut.result.now c.exchange.ensures.given c.begin.ensures.same
      c.deref_mut.ensures.value)
      c.in_ok-how.ensures.first (c.in_ok-how.ensures.alone are).1,
)

pub returns-clause-pending : goal.returns-clause-pending
returns-clause-pending g c =
    let s = state_at c.args.self.now.grid in
    let w = c.requires.whole in
    let es = c.begin.new.lists.states.items in
    let given = given_of s (state_at c.begin.new.grid) (state_at c.exchange.new.self) es c.deref_mut.result.now
    c.exchange.ensures.given c.begin.ensures.same c.deref_mut.ensures.value in
    let cells = with_items_is c.begin.new.lists.states c.exchange.new.cells
    (c.exchange.auto.cells ∙ c.deref_mut.ensures.len) in
    let taken : c.exchange.new.cells ≡ entries_from s es =
    c.exchange.ensures.taken
    ∙ (ap (λ (q : State). entries_from q c.deref_mut.result.now) c.begin.ensures.same
    ∙ ap (entries_from s) c.deref_mut.ensures.value) in
    pending_of s (state_of c.args.delta.now) (shown_at c.args.self.now.shown.kept) es
    (with_items c.begin.new.lists.states c.exchange.new.cells).items
    (record c.args.self.now { grid = c.exchange.new.self; index = c.begin.new.index })
    c.recalculate.new.self (cells_in (firsts_by c.in_ok-how.how c.begin.new.lists.first.items))
    c.recalculate.result.evaluated
    c.recalculate.result.cyclic c.recalculate.result.levels w.in_grid w.settled
    (c.recalculate.ensures.before ∙ still_before c.args.self.now.shown w.still)
    c.in_ok-how.ensures.changes
    given (cells ∙ taken)
    (subst (λ (xs : Entries). HasRoomFor c.exchange.new.self xs) (sym cells) c.exchange.ensures.ready)
    (c.in_ok-how.ensures.put (forms_of s) w.stands)
    (after_in_grid s (state_of c.args.delta.now) (shown_at c.args.self.now.shown.kept) es w.in_grid w.settled
    c.in_ok-how.ensures.changes)
    c.recalculate.ensures.done

pub returns-clause-before : goal.returns-clause-before
returns-clause-before g c =
    c.recalculate.ensures.before ∙ still_before c.args.self.now.shown c.requires.whole.still

pub returns-clause-work : goal.returns-clause-work
returns-clause-work g c =
    recalculated (state_at c.args.self.now.grid) (state_of c.args.delta.now) c.begin.new.lists.states.items
    (record c.args.self.now { grid = c.exchange.new.self; index = c.begin.new.index })
    c.recalculate.new.self (cells_in (firsts_by c.in_ok-how.how c.begin.new.lists.first.items))
    c.recalculate.result.evaluated
    c.recalculate.result.cyclic
    c.recalculate.result.levels c.in_ok-how.ensures.changes
    (given_of (state_at c.args.self.now.grid) (state_at c.begin.new.grid) (state_at c.exchange.new.self)
    c.begin.new.lists.states.items c.deref_mut.result.now c.exchange.ensures.given c.begin.ensures.same
    c.deref_mut.ensures.value)
    (first_cells
    (firsts_by c.in_ok-how.how c.begin.new.lists.first.items) c.begin.new.lists.states.items c.in_ok-how.ensures.first)
    c.recalculate.ensures.done
