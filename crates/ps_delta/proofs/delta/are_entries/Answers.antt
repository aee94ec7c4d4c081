use Rattle.std.proofs.Common.{◌≢◌, ◌∙◌, ◌<◌, sym, ap, refl, true≢false, arith, subst}
use Rattle.std.proofs.lemmas.List.{take_all}
use Rattle.std.proofs.lemmas.List.Elements.{All-nil, All-push}
use Rattle.std.specs.List.{All}
use Rattle.ps_grid.specs.declared.size.TheConstants.{CELLS}
use Rattle.ps_delta.specs.State.{empty_cell}
use Rattle.ps_delta.specs.Deltas.{AreInGrid, cells_of}
use Rattle.ps_delta.proofs.CellLists.{rising_from_sorted, sorted_from_rising, rising_from_increasing}
use Rattle.ps_delta.proofs.CellLists.{increasing_from_rising}
use Rattle.ps_delta.proofs.WalkLemmas.{more_entries}
use Rattle.ps_delta.proofs.delta.are_entries.Goals as goal

pub returns-then-not-is_ascending-clause-entries : goal.returns-then-not-is_ascending-clause-entries
returns-then-not-is_ascending-clause-entries c = (
  λ t. cc,
  λ entries. absurd (true≢false (sym (sorted_from_rising 0 c.args.cells.now
      (rising_from_increasing 0 (cells_of c.args.cells.now) entries.ascending (λ _. omega arith)))
      ∙ sym c.is_ascending.ensures ∙ c.if-not-is_ascending.true)),
)

pub loop-entry-init : goal.loop-entry-init
loop-entry-init c =
    record { none_empty = All-nil (λ e. e.1 ≢ empty_cell); in_grid = All-nil (λ e. e.0 < CELLS) }

pub returns-then-is_empty-clause-entries : goal.returns-then-is_empty-clause-entries
returns-then-is_empty-clause-entries c = (
  λ t. cc,
  λ entries. absurd (entries.none_empty c.loop-entry.entry-index c.entry-item.result c.loop-entry-test.true
      (ap (λ e. e.1) (sym c.entry-item.is) ∙ c.is_empty.ensures.0 c.if-is_empty.true)),
)

pub loop-entry-preserved : goal.loop-entry-preserved
loop-entry-preserved c =
    let more = more_entries c.args.cells.now c.loop-entry.entry-index c.entry-item.result c.loop-entry-test.true
    c.entry-item.is in
    let within : c.entry-item.result.0 < CELLS = omega (arith, c.index.ensures.index, c.index.ensures.in_grid) in
    record {
      none_empty = subst (All (λ e. e.1 ≢ empty_cell)) more
          (All-push (λ e. e.1 ≢ empty_cell) _ c.entry-item.result c.loop-entry.invariant.none_empty
          (λ h. true≢false (sym (c.is_empty.ensures.1 h) ∙ c.if-is_empty.false)));
      in_grid = subst AreInGrid more
          (All-push (λ e. e.0 < CELLS) _ c.entry-item.result c.loop-entry.invariant.in_grid within);
    }

pub returns-clause-entries : goal.returns-clause-entries
returns-clause-entries c =
    let all = take_all c.loop-entry.entry-index c.args.cells.now c.loop-entry-test.false in (
      λ t. record {
        ascending = increasing_from_rising 0 (cells_of c.args.cells.now) (rising_from_sorted c.args.cells.now
            (sym c.is_ascending.ensures ∙ c.if-not-is_ascending.false));
        none_empty = subst (All (λ e. e.1 ≢ empty_cell)) all c.loop-entry.invariant.none_empty;
      },
      λ e. refl,
    )

pub returns-clause-in_grid : goal.returns-clause-in_grid
returns-clause-in_grid c =
    subst AreInGrid (take_all c.loop-entry.entry-index c.args.cells.now c.loop-entry-test.false)
    c.loop-entry.invariant.in_grid
