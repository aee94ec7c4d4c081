use Rattle.std.proofs.Common.{◌≡◌, ℕ, ◌<◌, map, arith, rules, sym, ap, ◌∙◌}
use Rattle.std.specs.List.{All}
use Rattle.std.proofs.lemmas.List.Elements.{All-push}
use Rattle.serde_json.specs.View.{view}
use Rattle.ps_grid.specs.declared.size.TheConstants.{CELLS}
use Rattle.ps_delta.specs.declared.cell_state.CellState.{CellState}
use Rattle.ps_delta.specs.Deltas.{Entries}
use Rattle.ps_wire.specs.Inside.{RefusedAs}
use Rattle.ps_wire.specs.Value.{cell_value, IsState}
use Rattle.ps_wire.proofs.ArrayLemmas.{read_at, read_more, refused_so}
use Rattle.ps_wire.proofs.cells.read_cells.Goals as goal

abbrev Good : ℕ × CellState → Type 0
Good e = (e.0 < CELLS) × IsState e.1

pub returns-in_err-read_cell-clause-refused : goal.returns-in_err-read_cell-clause-refused
returns-in_err-read_cell-clause-refused c =
    let values = c.args.values.now in
    let item = c.value-item in
    let refusal = c.in_err-read_cell.field-0.0 in
    let None : Type 0 = (all : Entries) → All Good all → map view values ≡ map cell_value all → ⊥ in
    let refused : RefusedAs refusal None = refused_so refusal (λ none all good e.
    let here = read_at view cell_value Good values all c.loop-value.value-index item.result (omega arith) e good in
    none here.0 here.1 (ap view item.is ∙ here.2)) c.in_err-read_cell.ensures.refused in
    search rules

pub loop-value-preserved : goal.loop-value-preserved
loop-value-preserved c =
    let values = c.args.values.now in
    let item = c.value-item in
    let cells = c.loop-value.cells.items in
    let cell = c.in_ok-read_cell.field-0 in
    record {
      spelled =
          rw c.in_ok-push.ensures.items
          (read_more view cell_value values c.loop-value.value-index item.result cells cell (omega arith)
          c.loop-value.invariant.spelled (ap view (sym item.is) ∙ c.in_ok-read_cell.ensures.found.0));
      in_grid =
          rw c.in_ok-push.ensures.items
          (All-push (λ e. e.0 < CELLS) cells cell c.loop-value.invariant.in_grid c.in_ok-read_cell.ensures.found.1);
      states =
          rw c.in_ok-push.ensures.items
          (All-push (λ e. IsState e.1) cells cell c.loop-value.invariant.states c.in_ok-read_cell.ensures.found.2);
    }
