use Rattle.std.proofs.Common.{ap, ◌∙◌, arith}
use Rattle.ps_delta.specs.State.{joined_state, state_at}
use Rattle.ps_delta.specs.Deltas.{cells_of, state_of}
use Rattle.ps_delta.proofs.CellLists.{rising_from_increasing}
use Rattle.ps_squash.specs.Selected.{delta_without}
use Rattle.ps_squash.proofs.SelectLemmas.{first_cell, no_cells, rest_rises}
use Rattle.ps_squash.proofs.taken.join_without.Goals as goal

pub cells-init : goal.cells-init
cells-init c = record {
  joined = ap (λ es. joined_state (state_at c.args.state.now) (state_of (delta_without c.args.replica es)))
      c.parts-left.ensures.value;
  rising = (
    0,
    rising_from_increasing 0 (cells_of c.parts-left.result.now) c.parts-left.ensures.delta.ascending (λ _. omega arith),
  );
}

pub cells-preserved : goal.cells-preserved
cells-preserved c = record {
  joined = first_cell c.args.replica (state_at c.cells.state) (state_at c.join_cell.new.state) c.cells.left.now
      c.in-Some.entry.now c.in-Some.rest.now c.in-Some.ensures.cases.0 c.cells.invariant.rising
      c.in_ok-join_cell.ensures.joined ∙ c.cells.invariant.joined;
  rising = rest_rises c.cells.left.now c.in-Some.entry.now c.in-Some.rest.now c.in-Some.ensures.cases.0
      c.cells.invariant.rising;
}

pub returns-clause-joined : goal.returns-clause-joined
returns-clause-joined c =
    no_cells c.args.replica (state_at c.cells.state) c.cells.left.now c.in_default.ensures.cases _
    c.cells.invariant.joined
