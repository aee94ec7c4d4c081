-- What is new to a cell state, and to a state, part by part.
use Rattle.std.specs.Prelude.{ℕ}
use Rattle.std.proofs.Common.{ap}
use Rattle.std.proofs.Math.Path.{fun_ext}
use Rattle.ps_lattice.specs.News.{IsNewsOf}
use Rattle.ps_lattice.specs.Register.{joined_registers}
use Rattle.ps_lattice.specs.Tally.{joined_tallies}
use Rattle.ps_lattice.specs.Choice.{joined_choices}
use Rattle.ps_content.specs.Order.{content_cmp}
use Rattle.ps_delta.specs.declared.cell_state.CellState.{CellState}
use Rattle.ps_delta.specs.State.{State, joined_cell, joined_state}
use Rattle.ps_delta.specs.CellLaws.{by_parts}

-- what is new to a cell state, by what is new to each of its three parts
pub news_from_parts : (s d n : CellState)
    → IsNewsOf (joined_registers content_cmp) s.register d.register n.register
    → IsNewsOf joined_tallies s.tally d.tally n.tally
    → IsNewsOf joined_choices s.choice d.choice n.choice
    → IsNewsOf joined_cell s d n
unfolding joined_cell
news_from_parts s d n r t c = record {
  same = by_parts r.same t.same c.same;
  least = λ m h. by_parts (r.least m.register (ap (λ (x : CellState). x.register) h))
      (t.least m.tally (ap (λ (x : CellState). x.tally) h)) (c.least m.choice (ap (λ (x : CellState). x.choice) h));
}

-- what is new to a state, by what is new to each cell
pub news_from_cells : (s d n : State) → ((c : ℕ) → IsNewsOf joined_cell (s c) (d c) (n c))
    → IsNewsOf joined_state s d n
unfolding joined_state
news_from_cells s d n at = record {
  same = fun_ext (λ c. (at c).same);
  least = λ m h. fun_ext (λ c. (at c).least (m c) (ap (λ (t : State). t c) h));
}
