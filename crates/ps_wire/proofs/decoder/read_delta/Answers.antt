use Rattle.std.proofs.Common.{rules}
use Rattle.ps_wire.proofs.LineLemmas.{no_array, no_cells, no_delta}
use Rattle.ps_wire.proofs.ArrayLemmas.{refused_so}
use Rattle.ps_wire.proofs.decoder.read_delta.Goals as goal

pub returns-in_err-items-clause-refused : goal.returns-in_err-items-clause-refused
returns-in_err-items-clause-refused c =
    let none = no_array _ c.in_err-items.ensures.refused.1 in
    search (rules, none)

pub returns-in_err-cells-clause-refused : goal.returns-in_err-cells-clause-refused
returns-in_err-cells-clause-refused c =
    let none = refused_so c.in_err-cells.field-0.0
    (no_cells _ _ c.in_ok-items.ensures.found)
    c.in_err-cells.ensures.refused in
    search (rules, none)

pub returns-clause-refused : goal.returns-clause-refused
returns-clause-refused c =
    let none = no_delta _ _ c.in_ok-items.ensures.found
    c.in_ok-cells.cells.items c.in_ok-cells.ensures.found c.in_ok-cells.ensures.in_grid
    c.in_ok-cells.ensures.states in
    search (rules, none)
