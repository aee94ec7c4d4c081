-- References between cells of the grid.
use Rattle.std.specs.Prelude.{◌&&◌, nat_lt}
use Rattle.ps_grid.specs.Chains.{References}
use Rattle.ps_grid.specs.declared.size.TheConstants.{CELLS}

-- the references that reach no cell outside the grid
abbrev pub bounded : References → References
bounded r c d = r c d && (nat_lt c CELLS && nat_lt d CELLS)
