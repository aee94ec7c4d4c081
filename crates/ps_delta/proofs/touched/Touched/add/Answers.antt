use Rattle.std.proofs.Common.{◌<◌, ◌≤◌, length, arith}
use Rattle.std.proofs.lemmas.List.Elements.{recursion_from_All}
use Rattle.ps_delta.proofs.CellLists.{length-rising, rising_from_increasing}
use Rattle.ps_delta.proofs.touched.Touched.add.Goals as goal

pub push_reserved-requires : goal.push_reserved-requires
push_reserved-requires c =
    let above = recursion_from_All (λ d. d < c.args.cell) c.self.inside.cells.items
    (rw c.self.view_is c.requires.above) in
    let rising = rising_from_increasing 0 c.self.inside.cells.items c.self.invariant.ascending (λ _. omega arith) in
    let few : length c.self.inside.cells.items ≤ c.args.cell = omega
    (arith, length-rising 0 c.args.cell c.self.inside.cells.items rising above (omega arith)) in
    omega (arith, few, c.requires.in_grid, c.self.invariant.room)
