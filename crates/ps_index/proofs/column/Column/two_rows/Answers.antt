use Rattle.std.proofs.Common.{arith}
use Rattle.std.proofs.lemmas.Nat.{pow_pos}
use Rattle.ps_index.proofs.column.Column.two_rows.Goals as goal

pub new-requires-clause-column : goal.new-requires-clause-column
new-requires-clause-column c =
    (c.self.inside.lowest, c.self.inside.above, c.self.invariant.0, c.self.invariant.2, omega arith, c.node-key.ensures)

pub new-requires-clause-key_some : goal.new-requires-clause-key_some
new-requires-clause-key_some c = omega (arith, pow_pos c.self.inside.lowest, c.node-key.ensures)
