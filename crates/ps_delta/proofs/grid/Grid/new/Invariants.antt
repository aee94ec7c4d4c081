use Rattle.std.proofs.Common.{◌≡◌, [], length, All}
use Rattle.ps_delta.proofs.grid.Grid.new.Given as goal

abbrev pub invariant-loop : goal.invariant-loop
invariant-loop l = (length l.blocks.items ≡ l.counter) × All (λ b. b ≡ []) l.blocks.items
