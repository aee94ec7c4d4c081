use Rattle.std.proofs.Common.{map}
use Rattle.ps_delta.proofs.JoiningLemmas.{Added}
use Rattle.ps_delta.proofs.joining.joined_in_order.Given as goal

abbrev pub invariant-loop-entry : goal.invariant-loop-entry
invariant-loop-entry l = Added (map (λ e. e.now) l.entries) l.entry-index l.cells.items
