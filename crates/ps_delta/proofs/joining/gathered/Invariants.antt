use Rattle.std.proofs.Common.{map}
use Rattle.ps_delta.proofs.JoiningLemmas.{Gathered}
use Rattle.ps_delta.proofs.joining.gathered.Given as goal

abbrev pub invariant-loop-delta : goal.invariant-loop-delta
invariant-loop-delta l = Gathered l.deltas l.delta-index (map (λ e. e.now) l.entries.items)
