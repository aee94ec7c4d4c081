use Rattle.std.proofs.Common.{take}
use Rattle.ps_delta.specs.State.{state_at}
use Rattle.ps_delta.proofs.NewsLemmas.{Found}
use Rattle.ps_delta.proofs.grid.Grid.news_of.Given as goal

abbrev pub invariant-loop-part : goal.invariant-loop-part
invariant-loop-part l = Found (state_at l.self) (take l.part-index l.parts) l.cells.items
