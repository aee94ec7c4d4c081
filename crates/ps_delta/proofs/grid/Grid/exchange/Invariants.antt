use Rattle.std.proofs.Common.{◌≡◌, take}
use Rattle.ps_delta.specs.State.{state_at}
use Rattle.ps_delta.specs.Deltas.{overlaid}
use Rattle.ps_delta.specs.Changes.{HasRoomFor}
use Rattle.ps_delta.proofs.ChangeLemmas.{swapped}
use Rattle.ps_delta.proofs.grid.Grid.exchange.Given as goal

abbrev pub invariant-loop-i : goal.invariant-loop-i
invariant-loop-i l = record {
  given : state_at l.self ≡ overlaid (state_at l.initial.self) (take l.i l.initial.cells);
  listed : l.cells ≡ swapped (state_at l.initial.self) l.i l.initial.cells;
  room : HasRoomFor l.self l.initial.cells;
}
