use Rattle.std.proofs.Common.{◌≡◌, take}
use Rattle.ps_delta.specs.State.{state_at}
use Rattle.ps_delta.specs.Changes.{HasRoomFor}
use Rattle.ps_delta.specs.Deltas.{state_of}
use Rattle.ps_delta.proofs.ChangeLemmas.{Listed}
use Rattle.ps_delta.proofs.grid.Grid.changes_by.Given as goal

abbrev pub invariant-loop-part : goal.invariant-loop-part
invariant-loop-part l = record {
  same : state_at l.self ≡ state_at l.initial.self;
  listed : Listed (state_at l.initial.self) (state_of (take l.part-index l.parts)) l.list.items;
  room : HasRoomFor l.self l.list.items;
}
