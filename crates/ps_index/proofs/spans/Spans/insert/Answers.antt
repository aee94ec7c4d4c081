use Rattle.std.proofs.Common.{◌∙◌, ap, arith, length}
use Rattle.ps_index.proofs.PartedLists.{length-parted}
use Rattle.ps_index.proofs.spans.Spans.insert.Goals as goal

pub put_at-requires-clause-index : goal.put_at-requires-clause-index
put_at-requires-clause-index c = omega (
  arith,
  length-parted c.room_for.new.places.items c.in_ok-room.room.front c.in_ok-room.room.free c.in_ok-room.ensures.within,
  ap length (c.in_ok-room.ensures.same ∙ c.self.view_is),
  c.requires,
)

pub overflow_add-self : goal.overflow_add-self
overflow_add-self c = omega (
  arith,
  length-parted c.room_for.new.places.items c.in_ok-room.room.front c.in_ok-room.room.free c.in_ok-room.ensures.within,
  ap length (c.in_ok-room.ensures.same ∙ c.self.view_is),
  c.requires,
  c.in_ok-room.ensures.some,
  c.room_for.new.places.ok,
  c.room_for.new.places.small,
)

pub invariant_of-self-2 : goal.invariant_of-self-2
invariant_of-self-2 c = omega (
  arith,
  length-parted c.room_for.new.places.items c.in_ok-room.room.front c.in_ok-room.room.free c.in_ok-room.ensures.within,
  ap length (c.in_ok-room.ensures.same ∙ c.self.view_is),
  c.requires,
  c.in_ok-room.ensures.some,
  c.put_at.ensures.length,
)
