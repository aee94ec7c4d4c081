use Rattle.std.proofs.Common.{drop, map, take}
use Rattle.std.specs.List.{All}
use Rattle.serde.specs.Event.{Log}
use Rattle.serde_json.specs.Events.{SendsItems}
use Rattle.serde_json.specs.View.{items_of}
use Rattle.ps_wire.proofs.write.send_array.Given as goal

-- whatever ends the array well from here ends it well from its beginning, and what holds of items holds of those so far
abbrev pub invariant-loop-item : goal.invariant-loop-item
invariant-loop-item g l = record {
  ended :
      (end : Log)
      → SendsItems (items_of (map g.I.Item.spelled (drop l.item-index l.items))) (g.S.Serializer.written l.out) end
      → SendsItems (items_of (map g.I.Item.spelled l.items)) (g.S.Serializer.written l.initial.out) end;
  hold : All g.I.Item.holds (take l.item-index l.items);
}
