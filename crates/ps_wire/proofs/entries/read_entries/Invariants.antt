use Rattle.std.proofs.Common.{◌≡◌, map, take}
use Rattle.serde_json.specs.View.{view}
use Rattle.ps_wire.proofs.entries.read_entries.Given as goal

-- what was read stands for the values so far
abbrev pub invariant-loop-item : goal.invariant-loop-item
invariant-loop-item g l = map view (take l.item-index l.values) ≡ map g.E.Entry.spelled l.entries.items
