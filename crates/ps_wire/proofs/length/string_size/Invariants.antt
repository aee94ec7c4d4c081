use Rattle.std.proofs.Common.{◌≡◌, ◌+◌, ◌*◌, ◌≤◌, length, take}
use Rattle.json.specs.Print.{escape}
use Rattle.ps_wire.proofs.length.string_size.Given as goal

-- the quotes and the bytes so far
abbrev pub invariant-loop-byte : goal.invariant-loop-byte
invariant-loop-byte l = record {
  so_far : l.size ≡ 2 + length (escape (take l.byte-index l.bytes));
  few : l.size ≤ 2 + 6 * l.byte-index;
}
