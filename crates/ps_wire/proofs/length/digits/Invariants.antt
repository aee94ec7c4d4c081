use Rattle.std.proofs.Common.{◌≡◌, ◌+◌, ◌≤◌}
use Rattle.ps_wire.specs.Length.{size}
use Rattle.ps_wire.specs.Value.{whole}
use Rattle.ps_wire.proofs.length.digits.Given as goal

-- `count` has the digits that were cut off `rest`, and one more
abbrev pub invariant-digits : goal.invariant-digits
invariant-digits l = record {
  counted : l.count + size (whole l.rest) ≡ 1 + size (whole l.number);
  within : l.rest ≤ l.number;
}

abbrev pub decreases-digits : goal.decreases-digits
decreases-digits l = l.rest
