use Rattle.std.proofs.Common.{◌+◌, ◌≡◌, ◌≤◌, length}
use Rattle.ps_keep.specs.Lines.{whole_lines}
use Rattle.ps_shorten.proofs.in_place.count_changes.Given as goal

abbrev pub invariant-lines : goal.invariant-lines
invariant-lines l = record {
  counted : l.count + length (whole_lines l.left) ≡ length (whole_lines l.bytes);
  within : l.count + length l.left ≤ length l.bytes;
}

abbrev pub decreases-lines : goal.decreases-lines
decreases-lines l = length l.left
