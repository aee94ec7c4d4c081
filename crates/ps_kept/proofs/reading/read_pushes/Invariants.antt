use Rattle.std.proofs.Common.{[], length}
use Rattle.ps_sheet.specs.Arrivals.{Follow}
use Rattle.ps_kept.specs.Inside.{ReadSoFar}
use Rattle.ps_kept.proofs.reading.read_pushes.Given as goal

-- the lines before `left` are taken in
abbrev pub invariant-lines : goal.invariant-lines
invariant-lines l = record {
  read : ReadSoFar l.bytes l.left l.number l.arrivals.deltas;
  follow : Follow [] l.arrivals;
}

abbrev pub decreases-lines : goal.decreases-lines
decreases-lines l = length l.left
