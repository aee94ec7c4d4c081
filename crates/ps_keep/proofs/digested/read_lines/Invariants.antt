use Rattle.std.proofs.Common.{◌≤◌, length}
use Rattle.ps_keep.proofs.DamageLemmas.{IntactSoFar}
use Rattle.ps_keep.proofs.ReadLemmas.{ReadSoFar}
use Rattle.ps_keep.proofs.digested.read_lines.Given as goal

abbrev pub invariant-lines : goal.invariant-lines
invariant-lines l = record {
  so_far : ReadSoFar l.bytes l.rest l.clean.items l.hasher l.hashed l.number l.before.items
      l.others;
  fewer : l.others ≤ l.number;
  intact_so_far : IntactSoFar l.bytes l.rest l.number l.intact;
}

abbrev pub decreases-lines : goal.decreases-lines
decreases-lines l = length l.rest
