use Rattle.std.proofs.Common.{length}
use Rattle.ps_shorten.proofs.ShortenLemmas.{PlainSoFar}
use Rattle.ps_shorten.proofs.in_place.plain_lines.Given as goal

abbrev pub invariant-lines : goal.invariant-lines
invariant-lines l = PlainSoFar l.bytes l.left l.plain.items

abbrev pub decreases-lines : goal.decreases-lines
decreases-lines l = length l.left
