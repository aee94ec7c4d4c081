use Rattle.std.proofs.Common.{◌≡◌, vec_len, All}
use Rattle.ps_face.specs.Rules.{newcomer}
use Rattle.ps_face.proofs.writer.make_readers.Given as goal

abbrev pub invariant-loop-i : goal.invariant-loop-i
invariant-loop-i g l = (vec_len l.made ≡ l._i) × All (λ v. v ≡ newcomer) l.made.items
