use Rattle.std.proofs.Common.{List, subst}
use mathlib.Core.List.{IsPrefix}
use Rattle.ps_face.specs.declared.patch.Note.{Note}
use Rattle.ps_face.proofs.writer.FaceWriter.front.Goals as goal

pub returns-clause-within : goal.returns-clause-within
returns-clause-within g c =
    let stands = c.self.invariant in
    rw (← c.self.view_is) (subst (λ (list : List Note). IsPrefix c.self.inside.copies.desk.shown.value.list list)
    stands.same stands.waits.later)
