use Rattle.std.proofs.Common.{◌≤◌, ap, subst, arith, length, List}
use mathlib.Core.List.{IsPrefix}
use Rattle.ps_face.specs.declared.patch.Note.{Note}
use Rattle.ps_face.proofs.Beginnings.{begins_longer}
use Rattle.ps_face.proofs.book.BookPrefix.begins.Goals as goal

pub returns : goal.returns
returns c =
    let one : List Note = c.self.inside.seen.log in
    let other : List Note = c.other.inside.seen.log in
    let both = c.learn.new.self.log in
    let this : IsPrefix one both =
    subst (λ (l : List Note). IsPrefix l both) (ap (λ s. s.log) c.again-both.ensures) c.learn.ensures.2 in
    let less : length one ≤ length other =
    omega (arith, c.self.invariant, c.other.invariant, c.if-self-other.false) in
    rw (← c.self.view_is, ← c.other.view_is) (begins_longer one other both this c.learn.ensures.3 less, less)
