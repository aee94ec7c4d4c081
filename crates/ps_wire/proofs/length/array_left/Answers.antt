use Rattle.std.proofs.Common.{arith, rules}
use Rattle.std.proofs.lemmas.Bool.Decides.{nat_tests}
use Rattle.ps_wire.proofs.SizeLemmas.{taken_all, taken_over}
use Rattle.ps_wire.proofs.length.array_left.Goals as goal

pub returns-in_err-left_after : goal.returns-in_err-left_after
returns-in_err-left_after g c =
    let over = taken_over g.P.Part.spelled c.args.parts.now c.loop-part.part-index c.part-item.result c.loop-part.left
    c.args.room (omega arith) c.part-item.is c.loop-part.invariant
    (λ fits. c.in_err-left_after.ensures (omega (arith, fits))) in
    search (rules, over)

pub returns-in_err-left-2 : goal.returns-in_err-left-2
returns-in_err-left-2 g c =
    let after = c.in_ok-left_after.ensures in
    let over = taken_over g.P.Part.spelled c.args.parts.now c.loop-part.part-index c.part-item.result c.loop-part.left
    c.args.room (omega arith) c.part-item.is c.loop-part.invariant
    (λ fits. c.in_err-left-2.ensures (omega (arith, fits, after.0, after.1))) in
    search (rules, over)

pub returns : goal.returns
returns g c =
    taken_all g.P.Part.spelled c.args.parts.now c.loop-part.part-index c.loop-part.left c.args.room
    (grind (arith, nat_tests, c.is_empty.ensures, c.if-is_empty.false)) (omega arith) c.loop-part.invariant
